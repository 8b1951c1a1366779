-- The descriptor that a service's bytes stand for, as it is read.
use Rattle.std.proofs.Common.{ℕ, ◌≡◌, ◌∙◌, List, [], ◌∷◌, None, Some, Result, Ok, Err, length, ap, arith, sym}
use Rattle.std.specs.Prelude.{IfOk, IsOk, is_ok}
use Rattle.std.specs.Result.{result_ok}
use Rattle.scm_text.specs.declared.OutOfMemory.{OutOfMemory as NoMemory}
use Rattle.sec_desc.specs.declared.value.DescFault.{DescFault}
use Rattle.sec_desc.specs.declared.value.DescFault.TheVariants.{Bad, OutOfMemory}
use Rattle.sec_desc.specs.declared.value.Descriptor.{Descriptor}
use Rattle.sec_desc.specs.Reading.{ReadsAs, described}
use Rattle.sec_desc.specs.Writing.{IsWritten, descriptor_bytes}
use Rattle.sec_desc.proofs.Bytes.{IsBytes}
use Rattle.sec_desc.proofs.Lists.{ok_is}
use Rattle.scm_rules.specs.Security.{base, default_descriptor, descriptor_in}
use Rattle.scm_rules.proofs.Secured.{base_none, base_read, default_read, given_is}

-- what a reader of bytes returned
abbrev Reads : List ℕ → Result Descriptor DescFault → Type 0
Reads bytes result = ReadsAs (λ (d : Descriptor). d) result (described bytes)

-- bytes that are a descriptor aren't bad
pub never_bad : (bytes : List ℕ) (result : Result Descriptor DescFault) (fault : DescFault) (place : ℕ) → IsOk (described bytes)
    → result ≡ Err fault → fault ≡ Bad place → Reads bytes result → ⊥
never_bad bytes (Ok d) fault place ok is of read = absurd cc
never_bad bytes (Err (Bad other)) fault place ok is of read = bad (described bytes) other ok read
  where
    bad : (told : Result Descriptor ℕ) (at : ℕ) → IsOk told → told ≡ Err at → ⊥
    bad (Ok d) at fine e = absurd cc
    bad (Err one) at fine e = absurd cc
never_bad bytes (Err OutOfMemory) fault place ok is of read = absurd cc

-- the descriptor that was read is the one that the bytes are
pub given_read : (bytes : List ℕ) (result : Result Descriptor DescFault) (d : Descriptor) → IsBytes bytes → result ≡ Ok d
    → Reads bytes result → Some d ≡ descriptor_in bytes
given_read bytes (Ok other) d fits is read =
    let same : other ≡ d = cc in
    sym (given_is bytes fits ∙ ap result_ok read ∙ ap Some same)
given_read bytes (Err fault) d fits is read = absurd cc

-- bad bytes are none
pub none_given : (bytes : List ℕ) (result : Result Descriptor DescFault) (fault : DescFault) (place : ℕ) → IsBytes bytes
    → result ≡ Err fault → fault ≡ Bad place → Reads bytes result → None ≡ descriptor_in bytes
none_given bytes (Ok d) fault place fits is of read = absurd cc
none_given bytes (Err (Bad other)) fault place fits is of read = sym (given_is bytes fits ∙ ap result_ok read)
none_given bytes (Err OutOfMemory) fault place fits is of read = absurd cc

pub default_is_read : (bytes : List ℕ) → bytes ≡ descriptor_bytes default_descriptor 7 → IsOk (described bytes)
default_is_read bytes is = ap is_ok (ap described is ∙ default_read)

pub kept_is_read : (security : List ℕ) → IsWritten security → (length security ≡ 0 → ⊥) → IsOk (described security)
kept_is_read security written some = ap is_ok (base_read security written some)

-- without bytes it is the default
pub base_empty : (security bytes : List ℕ) (result : Result Descriptor NoMemory) → length security ≡ 0
    → bytes ≡ descriptor_bytes default_descriptor 7 → IfOk result (λ d. described bytes ≡ Ok d) → IfOk result (λ d. d ≡ base security)
base_empty [] bytes (Ok d) none is read = ok_is d default_descriptor (sym read ∙ ap described is ∙ default_read) ∙ sym base_none
base_empty (byte ∷ security) bytes (Ok d) none is read = absurd (omega (arith, none))
base_empty security bytes (Err fault) none is read = tt

-- and otherwise what the bytes describe
pub base_kept : (security : List ℕ) (result : Result Descriptor NoMemory) → IsWritten security → (length security ≡ 0 → ⊥)
    → IfOk result (λ d. described security ≡ Ok d) → IfOk result (λ d. d ≡ base security)
base_kept security (Ok d) written some read = ok_is d (base security) (sym read ∙ base_read security written some)
base_kept security (Err fault) written some read = tt
