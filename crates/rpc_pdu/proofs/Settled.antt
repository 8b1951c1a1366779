-- More bytes change neither a whole PDU nor a bad one.
use Rattle.std.proofs.Common.{◌≡◌, ℕ, ◌≤◌, Bool, true, false, cond, List, ◌++◌, length, take, Result, Ok, Err, refl, ap, ◌∙◌, arith}
use Rattle.std.proofs.Common.{length-append, nat_lt}
use Rattle.std.proofs.lemmas.Bool.{ltb-false, le-ltb}
use Rattle.std.proofs.lemmas.List.{take-append-le}
use Rattle.rpc_pdu.specs.declared.reading.Header.{Header}
use Rattle.rpc_pdu.specs.declared.pdu.End.{End}
use Rattle.rpc_pdu.specs.declared.pdu.PduType.{PduType}
use Rattle.rpc_pdu.specs.declared.pdu.PduKind.{PduKind}
use Rattle.rpc_pdu.specs.declared.pdu.PduRead.{PduRead}
use Rattle.rpc_pdu.specs.declared.pdu.PduRead.TheVariants.{Short}
use Rattle.rpc_pdu.specs.Header.{header_at, header_fault}
use Rattle.rpc_pdu.specs.Pdu.{pdu_at, header_of, after_header, whole_at, IsSettled}

-- what waits for n bytes, and has them
module _ (n : ℕ) (bytes more : List ℕ) (x y : PduRead (List ℕ)) (same : n ≤ length bytes → y ≡ x) where
  by_test : (b : Bool) → nat_lt (length bytes) n ≡ b → IsSettled (cond b (Short n) x)
      → cond (nat_lt (length (bytes ++ more)) n) (Short n) y ≡ cond b (Short n) x
  by_test true e s = absurd s
  by_test false e s =
      let h = ltb-false (length bytes) n e in
      let far : n ≤ length (bytes ++ more) = omega (arith, length-append bytes more) in
      ap (λ b. cond b (Short n) y) (le-ltb (length (bytes ++ more)) n far) ∙ same h

settled_after : (h : Header) (bytes more : List ℕ) (fault : Result PduType PduKind) → IsSettled (after_header h bytes fault)
    → after_header h (bytes ++ more) fault ≡ after_header h bytes fault
settled_after h bytes more (Err why) s = refl
settled_after h bytes more (Ok type) s =
    by_test h.length bytes more (whole_at type h (take h.length bytes)) (whole_at type h (take h.length (bytes ++ more)))
    (λ e. ap (whole_at type h) (take-append-le h.length bytes more e)) (nat_lt (length bytes) h.length) refl s

abbrev at_front : End → Header → List ℕ → PduRead (List ℕ)
at_front end h bytes = after_header h bytes (header_fault end h)

same_header : (bytes more : List ℕ) → 16 ≤ length bytes → header_of (bytes ++ more) ≡ header_of bytes
unfolding header_of
same_header bytes more h = ap header_at (take-append-le 16 bytes more h)

open_if : (b : Bool) (x : PduRead (List ℕ)) → IsSettled (cond b (Short 16) x) → IsSettled x
open_if true x s = absurd s
open_if false x s = s

pub settled : (end : End) (bytes more : List ℕ) → IsSettled (pdu_at end bytes) → pdu_at end (bytes ++ more) ≡ pdu_at end bytes
unfolding pdu_at
settled end bytes more s =
    by_test 16 bytes more (at_front end (header_of bytes) bytes) (at_front end (header_of (bytes ++ more)) (bytes ++ more))
    (λ e. ap (λ h. at_front end h (bytes ++ more)) (same_header bytes more e)
    ∙ settled_after (header_of bytes) bytes more (header_fault end (header_of bytes))
    (open_if (nat_lt (length bytes) 16) (at_front end (header_of bytes) bytes) s))
    (nat_lt (length bytes) 16) refl s
