-- `audit`: whether the text of the input is a legal history.
use Rattle.std.specs.Prelude.{ℕ, ◌≡◌, ◌^◌, ◌⊎◌, List, codes, length, IfSome}
use Rattle.std.specs.Io.KnownBytes.{Appends}
use Rattle.outside.specs.Causes.{Rose}
use Rattle.outside.specs.Written.{AppendsFront, Begins}
use Rattle.scm_summary.specs.Lines.{numbered}
use Rattle.trail_audit.specs.Audited.{IsAuditCaused, IsAudited, IsBegun, IsHistory, IsWrongAt}
use Rattle.trail_audit.specs.declared.audited.Audited.{Audited}
use Rattle.trail_audit.specs.declared.audited.Audited.TheVariants as audited
use Rattle.scmd_top.specs.Sides.{IsUntouched, Side, Sides}

-- ## What is printed

-- the whole text, with the status that is due; or a front of it where the output failed; or nothing for lack of memory
abbrev pub IsPrinted : (text : List ℕ) → (due : ℕ) → (output : Side) → (status : ℕ) → Type 0
IsPrinted text due output status =
    ((status ≡ due) × Appends output.told output.told_now text × (output.faults_now ≡ output.faults))
    ⊎ ((status ≡ 2) × AppendsFront output.told output.told_now text × Rose output.faults output.faults_now)
    ⊎ ((status ≡ 8) × IsUntouched output)

-- how many entries a legal history has, or which line of the text is the first wrong one; at another end nothing
abbrev pub HasVerdict : Audited → (output : Side) → (status : ℕ) → Type 0
HasVerdict (audited.Legal entries) output status = IsPrinted (numbered (codes "legal ") entries) 0 output status
HasVerdict (audited.NotLegal line) output status = IsPrinted (numbered (codes "line ") line) 14 output status
HasVerdict audited.ReadFault output status = (status ≡ 1) × IsUntouched output
HasVerdict audited.Truncated output status = (status ≡ 6) × IsUntouched output
HasVerdict audited.OutOfMemory output status = (status ≡ 8) × IsUntouched output
HasVerdict audited.Worn output status = (status ≡ 12) × IsUntouched output

-- what was read, what it is, and what was printed of it
pub record HasAudited (s : Sides) (status : ℕ) : Type 0 where
  pub how : Audited
  pub judged : IsAudited s.input.told s.input.told_now how
  pub cause : IsAuditCaused how s.input.faults s.input.faults_now
  pub verdict : HasVerdict how s.output status

-- ## Completeness

-- The status that a text has, unless memory runs out: 0 for a legal history, 14 where one of its lines is wrong, and 6 where it ends before
-- that. Where as many bytes come as are read at most, and no line of them is wrong, it is 12.
abbrev pub EndsAsText : List ℕ → (status : ℕ) → Type 0
EndsAsText bytes status =
    ((status ≡ 0) × (entries : ℕ) × IsHistory entries bytes)
    ⊎ ((status ≡ 14) × (line : ℕ) × (front : List ℕ) × Begins front bytes × IsWrongAt line front)
    ⊎ ((status ≡ 6) × IsBegun bytes × ((entries : ℕ) → IsHistory entries bytes → ⊥))
    ⊎ ((status ≡ 12) × (front : List ℕ) × Begins front bytes × (length front ≡ 2 ^ 40) × IsBegun front)
    ⊎ (status ≡ 8)

-- if the input is known and neither its count nor the output's rose, the status is that of the text
abbrev pub HasAllAudited : Sides → (status : ℕ) → Type 0
HasAllAudited s status =
    IfSome s.input.told (λ bytes. (Rose s.input.faults s.input.faults_now → ⊥) → (Rose s.output.faults s.output.faults_now → ⊥)
    → EndsAsText bytes status)
