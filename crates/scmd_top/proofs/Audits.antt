-- An audit without faults ends with the status of its text, or for want of memory.
use Rattle.std.proofs.Common.{ℕ, ◌≡◌, ◌⊎◌, List, Option, None, Some, inl, inr, sym, subst, ⊎_elim}
use Rattle.std.specs.Prelude.{IfSome, codes}
use Rattle.outside.specs.Causes.{Rose}
use Rattle.scm_summary.specs.Lines.{numbered}
use Rattle.trail_audit.specs.Audited.{IsAuditCaused, IsAudited, IsBegun, IsHistory}
use Rattle.trail_audit.specs.declared.audited.Audited.{Audited}
use Rattle.trail_audit.specs.declared.audited.Audited.TheVariants as audited
use Rattle.scmd_top.specs.Auditing.{EndsAsText, HasVerdict, IsPrinted}
use Rattle.scmd_top.specs.Sides.{Side}
use Rattle.conn_worker.proofs.Complete.{all_of, rest_of}

-- where the output didn't fail, the status is the due one, unless memory ran out
printed_so : (text : List ℕ) (due : ℕ) (output : Side) (status : ℕ) → IsPrinted text due output status
    → (Rose output.faults output.faults_now → ⊥) → (status ≡ due) ⊎ (status ≡ 8)
printed_so text due output status (inl p) no_write = inl p.0
printed_so text due output status (inr (inl p)) no_write = absurd (no_write p.2)
printed_so text due output status (inr (inr p)) no_write = inr p.0

lacks : (bytes : List ℕ) (status : ℕ) → status ≡ 8 → EndsAsText bytes status
lacks bytes status is = inr (inr (inr (inr is)))

found : (how : Audited) (bytes : List ℕ) (left_now : Option (List ℕ)) (source source_now : ℕ) (output : Side) (status : ℕ)
    → IsAudited (Some bytes) left_now how → IsAuditCaused how source source_now → HasVerdict how output status
    → (Rose source source_now → ⊥) → (Rose output.faults output.faults_now → ⊥) → EndsAsText bytes status
found (audited.Legal entries) bytes left_now source source_now output status a c v no_read no_write =
    ⊎_elim
    (λ is. inl (is, entries, subst (IsHistory entries) (sym (all_of bytes a.read left_now a.consumed a.says.0)) a.says.2))
    (lacks bytes status)
    (printed_so (numbered (codes "legal ") entries) 0 output status v no_write)
found (audited.NotLegal line) bytes left_now source source_now output status a c v no_read no_write =
    ⊎_elim
    (λ is. inr (inl (is, line, a.read, rest_of bytes a.read left_now a.consumed, a.says)))
    (lacks bytes status)
    (printed_so (numbered (codes "line ") line) 14 output status v no_write)
found audited.Truncated bytes left_now source source_now output status a c v no_read no_write =
    let all = sym (all_of bytes a.read left_now a.consumed a.says.0) in
    inr (inr (inl (
      v.0,
      subst IsBegun all a.says.2,
      subst (λ (read : List ℕ). (entries : ℕ) → IsHistory entries read → ⊥) all a.says.3,
    )))
found audited.ReadFault bytes left_now source source_now output status a c v no_read no_write = absurd (no_read c)
found audited.Worn bytes left_now source source_now output status a c v no_read no_write =
    inr (inr (inr (inl (v.0, a.read, rest_of bytes a.read left_now a.consumed, a.says.0, a.says.1))))
found audited.OutOfMemory bytes left_now source source_now output status a c v no_read no_write = lacks bytes status v.0

pub found_where : (how : Audited) (told left_now : Option (List ℕ)) (source source_now : ℕ) (output : Side) (status : ℕ)
    → IsAudited told left_now how → IsAuditCaused how source source_now → HasVerdict how output status
    → IfSome told (λ bytes. (Rose source source_now → ⊥) → (Rose output.faults output.faults_now → ⊥) → EndsAsText bytes status)
found_where how None left_now source source_now output status a c v = tt
found_where how (Some bytes) left_now source source_now output status a c v =
    λ no_read no_write. found how bytes left_now source source_now output status a c v no_read no_write
