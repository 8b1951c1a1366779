-- A service's state changes once the plans that sleep for it are woken.
use Rattle.std.proofs.Common.{ℕ, ◌≡◌, ◌∙◌, ◌<◌, ◌==◌, zero, suc, true, false, cond, not, List, [], ◌∷◌, Option, Some, find, get_or, length}
use Rattle.std.proofs.Common.{refl, set, sym, ap, arith, eq-eqb}
use Rattle.std.proofs.lemmas.Bool.{ne_eqb}
use Rattle.scm_model.specs.declared.flat.Service.{Service}
use Rattle.scm_model.specs.Ready.{state_in}
use Rattle.start_plan.specs.Asleep.{all_but, ArePending}
use Rattle.start_plan.specs.Moves.{is_pending}

-- a service with another number is found as before
set_elsewhere : (rows : List Service) (i : ℕ) (d new : Service) (n : ℕ) → i < length rows → ((get_or rows i d).number == n) ≡ false
    → (new.number == n) ≡ false
    → find (λ (row : Service). row.number == n) (set rows i new) ≡ find (λ (row : Service). row.number == n) rows
set_elsewhere [] i d new n lt old other = absurd (omega arith)
set_elsewhere (row ∷ rows) zero d new n lt old other = rw (old, other) refl
set_elsewhere (row ∷ rows) (suc i) d new n lt old other = ap (λ (o : Option Service). cond (row.number == n) (Some row) o)
    (set_elsewhere rows i d new n (omega arith) old other)

-- numbers that differ from one side differ from the other
other_side : (n m : ℕ) → (n == m) ≡ false → (m == n) ≡ false
other_side n m h = ne_eqb m n (λ same. absurd (cc (sym (eq-eqb n m (sym same)) ∙ h)))

pub pending_set : (rows : List Service) (i : ℕ) (old new : Service) → i < length rows → old ≡ get_or rows i old → new.number ≡ old.number
    → (ns : List ℕ) → ArePending rows ns → ArePending (set rows i new) (all_but old.number ns)
pending_set rows i old new lt is same [] pending = tt
pending_set rows i old new lt is same (n ∷ ns) pending =
    let rest = pending_set rows i old new lt is same ns pending.1 in
    elim (n == old.number) as (λ b. (n == old.number) ≡ b → ArePending (set rows i new)
    (cond (not b) (n ∷ all_but old.number ns) (all_but old.number ns))) [
      | true ↦ λ e. rest
      | false ↦ λ e.
          let there = other_side n old.number e in
          let found = set_elsewhere rows i old new n lt (ap (λ (r : Service). r.number == n) (sym is) ∙ there) (ap (λ m. m == n) same
          ∙ there) in
          (ap (λ (o : Option Service). is_pending (state_in o)) found ∙ pending.0, rest)
    ] refl
