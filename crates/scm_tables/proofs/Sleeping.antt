-- Plans go on sleeping for services whose state is about to change.
use Rattle.std.proofs.Common.{ℕ, ◌≡◌, ◌≢◌, ◌∙◌, ◌==◌, ◌&&◌, Bool, true, false, cond, not, List, [], ◌∷◌, ◌++◌, Option, None}
use Rattle.std.proofs.Common.{Some, find, map, refl, sym, ap, subst, eq-eqb, eqb-true}
use Rattle.std.specs.List.{list_any}
use Rattle.std.proofs.lemmas.Bool.{ne_eqb}
use Rattle.scm_model.specs.Changes.{configured_if}
use Rattle.scm_model.specs.Ready.{state_in}
use Rattle.scm_model.specs.Rows.{is_of_service}
use Rattle.scm_model.specs.declared.flat.Config.{Config}
use Rattle.scm_model.specs.declared.flat.HandleRow.{HandleRow}
use Rattle.scm_model.specs.declared.flat.Service.{Service}
use Rattle.scm_model.specs.declared.flat.Status.{Status}
use Rattle.failure_actions.specs.Failing.{on_failure}
use Rattle.scm_rules.specs.Failures.{counted_if}
use Rattle.scm_rules.specs.Controls.{unasked_if}
use Rattle.scm_rules.specs.Reports.{reported_if}
use Rattle.start_plan.specs.Asleep.{all_but, ArePending, IsPending}
use Rattle.start_plan.specs.Moves.{is_pending}
use Rattle.start_plan.proofs.Pending.{pending_by}
use Rattle.scm_tables.specs.Marked.{may_leave, number_leaves}
use Rattle.scm_tables.specs.Failed.{fallen_at}
use Rattle.scm_tables.specs.Woken.{IsChangeOf}
use Rattle.scm_tables.proofs.Keeping.{fallen_number, reported_number, unasked_or}
use Rattle.record_table.specs.Recorded.{without}

abbrev state_at : List Service → ℕ → ℕ
state_at rows n = state_in (find (λ (row : Service). row.number == n) rows)

-- what is about to change in rows is so where its state is the same
same_pending : (rows others : List Service) (n : ℕ) → state_at others n ≡ state_at rows n → IsPending rows n → IsPending others n
same_pending rows others n same pending = ap is_pending same ∙ pending

-- ## Changes that keep each state

same_state : (change : Service → Service) → ((row : Service) → (change row).number ≡ row.number)
    → ((row : Service) → (change row).status.state ≡ row.status.state) → (rows : List Service) (n : ℕ)
    → state_at (map change rows) n ≡ state_at rows n
same_state change numbers states [] n = refl
same_state change numbers states (row ∷ rows) n =
    ap (λ m. state_in (cond (m == n) (Some (change row)) (find (λ (r : Service). r.number == n) (map change rows)))) (numbers row)
    ∙ elim (row.number == n) as (λ b. state_in (cond b (Some (change row)) (find (λ (r : Service). r.number == n) (map change rows))) ≡
    state_in (cond b (Some row) (find (λ (r : Service). r.number == n) rows)))
    [ true ↦ states row | false ↦ same_state change numbers states rows n ]

pub pending_map : (change : Service → Service) → ((row : Service) → (change row).number ≡ row.number)
    → ((row : Service) → (change row).status.state ≡ row.status.state) → (rows : List Service) (ns : List ℕ)
    → ArePending rows ns → ArePending (map change rows) ns
pending_map change numbers states rows ns pending =
    pending_by rows (map change rows) (λ n. same_pending rows (map change rows) n (same_state change numbers states rows n)) ns pending

pub counted_state : (number moment : ℕ) (row : Service) → (counted_if number moment row).status.state ≡ row.status.state
counted_state number moment row =
    elim (row.number == number) as (λ b. (cond b (record row {
      failures =
          (on_failure row.config row.failures row.last_failure moment).failures;
      last_failure = moment;
    }) row).status.state ≡
    row.status.state)
    [ true ↦ refl | false ↦ refl ]

pub configured_state : (number : ℕ) (config : Config) (row : Service) → (configured_if number config row).status.state ≡ row.status.state
configured_state number config row =
    elim (row.number == number) as (λ b. (cond b (record row { config = config; status = record row.status { kind = config.kind } })
    row).status.state ≡ row.status.state)
    [ true ↦ refl | false ↦ refl ]

-- ## A service more

pushed : (rows : List Service) (new : Service) (n : ℕ) → IsPending rows n → IsPending (rows ++ new ∷ []) n
pushed [] new n pending = absurd (cc pending)
pushed (row ∷ rows) new n pending =
    elim (row.number == n) as (λ b. is_pending (state_in (cond b (Some row) (find (λ (r : Service). r.number == n) rows))) ≡ true
    → is_pending (state_in (cond b (Some row) (find (λ (r : Service). r.number == n) (rows ++ new ∷ [])))) ≡ true)
    [ true ↦ λ h. h | false ↦ λ h. pushed rows new n h ] pending

pub pending_push : (rows : List Service) (new : Service) (ns : List ℕ) → ArePending rows ns → ArePending (rows ++ new ∷ []) ns
pending_push rows new ns pending = pending_by rows (rows ++ new ∷ []) (pushed rows new) ns pending

-- ## A service that leaves

passes : {X : Type 0} (p : X → Bool) (xs : List X) (x : X) → Some x ≡ find p xs → p x ≡ true
passes p [] x e = absurd (cc e)
passes p (y ∷ xs) x e =
    elim (p y) as (λ b. p y ≡ b → Some x ≡ cond b (Some y) (find p xs) → p x ≡ true) [
      | true ↦ λ is h. let same : x ≡ y = cc h in ap p same ∙ is
      | false ↦ λ is h. passes p xs x h
    ] refl e

stopped_at : (handles : List HandleRow) (o : Option Service) → may_leave handles o ≡ true → state_in o ≡ 1
stopped_at handles None h = absurd (cc h)
stopped_at handles (Some row) h = marked_by row.marked h
  where
    marked_by : (marked : Bool) → (marked && row.status.state == 1 && not
        (list_any (λ (handle : HandleRow). is_of_service row.number handle.kind) handles)) ≡ true → row.status.state ≡ 1
    marked_by false h = absurd (cc h)
    marked_by true h =
        elim (row.status.state == 1) as (λ b. (row.status.state == 1) ≡ b
        → (b && not (list_any (λ (handle : HandleRow). is_of_service row.number handle.kind) handles)) ≡ true → row.status.state ≡ 1) [
          | true ↦ λ e h. eqb-true row.status.state 1 e
          | false ↦ λ e h. absurd (cc h)
        ] refl h

found_without : (n m : ℕ) → (m == n) ≡ false → (rows : List Service) → find (λ (row : Service). row.number == m) (without n rows) ≡ find
    (λ (row : Service). row.number == m) rows
found_without n m other [] = refl
found_without n m other (row ∷ rows) =
    elim (row.number == n) as (λ b. (row.number == n) ≡ b
    → find (λ (r : Service). r.number == m) (cond (not b) (row ∷ without n rows) (without n rows)) ≡ cond (row.number == m) (Some row)
    (find (λ (r : Service). r.number == m) rows)) [
      | true ↦ λ e.
          let elsewhere : (row.number == m) ≡ false = ne_eqb row.number m
          (λ same. absurd (cc (sym (eq-eqb m n (sym same ∙ eqb-true row.number n e)) ∙ other))) in
          rw elsewhere (found_without n m other rows)
      | false ↦ λ e. ap (λ (o : Option Service). cond (row.number == m) (Some row) o) (found_without n m other rows)
    ] refl

pub pending_left : (handles : List HandleRow) (rows : List Service) (marks : List ℕ) (n : ℕ) (ns : List ℕ)
    → Some n ≡ find (number_leaves handles rows) marks → ArePending rows ns → ArePending (without n rows) ns
pending_left handles rows marks n ns first pending = pending_by rows (without n rows) left ns pending
  where
    stopped : state_at rows n ≡ 1
    stopped = stopped_at handles (find (λ (row : Service). row.number == n) rows) (passes (number_leaves handles rows) marks n first)

    left : (m : ℕ) → IsPending rows m → IsPending (without n rows) m
    left m h =
        elim (m == n) as (λ b. (m == n) ≡ b → IsPending (without n rows) m) [
          | true ↦ λ e. absurd (cc (sym (ap is_pending stopped) ∙ subst (IsPending rows) (eqb-true m n e) h))
          | false ↦ λ e. same_pending rows (without n rows) m (ap state_in (found_without n m e rows)) h
        ] refl

-- ## One service

changed_elsewhere : (number : ℕ) (change : Service → Service) → IsChangeOf number change → (n : ℕ) → (n == number) ≡ false
    → (rows : List Service) → find (λ (row : Service). row.number == n) (map change rows) ≡ find (λ (row : Service). row.number == n) rows
changed_elsewhere number change is n other [] = refl
changed_elsewhere number change is n other (row ∷ rows) =
    ap (λ m. cond (m == n) (Some (change row)) (find (λ (r : Service). r.number == n) (map change rows))) (is.same row)
    ∙ elim (row.number == n) as (λ b. (row.number == n) ≡ b → cond b (Some (change row))
    (find (λ (r : Service). r.number == n) (map change rows)) ≡ cond b (Some row) (find (λ (r : Service). r.number == n) rows)) [
      | true ↦ λ e. ap (λ (r : Service). Some r) (is.others row (λ same. absurd
          (cc (sym (eq-eqb n number (sym (eqb-true row.number n e) ∙ same)) ∙ other))))
      | false ↦ λ e. changed_elsewhere number change is n other rows
    ] refl

-- whatever becomes of a service: those that slept for it are woken
pub woken : (number : ℕ) (change : Service → Service) → IsChangeOf number change → (rows : List Service) (ns : List ℕ)
    → ArePending rows ns → ArePending (map change rows) (all_but number ns)
woken number change is rows [] pending = tt
woken number change is rows (n ∷ ns) pending =
    let rest = woken number change is rows ns pending.1 in
    elim (n == number) as (λ b. (n == number) ≡ b → ArePending (map change rows)
    (cond (not b) (n ∷ all_but number ns) (all_but number ns))) [
      | true ↦ λ e. rest
      | false ↦ λ e. (
        same_pending rows (map change rows) n (ap state_in (changed_elsewhere number change is n e rows)) pending.0,
        rest,
      )
    ] refl

fallen_elsewhere : (number code : ℕ) (row : Service) → row.number ≢ number → fallen_at number code row ≡ row
fallen_elsewhere number code row other = rw (ne_eqb row.number number other) refl

pub reported_elsewhere : (number : ℕ) (report : Status) (row : Service) → row.number ≢ number → reported_if number report row ≡ row
reported_elsewhere number report row other = rw (ne_eqb row.number number other) refl

pub reported_changes : (number : ℕ) (report : Status) → IsChangeOf number (reported_if number report)
reported_changes number report = record { same = reported_number number report; others = reported_elsewhere number report }

pub fallen_changes : (number code : ℕ) → IsChangeOf number (fallen_at number code)
fallen_changes number code = record { same = fallen_number number code; others = fallen_elsewhere number code }

pub unasked_state : (number : ℕ) (row : Service) → (unasked_if number row).status.state ≡ row.status.state
unasked_state number row = unasked_or (λ new. new.status.state ≡ row.status.state) number row refl refl
