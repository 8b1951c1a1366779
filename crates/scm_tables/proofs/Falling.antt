-- Services that fall one by one, and what that comes to.
use Rattle.std.proofs.Common.{ℕ, suc, ◌≡◌, ◌∙◌, ◌<◌, ◌==◌, false, cond, List, [], ◌∷◌, Option, None, Some, find, map, ap, sym, refl}
use Rattle.std.proofs.Common.{subst, arith, eq-eqb, inl, inr}
use Rattle.std.specs.Prelude.{AllPairs}
use Rattle.std.specs.List.{AllByRecursion}
use Rattle.std.proofs.lemmas.Bool.{cases_Bool, ne_eqb}
use Rattle.std.proofs.lemmas.List.Elements.{recursion_from_All}
use Rattle.failure_actions.specs.Failing.{due_action, on_failure}
use Rattle.scm_model.specs.declared.codes.TheConstants.{ERROR_PROCESS_ABORTED}
use Rattle.scm_model.specs.declared.flat.Action.{Action}
use Rattle.scm_model.specs.declared.flat.DueKind.{DueKind}
use Rattle.scm_model.specs.declared.flat.Flat.{Flat}
use Rattle.scm_model.specs.declared.flat.Registration.{Registration}
use Rattle.scm_model.specs.declared.flat.Service.{Service}
use Rattle.scm_model.specs.Found.{if_found}
use Rattle.scm_model.specs.Notices.{notified_of_move}
use Rattle.scm_model.specs.Processes.{currents, is_by}
use Rattle.scm_rules.specs.Ends.{with_end}
use Rattle.scm_rules.specs.Failures.{all_failed, counted_if, with_action, with_due_after, with_failure}
use Rattle.scm_rules.specs.Launches.{fallen, fallen_if, notified_of_falls, with_fallen}
use Rattle.scm_tables.specs.Failed.{fallen_at, with_one_fallen}

-- ## Nobody is left

none_falls : (process code : ℕ) (rows : List Service) → find (is_by process) rows ≡ None → map (fallen_if process code) rows ≡ rows
none_falls process code [] none = refl
none_falls process code (row ∷ rows) none =
    elim (cases_Bool (is_by process row)) [
      | inl is ↦ absurd (cc (none, ap (λ b. cond b (Some row) (find (is_by process) rows)) is))
      | inr out ↦
          rw (out, none_falls process code rows (sym (ap (λ b. cond b (Some row) (find (is_by process) rows)) out) ∙ none)) refl
    ]

pub none_current : (process : ℕ) (rows : List Service) → find (is_by process) rows ≡ None → currents process rows ≡ []
none_current process [] none = refl
none_current process (row ∷ rows) none =
    elim (cases_Bool (is_by process row)) [
      | inl is ↦ absurd (cc (none, ap (λ b. cond b (Some row) (find (is_by process) rows)) is))
      | inr out ↦ rw out (none_current process rows (sym (ap (λ b. cond b (Some row) (find (is_by process) rows)) out) ∙ none))
    ]

pub none_left : (f : Flat) (process code : ℕ) → find (is_by process) f.services ≡ None → with_fallen f process code ≡ f
none_left f process code none = rw (none_falls process code f.services none, none_current process f.services none) refl

-- ## One at a time

-- who fell has no process
gone : (process code : ℕ) (row : Service) → is_by process (fallen code row) ≡ false
gone process code row =
    elim (cases_Bool (process == 0)) [
      | inl none ↦ rw none refl
      | inr some ↦ rw (some, ne_eqb 0 process (λ same. absurd (cc (some, eq-eqb process 0 (sym same))))) refl
    ]

-- the services after the first are others
stay : (n code : ℕ) (rows : List Service) → AllByRecursion (λ (row : Service). n < row.number) rows → map (fallen_at n code) rows ≡ rows
stay n code [] above = refl
stay n code (row ∷ rows) above = rw (ne_eqb row.number n (omega (arith, above.0)), stay n code rows above.1) refl

-- services, and who falls, once the first has fallen
record Done (process code : ℕ) (rows : List Service) (row : Service) : Type 0 where
  falls : map (fallen_if process code) (map (fallen_at row.number code) rows) ≡ map (fallen_if process code) rows
  currents : currents process rows ≡ row ∷ currents process (map (fallen_at row.number code) rows)

abbrev pub Rises : List Service → Type 0
Rises [] = Unit {0}
Rises (row ∷ rows) = AllByRecursion (λ (other : Service). row.number < other.number) rows × Rises rows

pub rises : (rows : List Service) → AllPairs (λ (a b : Service). a.number < b.number) rows → Rises rows
rises [] pairs = tt
rises (row ∷ rows) pairs = (
  recursion_from_All (λ (other : Service). row.number < other.number) rows (λ k d lt. pairs 0 (suc k) d (omega arith) (omega arith)),
  rises rows (λ i j d lt within. pairs (suc i) (suc j) d (omega arith) (omega arith)),
)

found_above : (process n : ℕ) (rows : List Service) (row : Service) → AllByRecursion (λ (other : Service). n < other.number) rows
    → find (is_by process) rows ≡ Some row → n < row.number
found_above process n [] row above found = absurd (cc found)
found_above process n (other ∷ rows) row above found =
    elim (cases_Bool (is_by process other)) [
      | inl is ↦
          let same : other ≡ row = cc (sym (ap (λ b. cond b (Some other) (find (is_by process) rows)) is) ∙ found) in
          subst (λ (r : Service). n < r.number) same above.0
      | inr out ↦ found_above process n rows row above.1
          (sym (ap (λ b. cond b (Some other) (find (is_by process) rows)) out) ∙ found)
    ]

first_done : (process code : ℕ) (rows : List Service) (row : Service) → Rises rows → find (is_by process) rows ≡ Some row
    → Done process code rows row
first_done process code [] row rising found = absurd (cc found)
first_done process code (first ∷ rows) row rising found =
    elim (cases_Bool (is_by process first)) [
      | inl is ↦
          let same : first ≡ row = cc (sym (ap (λ b. cond b (Some first) (find (is_by process) rows)) is) ∙ found) in
          subst (Done process code (first ∷ rows)) same
          (let here : fallen_at first.number code first ≡ fallen code first =
          ap (λ b. cond b (fallen code first) first) (eq-eqb first.number first.number refl) in
          let rest : map (fallen_at first.number code) rows ≡ rows = stay first.number code rows rising.0 in
          record {
            falls = rw (here, rest, gone process code first, is) refl;
            currents = rw (here, rest, gone process code first, is) refl;
          })
      | inr out ↦
          let there = sym (ap (λ b. cond b (Some first) (find (is_by process) rows)) out) ∙ found in
          let later = first_done process code rows row rising.1 there in
          let apart : (first.number == row.number) ≡ false =
          ne_eqb first.number row.number (omega (arith, found_above process first.number rows row rising.0 there)) in
          record {
            falls = rw (apart, out) (ap (λ rest. first ∷ rest) later.falls);
            currents = rw (apart, out) later.currents;
          }
    ]

-- with the first of those who fall fallen alone, the others fall as all would
pub one_at_a_time : (f : Flat) (process code : ℕ) (row : Service) → AllPairs (λ (a b : Service). a.number < b.number) f.services
    → find (is_by process) f.services ≡ Some row → with_fallen (with_one_fallen f code row) process code ≡ with_fallen f process code
one_at_a_time f process code row rising found =
    let done = first_done process code f.services row (rises f.services rising) found in
    ap (λ (rows : List Service). record f {
      services = rows;
      registrations = notified_of_falls code (currents process (map (fallen_at row.number code) f.services))
          (notified_of_move 0 row (fallen code row) f.registrations);
    }) done.falls
    ∙ ap (λ (rows : List Service). record f {
      services = map (fallen_if process code) f.services;
      registrations = notified_of_falls code rows f.registrations;
    }) (sym done.currents)

-- fewer are left
pub fewer_left : (f : Flat) (process code : ℕ) (row : Service) → AllPairs (λ (a b : Service). a.number < b.number) f.services
    → find (is_by process) f.services ≡ Some row
    → currents process f.services ≡ row ∷ currents process (with_one_fallen f code row).services
fewer_left f process code row rising found = (first_done process code f.services row (rises f.services rising) found).currents

-- ## Failures before the falls, and after them

count_falls : (n moment process code : ℕ) (row : Service)
    → fallen_if process code (counted_if n moment row) ≡ counted_if n moment (fallen_if process code row)
count_falls n moment process code row =
    elim (cases_Bool (row.number == n)) [
      | inl is ↦ elim (cases_Bool (is_by process row)) [ inl by ↦ rw (is, by, is) refl | inr out ↦ rw (is, out, is) refl ]
      | inr other ↦ elim (cases_Bool (is_by process row)) [ inl by ↦ rw (other, by, other) refl | inr out ↦ rw (other, out, other) refl ]
    ]

counts_fall : (n moment process code : ℕ) (rows : List Service)
    → map (fallen_if process code) (map (counted_if n moment) rows) ≡ map (counted_if n moment) (map (fallen_if process code) rows)
counts_fall n moment process code [] = refl
counts_fall n moment process code (row ∷ rows) = rw (count_falls n moment process code row, counts_fall n moment process code rows) refl

count_notifies : (n moment code : ℕ) (row : Service) (rows : List Registration)
    → notified_of_move 0 (counted_if n moment row) (fallen code (counted_if n moment row)) rows
    ≡ notified_of_move 0 row (fallen code row) rows
count_notifies n moment code row rows = elim (cases_Bool (row.number == n)) [ inl is ↦ rw is refl | inr other ↦ rw other refl ]

pub count_by : (n moment process : ℕ) (row : Service) → is_by process (counted_if n moment row) ≡ is_by process row
count_by n moment process row = elim (cases_Bool (row.number == n)) [ inl is ↦ rw is refl | inr other ↦ rw other refl ]

counts_notify : (n moment process code : ℕ) (rows : List Service) (registrations : List Registration)
    → notified_of_falls code (currents process (map (counted_if n moment) rows)) registrations
    ≡ notified_of_falls code (currents process rows) registrations
counts_notify n moment process code [] registrations = refl
counts_notify n moment process code (row ∷ rows) registrations =
    let others = currents process (map (counted_if n moment) rows) in
    elim (cases_Bool (is_by process row)) [
      | inl by ↦
          ap (λ b. notified_of_falls code (cond b (counted_if n moment row ∷ others) others) registrations)
          (count_by n moment process row ∙ by)
          ∙ ap (notified_of_falls code others) (count_notifies n moment code row registrations)
          ∙ counts_notify n moment process code rows (notified_of_move 0 row (fallen code row) registrations)
          ∙ sym (ap (λ b. notified_of_falls code (cond b (row ∷ currents process rows) (currents process rows)) registrations) by)
      | inr out ↦
          ap (λ b. notified_of_falls code (cond b (counted_if n moment row ∷ others) others) registrations)
          (count_by n moment process row ∙ out)
          ∙ counts_notify n moment process code rows registrations
          ∙ sym (ap (λ b. notified_of_falls code (cond b (row ∷ currents process rows) (currents process rows)) registrations) out)
    ]

due_falls : (found : Option DueKind) (millis : ℕ) (f : Flat) (process code : ℕ)
    → with_fallen (if_found (with_due_after millis) found f) process code
    ≡ if_found (with_due_after millis) found (with_fallen f process code)
due_falls None millis f process code = refl
due_falls (Some kind) millis f process code = refl

action_falls : (found : Option Action) (service : ℕ) (f : Flat) (process code : ℕ)
    → with_fallen (if_found (with_action service) found f) process code ≡ if_found (with_action service) found (with_fallen f process code)
action_falls None service f process code = refl
action_falls (Some action) service f process code = due_falls (due_action service action) action.delay f process code

failure_falls : (row : Service) (f : Flat) (process code : ℕ)
    → with_fallen (with_failure row f) process code ≡ with_failure row (with_fallen f process code)
failure_falls row f process code =
    let action = (on_failure row.config row.failures row.last_failure f.moment).action in
    action_falls action row.number (record f { services = map (counted_if row.number f.moment) f.services }) process code
    ∙ ap (λ (rows : List Service). if_found (with_action row.number) action (record f {
      services = rows;
      registrations = notified_of_falls code (currents process (map (counted_if row.number f.moment) f.services)) f.registrations;
    })) (counts_fall row.number f.moment process code f.services)
    ∙ ap (λ (rows : List Registration). if_found (with_action row.number) action (record f {
      services = map (counted_if row.number f.moment) (map (fallen_if process code) f.services);
      registrations = rows;
    })) (counts_notify row.number f.moment process code f.services f.registrations)

failures_fall : (rows : List Service) (f : Flat) (process code : ℕ)
    → with_fallen (all_failed rows f) process code ≡ all_failed rows (with_fallen f process code)
failures_fall [] f process code = refl
failures_fall (row ∷ rows) f process code =
    failures_fall rows (with_failure row f) process code ∙ ap (all_failed rows) (failure_falls row f process code)

-- failures are counted first, and then the services fall
pub fails_first : (f : Flat) (process : ℕ)
    → with_fallen (all_failed (currents process f.services) f) process ERROR_PROCESS_ABORTED ≡ with_end f process
fails_first f process = failures_fall (currents process f.services) f process ERROR_PROCESS_ABORTED
