-- What is refused, or finds nothing, changes nothing.
use Rattle.std.proofs.Common.{ℕ, ◌≡◌, ◌∙◌, ◌<◌, ◌==◌, ◌&&◌, suc, true, false, cond, not, List, [], ◌∷◌, Option, None, Some, find}
use Rattle.std.proofs.Common.{filter, map, drop, ap, sym, refl, subst, arith, inl, inr, eq-eqb, eqb-true}
use Rattle.std.specs.Prelude.{AllPairs, option_map}
use Rattle.std.specs.List.{AllByRecursion}
use Rattle.std.proofs.lemmas.Bool.{cases_Bool, ne_eqb}
use Rattle.std.proofs.lemmas.List.Elements.{recursion_from_All}
use Rattle.scm_model.specs.declared.codes.TheConstants.{ERROR_PROCESS_ABORTED, SERVICE_STOPPED}
use Rattle.scm_model.specs.declared.flat.Flat.{Flat}
use Rattle.scm_model.specs.declared.flat.Order.{Order}
use Rattle.scm_model.specs.declared.flat.Process.{Process}
use Rattle.scm_model.specs.declared.flat.Registration.{Registration}
use Rattle.scm_model.specs.declared.flat.Service.{Service}
use Rattle.scm_model.specs.declared.flat.Status.{Status}
use Rattle.scm_model.specs.declared.steps.Answer.TheVariants as answer
use Rattle.scm_model.specs.Processes.{currents, is_by}
use Rattle.scm_model.specs.Rows.{service_of}
use Rattle.status_machine.specs.Moves.{takes}
use Rattle.scm_rules.specs.Controls.{controls_in, dequeued_if, first_control}
use Rattle.scm_rules.specs.Ends.{with_end}
use Rattle.scm_rules.specs.Failures.{all_failed, is_failure}
use Rattle.scm_rules.specs.Launches.{with_fallen}
use Rattle.scm_rules.specs.Reports.{notified_of_report, report_told, reported_if, with_report_of}
use Rattle.scm_tables.specs.Failed.{is_taken_by}
use Rattle.scm_tables.specs.Listed.{listed_as, process_shown, processes_in}
use Rattle.scm_tables.specs.declared.process_rows.ProcessRow.{ProcessRow}
use Rattle.scm_tables.proofs.Exits.{falls_done}
use Rattle.scm_tables.proofs.Falling.{Rises, fails_first, none_current, rises}
use Rattle.scm_tables.proofs.Numbered.{found_number}

-- ## Processes

-- a process that isn't listed can't leave
pub absent_stays : (number : ℕ) (rows : List ProcessRow) → find (λ (row : Process). row.number == number) (processes_in rows) ≡ None
    → filter (λ (row : ProcessRow). not (row.number == number)) rows ≡ rows
absent_stays number [] none = refl
absent_stays number (row ∷ rows) none =
    elim (row.number == number) as (λ b. cond b (Some (process_shown row)) (find (λ (row : Process). row.number == number)
    (processes_in rows)) ≡ None → cond (not b) (row ∷ filter (λ (row : ProcessRow). not (row.number == number)) rows)
    (filter (λ (row : ProcessRow). not (row.number == number)) rows) ≡ row ∷ rows) [
      | true ↦ λ e. absurd (cc e)
      | false ↦ λ e. ap (λ rs. row ∷ rs) (absent_stays number rows e)
    ] none

-- those with greater numbers stay as they are
others_stay : (number : ℕ) (rows : List ProcessRow) → AllByRecursion (λ (row : ProcessRow). number < row.number) rows
    → map (listed_as (dequeued_if number)) rows ≡ rows
others_stay number [] above = refl
others_stay number (row ∷ rows) above = rw (ne_eqb row.number number (omega (arith, above.0)), others_stay number rows above.1) refl

none_left : (controls : List Order) → first_control controls ≡ None → drop 1 controls ≡ controls
none_left [] none = refl
none_left (order ∷ controls) none = absurd (cc none)

-- where no order waits for a process, none leaves it
pub quiet_stays : (number : ℕ) (rows : List ProcessRow) → AllPairs (λ (a b : ProcessRow). a.number < b.number) rows
    → first_control (controls_in (find (λ (row : Process). row.number == number) (processes_in rows))) ≡ None
    → map (listed_as (dequeued_if number)) rows ≡ rows
quiet_stays number [] rising none = refl
quiet_stays number (row ∷ rows) rising none =
    elim (cases_Bool (row.number == number)) [
      | inl is ↦
          let same = eqb-true row.number number is in
          let found = sym (ap (λ b. first_control (controls_in (cond b (Some (process_shown row))
          (find (λ (row : Process). row.number == number) (processes_in rows))))) is) ∙ none in
          let above = recursion_from_All (λ (other : ProcessRow). number < other.number) rows
          (λ k d lt. omega (arith, same, rising 0 (suc k) d (omega arith) (omega arith))) in
          rw (is, others_stay number rows above) (ap (λ cs. record row { controls = cs } ∷ rows) (none_left row.controls found))
      | inr other ↦
          let found = sym (ap (λ b. first_control (controls_in (cond b (Some (process_shown row))
          (find (λ (row : Process). row.number == number) (processes_in rows))))) other) ∙ none in
          rw (other, quiet_stays number rows (λ i j d lt within. rising (suc i) (suc j) d (omega arith) (omega arith)) found) refl
    ]

-- ## Ends

-- no service falls whose current process this isn't
pub ended_stays : (f : Flat) (process : ℕ) → None ≡ option_map (λ (row : Service). row.number) (find (is_by process) f.services)
    → with_end f process ≡ f
ended_stays f process none =
    sym (fails_first f process) ∙ ap (λ rows. with_fallen (all_failed rows f) process ERROR_PROCESS_ABORTED)
    (none_current process f.services (by (find (is_by process) f.services) none)) ∙ falls_done f process ERROR_PROCESS_ABORTED none
  where
    by : (found : Option Service) → None ≡ option_map (λ (row : Service). row.number) found → found ≡ None
    by None e = refl
    by (Some row) e = absurd (cc e)

-- where there is none, none is found
pub none_found : (process : ℕ) (rows : List Service) → currents process rows ≡ []
    → None ≡ option_map (λ (row : Service). row.number) (find (is_by process) rows)
none_found process [] none = refl
none_found process (row ∷ rows) none =
    elim (is_by process row) as (λ b. cond b (row ∷ currents process rows) (currents process rows) ≡ []
    → None ≡ option_map (λ (row : Service). row.number) (cond b (Some row) (find (is_by process) rows)))
    [ true ↦ λ e. absurd (cc e) | false ↦ λ e. none_found process rows e ] none

-- ## Reports

-- a report that is taken is answered so
pub taken_told : (report : Status) (found : Option Service) → is_taken_by report found ≡ true → report_told found report ≡ answer.Done
taken_told report None taken = absurd (cc taken)
taken_told report (Some row) taken = rw taken refl

module _ (report : Status) where
  -- the service itself stays as it is
  untaken_row : (number : ℕ) (row : Service) → takes row.status report ≡ false → reported_if number report row ≡ row
  untaken_row number row untaken = rw untaken (elim (row.number == number) as (λ b. cond b row row ≡ row) [ true ↦ refl | false ↦ refl ])

  -- and so do those after it
  later_stay : (number : ℕ) (rows : List Service) → AllByRecursion (λ (row : Service). number < row.number) rows
      → map (reported_if number report) rows ≡ rows
  later_stay number [] above = refl
  later_stay number (row ∷ rows) above = rw (ne_eqb row.number number (omega (arith, above.0)), later_stay number rows above.1) refl

  untaken_rows : (number : ℕ) (rows : List Service) (row : Service) → Rises rows
      → find (λ (row : Service). row.number == number) rows ≡ Some row → takes row.status report ≡ false
      → map (reported_if number report) rows ≡ rows
  untaken_rows number [] row rising found untaken = absurd (cc found)
  untaken_rows number (one ∷ rows) row rising found untaken =
      elim (cases_Bool (one.number == number)) [
        | inl is ↦
            let same : one ≡ row =
            cc (sym (ap (λ b. cond b (Some one) (find (λ (row : Service). row.number == number) rows)) is) ∙ found) in
            let here = untaken_row number one (subst (λ (r : Service). takes r.status report ≡ false) (sym same) untaken) in
            let above = subst (λ (n : ℕ). AllByRecursion (λ (other : Service). n < other.number) rows) (eqb-true one.number number is)
            rising.0 in
            rw (here, later_stay number rows above) refl
        | inr other ↦
            let there = sym (ap (λ b. cond b (Some one) (find (λ (row : Service). row.number == number) rows)) other) ∙ found in
            rw (other, untaken_rows number rows row rising.1 there untaken) refl
      ]

  no_failure : (row : Service) → takes row.status report ≡ false → is_failure report row ≡ false
  no_failure row untaken = rw untaken (elim row.config.on_exit as (λ b. (b && false && report.state == SERVICE_STOPPED
      && not (report.win32 == 0)) ≡ false) [ true ↦ refl | false ↦ refl ])

  untaken_notifies : (processes : List Process) (row : Service) (rows : List Registration) → takes row.status report ≡ false
      → notified_of_report processes report (Some row) rows ≡ rows
  untaken_notifies processes row rows untaken =
      rw (untaken_row row.number row untaken, eq-eqb row.status.state row.status.state refl) refl

  -- a report that isn't taken changes nothing
  pub untaken_stays : (f : Flat) (service : ℕ) → AllPairs (λ (a b : Service). a.number < b.number) f.services
      → is_taken_by report (service_of f service) ≡ false → with_report_of f (service_of f service) report ≡ f
  untaken_stays f service rising = by (service_of f service) refl
    where
      by : (found : Option Service) → service_of f service ≡ found → is_taken_by report found ≡ false
          → with_report_of f found report ≡ f
      by None there untaken = refl
      by (Some row) there untaken =
          let number = found_number service f.services row (sym there) in
          let rows = subst (λ (n : ℕ). map (reported_if n report) f.services ≡ f.services) (sym number)
          (untaken_rows service f.services row (rises f.services rising) there untaken) in
          rw (untaken_notifies f.processes row f.registrations untaken, no_failure row untaken, rows, untaken) refl
