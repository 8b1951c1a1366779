-- Where nobody is registered, nobody is told, and what is no failure is not counted.
use Rattle.std.proofs.Common.{ℕ, ◌≡◌, ◌∙◌, ◌==◌, ◌&&◌, Bool, true, false, not, cond, List, [], ◌∷◌, Option, None, Some, map, ap, sym, refl}
use Rattle.std.proofs.Common.{subst}
use Rattle.scm_model.specs.Found.{if_found}
use Rattle.scm_model.specs.Notices.{Event, all_noted, event_of_state, noted, pid_of, notified_of_move}
use Rattle.scm_model.specs.declared.codes.TheConstants.{ERROR_PROCESS_ABORTED, SERVICE_STOPPED}
use Rattle.scm_model.specs.declared.flat.Flat.{Flat}
use Rattle.scm_model.specs.declared.flat.Process.{Process}
use Rattle.scm_model.specs.declared.flat.Registration.{Registration}
use Rattle.scm_model.specs.declared.flat.Service.{Service}
use Rattle.scm_model.specs.declared.flat.Status.{Status}
use Rattle.start_plan.specs.Entered.{started_if, notified_of_start}
use Rattle.status_machine.specs.Moves.{takes}
use Rattle.scm_rules.specs.Ends.{with_end}
use Rattle.scm_rules.specs.Failures.{all_failed, failed_by, is_failure, with_failure}
use Rattle.scm_rules.specs.Launches.{currents, fallen, fallen_if, notified_of_falls, with_fallen}
use Rattle.scm_rules.specs.Reports.{notified_of_report, released_by, reported_if, with_report_of}

pub events_untold : (events : List Event) → all_noted events [] ≡ []
events_untold [] = refl
events_untold (event ∷ events) = events_untold events

move_untold : (pid : ℕ) (old new : Service) → notified_of_move pid old new [] ≡ []
move_untold pid old new =
    elim (old.status.state == new.status.state) as (λ (b : Bool). cond b [] (noted (event_of_state pid new) []) ≡ []) [
      | true ↦ refl
      | false ↦ refl
    ]

pub start_untold : (number process pid : ℕ) (found : Option Service) → notified_of_start number process pid found [] ≡ []
start_untold number process pid None = refl
start_untold number process pid (Some row) = move_untold pid row (started_if number process row)

fall_untold : (code : ℕ) (falling : List Service) → notified_of_falls code falling [] ≡ []
fall_untold code [] = refl
fall_untold code (row ∷ rows) = ap (notified_of_falls code rows) (move_untold 0 row (fallen code row)) ∙ fall_untold code rows

report_untold : (processes : List Process) (report : Status) (found : Option Service) → notified_of_report processes report found [] ≡ []
report_untold processes report None = refl
report_untold processes report (Some row) = move_untold (pid_of processes (reported_if row.number report row)) row
    (reported_if row.number report row)

-- ## Failures

pub never_both : (b : Bool) → (b && false) ≡ false
never_both true = refl
never_both false = refl

-- a report without an error is no failure
no_failure : (report : Status) (row : Service) → report.win32 ≡ 0 → is_failure report row ≡ false
no_failure report row none =
    let stops = row.config.on_exit && takes row.status report && report.state == SERVICE_STOPPED in
    ap (λ (code : ℕ). stops && not (code == 0)) none ∙ never_both stops

none_fails : (report : Status) (found : Option Service) → report.win32 ≡ 0 → failed_by report found ≡ None
none_fails report None none = refl
none_fails report (Some row) none = ap (λ (b : Bool). cond b (Some row) None) (no_failure report row none)

-- ## What changes

-- a report without an error changes the services alone, where no order leaves
pub report_alone : (f : Flat) (found : Option Service) (report : Status) (row : Service) (services : List Service) → report.win32 ≡ 0
    → f.registrations ≡ [] → found ≡ Some row → released_by report row f.processes ≡ f.processes
    → map (reported_if row.number report) f.services ≡ services
    → with_report_of f found report ≡ record f { services = services }
report_alone f found report row services right none is stay changes =
    let same : notified_of_report f.processes report (Some row) f.registrations ≡ f.registrations =
    subst (λ (rows : List Registration). notified_of_report f.processes report (Some row) rows ≡ rows) (sym none)
    (report_untold f.processes report (Some row)) in
    let moved : Flat = record f {
      services = map (reported_if row.number report) f.services;
      processes = released_by report row f.processes;
      registrations = notified_of_report f.processes report (Some row) f.registrations;
    } in
    ap (λ (o : Option Service). with_report_of f o report) is
    ∙ ap (λ (failed : Option Service). if_found with_failure failed moved) (none_fails report (Some row) right)
    ∙ ap (λ (rows : List Registration). record f {
      services = map (reported_if row.number report) f.services;
      processes = released_by report row f.processes;
      registrations = rows;
    }) same
    ∙ ap (λ (rows : List Process). record f { services = map (reported_if row.number report) f.services; processes = rows }) stay
    ∙ ap (λ (all : List Service). record f { services = all }) changes

fall_alone : (f : Flat) (process code : ℕ) (services : List Service) → f.registrations ≡ []
    → map (fallen_if process code) f.services ≡ services → with_fallen f process code ≡ record f { services = services }
fall_alone f process code services none changes =
    let falling = currents process f.services in
    let same : notified_of_falls code falling f.registrations ≡ f.registrations =
    subst (λ (rows : List Registration). notified_of_falls code falling rows ≡ rows) (sym none) (fall_untold code falling) in
    ap (λ (rows : List Registration). record f { services = map (fallen_if process code) f.services; registrations = rows }) same
    ∙ ap (λ (all : List Service). record f { services = all }) changes

-- so does an end of a process that is no service's current one
pub end_alone : (f : Flat) (process : ℕ) (services : List Service) → f.registrations ≡ [] → currents process f.services ≡ []
    → map (fallen_if process ERROR_PROCESS_ABORTED) f.services ≡ services
    → with_end f process ≡ record f { services = services }
end_alone f process services none stale changes =
    ap (λ (falling : List Service). all_failed falling (with_fallen f process ERROR_PROCESS_ABORTED)) stale
    ∙ fall_alone f process ERROR_PROCESS_ABORTED services none changes
