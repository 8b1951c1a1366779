-- A stale step and a report that is refused move no service.
use Rattle.std.proofs.Common.{ℕ, ◌≡◌, ◌∙◌, ◌==◌, ◌&&◌, Bool, true, false, not, cond, List, [], ◌∷◌, Option, None, Some, Ok, Err, filter}
use Rattle.std.proofs.Common.{map, ap, sym, refl, subst, eqb-true, eq-eqb}
use Rattle.std.specs.Prelude.{All, max}
use Rattle.std.proofs.lemmas.List.Elements.{All-cons, All-head, All-nil, All-tail, All-weaker}
use Rattle.scm_model.specs.declared.flat.Flat.{Flat}
use Rattle.scm_model.specs.declared.flat.Limits.{Limits}
use Rattle.scm_model.specs.declared.flat.Order.{Order}
use Rattle.scm_model.specs.declared.flat.Process.{Process}
use Rattle.scm_model.specs.declared.flat.Service.{Service}
use Rattle.scm_model.specs.declared.flat.Status.{Status}
use Rattle.scm_model.specs.declared.calls.Reply.{Reply}
use Rattle.scm_model.specs.declared.calls.Reply.TheVariants as reply
use Rattle.scm_model.specs.declared.calls.Request.TheVariants as request
use Rattle.scm_model.specs.declared.steps.Answer.{Answer}
use Rattle.scm_model.specs.declared.steps.Answer.TheVariants as answer
use Rattle.scm_model.specs.declared.steps.Kept.{Kept}
use Rattle.scm_model.specs.declared.steps.Step.{Step}
use Rattle.scm_model.specs.declared.steps.Step.TheVariants.{Call, Report, Ended, LaunchTaken, ControlTaken}
use Rattle.scm_model.specs.Changes.{with_moment}
use Rattle.scm_model.specs.Purge.{purged}
use Rattle.start_plan.specs.Decided.{code_of}
use Rattle.start_plan.specs.Settle.{settled}
use Rattle.status_machine.specs.Moves.{take_report, takes}
use Rattle.scm_rules.specs.Launches.{currents, fallen_if, first_wanted, is_by, launch_told, notified_of_falls, wanted_of_others}
use Rattle.scm_rules.specs.Launches.{without_process}
use Rattle.scm_rules.specs.Reports.{is_reporter, is_stopped_by, moved_by, notified_of_report, released_by, released_if, report_answer}
use Rattle.scm_rules.specs.Reports.{report_told, reported_if, reported_in, reporting, set_status_done, set_status_verdict, with_report_of}
use Rattle.scm_rules.specs.Ends.{end_told, with_end}
use Rattle.scm_rules.specs.Failures.{all_failed, failed_by, with_failure}
use Rattle.scm_model.specs.Found.{if_found}
use Rattle.scm_model.proofs.Found.{found_keeps}
use Rattle.scm_rules.specs.Steps.{call_answer, answered_by, at_moment, effect_of, finished, step_of, tells_plan}
use Rattle.scm_rules.specs.Valid.{IsValid}
use Rattle.scm_rules.specs.Verdicts.{verdict}
use Rattle.scm_runs.proofs.Calls.{by_verdict}
use Rattle.scm_moves.specs.Moves.{is_called_report}
use Rattle.scm_moves.proofs.Own.{only_one}
use Rattle.scm_moves.proofs.Still.{Lists, lists_mapped, lists_same, lists_without, stays_put}
use Rattle.scm_moves.proofs.Waiting.{released_number, released_shared}
use Rattle.scm_rules.specs.Controls.{control_sent, next_order}

-- ## Rows that stay

map_still : {X : Type 0} (g : X → X) (xs : List X) → All (λ x. g x ≡ x) xs → map g xs ≡ xs
map_still g [] each = refl
map_still g (x ∷ xs) each = rw (All-head (λ y. g y ≡ y) x xs each, map_still g xs (All-tail (λ y. g y ≡ y) x xs each)) refl

-- where no row passes a test, none does
none_of : {X : Type 0} (p : X → Bool) (xs : List X) → filter p xs ≡ [] → All (λ x. p x ≡ false) xs
none_of p [] e = All-nil (λ x. p x ≡ false)
none_of p (x ∷ xs) e =
    elim (p x) as (λ b. p x ≡ b → cond b (x ∷ filter p xs) (filter p xs) ≡ [] → All (λ y. p y ≡ false) (x ∷ xs)) [
      | true ↦ λ h g. absurd cc
      | false ↦ λ h g. All-cons (λ y. p y ≡ false) x xs h (none_of p xs g)
    ] refl e

-- ## A report

not_taken : (number : ℕ) (report : Status) (row : Service) → ((row.number == number) ≡ true → takes row.status report ≡ false)
    → reported_if number report row ≡ row
not_taken number report row none =
    elim (row.number == number) as (λ b. (row.number == number) ≡ b → cond b (moved_by row (take_report row.status report)) row ≡ row) [
      | true ↦ λ e. rw (none e) refl
      | false ↦ λ e. refl
    ] refl

-- a report leaves each process, shared as it was
lists_left : (f : Flat) (report : Status) (service : Option Service) → Lists f (if_found (released_by report) service f.processes)
lists_left f report service =
    found_keeps (Lists f) (released_by report) service f.processes (lists_same f)
    (λ row is. elim (is_stopped_by report row) as (λ b. Lists f (cond b (map (released_if row.process row.number) f.processes)
    f.processes)) [
      | true ↦ lists_mapped f (released_if row.process row.number) (released_number row.process row.number)
          (released_shared row.process row.number)
      | false ↦ lists_same f
    ])

-- a report that changes no row, and is no failure
put_by_report : (l : Limits) (f : Flat) (moment : ℕ) (service : Option Service) (report : Status) → IsValid l f
    → reported_in report service f.services ≡ f.services → failed_by report service ≡ None
    → (purged (settled l (with_report_of (with_moment f moment) service report))).services ≡ f.services
put_by_report l f moment service report v same fine =
    let told = notified_of_report f.processes report service f.registrations in
    let left = if_found (released_by report) service f.processes in
    ap (λ (failed : Option Service). (purged (settled l (if_found with_failure failed (record f {
      services = reported_in report service f.services;
      processes = left;
      registrations = told;
      moment = max f.moment moment;
    })))).services) fine
    ∙ ap (λ (services : List Service). (purged (settled l (record f {
      services = services;
      processes = left;
      registrations = told;
      moment = max f.moment moment;
    }))).services) same
    ∙ stays_put l f left f.wanted told (max f.moment moment) v (lists_left f report service)

stale_report : (l : Limits) (f : Flat) (moment : ℕ) (report : Status) (service : Option Service) → IsValid l f
    → (finished (settled l (with_report_of (with_moment f moment) service report)) (report_told service report)).answer ≡ answer.Stale
    → (purged (finished (settled l (with_report_of (with_moment f moment) service report)) (report_told service report)).flat).services ≡
    f.services
stale_report l f moment report None v told = put_by_report l f moment None report v refl refl
stale_report l f moment report (Some row) v told =
    let g = settled l (with_report_of (with_moment f moment) (Some row) report) in
    absurd (elim (takes row.status report) as (λ b. (finished g (report_answer (cond b (Ok report) (Err 13)))).answer ≡ answer.Stale → ⊥)
    [ true ↦ λ h. cc | false ↦ λ h. cc ] told)

-- a report that isn't taken is no failure
not_failed : (report : Status) (row : Service) → takes row.status report ≡ false → failed_by report (Some row) ≡ None
not_failed report row none = by_tests row.config.on_exit (report.state == 1) (not (report.win32 == 0)) (takes row.status report) none
  where
    by_tests : (on_exit stopped with_error taken : Bool) → taken ≡ false
        → ◌≡◌ {A = Option Service} (cond (on_exit && taken && stopped && with_error) (Some row) None) None
    by_tests true stopped with_error true none = absurd cc
    by_tests true stopped with_error false none = refl
    by_tests false stopped with_error taken none = refl

-- what is told of a report that is refused
record IsRefused (row : Service) (report : Status) (code : ℕ) : Type 0 where
  is : code ≡ 13
  none : takes row.status report ≡ false

told_refused : (g : Flat) (row : Service) (report : Status) (code : ℕ) →
    (finished g (report_answer (take_report row.status report))).answer ≡ answer.Refused code → IsRefused row report code
told_refused g row report code =
    elim (takes row.status report) as (λ b. takes row.status report ≡ b
    → (finished g (report_answer (cond b (Ok report) (Err 13)))).answer ≡ answer.Refused code → IsRefused row report code) [
      | true ↦ λ e h. absurd cc
      | false ↦ λ e h. record { is = cc; none = e }
    ] refl

refused_report : (l : Limits) (f : Flat) (moment : ℕ) (report : Status) (service : Option Service) (code : ℕ) → IsValid l f
    → ((row : Service) → service ≡ Some row → All (λ (r : Service). r.number ≡ row.number → r ≡ row) f.services)
    → (finished (settled l (with_report_of (with_moment f moment) service report)) (report_told service report)).answer ≡ answer.Refused
    code
    → (code ≡ 13) × ((purged (finished (settled l (with_report_of (with_moment f moment) service report))
    (report_told service report)).flat).services ≡ f.services)
refused_report l f moment report None code v only told = absurd cc
refused_report l f moment report (Some row) code v only told =
    let g = settled l (with_report_of (with_moment f moment) (Some row) report) in
    let is = told_refused g row report code told in
    let same = map_still (reported_if row.number report) f.services
    (All-weaker (λ (r : Service). r.number ≡ row.number → r ≡ row) (λ (r : Service). reported_if row.number report r ≡ r)
    (λ r one. not_taken row.number report r (λ h. ap (λ (s : Service). takes s.status report) (one (eqb-true r.number row.number h))
    ∙ is.none))
    f.services (only row refl)) in (
      is.is,
      subst (λ (told : Answer). (purged (finished g told).flat).services ≡ f.services)
          (sym (ap (λ (b : Bool). report_answer (cond b (Ok report) (Err 13))) is.none))
          (put_by_report l f moment (Some row) report v same (not_failed report row is.none)),
    )

-- ## An end

not_fallen : (process code : ℕ) (row : Service) → is_by process row ≡ false → fallen_if process code row ≡ row
not_fallen process code row e = rw e refl

stale_end : (l : Limits) (f : Flat) (moment process : ℕ) (falling : List Service) → IsValid l f → currents process f.services ≡ falling
    → (finished (settled l (without_process (with_end (with_moment f moment) process) process)) (end_told falling)).answer ≡ answer.Stale
    → (purged (finished (settled l (without_process (with_end (with_moment f moment) process) process)) (end_told falling)).flat).services ≡
    f.services
stale_end l f moment process [] v e told =
    let others = filter (λ (row : Process). not (row.number == process)) f.processes in
    ap (λ (rows : List Service). (purged (settled l (without_process (all_failed rows (record f {
      services = map (fallen_if process 1067) f.services;
      registrations = notified_of_falls 1067 rows f.registrations;
      moment = max f.moment moment;
    })) process))).services) e
    ∙ ap (λ (services : List Service). (purged (settled l (record f {
      services = services;
      processes = others;
      wanted = wanted_of_others process f.wanted;
      moment = max f.moment moment;
    }))).services)
    (map_still (fallen_if process 1067) f.services
    (All-weaker (λ (row : Service). is_by process row ≡ false) (λ (row : Service). fallen_if process 1067 row ≡ row)
    (not_fallen process 1067) f.services (none_of (is_by process) f.services e)))
    ∙ stays_put l f others (wanted_of_others process f.wanted) f.registrations (max f.moment moment) v
    (lists_without f process v.processes.positive (none_of (is_by process) f.services e))
stale_end l f moment process (row ∷ rows) v e told = absurd cc

-- ## Other steps

-- whether an answer is one of a report or an end that moved nothing
abbrev pub tells_off : Answer → Bool
tells_off (answer.Refused code) = true
tells_off answer.Stale = true
tells_off told = false

answered_off : (plan : ℕ) (code : Option ℕ) → tells_off (answered_by plan code) ≡ false
answered_off plan None = refl
answered_off plan (Some code) = refl

finished_off : (g : Flat) (told : Answer) → tells_off told ≡ false → tells_off (finished g told).answer ≡ false
finished_off g (answer.Begun plan) e = answered_off plan (code_of g.plans plan)
finished_off g told e = e

call_off : (begins : Bool) (plan : ℕ) (told : Reply) → tells_off (call_answer begins plan told) ≡ false
call_off true plan told = refl
call_off false plan told = refl

launch_off : (found : Option ℕ) → tells_off (launch_told found) ≡ false
launch_off None = refl
launch_off (Some process) = refl

control_off : (found : Option Order) → tells_off (control_sent found) ≡ false
control_off None = refl
control_off (Some order) = refl

-- whether a step is a report or an end
abbrev pub tells_of_process : Step → Bool
tells_of_process (Report process service status) = true
tells_of_process (Ended process) = true
tells_of_process step = false

effect_off : (l : Limits) (f : Flat) (step : Step) → tells_of_process step ≡ false → tells_off (effect_of l f step).answer ≡ false
effect_off l f (Call caller asked append) e = call_off (tells_plan asked (verdict l f caller asked append)) f.next.plan _
effect_off l f (Report process service status) e = absurd cc
effect_off l f (Ended process) e = absurd cc
effect_off l f LaunchTaken e = launch_off (first_wanted f.wanted)
effect_off l f (ControlTaken process) e = control_off (next_order f process)
effect_off l f step e = refl

pub step_off : (l : Limits) (f : Flat) (moment : ℕ) (step : Step) → tells_of_process step ≡ false
    → tells_off (step_of l f moment step).answer ≡ false
step_off l f moment step e =
    let done = effect_of l (at_moment f moment step) step in
    finished_off (settled l done.flat) done.answer (effect_off l (at_moment f moment step) step e)

pub not_off : (b : Bool) → b ≡ true → b ≡ false → ⊥
not_off true h e = cc
not_off false h e = cc

end_off : (code : ℕ) (g : Flat) (falling : List Service) → (finished g (end_told falling)).answer ≡ answer.Refused code → ⊥
end_off code g [] told = cc
end_off code g (row ∷ rows) told = cc

-- ## The law

pub stale : (l : Limits) (f : Flat) (moment : ℕ) (step : Step) → IsValid l f → (step_of l f moment step).answer ≡ answer.Stale
    → (step_of l f moment step).flat.services ≡ f.services
stale l f moment (Report process service report) v told = stale_report l f moment report (reporting f process service) v told
stale l f moment (Ended process) v told = stale_end l f moment process (currents process f.services) v refl told
stale l f moment step v told = absurd (not_off _ (ap tells_off told) (step_off l f moment step refl))

pub refused : (l : Limits) (f : Flat) (moment : ℕ) (step : Step) (code : ℕ) → IsValid l f
    → (step_of l f moment step).answer ≡ answer.Refused code
    → (code ≡ 13) × ((step_of l f moment step).flat.services ≡ f.services)
refused l f moment (Report process service report) code v told =
    refused_report l f moment report (reporting f process service) code v
    (λ row is. only_one (is_reporter f process service) row f.services v.services.rising is) told
refused l f moment (Ended process) code v told = absurd (end_off code _ (currents process f.services) told)
refused l f moment step code v told = absurd (not_off _ (ap tells_off told) (step_off l f moment step refl))

-- ## A report by a call

unheard_by : (l : Limits) (f : Flat) (moment caller handle : ℕ) (report : Status) (append : Kept) (code : ℕ) → IsValid l f
    → (step_of l f moment (Call caller (request.SetStatus handle report) append)).answer ≡ answer.Reply (reply.Code code)
    → (code == 0) ≡ false
    → (step_of l f moment (Call caller (request.SetStatus handle report) append)).flat.services ≡ f.services
unheard_by l f moment caller handle report append code v =
    let g = with_moment f moment in
    let refusal = set_status_verdict g caller handle report in
    by_verdict (λ r. answer.Reply r.reply ≡ answer.Reply (reply.Code code) → (code == 0) ≡ false
    → (purged (settled l r.flat)).services ≡ f.services) refusal (reply.Code refusal) g (set_status_done g caller handle report)
    (λ e told some. absurd (let none : code ≡ 0 = cc in let yes = eq-eqb code 0 none in not_off (code == 0) yes some))
    (λ e told some. stays_put l f f.processes f.wanted f.registrations (max f.moment moment) v (lists_same f))

pub unheard : (l : Limits) (f : Flat) (moment : ℕ) (step : Step) (code : ℕ) → IsValid l f → is_called_report step ≡ true
    → (step_of l f moment step).answer ≡ answer.Reply (reply.Code code) → (code == 0) ≡ false
    → (step_of l f moment step).flat.services ≡ f.services
unheard l f moment (Call caller (request.SetStatus handle report) append) code v is told some =
    unheard_by l f moment caller handle report append code v told some
unheard l f moment step code v is told some = absurd cc
