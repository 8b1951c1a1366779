-- The subtypes of triggers stay whole.
use Rattle.std.proofs.Common.{ℕ, ◌≡◌, ◌==◌, not, true, false, cond, List, [], ◌∷◌, ◌++◌, Option, None, Some, get_or, length, map, refl}
use Rattle.std.proofs.Common.{subst, sym}
use Rattle.std.specs.Prelude.{All, IfSome, unwrap_or}
use Rattle.std.specs.List.{AllByRecursion}
use Rattle.std.proofs.lemmas.List.Elements.{All-filter, All-map, All-push}
use Rattle.scm_model.specs.declared.codes.TheConstants.{ERROR_PROCESS_ABORTED}
use Rattle.scm_model.specs.declared.flat.Config.{Config}
use Rattle.scm_model.specs.declared.flat.Flat.{Flat}
use Rattle.scm_model.specs.declared.flat.Limits.{Limits}
use Rattle.scm_model.specs.declared.flat.Service.{Service}
use Rattle.scm_model.specs.declared.calls.Info.{Info}
use Rattle.scm_model.specs.declared.calls.Info.TheVariants as info
use Rattle.scm_model.specs.declared.calls.Request.{Request}
use Rattle.scm_model.specs.declared.calls.Request.TheVariants as request
use Rattle.scm_model.specs.declared.calls.TriggerIn.{TriggerIn}
use Rattle.scm_model.specs.declared.steps.Kept.{Kept}
use Rattle.scm_model.specs.declared.steps.Step.{Step}
use Rattle.scm_model.specs.declared.steps.Step.TheVariants.{Call, ControlTaken, Report, Ended, LaunchFailed, Tick, Raised}
use Rattle.scm_model.specs.Changes.{configured_if, marked_if, new_service, with_moment}
use Rattle.scm_model.specs.Entries.{Entry}
use Rattle.scm_model.specs.Purge.{leaves}
use Rattle.scm_model.specs.Rows.{held_service}
use Rattle.scm_model.proofs.Found.{found_keeps}
use Rattle.service_listing.specs.Placed.{HasUuid}
use Rattle.start_plan.specs.Entered.{process_for, started_if}
use Rattle.start_plan.specs.Hosts.{host}
use Rattle.start_plan.specs.Settle.{settled}
use Rattle.start_plan.proofs.Enterings.{all_units}
use Rattle.start_plan.proofs.Keeps.{keeps_all}
use Rattle.scm_rules.specs.Change.{new_config}
use Rattle.scm_rules.specs.Change2.{config_at, level_config, trigger_of, zero_subtype}
use Rattle.scm_rules.specs.Create.{created_config, new_status}
use Rattle.scm_rules.specs.Failures.{failed_by}
use Rattle.scm_rules.specs.Histories.{state}
use Rattle.scm_rules.specs.Controls.{first_asked, unasked_if}
use Rattle.scm_rules.specs.Launches.{currents, fallen_if, with_fallen}
use Rattle.scm_rules.specs.Reports.{reported_if, reporting}
use Rattle.scm_rules.specs.Runs.{run_state}
use Rattle.scm_rules.specs.Steps.{at_moment, effect_of, finished, step_of}
use Rattle.scm_rules.specs.Verdicts.{call_of, done_of, told_refused, verdict}
use Rattle.scm_runs.proofs.Calls.{by_verdict}
use Rattle.scm_runs.proofs.Failing.{all_failing_rows, failing_rows}
use Rattle.scm_runs.proofs.Founds.{notify_apart, opened_keeps, secured_rows, started_keeps}
use Rattle.scm_runs.proofs.Frames.{finished_keeps}
use Rattle.scm_runs.proofs.Histories.{state_is}
use Rattle.scm_runs.proofs.Rows.{IsMild, falls_mildly, reports_mildly, starts_mildly, unasks_mildly}
use Rattle.scm_runs.proofs.Unasked.{raised_apart, ticked_apart}
use Rattle.scm_replies.specs.Sizes.{AsksWithUuids, GivesUuids, HasUuids, HaveUuids, IsWithUuid, IsWithUuids}
use Rattle.scm_replies.proofs.Listings.{held_some}
use Rattle.scm_rules.specs.Security.{asked_security, descriptor_in}

-- ## Configurations

abbrev OfUuids : Config → Type 0
OfUuids config = AllByRecursion HasUuid config.triggers

subtype_has : (given : Option (List ℕ)) → IfSome given (λ uuid. length uuid ≡ 16) → length (unwrap_or given zero_subtype) ≡ 16
subtype_has None has = refl
subtype_has (Some uuid) has = has

triggers_have : (list : List TriggerIn) → AllByRecursion IsWithUuid list → AllByRecursion HasUuid (map trigger_of list)
triggers_have [] all = tt
triggers_have (trigger ∷ list) all = (subtype_has trigger.subtype all.0, triggers_have list all.1)

level_has : (asked : Info) (old : Config) → GivesUuids asked → OfUuids old → OfUuids (config_at asked old)
level_has (info.Description text) old given has = has
level_has (info.Failure reset command None) old given has = has
level_has (info.Failure reset command (Some [])) old given has = has
level_has (info.Failure reset command (Some (action ∷ actions))) old given has = has
level_has (info.Delayed on) old given has = has
level_has (info.OnExit on) old given has = has
level_has (info.Triggers list) old given has = triggers_have list given
level_has (info.Other level) old given has = has
level_has (info.Nothing level) old given has = has

-- ## Services

abbrev AllHave : Flat → Type 0
AllHave f = All HasUuids f.services

-- a change that leaves configurations
mild_have : (change : Service → Service) (rows : List Service) → IsMild change → All HasUuids rows → All HasUuids (map change rows)
mild_have change rows mild all = All-map HasUuids change rows (λ k d lt. subst OfUuids (sym (mild.config (get_or rows k d))) (all k d lt))

marks_mildly : (number : ℕ) → IsMild (marked_if number)
marks_mildly number = record { number = λ row. refl; config = λ row. refl; kind = λ row. refl; security = λ row. refl }

configured_have : (number : ℕ) (config : Config) (rows : List Service) → OfUuids config → All HasUuids rows
    → All HasUuids (map (configured_if number config) rows)
configured_have number config rows new all =
    All-map HasUuids (configured_if number config) rows (λ k d lt. one (get_or rows k d) (all k d lt))
  where
    one : (row : Service) → HasUuids row → HasUuids (configured_if number config row)
    one row has =
        let with_config = record row { config = config; status = record row.status { kind = config.kind } } in
        elim (row.number == number) as (λ b. HasUuids (cond b with_config row)) [ true ↦ new | false ↦ has ]

-- what is found of them has them
found_have : (f : Flat) (caller handle : ℕ) (row : Service) → AllHave f → held_service f caller handle ≡ Some row → HasUuids row
found_have f caller handle row all is = subst (λ found. IfSome found HasUuids) is (held_some HasUuids f caller handle all)

-- ## Calls

done_have : (l : Limits) (f : Flat) (caller : ℕ) (asked : Request) → AsksWithUuids asked → AllHave f
    → AllHave (done_of l f caller asked).flat
done_have l f caller (request.Create new) given all =
    All-push HasUuids f.services (new_service f.next.service (created_config f new) (new_status new.kind)) all tt
done_have l f caller (request.Change change) given all =
    found_keeps (All HasUuids) (λ row. map (configured_if row.number (new_config f change row))) (held_service f caller change.handle)
    f.services all
    (λ row is. configured_have row.number (new_config f change row) f.services (found_have f caller change.handle row all is) all)
done_have l f caller (request.Change2 handle asked) given all =
    found_keeps (All HasUuids) (λ row. map (configured_if row.number (level_config asked row))) (held_service f caller handle)
    f.services all
    (λ row is. configured_have row.number (level_config asked row) f.services
    (level_has asked row.config given (found_have f caller handle row all is)) all)
done_have l f caller (request.Delete handle) given all =
    found_keeps (All HasUuids) (λ row. map (marked_if row.number)) (held_service f caller handle) f.services all
    (λ row is. mild_have (marked_if row.number) f.services (marks_mildly row.number) all)
done_have l f caller (request.SetStatus handle status) given all =
    failing_rows HasUuids (λ row failures last has. has) (failed_by status (held_service f caller handle)) _
    (found_keeps (All HasUuids) (λ row. map (reported_if row.number status)) (held_service f caller handle) f.services all
    (λ row is. mild_have (reported_if row.number status) f.services (reports_mildly row.number status) all))
done_have l f caller (request.SetSecurity handle parts bytes) given all =
    secured_rows HasUuids (λ row security has. has) (held_service f caller handle)
    (asked_security f caller handle parts (descriptor_in bytes)) f.services all
done_have l f caller (request.OpenService handle name access) given all = opened_keeps AllHave f caller name access all (λ row is. all)
done_have l f caller (request.Start handle words) given all = started_keeps AllHave f caller handle words all (λ row is. all)
done_have l f caller (request.Notify handle mask) given all = notify_apart AllHave f caller handle mask (λ rows next. all)
done_have l f caller asked given all = all

call_have : (l : Limits) (f : Flat) (caller : ℕ) (asked : Request) (append : Kept) → AsksWithUuids asked → AllHave f
    → AllHave (call_of l f caller asked append).flat
call_have l f caller asked append given all =
    let code = verdict l f caller asked append in
    by_verdict (λ r. AllHave r.flat) code (told_refused f caller asked code) f (done_of l f caller asked)
    (λ e. done_have l f caller asked given all) (λ e. all)

-- ## Steps

effect_have : (l : Limits) (f : Flat) (moment : ℕ) (step : Step) → IsWithUuids step → AllHave f
    → AllHave (effect_of l (at_moment f moment step) step).flat
effect_have l f moment (Call caller asked append) given all = call_have l (with_moment f moment) caller asked append given all
effect_have l f moment (LaunchFailed process code) given all = mild_have (fallen_if process code) f.services (falls_mildly process code) all
effect_have l f moment (Report process service status) given all =
    failing_rows HasUuids (λ row failures last has. has) (failed_by status (reporting (with_moment f moment) process service)) _
    (found_keeps (All HasUuids) (λ row. map (reported_if row.number status)) (reporting f process service) f.services all
    (λ row is. mild_have (reported_if row.number status) f.services (reports_mildly row.number status) all))
effect_have l f moment (Ended process) given all =
    let g = with_moment f moment in
    all_failing_rows HasUuids (λ row failures last has. has) (currents process f.services) (with_fallen g process ERROR_PROCESS_ABORTED)
    (mild_have (fallen_if process ERROR_PROCESS_ABORTED) f.services (falls_mildly process ERROR_PROCESS_ABORTED) all)
effect_have l f moment (ControlTaken process) given all =
    found_keeps (All HasUuids) (λ row. map (unasked_if row.number)) (first_asked f process) f.services all
    (λ row is. mild_have (unasked_if row.number) f.services (unasks_mildly row.number) all)
effect_have l f moment Tick given all = ticked_apart AllHave l (with_moment f moment) all
effect_have l f moment (Raised caller subtype) given all = raised_apart AllHave l (with_moment f moment) caller subtype all
effect_have l f moment step given all = all

settled_have : (l : Limits) (f : Flat) → AllHave f → AllHave (settled l f)
settled_have l f all = (keeps_all l AllHave (λ plan. Unit {0}) (record {
  enters = λ g plan n words entry has. mild_have (started_if n (process_for g (host g n))) g.services
      (starts_mildly n (process_for g (host g n))) has;
  tries = λ g plan n entry q. tt;
  drops = λ plan n rest code q. tt;
  meets = λ plan services q. tt;
}) f f.plans all (all_units f.plans)).flat

step_have : (l : Limits) (f : Flat) (moment : ℕ) (step : Step) → IsWithUuids step → AllHave f → AllHave (step_of l f moment step).flat
step_have l f moment step given all =
    let done = effect_of l (at_moment f moment step) step in
    let ends = (finished (settled l done.flat) done.answer).flat in
    let still = settled_have l done.flat (effect_have l f moment step given all) in
    let all_end = finished_keeps AllHave (λ g plans p. p) (settled l done.flat) done.answer still in
    All-filter (λ (row : Service). not (leaves ends.handles row)) HasUuids ends.services all_end

run_have : (l : Limits) (f : Flat) (front rest : List Entry) → AllByRecursion (λ (e : Entry). IsWithUuids e.1) (front ++ rest)
    → AllHave f → AllHave (run_state l f front)
run_have l f [] rest given all = all
run_have l f (e ∷ front) rest given all = run_have l (step_of l f e.0 e.1).flat front rest given.1 (step_have l f e.0 e.1 given.0 all)

-- so it is after every front of a history
pub uuids_front : (l : Limits) (f : Flat) (es front rest : List Entry) → HaveUuids f es → es ≡ front ++ rest → AllHave (state l f front)
uuids_front l f es front rest have split =
    let steps = subst (λ all. AllByRecursion (λ (e : Entry). IsWithUuids e.1) all) split have.steps in
    subst AllHave (sym (state_is l f front)) (run_have l f front rest steps have.services)
