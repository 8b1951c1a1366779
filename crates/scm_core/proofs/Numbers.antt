-- A step gives few numbers, and adds a service only where one more may be.
use Rattle.std.proofs.Common.{ℕ, ◌≡◌, ◌∙◌, ◌+◌, ◌*◌, ◌<◌, ◌≤◌, ◌^◌, ◌==◌, true, false, cond, not, List, [], ◌∷◌, ◌++◌, Option, None}
use Rattle.std.proofs.Common.{Some, filter, length, map, length-append, refl, subst, ap, arith, eqb-true}
use Rattle.std.specs.Prelude.{unwrap_or}
use Rattle.std.proofs.lemmas.Bool.Decides.{nat_tests}
use Rattle.std.proofs.lemmas.List.{length-map}
use Rattle.scm_model.specs.declared.flat.Action.{Action}
use Rattle.scm_model.specs.declared.flat.Due.{Due}
use Rattle.scm_model.specs.declared.flat.DueKind.{DueKind}
use Rattle.scm_model.specs.declared.flat.DueKind.TheVariants as dues
use Rattle.scm_model.specs.declared.flat.Flat.{Flat}
use Rattle.scm_model.specs.declared.flat.Limits.{Limits}
use Rattle.scm_model.specs.declared.flat.Next.{Next}
use Rattle.scm_model.specs.declared.flat.Service.{Service}
use Rattle.scm_model.specs.declared.calls.Reply.{Reply}
use Rattle.scm_model.specs.declared.calls.Request.{Request}
use Rattle.scm_model.specs.declared.calls.Request.TheVariants as request
use Rattle.scm_model.specs.declared.flat.HandleKind.TheVariants as kinds
use Rattle.scm_model.specs.declared.steps.Answer.{Answer}
use Rattle.scm_model.specs.declared.steps.Answer.TheVariants as answer
use Rattle.scm_model.specs.declared.steps.Kept.{Kept}
use Rattle.scm_model.specs.declared.steps.Step.{Step}
use Rattle.scm_model.specs.declared.steps.Step.TheVariants.{Joined, Call, EndStart, LaunchTaken, Launched, LaunchFailed, Report, Ended}
use Rattle.scm_model.specs.declared.steps.Step.TheVariants.{ControlTaken, Tick, Raised, Gone, NoMemory}
use Rattle.scm_model.specs.declared.codes.TheConstants.{ERROR_PROCESS_ABORTED, SERVICE_CONTROL_STOP, SERVICE_TRIGGER_ACTION_SERVICE_START}
use Rattle.scm_model.specs.Changes.{configured_if, marked_if, new_service, with_handle, with_moment}
use Rattle.scm_model.specs.Found.{if_found}
use Rattle.scm_model.specs.Outcomes.{CallResult}
use Rattle.scm_model.specs.Purge.{leaves, purged}
use Rattle.scm_model.specs.Refused.{answered}
use Rattle.scm_model.specs.Rows.{held_service, named, service_of}
use Rattle.scm_model.proofs.Found.{found_keeps}
use Rattle.failure_actions.specs.Failing.{due_action, on_failure}
use Rattle.start_plan.specs.Decided.{code_of}
use Rattle.start_plan.specs.Entered.{HasNumbers as HasProcessNumbers, is_shared_by, started_if, wanted_process, with_entered}
use Rattle.start_plan.specs.Hosts.{host}
use Rattle.start_plan.specs.Moves.{is_full}
use Rattle.start_plan.specs.Settle.{is_due_still, settle_all, settled, stays}
use Rattle.start_plan.proofs.Hosts.{entered_keeps}
use Rattle.start_plan.proofs.Keeps.{Keeps, keeps_flat}
use Rattle.start_triggers.specs.Triggers.{matching}
use Rattle.scm_rules.specs.Change.{new_config}
use Rattle.scm_rules.specs.Controls.{controlled_if, first_asked, order_to, unasked_if}
use Rattle.scm_rules.specs.Create.{create_verdict, created_config, new_status}
use Rattle.scm_rules.specs.Due.{beside, next_due, with_due}
use Rattle.scm_rules.specs.Failures.{all_failed, counted_if, failed_by, moment_after, with_action, with_failure}
use Rattle.scm_rules.specs.Change2.{level_config}
use Rattle.scm_rules.specs.Launches.{currents, fallen_if, is_by, with_fallen}
use Rattle.scm_rules.specs.Notify.{registered, watched}
use Rattle.scm_rules.specs.OpenService.{open_service_rights, with_opened}
use Rattle.scm_rules.specs.Raise.{all_triggered, gets_stop, raised, raise_verdict, triggered, with_stop}
use Rattle.scm_rules.specs.Reports.{reported_if, reporting}
use Rattle.scm_rules.specs.Security.{asked_security, descriptor_in, secured_if, secured_in}
use Rattle.scm_rules.specs.Start.{deadline_at, ended, with_start}
use Rattle.scm_rules.specs.Steps.{at_moment, effect_of, finished, left_by, step_of}
use Rattle.scm_rules.specs.Ticks.{can_run, can_start, fire, fired, ticked, with_command, with_restart, with_wanted_command, without_due}
use Rattle.scm_rules.specs.Verdicts.{call_of, done_of, told_refused, verdict}
use Rattle.scm_rules.proofs.Dues.{ticked_keeps}
use Rattle.scm_tables.specs.Failed.{taken_by_service}
use Rattle.scm_tables.specs.Firing.{begins_plan, one_if, starts_in}
use Rattle.scm_tables.proofs.Fired.{first_leaves, found_restarts, not_counted, restarts}
use Rattle.scm_tables.proofs.Placed.{fewer, fewer_pass}
use Rattle.scm_arms_service.proofs.Judging.{created_few}
use Rattle.scm_core.specs.Room.{HasNumbers}

-- what a state has of what a step may bring more of
record Counted : Type 0 where
  next : Next
  starts : ℕ
  services : ℕ

abbrev counted : Flat → Counted
counted f = record { next = f.next; starts = starts_in f.dues; services = length f.services }

-- with the starts that stand, of plans as many numbers as there are services and two, and of what becomes due twice as many; of processes
-- as
-- many as may be listed; of all else one
record NumbersRise (l : Limits) (old new : Counted) : Type 0 where
  handle : new.next.handle ≤ old.next.handle + 1
  caller : new.next.caller ≤ old.next.caller + 1
  service : new.next.service ≤ old.next.service + 1
  plan : new.next.plan + new.starts ≤ old.next.plan + old.starts + (old.services + 2)
  due : new.next.due + new.starts ≤ old.next.due + old.starts + (2 * old.services + 2)
  registration : new.next.registration ≤ old.next.registration + 1
  process : new.next.process ≤ old.next.process + l.processes
  few : old.services ≤ l.services → new.services ≤ l.services

abbrev Rise : Limits → Flat → Flat → Type 0
Rise l old new = NumbersRise l (counted old) (counted new)

-- at most one number of a handle, a caller, a service and a registration each
abbrev OneMore : Next → Next → Type 0
OneMore old new =
    (new.handle ≤ old.handle + 1) × (new.caller ≤ old.caller + 1) × (new.service ≤ old.service + 1)
    × (new.registration ≤ old.registration + 1)

-- none of them
abbrev NoMore : Next → Next → Type 0
NoMore old new =
    (new.handle ≡ old.handle) × (new.caller ≡ old.caller) × (new.service ≡ old.service) × (new.registration ≡ old.registration)

no_more : (n : Next) → NoMore n n
no_more n = (refl, refl, refl, refl)

no_more_after : (a b c : Next) → NoMore b c → NoMore a b → NoMore a c
no_more_after a b c after before = (after.0 ∙ before.0, after.1 ∙ before.1, after.2 ∙ before.2, after.3 ∙ before.3)

-- no other number is given
one : (l : Limits) (old new : Flat) → OneMore old.next new.next → new.next.plan ≡ old.next.plan → new.next.due ≡ old.next.due
    → new.next.process ≡ old.next.process → starts_in new.dues ≡ starts_in old.dues
    → (length old.services ≤ l.services → length new.services ≤ l.services) → Rise l old new
one l old new more plan due process starts few = record {
  handle = more.0;
  caller = more.1;
  service = more.2;
  plan = omega (arith, plan, starts);
  due = omega (arith, due, starts);
  registration = more.3;
  process = omega (arith, process);
  few = few;
}

-- no number is given
same : (l : Limits) (old new : Flat) → new.next ≡ old.next → new.dues ≡ old.dues → length new.services ≡ length old.services
    → Rise l old new
same l old new e d s =
    one l old new (
      omega (arith, ap (λ (n : Next). n.handle) e),
      omega (arith, ap (λ (n : Next). n.caller) e),
      omega (arith, ap (λ (n : Next). n.service) e),
      omega (arith, ap (λ (n : Next). n.registration) e),
    ) (ap (λ (n : Next). n.plan) e) (ap (λ (n : Next). n.due) e) (ap (λ (n : Next). n.process) e) (ap starts_in d)
    (λ few. omega (arith, few, s))

-- ## Failures

-- so many failures give at most as many numbers, of rows that may be starts
record Failed (count : ℕ) (f g : Counted) : Type 0 where
  others : NoMore f.next g.next
  plan : g.next.plan ≡ f.next.plan
  due : g.next.due ≤ f.next.due + count
  process : g.next.process ≡ f.next.process
  starts : g.starts ≤ f.starts + count
  services : g.services ≡ f.services

abbrev Fails : ℕ → Flat → Flat → Type 0
Fails count f g = Failed count (counted f) (counted g)

fails_nothing : (count : ℕ) (f : Flat) → Fails count f f
fails_nothing count f = record {
  others = no_more f.next;
  plan = refl;
  due = omega arith;
  process = refl;
  starts = omega arith;
  services = refl;
}

one_row : (rows : List Due) (due : Due) → starts_in (rows ++ due ∷ []) ≤ starts_in rows + 1
one_row [] due = elim (begins_plan due.kind) as (λ b. length (cond b (due ∷ []) []) ≤ 0 + 1) [ true ↦ omega arith | false ↦ omega arith ]
one_row (row ∷ rows) due =
    elim (begins_plan row.kind) as (λ b. length (cond b (row ∷ filter (λ (d : Due). begins_plan d.kind) (rows ++ due ∷ []))
    (filter (λ (d : Due). begins_plan d.kind) (rows ++ due ∷ [])))
    ≤ length (cond b (row ∷ filter (λ (d : Due). begins_plan d.kind) rows) (filter (λ (d : Due). begins_plan d.kind) rows)) + 1)
    [ true ↦ omega (arith, one_row rows due) | false ↦ omega (arith, one_row rows due) ]

fewer_starts : (kind : DueKind) (rows : List Due) → starts_in (beside kind rows) ≤ starts_in rows
fewer_starts (dues.Deadline plan) rows = omega arith
fewer_starts (dues.Start service) rows = fewer_pass (λ (d : Due). begins_plan d.kind) _ rows
fewer_starts (dues.Command service) rows = fewer_pass (λ (d : Due). begins_plan d.kind) _ rows
fewer_starts (dues.Reboot service) rows = fewer_pass (λ (d : Due). begins_plan d.kind) _ rows

of_due : (f : Flat) (moment : ℕ) (kind : DueKind) → Fails 1 f (with_due f moment kind)
of_due f moment kind = record {
  others = no_more f.next;
  plan = refl;
  due = omega arith;
  process = refl;
  starts = omega (
    arith,
    one_row (beside kind f.dues) (record { moment = moment; number = f.next.due; kind = kind }),
    fewer_starts kind f.dues,
  );
  services = refl;
}

of_action : (number : ℕ) (f : Flat) (action : Option Action) → Fails 1 f (if_found (with_action number) action f)
of_action number f action =
    found_keeps (Fails 1 f) (with_action number) action f (fails_nothing 1 f)
    (λ found is. found_keeps (Fails 1 f) (λ kind g. with_due g (moment_after g.moment found.delay) kind) (due_action number found) f
    (fails_nothing 1 f) (λ kind at. of_due f (moment_after f.moment found.delay) kind))

of_failure : (row : Service) (f : Flat) → Fails 1 f (with_failure row f)
of_failure row f =
    let counting = counted_if row.number f.moment in
    subst (λ n. Failed 1 (record (counted f) { services = n }) (counted (with_failure row f))) (length-map f.services counting)
    (of_action row.number (record f { services = map counting f.services })
    (on_failure row.config row.failures row.last_failure f.moment).action)

of_found : (found : Option Service) (f : Flat) → Fails 1 f (if_found with_failure found f)
of_found found f = found_keeps (Fails 1 f) with_failure found f (fails_nothing 1 f) (λ row is. of_failure row f)

-- one failure after another
of_all_failed : (rows : List Service) (f : Flat) → Fails (length rows) f (all_failed rows f)
of_all_failed [] f = fails_nothing (length {A = Service} []) f
of_all_failed (row ∷ rows) f =
    let g = with_failure row f in
    let first = of_failure row f in
    let rest = of_all_failed rows g in
    record {
      others = no_more_after f.next g.next (all_failed rows g).next rest.others first.others;
      plan = rest.plan ∙ first.plan;
      due = omega (arith, rest.due, first.due);
      process = rest.process ∙ first.process;
      starts = omega (arith, rest.starts, first.starts);
      services = rest.services ∙ first.services;
    }

-- after a change that gives no number
failing : (l : Limits) (count : ℕ) (old f g : Flat) → count ≤ length old.services + 1 → f.next ≡ old.next → f.dues ≡ old.dues
    → length f.services ≡ length old.services → Fails count f g
    → Rise l old g
failing l count old f g most next rows services r =
    let starts = ap starts_in rows in
    record {
      handle = omega (arith, r.others.0, ap (λ n. n.handle) next);
      caller = omega (arith, r.others.1, ap (λ n. n.caller) next);
      service = omega (arith, r.others.2, ap (λ n. n.service) next);
      plan = omega (arith, most, r.plan, ap (λ n. n.plan) next, r.starts, starts);
      due = omega (arith, most, r.due, ap (λ n. n.due) next, r.starts, starts);
      registration = omega (arith, r.others.3, ap (λ n. n.registration) next);
      process = omega (arith, r.process, ap (λ n. n.process) next);
      few = λ few. omega (arith, few, r.services, services);
    }

-- ## Calls

of_answered : (l : Limits) (code : ℕ) (told : Reply) (f : Flat) (done : CallResult) → ((code == 0) ≡ true → Rise l f done.flat)
    → Rise l f (answered code told f done).flat
of_answered l code told f done rises =
    elim (code == 0) as (λ b. ((code == 0) ≡ b → Rise l f (cond {A = CallResult} b done (record { reply = told; flat = f })).flat))
    [ true ↦ rises | false ↦ λ e. same l f f refl refl refl ] refl

found_length : (change : Service → Service → Service) (found : Option Service) (rows : List Service)
    → length (if_found (λ (row : Service). map (change row)) found rows) ≡ length rows
found_length change None rows = refl
found_length change (Some row) rows = length-map rows (change row)

secured_length : (found : Option Service) (asked : Option (List ℕ)) (rows : List Service)
    → length (if_found (secured_in found) asked rows) ≡ length rows
secured_length found None rows = refl
secured_length found (Some security) rows = found_length (λ row. secured_if row.number security) found rows

of_done : (l : Limits) (f : Flat) (caller : ℕ) (asked : Request) (append : Kept) → (verdict l f caller asked append == 0) ≡ true
    → Rise l f (done_of l f caller asked).flat
of_done l f caller (request.Close handle) append ok = same l f (done_of l f caller (request.Close handle)).flat refl refl refl
of_done l f caller (request.Control handle control) append ok = same l f
    (done_of l f caller (request.Control handle control)).flat refl refl refl
of_done l f caller (request.Delete handle) append ok =
    same l f (done_of l f caller (request.Delete handle)).flat refl refl
    (found_length (λ row. marked_if row.number) (held_service f caller handle) f.services)
of_done l f caller (request.Lock handle) append ok = one l f (done_of l f caller (request.Lock handle)).flat
    (omega arith, omega arith, omega arith, omega arith) refl refl refl refl (λ few. few)
of_done l f caller (request.SetStatus handle status) append ok =
    let service = held_service f caller handle in
    let before = taken_by_service f service status in
    failing l 1 f before (done_of l f caller (request.SetStatus handle status)).flat (omega arith) refl refl
    (found_length (λ row. reported_if row.number status) service f.services) (of_found (failed_by status service) before)
of_done l f caller (request.Unlock handle) append ok = same l f (done_of l f caller (request.Unlock handle)).flat refl refl refl
of_done l f caller (request.QueryStatus handle) append ok = same l f f refl refl refl
of_done l f caller (request.Change change) append ok =
    same l f (done_of l f caller (request.Change change)).flat refl refl
    (found_length (λ row. configured_if row.number (new_config f change row)) (held_service f caller change.handle) f.services)
of_done l f caller (request.Change2 handle asked) append ok =
    same l f (done_of l f caller (request.Change2 handle asked)).flat refl refl
    (found_length (λ row. configured_if row.number (level_config asked row)) (held_service f caller handle) f.services)
of_done l f caller (request.Create new) append ok =
    let few = created_few l f caller new append (eqb-true (create_verdict l f caller new append) 0 ok) in
    one l f (done_of l f caller (request.Create new)).flat (omega arith, omega arith, omega arith, omega arith) refl refl refl refl
    (λ held. omega (
      arith,
      few,
      length-append f.services (new_service f.next.service (created_config f new) (new_status new.kind) ∷ []),
    ))
of_done l f caller (request.OpenManager database access) append ok = one l f (done_of l f caller (request.OpenManager database access)).flat
    (omega arith, omega arith, omega arith, omega arith) refl refl refl refl (λ few. few)
of_done l f caller (request.OpenService handle name access) append ok =
    found_keeps (Rise l f) (with_opened caller (open_service_rights f caller name access)) (named f name) f
    (same l f f refl refl refl)
    (λ row is. one l f (with_opened caller (open_service_rights f caller name access) row f)
    (omega arith, omega arith, omega arith, omega arith) refl refl refl refl (λ few. few))
of_done l f caller (request.QueryConfig handle size) append ok = same l f f refl refl refl
of_done l f caller (request.QueryLock handle size) append ok = same l f f refl refl refl
of_done l f caller (request.Start handle words) append ok =
    found_keeps (Rise l f) (with_start caller (unwrap_or words [])) (held_service f caller handle) f (same l f f refl refl refl)
    (λ row is.
    let starts = not_counted begins_plan f.dues (record {
      moment = deadline_at f.moment;
      number = f.next.due;
      kind = dues.Deadline f.next.plan;
    }) refl in
    record {
      handle = omega arith;
      caller = omega arith;
      service = omega arith;
      plan = omega (arith, starts);
      due = omega (arith, starts);
      registration = omega arith;
      process = omega arith;
      few = λ few. few;
    })
of_done l f caller (request.DisplayName handle name size) append ok = same l f f refl refl refl
of_done l f caller (request.KeyName handle name size) append ok = same l f f refl refl refl
of_done l f caller (request.EnumDependents handle states size) append ok = same l f f refl refl refl
of_done l f caller (request.EnumServices handle kinds states size resume) append ok = same l f f refl refl refl
of_done l f caller (request.QueryConfig2 handle level size) append ok = same l f f refl refl refl
of_done l f caller (request.QueryStatusEx handle level size) append ok = same l f f refl refl refl
of_done l f caller (request.QuerySecurity handle parts size) append ok = same l f f refl refl refl
of_done l f caller (request.SetSecurity handle parts bytes) append ok =
    same l f (done_of l f caller (request.SetSecurity handle parts bytes)).flat refl refl
    (secured_length (held_service f caller handle) (asked_security f caller handle parts (descriptor_in bytes)) f.services)
of_done l f caller (request.Notify handle mask) append ok =
    elim (watched f caller handle) as (λ of. Rise l f (with_handle (registered f caller handle mask of) caller
    (kinds.Notify f.next.registration) 0)) [
      | None ↦ one l f (with_handle (registered f caller handle mask None) caller (kinds.Notify f.next.registration) 0)
          (omega arith, omega arith, omega arith, omega arith) refl refl refl refl (λ few. few)
      | Some of ↦ one l f (with_handle (registered f caller handle mask (Some of)) caller (kinds.Notify f.next.registration) 0)
          (omega arith, omega arith, omega arith, omega arith) refl refl refl refl (λ few. few)
    ]
of_done l f caller (request.GetNotify handle) append ok = same l f (done_of l f caller (request.GetNotify handle)).flat refl refl refl
of_done l f caller (request.CloseNotify handle) append ok = same l f (done_of l f caller (request.CloseNotify handle)).flat refl refl refl

of_call : (l : Limits) (f : Flat) (caller : ℕ) (asked : Request) (append : Kept) → Rise l f (call_of l f caller asked append).flat
of_call l f caller asked append =
    of_answered l (verdict l f caller asked append) (told_refused f caller asked (verdict l f caller asked append)) f
    (done_of l f caller asked) (of_done l f caller asked append)

-- ## What is due

-- plans rise as starts leave, of which so many have left already, and processes as commands run
record Ticked (l : Limits) (more : ℕ) (f g : Counted) (before listed : ℕ) : Type 0 where
  others : NoMore f.next g.next
  plan : g.next.plan + g.starts + more ≤ f.next.plan + f.starts
  due : g.next.due + g.starts + more ≤ f.next.due + f.starts
  alike : g.next.process + before ≡ f.next.process + listed
  process : g.next.process ≤ f.next.process + l.processes
  services : g.services ≡ f.services

abbrev Ticks : Limits → ℕ → Flat → Flat → Type 0
Ticks l more f g = Ticked l more (counted f) (counted g) (length f.processes) (length g.processes)

restart_next : (found : Option Service) (f : Flat) → NoMore f.next (if_found with_restart found f).next
restart_next None f = no_more f.next
restart_next (Some row) f =
    elim (can_start f row) as (λ b. NoMore f.next (cond b (with_start 0 [] row f) f).next)
    [ true ↦ no_more f.next | false ↦ no_more f.next ]

few_run : (l : Limits) (f : Flat) (row : Service) → can_run l f row ≡ true → length f.processes < l.processes
few_run l f row e = grind (arith, nat_tests)

of_command : (l : Limits) (f g : Flat) (found : Option Service) → Ticks l 0 f g → Ticks l 0 f (if_found (with_command l) found g)
of_command l f g found r =
    found_keeps (λ h. Ticks l 0 f h) (with_command l) found g r
    (λ row is. elim (can_run l g row) as (λ b. can_run l g row ≡ b → Ticks l 0 f (cond b (with_wanted_command row.config.command g) g)) [
      | true ↦ λ e. record {
        others = r.others;
        plan = r.plan;
        due = r.due;
        alike = omega (arith, r.alike, length-append g.processes (wanted_process g.next.process 0 false ∷ []));
        process = omega (arith, r.alike, few_run l g row e);
        services = r.services;
      }
      | false ↦ λ e. r
    ] refl)

-- a row that has left gives a number where it is a start
of_kind : (l : Limits) (f g : Flat) (kind : DueKind) → Ticks l (one_if (begins_plan kind)) f g → Ticks l 0 f (fire l kind g)
of_kind l f g (dues.Deadline plan) r = r
of_kind l f g (dues.Start service) r =
    let b = found_restarts (service_of g service) g in
    record {
      others = no_more_after f.next g.next (fire l (dues.Start service) g).next (restart_next (service_of g service) g) r.others;
      plan = omega (arith, r.plan, b.plans, b.starts);
      due = omega (arith, r.due, b.due, b.starts);
      alike = omega (arith, r.alike, b.process, ap (λ ps. length ps) b.listed);
      process = omega (arith, r.process, b.process);
      services = ap (λ (rs : List Service). length rs) b.services ∙ r.services;
    }
of_kind l f g (dues.Command service) r = of_command l f g (service_of g service) r
of_kind l f g (dues.Reboot service) r = r

of_row : (l : Limits) (f g : Flat) (row : Due) → next_due g ≡ Some row → Ticks l 0 f g → Ticks l 0 f (fired l row g)
of_row l f g row is r =
    let left = first_leaves begins_plan g row is in
    of_kind l f (without_due row.number g) row.kind
    (record {
      others = r.others;
      plan = omega (arith, r.plan, left);
      due = omega (arith, r.due, left);
      alike = r.alike;
      process = r.process;
      services = r.services;
    })

of_tick : (l : Limits) (f : Flat) → Ticks l 0 f (ticked l f)
of_tick l f =
    ticked_keeps (λ g. Ticks l 0 f g) l (of_row l f) f
    (record {
      others = no_more f.next;
      plan = omega arith;
      due = omega arith;
      alike = refl;
      process = omega arith;
      services = refl;
    })

-- ## A raise

-- each service may give a number of a plan, and one of its deadline
record HasRaised (count : ℕ) (f g : Counted) : Type 0 where
  others : NoMore f.next g.next
  plan : g.next.plan ≤ f.next.plan + count
  due : g.next.due ≤ f.next.due + count
  process : g.next.process ≡ f.next.process
  starts : g.starts ≡ f.starts
  services : g.services ≡ f.services

abbrev Raises : ℕ → Flat → Flat → Type 0
Raises count f g = HasRaised count (counted f) (counted g)

raises_more : (count most : ℕ) (f g : Flat) → count ≤ most → Raises count f g → Raises most f g
raises_more count most f g few r = record {
  others = r.others;
  plan = omega (arith, r.plan, few);
  due = omega (arith, r.due, few);
  process = r.process;
  starts = r.starts;
  services = r.services;
}

of_triggered : (l : Limits) (count : ℕ) (f g : Flat) (row : Service) (action : ℕ) → Raises count f g
    → Raises (1 + count) f (triggered l row action g)
of_triggered l count f g row action r =
    elim (action == SERVICE_TRIGGER_ACTION_SERVICE_START) as (λ b. Raises (1 + count) f (cond b (with_restart row g) (with_stop l row g))) [
      | true ↦
          let b = restarts row g in
          record {
            others = no_more_after f.next g.next (with_restart row g).next (restart_next (Some row) g) r.others;
            plan = omega (arith, r.plan, b.plans);
            due = omega (arith, r.due, b.due);
            process = b.process ∙ r.process;
            starts = b.starts ∙ r.starts;
            services = ap (λ (rs : List Service). length rs) b.services ∙ r.services;
          }
      | false ↦
          let m = raises_more count (1 + count) f g (omega arith) r in
          elim (gets_stop l g row) as (λ b. Raises (1 + count) f (cond b
          (record g { processes = map (controlled_if l.controls row.process (order_to row.number SERVICE_CONTROL_STOP)) g.processes }) g))
          [ true ↦ m | false ↦ m ]
    ]

of_all : (l : Limits) (subtype : List ℕ) (rows : List Service) (count : ℕ) (f g : Flat) → Raises count f g
    → Raises (length rows + count) f (all_triggered l subtype rows g)
of_all l subtype [] count f g r = raises_more count (length {A = Service} [] + count) f g (omega arith) r
of_all l subtype (row ∷ rows) count f g r =
    let one = found_keeps (λ h. Raises (1 + count) f h) (triggered l row) (matching row.config subtype) g
    (raises_more count (1 + count) f g (omega arith) r) (λ action is. of_triggered l count f g row action r) in
    let after = if_found (triggered l row) (matching row.config subtype) g in
    raises_more (length rows + (1 + count)) (length (row ∷ rows) + count) f (all_triggered l subtype rows after) (omega arith)
    (of_all l subtype rows (1 + count) f after one)

of_raise : (l : Limits) (f : Flat) (caller : ℕ) (subtype : List ℕ) → Rise l f (raised l f caller subtype)
of_raise l f caller subtype =
    elim (raise_verdict f caller == 0) as (λ b. Rise l f (cond b (all_triggered l subtype f.services f) f)) [
      | true ↦
          let r = of_all l subtype f.services 0 f f (record {
            others = no_more f.next;
            plan = omega arith;
            due = omega arith;
            process = refl;
            starts = refl;
            services = refl;
          }) in
          record {
            handle = omega (arith, r.others.0);
            caller = omega (arith, r.others.1);
            service = omega (arith, r.others.2);
            plan = omega (arith, r.plan, r.starts);
            due = omega (arith, r.due, r.starts);
            registration = omega (arith, r.others.3);
            process = omega (arith, r.process);
            few = λ few. omega (arith, few, r.services);
          }
      | false ↦ same l f f refl refl refl
    ]

-- ## Steps

of_effect : (l : Limits) (f : Flat) (step : Step) → Rise l f (effect_of l f step).flat
of_effect l f (Joined principal) = one l f (effect_of l f (Joined principal)).flat
    (omega arith, omega arith, omega arith, omega arith) refl refl refl refl (λ few. few)
of_effect l f (Call caller asked append) = of_call l f caller asked append
of_effect l f (EndStart caller plan) = same l f (effect_of l f (EndStart caller plan)).flat refl refl refl
of_effect l f LaunchTaken = same l f (effect_of l f LaunchTaken).flat refl refl refl
of_effect l f (Launched process pid) = same l f (effect_of l f (Launched process pid)).flat refl refl refl
of_effect l f (LaunchFailed process code) = same l f (effect_of l f (LaunchFailed process code)).flat refl refl
    (length-map f.services (fallen_if process code))
of_effect l f (Report process service status) =
    let found = reporting f process service in
    let before = taken_by_service f found status in
    failing l 1 f before (effect_of l f (Report process service status)).flat (omega arith) refl refl
    (found_length (λ row. reported_if row.number status) found f.services) (of_found (failed_by status found) before)
of_effect l f (Ended process) =
    let rows = currents process f.services in
    let before = with_fallen f process ERROR_PROCESS_ABORTED in
    failing l (length rows) f before (effect_of l f (Ended process)).flat (omega (arith, fewer (is_by process) f.services)) refl refl
    (length-map f.services (fallen_if process ERROR_PROCESS_ABORTED)) (of_all_failed rows before)
of_effect l f (ControlTaken process) = same l f (effect_of l f (ControlTaken process)).flat refl refl
    (found_length (λ row. unasked_if row.number) (first_asked f process) f.services)
of_effect l f Tick =
    let r = of_tick l f in
    record {
      handle = omega (arith, r.others.0);
      caller = omega (arith, r.others.1);
      service = omega (arith, r.others.2);
      plan = omega (arith, r.plan);
      due = omega (arith, r.due);
      registration = omega (arith, r.others.3);
      process = r.process;
      few = λ few. omega (arith, few, r.services);
    }
of_effect l f (Raised caller subtype) = of_raise l f caller subtype
of_effect l f (Gone caller) = same l f (effect_of l f (Gone caller)).flat refl refl refl
of_effect l f (NoMemory caller) = same l f f refl refl refl

-- at the step's moment
at_keeps : (P : Flat → Type 0) (f : Flat) (moment : ℕ) (step : Step) → P f → P (with_moment f moment) → P (at_moment f moment step)
at_keeps P f moment (NoMemory caller) still moved = still
at_keeps P f moment (Joined principal) still moved = moved
at_keeps P f moment (Call caller asked append) still moved = moved
at_keeps P f moment (EndStart caller plan) still moved = moved
at_keeps P f moment LaunchTaken still moved = moved
at_keeps P f moment (Launched process pid) still moved = moved
at_keeps P f moment (LaunchFailed process code) still moved = moved
at_keeps P f moment (Report process service status) still moved = moved
at_keeps P f moment (Ended process) still moved = moved
at_keeps P f moment (ControlTaken process) still moved = moved
at_keeps P f moment Tick still moved = moved
at_keeps P f moment (Raised caller subtype) still moved = moved
at_keeps P f moment (Gone caller) still moved = moved

-- the next numbers can still be given at the step's moment
pub numbers_at : (f g : Flat) (moment : ℕ) (step : Step) → g ≡ at_moment f moment step → HasNumbers f → HasNumbers g
numbers_at f g moment step e has =
    rw e (at_keeps HasNumbers f moment step has
    (record {
      handle = has.handle;
      caller = has.caller;
      service = has.service;
      plan = has.plan;
      due = has.due;
      registration = has.registration;
      starts = record { plans = has.starts.plans; dues = has.starts.dues };
    }))

pub processes_at : (f g : Flat) (moment : ℕ) (step : Step) → g ≡ at_moment f moment step → f.next.process ≤ 2 ^ 62 → g.next.process ≤ 2 ^ 62
processes_at f g moment step e few = rw e (at_keeps (λ (x : Flat). x.next.process ≤ 2 ^ 62) f moment step few few)

-- ## Settling

-- numbers of processes and listed processes rise alike, up to the limit, and no other number is given
record Settled (l : Limits) (f g : Counted) (before listed : ℕ) : Type 0 where
  alike : g.next.process + before ≡ f.next.process + listed
  bounded : g.next.process ≤ f.next.process + l.processes
  others : NoMore f.next g.next
  plan : g.next.plan ≡ f.next.plan
  due : g.next.due ≡ f.next.due
  starts : g.starts ≤ f.starts
  services : g.services ≡ f.services

abbrev Settles : Limits → Flat → Flat → Type 0
Settles l f g = Settled l (counted f) (counted g) (length f.processes) (length g.processes)

few_listed : (l : Limits) (f : Flat) → is_full l f ≡ false → length f.processes < l.processes
few_listed l f e = grind (arith, nat_tests)

-- a service is entered, by a new process, where one more may be listed, or by its host
entered_settles : (l : Limits) (f g : Flat) (n : ℕ) (words : List (List ℕ)) → (host g n ≡ None → is_full l g ≡ false) → Settles l f g
    → Settles l f (with_entered g n words)
entered_settles l f g n words few r =
    entered_keeps (λ h. Settles l f h) g n words
    (λ none. record {
      alike = omega (arith, r.alike, length-append g.processes (wanted_process g.next.process n (is_shared_by (service_of g n)) ∷ []));
      bounded = omega (arith, r.alike, few_listed l g (few none));
      others = r.others;
      plan = r.plan;
      due = r.due;
      starts = r.starts;
      services = length-map g.services (started_if n g.next.process) ∙ r.services;
    })
    (λ process is. record {
      alike = r.alike;
      bounded = r.bounded;
      others = r.others;
      plan = r.plan;
      due = r.due;
      starts = r.starts;
      services = length-map g.services (started_if n process) ∙ r.services;
    })

settles : (l : Limits) (f : Flat) → Keeps l (λ g. Settles l f g) (λ plan. Unit {0})
settles l f = record {
  enters = λ g plan n words entry r. entered_settles l f g n words entry.few r;
  tries = λ g plan n entry q. tt;
  drops = λ plan n rest code q. tt;
  meets = λ plan services q. tt;
}

of_settled : (l : Limits) (f : Flat) → Settles l f (settled l f)
of_settled l f =
    let all = settle_all l f f.plans in
    let r = keeps_flat l (λ g. Settles l f g) (settles l f) f f.plans
    (record {
      alike = refl;
      bounded = omega arith;
      others = no_more f.next;
      plan = refl;
      due = refl;
      starts = omega arith;
      services = refl;
    }) in
    let fewer = fewer_pass (λ (due : Due). begins_plan due.kind) (λ (due : Due). is_due_still (filter stays all.plans) due.kind)
    all.flat.dues in
    record {
      alike = r.alike;
      bounded = r.bounded;
      others = r.others;
      plan = r.plan;
      due = r.due;
      starts = omega (arith, r.starts, fewer);
      services = r.services;
    }

left_keeps : (P : Flat → Type 0) (f : Flat) (plan : ℕ) (code : Option ℕ) → P f → P (ended f plan) → P (left_by f plan code)
left_keeps P f plan None still left = still
left_keeps P f plan (Some code) still left = left

finished_keeps : (P : Flat → Type 0) (f : Flat) (told : Answer) → P f → ((plan : ℕ) → P (ended f plan)) → P (finished f told).flat
finished_keeps P f (answer.Begun plan) still left = left_keeps P f plan (code_of f.plans plan) still (left plan)
finished_keeps P f (answer.Caller number) still left = still
finished_keeps P f (answer.Reply told) still left = still
finished_keeps P f (answer.Launch process) still left = still
finished_keeps P f (answer.Control code) still left = still
finished_keeps P f (answer.Refused code) still left = still
finished_keeps P f answer.Stale still left = still
finished_keeps P f answer.Done still left = still

-- ## A whole step

-- there are numbers of processes left after a step's effect
pub numbers_left : (l : Limits) (f g : Flat) (step : Step) → g ≡ (effect_of l f step).flat → l.processes < 2 ^ 32 → f.next.process ≤ 2 ^ 62
    → HasProcessNumbers l g
numbers_left l f g step e limit few =
    let same_next = ap (λ (x : Flat). x.next.process) e in
    omega (arith, same_next, (of_effect l f step).process, limit, few)

pub record StepRises (l : Limits) (old new : Flat) : Type 0 where
  pub handle : new.next.handle ≤ old.next.handle + 1
  pub caller : new.next.caller ≤ old.next.caller + 1
  pub service : new.next.service ≤ old.next.service + 1
  pub plan : new.next.plan + starts_in new.dues ≤ old.next.plan + starts_in old.dues + (length old.services + 2)
  pub due : new.next.due + starts_in new.dues ≤ old.next.due + starts_in old.dues + (2 * length old.services + 2)
  pub registration : new.next.registration ≤ old.next.registration + 1
  pub process : new.next.process ≤ old.next.process + 2 * l.processes
  pub few : length old.services ≤ l.services → length new.services ≤ l.services

-- neither what ends a start nor who leaves gives one
stepped : (l : Limits) (f : Flat) (step : Step) → StepRises l f (purged
    (finished (settled l (effect_of l f step).flat) (effect_of l f step).answer).flat)
stepped l f step =
    let done = effect_of l f step in
    let still = settled l done.flat in
    let e = of_effect l f step in
    let s = of_settled l done.flat in
    let ends = finished_keeps (λ (g : Flat). (g.next ≡ still.next) × (g.dues ≡ still.dues)
    × (g.services ≡ still.services)) still done.answer (refl, refl, refl) (λ plan. (refl, refl, refl)) in
    let all = (finished still done.answer).flat in
    let starts = ap starts_in ends.1 in
    let services = ap (λ (rs : List Service). length rs) ends.2 in
    let left = fewer (λ (row : Service). not (leaves all.handles row)) all.services in
    record {
      handle = omega (arith, e.handle, s.others.0, ap (λ (n : Next). n.handle) ends.0);
      caller = omega (arith, e.caller, s.others.1, ap (λ (n : Next). n.caller) ends.0);
      service = omega (arith, e.service, s.others.2, ap (λ (n : Next). n.service) ends.0);
      plan = omega (arith, e.plan, s.plan, s.starts, starts, ap (λ (n : Next). n.plan) ends.0);
      due = omega (arith, e.due, s.due, s.starts, starts, ap (λ (n : Next). n.due) ends.0);
      registration = omega (arith, e.registration, s.others.3, ap (λ (n : Next). n.registration) ends.0);
      process = omega (arith, e.process, s.bounded, ap (λ (n : Next). n.process) ends.0);
      few = λ few. (let more = e.few few in omega (arith, more, s.services, services, left));
    }

-- a step gives few numbers of each kind
pub of_step : (l : Limits) (f : Flat) (moment : ℕ) (step : Step) → StepRises l f (step_of l f moment step).flat
of_step l f moment step =
    at_keeps (λ (begun : Flat). StepRises l begun (step_of l f moment step).flat
    → StepRises l f (step_of l f moment step).flat) f moment step
    (λ r. r)
    (λ r. record {
      handle = r.handle;
      caller = r.caller;
      service = r.service;
      plan = r.plan;
      due = r.due;
      registration = r.registration;
      process = r.process;
      few = r.few;
    })
    (stepped l (at_moment f moment step) step)
