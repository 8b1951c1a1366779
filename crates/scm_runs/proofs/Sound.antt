-- What is true of every state, before and after services leave, and that each change keeps it.
use Rattle.std.proofs.Common.{ℕ, zero, suc, get_or, ◌≡◌, ◌<◌, ◌≤◌, ◌==◌, ◌&&◌, true, false, not, cond, List, [], ◌∷◌, ◌++◌, Option, None}
use Rattle.std.proofs.Common.{drop, inl, length, map, ap, sym, refl, subst, arith, eqb, ◌+◌, filter, find, eqb-true, Some, Bool, ◌∙◌}
use Rattle.std.specs.Prelude.{All, Contains, IfSome, is_some, nat_lt}
use Rattle.std.proofs.lemmas.List.Elements.{All-contains, All-filter, All-map, All-push, recursion_from_All}
use Rattle.std.specs.List.{AllByRecursion, IsDistinct}
use Rattle.scm_text.specs.Fold.{same_text}
use Rattle.scm_model.specs.declared.flat.Config.{Config}
use Rattle.scm_model.specs.declared.flat.Due.{Due}
use Rattle.scm_model.specs.declared.flat.DueKind.{DueKind}
use Rattle.scm_model.specs.declared.flat.DueKind.TheVariants as dues
use Rattle.scm_model.specs.declared.codes.TheConstants.{SERVICE_CONTROL_STOP}
use Rattle.scm_model.specs.declared.flat.Flat.{Flat}
use Rattle.scm_model.specs.declared.flat.HandleKind.{HandleKind}
use Rattle.scm_model.specs.declared.flat.HandleKind.TheVariants as kinds
use Rattle.scm_model.specs.declared.flat.HandleRow.{HandleRow}
use Rattle.scm_model.specs.declared.flat.Limits.{Limits}
use Rattle.scm_model.specs.declared.flat.LockRow.{LockRow}
use Rattle.scm_model.specs.declared.flat.Plan.{Plan}
use Rattle.scm_model.specs.declared.flat.Order.{Order}
use Rattle.scm_model.specs.declared.flat.Process.{Process}
use Rattle.scm_model.specs.declared.flat.Principal.{Principal}
use Rattle.scm_model.specs.declared.flat.Registration.{Registration}
use Rattle.scm_model.specs.declared.flat.Service.{Service}
use Rattle.scm_model.specs.declared.flat.Status.{Status}
use Rattle.scm_model.specs.Rows.{is_caller, is_lock, principal_of}
use Rattle.scm_model.specs.Changes.{marked_if, with_caller, with_handle, with_mark, with_moment, with_service, without_handle}
use Rattle.scm_model.specs.Purge.{leaves, leaving, purged}
use Rattle.scm_model.specs.Notices.{Event, all_noted, event_of_leaving, noted, with_noted, with_registration}
use Rattle.scm_rules.specs.Valid.{HasShortName}
use Rattle.scm_rules.specs.Launches.{currents, currents_in, is_by, notified_of_falls, with_fallen, without_process}
use Rattle.scm_rules.specs.Reports.{is_reporter, notified_of_report, released_by, released_if, reported_if, reported_in, reporter}
use Rattle.scm_rules.specs.Reports.{reporting, is_stopped_by}
use Rattle.scm_runs.proofs.Lists.{found_has, found_passes}
use Rattle.scm_runs.proofs.Registered.{AreRegistered, IsOfCaller, events_keep, no_registrations, one_registered, who_joined, who_left}
use Rattle.scm_runs.proofs.Told.{IsNamed, IsProper, all_named, fall_tells, leaving_tells, report_tells}
use Rattle.database_lock.specs.Locking.{unlocked}
use Rattle.service_record.specs.Checks.{check_new}
use Rattle.start_plan.specs.Decided.{aims_among, is_callers, is_numbered}
use Rattle.scm_rules.specs.Controls.{controlled_if, dequeued_if, dequeued_in, first_asked, order_to, unasked_if, unasked_in, with_control}
use Rattle.scm_rules.specs.Controls.{with_control_taken}
use Rattle.scm_rules.specs.Launches.{is_launched, launch_failed, launch_taken, launched, process_of}
use Rattle.scm_rules.specs.Locks.{lock_done, unlock_done}
use Rattle.scm_rules.specs.Opening.{CanOpen, IsOpening, automatic_starts, opening, services_from, starts_from}
use Rattle.scm_rules.specs.Reports.{with_report_of}
use Rattle.scm_rules.specs.Ends.{process_ended}
use Rattle.scm_rules.specs.Due.{beside, is_due_of, next_due, with_due}
use Rattle.scm_rules.specs.Failures.{counted_if, failed_by, with_failure}
use Rattle.scm_rules.specs.Raise.{raised}
use Rattle.scm_rules.specs.Ticks.{ticked, with_reboot, with_wanted_command}
use Rattle.start_triggers.specs.Order.{auto_rows}
use Rattle.scm_rules.specs.Start.{ended, new_plan, with_plan, with_start}
use Rattle.scm_rules.specs.Needs.{start_order}
use Rattle.scm_runs.proofs.Ordered.{order_below}
use Rattle.scm_rules.specs.Security.{secured_if, secured_in, with_security}
use Rattle.scm_rules.specs.Steps.{gone, wants_launch}
use Rattle.scm_rules.proofs.Secured.{secured_or}
use Rattle.sec_desc.specs.Writing.{IsWritten}
use Rattle.scm_rules.specs.Valid.{AreNumbered, HasListed, IsAskedRight}
use Rattle.scm_runs.specs.Handles.{AreRights}
use Rattle.scm_runs.proofs.Deadlines.{AreDeadlines, IsBelow, no_plans_yet, plan_more, plans_decided, plans_fewer, fired as deadlines_fired}
use Rattle.scm_runs.proofs.Deadlines.{service_more as service_due}
use Rattle.scm_runs.proofs.Handled.{AreHandled, caller_joined, caller_left as handles_left, handle_given, handle_left, no_handles}
use Rattle.scm_runs.proofs.Lists.{filter_twice, alone}
use Rattle.scm_runs.proofs.Locked.{Locked, one_holds, one_more}
use Rattle.scm_rules.proofs.Needed.{HasNoCycle}
use Rattle.scm_runs.proofs.Opened.{opened_asked, opened_listed, opened_services}
use Rattle.scm_runs.proofs.Founds.{found_all}
use Rattle.std.proofs.lemmas.Bool.{and_parts}
use Rattle.scm_runs.proofs.Numbers.{numbered_filter, numbered_push}
use Rattle.scm_runs.proofs.Plans.{AreBelow, ArePlans, IsKnown, IsPlan, all_weaker, caller_left as plans_left, caller_more, decided, fewer}
use Rattle.scm_runs.proofs.Plans.{more, no_plans, service_more, has_expired}
use Rattle.scm_runs.proofs.Processes.{AreProcesses, IsOfControls, beside as processes_beside, command_more, controlled, failed, first_taken}
use Rattle.scm_runs.proofs.Processes.{no_processes, one_launched, reported as processes_reported, running_first, running_launched}
use Rattle.scm_runs.proofs.Processes.{starts_kept, starts_more, starts_stay, still_same, unasked as processes_unasked}
use Rattle.scm_runs.proofs.Rows.{AreServices, added as row_added, cleared as rows_cleared, fallen, later, marked as rows_marked}
use Rattle.scm_runs.proofs.Rows.{LivesIn, by_parts, reported as rows_reported, secured as rows_secured, unasked as rows_unasked}
use Rattle.scm_model.specs.Found.{if_found}
use Rattle.scm_rules.proofs.Dues.{next_has}
use Rattle.scm_runs.proofs.Unasked.{raised_by, spent, ticked_by}
use Rattle.scm_runs.proofs.Failing.{any_failing_keeps, counted, failing_keeps, processes_counted}

-- rows that become due have numbers
pub record AreDues (next : ℕ) (rows : List Due) : Type 0 where
  pub numbered : AreNumbered (λ (row : Due). row.number) next rows
  pub first : 1 ≤ next

pub record Sound (f : Flat) : Type 0 where
  pub services : AreServices f.next.service f.next.process f.services
  pub handles : AreHandled f.next.caller f.callers f.next.handle f.handles f.lock
  pub processes : AreProcesses f.next.process f.processes f.wanted f.services
  pub plans : ArePlans f.next.plan f.next.service f.callers f.plans
  pub dues : AreDues f.next.due f.dues
  pub deadlines : AreDeadlines f.next.plan f.plans f.dues
  pub registrations : AreRegistered f.next.registration f.callers f.registrations

-- ## Changes

-- the starts that become due have numbers from this one on
start_at : (number moment : ℕ) (rows : List Service) (k : ℕ) (d : Due) → k < length rows
    → (get_or (starts_from number moment rows) k d).number ≡ number + k
start_at number moment [] k d lt = absurd (omega (arith, lt))
start_at number moment (row ∷ rows) zero d lt = omega arith
start_at number moment (row ∷ rows) (suc k) d lt = (let rest = start_at (number + 1) moment rows k d (omega (arith, lt)) in
    omega (arith, rest))

as_many_starts : (number moment : ℕ) (rows : List Service) → length (starts_from number moment rows) ≡ length rows
as_many_starts number moment [] = refl
as_many_starts number moment (row ∷ rows) = (let rest = as_many_starts (number + 1) moment rows in omega (arith, rest))

opened_dues : (moment : ℕ) (rows : List Service) → AreNumbered (λ (row : Due). row.number) (length (starts_from 1 moment rows) + 1)
    (starts_from 1 moment rows)
opened_dues moment rows =
    let many = as_many_starts 1 moment rows in
    record {
      positive = λ k d lt. (let e = start_at 1 moment rows k d (omega (arith, lt, many)) in omega (arith, e));
      below = λ k d lt. (let e = start_at 1 moment rows k d (omega (arith, lt, many)) in omega (arith, e, lt));
      rising = λ i j d lt within. (
          let one = start_at 1 moment rows i d (omega (arith, lt, within, many)) in
          let other = start_at 1 moment rows j d (omega (arith, within, many)) in
          omega (arith, one, other, lt));
    }

opened_below : (moment number : ℕ) (rows : List Service) → AllByRecursion (λ (due : Due). IsBelow 1 due.kind)
    (starts_from number moment rows)
opened_below moment number [] = tt
opened_below moment number (row ∷ rows) = (tt, opened_below moment (number + 1) rows)

opened : (l : Limits) (groups : List (List ℕ)) (configs : List Config) (moment : ℕ) → CanOpen l configs
    → Sound (opening l groups configs moment)
opened l groups configs moment can = record {
  services = opened_services l configs can;
  handles = no_handles;
  processes = no_processes (services_from 1 configs) (opened_listed configs) (opened_asked configs);
  plans = no_plans (length configs + 1);
  dues = record { numbered = opened_dues moment (auto_rows (services_from 1 configs) groups); first = omega arith };
  deadlines = no_plans_yet (automatic_starts groups configs moment) (opened_below moment 1 (auto_rows (services_from 1 configs) groups));
  registrations = no_registrations [];
}

pub begun : (l : Limits) (f : Flat) → IsOpening l f → Sound f
begun l f o = subst Sound (sym o.is) (opened l o.groups o.configs o.moment o.can)

-- another moment, other reboots and other registrations
anew : (f : Flat) (moment reboots next : ℕ) (rows : List Registration) → AreRegistered next f.callers rows → Sound f
    → Sound (record f { registrations = rows; moment = moment; next = record f.next { registration = next }; reboots = reboots })
anew f moment reboots next rows told s = record {
  services = s.services;
  handles = s.handles;
  processes = s.processes;
  plans = s.plans;
  dues = s.dues;
  deadlines = s.deadlines;
  registrations = told;
}

pub moved : (f : Flat) (moment : ℕ) → Sound f → Sound (with_moment f moment)
moved f moment s = anew f (with_moment f moment).moment f.reboots f.next.registration f.registrations s.registrations s

-- its services have numbers and short names
pub are_named : (f : Flat) → Sound f → All IsNamed f.services
are_named f s = all_named f.next.service f.next.process f.services s.services

-- ## Registrations

-- other registrations
pub retold : (f : Flat) (rows : List Registration) → AreRegistered f.next.registration f.callers rows → Sound f
    → Sound (record f { registrations = rows })
retold f rows told s = anew f f.moment f.reboots f.next.registration rows told s

-- one more, with the next number
pub watching : (f : Flat) (row : Registration) → row.number ≡ f.next.registration → IsOfCaller f.callers row → HasShortName row → Sound f
    → Sound (with_registration f row)
watching f row number there short s =
    anew f f.moment f.reboots (f.next.registration + 1) (with_registration f row).registrations
    (one_registered f.next.registration f.callers row f.registrations number there short s.registrations) s

-- an event of a service or of the manager
pub told : (f : Flat) (event : Event) → IsProper event → Sound f → Sound (with_noted f event)
told f event proper s = retold f (noted event f.registrations) (events_keep f.next.registration f.callers event f.registrations proper
    s.registrations) s

-- ## Callers and handles

pub joined : (f : Flat) (principal : Principal) → Sound f → Sound (with_caller f principal)
joined f principal s = record {
  services = s.services;
  handles = caller_joined f.next.caller f.callers f.next.handle f.handles f.lock principal s.handles;
  processes = s.processes;
  plans = caller_more f.next.plan f.next.service f.callers (record { number = f.next.caller; principal = principal }) f.plans s.plans;
  dues = s.dues;
  deadlines = s.deadlines;
  registrations = who_joined f.next.registration f.callers (record { number = f.next.caller; principal = principal }) f.registrations
      s.registrations;
}

pub left : (f : Flat) (caller : ℕ) → Sound f → Sound (gone f caller)
left f caller s = record {
  services = s.services;
  handles = handles_left f.next.caller f.callers f.next.handle f.handles f.lock caller s.handles;
  processes = s.processes;
  plans = plans_left f.next.plan f.next.service f.callers caller f.plans s.plans;
  dues = s.dues;
  deadlines = plans_fewer f.next.plan (λ (plan : Plan). not (is_callers caller plan)) f.plans f.dues s.deadlines;
  registrations = who_left f.next.registration f.callers caller f.registrations s.registrations;
}

-- other handles
held_anew : (f : Flat) (next : ℕ) (rows : List HandleRow) (held : Option LockRow) → AreHandled f.next.caller f.callers next rows held
    → Sound f → Sound (record f { handles = rows; lock = held; next = record f.next { handle = next } })
held_anew f next rows held handled s = record {
  services = s.services;
  handles = handled;
  processes = s.processes;
  plans = s.plans;
  dues = s.dues;
  deadlines = s.deadlines;
  registrations = s.registrations;
}

-- a handle more, and who then holds the lock
given : (f : Flat) (held : Option LockRow) (caller : ℕ) (kind : HandleKind) (granted : ℕ) → Sound f → is_caller f caller ≡ true
    → AreRights (principal_of f caller) kind granted
    → Locked held (with_handle f caller kind granted).handles → Sound (with_handle (record f { lock = held }) caller kind granted)
given f held caller kind granted s there rights lock =
    held_anew f (f.next.handle + 1) (with_handle f caller kind granted).handles held
    (handle_given f.next.caller f.callers f.next.handle f.handles f.lock held
    (record { number = f.next.handle; caller = caller; kind = kind; granted = granted }) s.handles refl there rights lock) s

pub handed : (f : Flat) (caller : ℕ) (kind : HandleKind) (granted : ℕ) → Sound f → is_caller f caller ≡ true
    → AreRights (principal_of f caller) kind granted → is_lock kind ≡ false
    → Sound (with_handle f caller kind granted)
handed f caller kind granted s there rights other = given f f.lock caller kind granted s there rights
    (one_more f.lock f.handles _ other s.handles.handles.below s.handles.lock)

pub taken : (f : Flat) (caller : ℕ) → Sound f → is_caller f caller ≡ true → is_some f.lock ≡ false → Sound (lock_done f caller).flat
taken f caller s there free = given f _ caller kinds.Lock 0 s there refl
    (one_holds f.lock f.handles _ f.moment free refl s.handles.handles.below s.handles.lock)

-- a handle leaves, and the lock is free if it held it
pub given_back : (f : Flat) (number : ℕ) → Sound f → Sound (unlock_done f number).flat
given_back f number s =
    held_anew f f.next.handle (without_handle f number).handles (unlock_done f number).flat.lock
    (handle_left f.next.caller f.callers f.next.handle f.handles f.lock number s.handles) s

pub closed : (f : Flat) (number : ℕ) → Sound f → unlocked f.lock number ≡ f.lock → Sound (without_handle f number)
closed f number s same = subst (λ (held : Option LockRow). Sound (without_handle (record f { lock = held }) number)) same
    (given_back f number s)

-- ## Services

pub added : (f : Flat) (config : Config) (status : Status) → Sound f
    → All (λ (row : Service). same_text row.config.name config.name ≡ false) f.services
    → All (λ (row : Service). same_text row.config.display config.display ≡ false) f.services
    → check_new config None ≡ 0 → status.kind ≡ config.kind → (status.state == 1) ≡ true
    → HasNoCycle (with_service f config status).services → Sound (with_service f config status)
added f config status s names displays checked kind state free = record {
  services = row_added f.next.service f.next.process f.services _ s.services refl names displays checked kind state (inl refl) refl free;
  handles = s.handles;
  processes = processes_beside f.next.process f.processes f.wanted f.services _ s.processes
      (All-push (HasListed f.processes) f.services _ s.processes.listed refl)
      (starts_more f.processes f.services _ refl s.processes.starting)
      (All-push (IsAskedRight f.processes) f.services _ s.processes.asked (λ asked. absurd cc));
  plans = service_more f.next.plan f.next.service f.callers f.plans s.plans;
  dues = s.dues;
  deadlines = s.deadlines;
  registrations = s.registrations;
}

pub marked : (f : Flat) (number : ℕ) → Sound f → Sound (with_mark f number)
marked f number s = record {
  services = rows_marked f.next.service f.next.process number f.services s.services;
  handles = s.handles;
  processes = processes_beside f.next.process f.processes f.wanted f.services _ s.processes
      (All-map (HasListed f.processes) (marked_if number) f.services s.processes.listed)
      (starts_kept f.processes (marked_if number) f.services
      (λ process row. still_same process (marked_if number) row refl refl refl) s.processes.starting)
      (All-map (IsAskedRight f.processes) (marked_if number) f.services s.processes.asked);
  plans = s.plans;
  dues = s.dues;
  deadlines = s.deadlines;
  registrations = s.registrations;
}

-- a service gets a security descriptor
pub secured : (f : Flat) (number : ℕ) (security : List ℕ) → IsWritten security → Sound f → Sound (with_security f number security)
secured f number security written s =
    let change = secured_if number security in
    record {
      services = rows_secured f.next.service f.next.process number security f.services written s.services;
      handles = s.handles;
      processes = processes_beside f.next.process f.processes f.wanted f.services _ s.processes
          (All-map (HasListed f.processes) change f.services (λ k d lt. secured_or (HasListed f.processes) number security
          (get_or f.services k d) (s.processes.listed k d lt) (s.processes.listed k d lt)))
          (starts_kept f.processes change f.services (λ process row. still_same process change row
          (secured_or (λ new. new.number ≡ row.number) number security row refl refl)
          (secured_or (λ new. new.process ≡ row.process) number security row refl refl)
          (secured_or (λ new. new.status.state ≡ row.status.state) number security row refl refl)) s.processes.starting)
          (All-map (IsAskedRight f.processes) change f.services (λ k d lt. secured_or (IsAskedRight f.processes) number security
          (get_or f.services k d) (s.processes.asked k d lt) (s.processes.asked k d lt)));
      plans = s.plans;
      dues = s.dues;
      deadlines = s.deadlines;
      registrations = s.registrations;
    }

-- one that is found, where a descriptor is made for it
pub secured_found : (f : Flat) (found : Option Service) (asked : Option (List ℕ)) → IfSome asked IsWritten → Sound f
    → Sound (record f { services = if_found (secured_in found) asked f.services })
secured_found f found None written s = s
secured_found f None (Some security) written s = s
secured_found f (Some row) (Some security) written s = secured f row.number security written s

pub cleared : (f : Flat) → Sound f → Sound (purged f)
cleared f s =
    let p = λ (row : Service). not (leaves f.handles row) in
    record {
      services = rows_cleared f.next.service f.next.process p f.services s.services;
      handles = s.handles;
      processes = processes_beside f.next.process f.processes f.wanted f.services _ s.processes
          (All-filter p (HasListed f.processes) f.services s.processes.listed)
          (starts_stay f.handles f.processes f.services s.processes.starting)
          (All-filter p (IsAskedRight f.processes) f.services s.processes.asked);
      plans = s.plans;
      dues = s.dues;
      deadlines = s.deadlines;
      registrations = leaving_tells (AreRegistered f.next.registration f.callers) (events_keep f.next.registration f.callers)
          (leaving f) f.registrations
          (All-filter (leaves f.handles) IsNamed f.services (are_named f s)) s.registrations;
    }

-- ## Plans

none_tried : IsDistinct eqb []
unfolding IsDistinct
none_tried = tt

pub planned : (f : Flat) (caller target : ℕ) (entries : List ℕ) (words : List (List ℕ)) → Sound f
    → IsKnown f.callers (new_plan f caller target entries words) → AreBelow f.next.service entries
    → Sound (with_plan f (new_plan f caller target entries words))
planned f caller target entries words s known below = record {
  services = s.services;
  handles = s.handles;
  processes = s.processes;
  plans = more f.next.plan f.next.service f.callers f.plans (new_plan f caller target entries words) s.plans refl (record {
    positive = s.plans.first;
    below = omega arith;
    known = known;
    once = none_tried;
    within = below;
  });
  dues = record {
    numbered = numbered_push (λ (row : Due). row.number) f.next.due f.dues _ s.dues.numbered s.dues.first refl;
    first = (let first = s.dues.first in omega arith);
  };
  deadlines = plan_more f.next.plan f.plans f.dues _ _ refl refl
      (all_weaker (IsPlan f.next.plan f.next.service f.callers) (λ (plan : Plan). plan.number < f.next.plan)
      (λ plan is. is.below) f.plans s.plans.each) s.deadlines;
  registrations = s.registrations;
}

pub over : (f : Flat) (plan : ℕ) → Sound f → Sound (ended f plan)
over f plan s = record {
  services = s.services;
  handles = s.handles;
  processes = s.processes;
  plans = fewer f.next.plan f.next.service f.callers (λ (row : Plan). not (is_numbered plan row)) f.plans s.plans;
  dues = s.dues;
  deadlines = plans_fewer f.next.plan (λ (row : Plan). not (is_numbered plan row)) f.plans f.dues s.deadlines;
  registrations = s.registrations;
}

one_spent : (f : Flat) (row : Due) → next_due f ≡ Some row → Sound f → Sound (spent row f)
one_spent f row is s =
    let only = next_has (λ (row : Due). All (λ (due : Due). (due.number == row.number) ≡ true → due ≡ row) f.dues) f row
    (λ k d lt j c within same. alone (λ (due : Due). due.number) f.dues s.dues.numbered.rising k d lt j c within (eqb-true _ _ same)) is in
    record {
      services = s.services;
      handles = s.handles;
      processes = s.processes;
      plans = has_expired f.next.plan f.next.service f.callers f.plans row.kind s.plans;
      dues = record {
        numbered = numbered_filter (λ (due : Due). due.number) f.next.due
            (λ (due : Due). not (due.number == row.number)) f.dues s.dues.numbered;
        first = s.dues.first;
      };
      deadlines = deadlines_fired f.next.plan f.plans f.dues row (recursion_from_All (λ (due : Due). (due.number == row.number) ≡ true
          → due ≡ row) f.dues only) s.deadlines;
      registrations = s.registrations;
    }

-- ## Processes

pub in_hand : (f : Flat) → wants_launch f.wanted ≡ true → Sound f → Sound (launch_taken f).flat
in_hand f is s = record {
  services = s.services;
  handles = s.handles;
  processes = first_taken f.next.process f.processes f.wanted f.services is s.processes;
  plans = s.plans;
  dues = s.dues;
  deadlines = s.deadlines;
  registrations = s.registrations;
}

pub running : (f : Flat) (number pid : ℕ) → Sound f → Sound (launched f number pid)
running f number pid s = record {
  services = s.services;
  handles = s.handles;
  processes = one_launched f.next.process number pid f.processes f.wanted f.services s.processes;
  plans = decided f.next.plan f.next.service f.callers (aims_among (currents_in number f.services)) 0 f.plans s.plans;
  dues = s.dues;
  deadlines = plans_decided f.next.plan (aims_among (currents_in number f.services)) 0 f.plans f.dues s.deadlines;
  registrations = s.registrations;
}

-- ## Failures

-- a failure is counted
pub counts : (f : Flat) (number moment : ℕ) → Sound f → Sound (record f { services = map (counted_if number moment) f.services })
counts f number moment s = record {
  services = counted f.next.service f.next.process number moment f.services s.services;
  handles = s.handles;
  processes = processes_counted f.next.process number moment f.processes f.wanted f.services s.processes;
  plans = s.plans;
  dues = s.dues;
  deadlines = s.deadlines;
  registrations = s.registrations;
}

beside_numbered : (next : ℕ) (kind : DueKind) (rows : List Due) → AreNumbered (λ (row : Due). row.number) next rows
    → AreNumbered (λ (row : Due). row.number) next (beside kind rows)
beside_numbered next (dues.Deadline plan) rows s = s
beside_numbered next (dues.Start service) rows s = numbered_filter (λ (row : Due). row.number) next
    (λ (due : Due). not (is_due_of service due.kind)) rows s
beside_numbered next (dues.Command service) rows s = numbered_filter (λ (row : Due). row.number) next
    (λ (due : Due). not (is_due_of service due.kind)) rows s
beside_numbered next (dues.Reboot service) rows s = numbered_filter (λ (row : Due). row.number) next
    (λ (due : Due). not (is_due_of service due.kind)) rows s

-- a row becomes due for a service
pub due_more : (f : Flat) (moment service : ℕ) (kind : DueKind) → is_due_of service kind ≡ true → Sound f → Sound (with_due f moment kind)
due_more f moment service kind is s = record {
  services = s.services;
  handles = s.handles;
  processes = s.processes;
  plans = s.plans;
  dues = record {
    numbered = numbered_push (λ (row : Due). row.number) f.next.due (beside kind f.dues)
        (record { moment = moment; number = f.next.due; kind = kind })
        (beside_numbered f.next.due kind f.dues s.dues.numbered) s.dues.first refl;
    first = (let first = s.dues.first in omega arith);
  };
  deadlines = service_due f.next.plan service f.plans f.dues (record { moment = moment; number = f.next.due; kind = kind }) is s.deadlines;
  registrations = s.registrations;
}

-- a service that was found, if any was, fails
pub failing : (found : Option Service) (f : Flat) → Sound f → Sound (if_found with_failure found f)
failing found f s = failing_keeps Sound found f s (λ row is. counts f row.number f.moment s)
    (λ service g moment kind is t. due_more g moment service kind is t)

-- services fall
registrations_fallen : (f : Flat) (number code : ℕ) → Sound f → AreRegistered f.next.registration f.callers
    (notified_of_falls code (currents number f.services) f.registrations)
registrations_fallen f number code s =
    fall_tells (AreRegistered f.next.registration f.callers) (events_keep f.next.registration f.callers) number code f.services
    f.registrations (are_named f s) s.registrations

pub not_running : (f : Flat) (number code : ℕ) → Sound f → Sound (launch_failed f number code)
not_running f number code s = record {
  services = fallen f.next.service f.next.process number code f.services s.services;
  handles = s.handles;
  processes = failed f.next.process number code f.processes f.wanted f.services s.processes;
  plans = decided f.next.plan f.next.service f.callers (aims_among (currents_in number f.services)) code f.plans s.plans;
  dues = s.dues;
  deadlines = plans_decided f.next.plan (aims_among (currents_in number f.services)) code f.plans f.dues s.deadlines;
  registrations = registrations_fallen f number code s;
}

-- a service whose process runs takes a report, and registrations are notified of it
retold_report : (f : Flat) (number by : ℕ) (report : Status) (rows : List Registration) → All (LivesIn number by) f.services
    → is_launched (process_of f by) ≡ true → Sound f
    → AreRegistered f.next.registration f.callers rows
    → Sound (record f { services = map (reported_if number report) f.services; registrations = rows })
retold_report f number by report rows lives runs s told = record {
  services = rows_reported f.next.service f.next.process number by report f.services
      (running_first f.next.process by f.processes (process_of f by) s.processes.numbered refl runs) lives s.services;
  handles = s.handles;
  processes = processes_reported f.next.process number by report f.processes f.wanted f.services lives
      (running_launched by f.processes (process_of f by) s.processes.numbered.rising refl runs) s.processes;
  plans = s.plans;
  dues = s.dues;
  deadlines = s.deadlines;
  registrations = told;
}

-- no other service has the number of one that is found
pub found_alone : (f : Flat) (p : Service → Bool) (one : Service) → Sound f → find p f.services ≡ Some one
    → All (λ (row : Service). row.number ≡ one.number → row ≡ one) f.services
found_alone f p one s is =
    found_has (λ (row : Service). All (λ (other : Service). other.number ≡ row.number → other ≡ row) f.services) p one f.services
    (alone (λ (row : Service). row.number) f.services s.services.numbered.rising) is

-- a process leaves, and its services fall
pub gone_with : (f : Flat) (number code : ℕ) → Sound f → Sound (without_process (with_fallen f number code) number)
gone_with f number code s = record {
  services = fallen f.next.service f.next.process number code f.services s.services;
  handles = s.handles;
  processes = failed f.next.process number code f.processes f.wanted f.services s.processes;
  plans = s.plans;
  dues = s.dues;
  deadlines = s.deadlines;
  registrations = registrations_fallen f number code s;
}

pub no_more : (f : Flat) (number : ℕ) → Sound f → Sound (process_ended f number).flat
no_more f number s =
    any_failing_keeps (λ (g : Flat). Sound (without_process g number)) (currents number f.services) (with_fallen f number 1067)
    (gone_with f number 1067 s) (λ row g t. counts (without_process g number) row.number g.moment t)
    (λ service g moment kind is t. due_more (without_process g number) moment service kind is t)

-- ## Controls

of_controls : (f : Flat) (change : Process → Process) → IsOfControls change → Sound f
    → Sound (record f { processes = map change f.processes })
of_controls f change only s = record {
  services = s.services;
  handles = s.handles;
  processes = controlled f.next.process change f.processes f.wanted f.services only s.processes;
  plans = s.plans;
  dues = s.dues;
  deadlines = s.deadlines;
  registrations = s.registrations;
}

pub controls_more : (limit number : ℕ) (order : Order) → IsOfControls (controlled_if limit number order)
controls_more limit number order row =
    elim (row.number == number && nat_lt (length row.controls) limit) as (λ b. cond b
    (record row { controls = row.controls ++ order ∷ [] }) row
    ≡ record row { controls = (cond b (record row { controls = row.controls ++ order ∷ [] }) row).controls }) [ true ↦ refl | false ↦ refl ]

pub controls_fewer : (number : ℕ) → IsOfControls (dequeued_if number)
controls_fewer number row =
    elim (row.number == number) as (λ b. cond b (record row { controls = drop 1 row.controls }) row ≡
    record row { controls = (cond b (record row { controls = drop 1 row.controls }) row).controls }) [ true ↦ refl | false ↦ refl ]

pub controls_released : (process service : ℕ) → IsOfControls (released_if process service)
controls_released process service row =
    let left = filter (λ (order : Order). not (order.service == service)) row.controls in
    elim (row.number == process && row.shared) as (λ b. cond b (record row { controls = left }) row
    ≡ record row { controls = (cond b (record row { controls = left }) row).controls }) [ true ↦ refl | false ↦ refl ]

released : (f : Flat) (report : Status) (row : Service) → Sound f → Sound (record f { processes = released_by report row f.processes })
released f report row s =
    elim (is_stopped_by report row) as (λ b. Sound (record f {
      processes = cond b (map (released_if row.process row.number) f.processes) f.processes;
    })) [ true ↦ of_controls f (released_if row.process row.number) (controls_released row.process row.number) s | false ↦ s ]

-- the service that is found takes the report of its process
pub reported_by : (f : Flat) (report : Status) (row : Service) → IsNamed row
    → All (λ (r : Service). r.number ≡ row.number → r ≡ row) f.services → is_launched (process_of f row.process) ≡ true → Sound f
    → Sound (record f {
      services = map (reported_if row.number report) f.services;
      processes = released_by report row f.processes;
      registrations = notified_of_report f.processes report (Some row) f.registrations;
    })
reported_by f report row is only runs s =
    let g = record f {
      services = map (reported_if row.number report) f.services;
      registrations = notified_of_report f.processes report (Some row) f.registrations;
    } in
    released g report row (retold_report f row.number row.process report (notified_of_report f.processes report (Some row) f.registrations)
    (λ k d lt e. ap (λ (r : Service). r.process) (only k d lt (eqb-true (get_or f.services k d).number row.number e))) runs s
    (report_tells (AreRegistered f.next.registration f.callers) (events_keep f.next.registration f.callers) f.processes report row
    f.registrations is s.registrations))

-- the service that a report names has the process
pub reporting_by : (f : Flat) (process service : ℕ) (row : Service) → reporting f process service ≡ Some row
    → ((row.number == reporter f process service) ≡ true) × (is_by process row ≡ true)
reporting_by f process service row is =
    and_parts (row.number == reporter f process service) (is_by process row)
    (found_passes (is_reporter f process service) row f.services is)

pub reported : (f : Flat) (process service : ℕ) (report : Status) → is_launched (process_of f process) ≡ true → Sound f
    → Sound (with_report_of f (reporting f process service) report)
reported f process service report runs s =
    failing (failed_by report (reporting f process service)) _
    (found_all (λ found. Sound (record f {
      services = reported_in report found f.services;
      processes = if_found (released_by report) found f.processes;
      registrations = notified_of_report f.processes report found f.registrations;
    })) (reporting f process service) s
    (λ row is. reported_by f report row
    (found_has IsNamed (is_reporter f process service) row f.services (are_named f s) is)
    (found_alone f (is_reporter f process service) row s is)
    (subst (λ n. is_launched (process_of f n) ≡ true) (sym (by_parts process row (reporting_by f process service row is).1).1) runs) s))

pub control_waits : (l : Limits) (f : Flat) (number : ℕ) (order : Order) → Sound f → Sound (with_control l f number order)
control_waits l f number order s = of_controls f (controlled_if l.controls number order) (controls_more l.controls number order) s

-- ## Starts and commands that begin unasked

-- a process more that is of no service
pub command_begins : (f : Flat) (command : List ℕ) → Sound f → Sound (with_wanted_command command f)
command_begins f command s = record {
  services = later f.next.service f.next.process f.services s.services;
  handles = s.handles;
  processes = command_more f.next.process command f.processes f.wanted f.services s.services.first_process s.processes;
  plans = s.plans;
  dues = s.dues;
  deadlines = s.deadlines;
  registrations = s.registrations;
}

pub rebooted : (f : Flat) → Sound f → Sound (with_reboot f)
rebooted f s = anew f f.moment (with_reboot f).reboots f.next.registration f.registrations s.registrations s

-- a start that no caller asks for
pub start_begins : (f : Flat) (row : Service) → Contains f.services row → Sound f → Sound (with_start 0 [] row f)
start_begins f row there s =
    planned f 0 row.number (start_order f row.number) [] s refl
    (order_below f f.next.service row.number s.services.numbered.below (All-contains
    (λ (r : Service). r.number < f.next.service) f.services row s.services.numbered.below there))

pub due : (l : Limits) (f : Flat) → Sound f → Sound (ticked l f)
due l f s = ticked_by Sound l (record {
  spends = one_spent;
  starts = λ g row there can t. start_begins g row there t;
  runs = λ g row there can t. command_begins g row.config.command t;
  reboots = rebooted;
}) f s

pub triggers : (l : Limits) (f : Flat) (caller : ℕ) (subtype : List ℕ) → Sound f → Sound (raised l f caller subtype)
triggers l f caller subtype s = raised_by Sound l subtype (record {
  starts = λ g row there can t. start_begins g row there t;
  stops = λ g row action there is stops gets t. control_waits l g row.process (order_to row.number SERVICE_CONTROL_STOP) t;
}) f caller s

-- a service is asked no more
unasks : (f : Flat) (number : ℕ) → Sound f → Sound (record f { services = map (unasked_if number) f.services })
unasks f number s = record {
  services = rows_unasked f.next.service f.next.process number f.services s.services;
  handles = s.handles;
  processes = processes_unasked f.next.process number f.processes f.wanted f.services s.processes;
  plans = s.plans;
  dues = s.dues;
  deadlines = s.deadlines;
  registrations = s.registrations;
}

pub control_sent : (f : Flat) (number : ℕ) → Sound f → Sound (with_control_taken f number)
control_sent f number s =
    found_all (λ found. Sound (record f {
      services = unasked_in found f.services;
      processes = dequeued_in found number f.processes;
    })) (first_asked f number) (of_controls f (dequeued_if number) (controls_fewer number) s)
    (λ row is. unasks f row.number s)

-- ## Services that leave

-- nobody is left to leave
none_left : (p : Service → Bool) (rows : List Service) → filter p (filter (λ (row : Service). not (p row)) rows) ≡ []
none_left p [] = refl
none_left p (row ∷ rows) =
    elim (p row) as (λ b. p row ≡ b → filter p (cond (not b) (row ∷ filter (λ (r : Service). not (p r)) rows)
    (filter (λ (r : Service). not (p r)) rows)) ≡ []) [
      | true ↦ λ e. none_left p rows
      | false ↦ λ e. rw e (none_left p rows)
    ] refl

pub purged_twice : (f : Flat) → purged (purged f) ≡ purged f
purged_twice f =
    ap (λ (services : List Service). record (purged f) {
      services = services;
      registrations = all_noted (map event_of_leaving (leaving (purged f))) (purged f).registrations;
    })
    (filter_twice (λ (row : Service). not (leaves f.handles row)) f.services)
    ∙ ap (λ (services : List Service). record (purged f) {
      registrations =
          all_noted (map event_of_leaving services) (purged f).registrations;
    }) (none_left (leaves f.handles) f.services)
