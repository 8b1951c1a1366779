-- Each step keeps what is true of every state.
use Rattle.std.proofs.Common.{ℕ, ◌≡◌, ◌<◌, ◌==◌, ◌||◌, Bool, true, false, not, cond, IsTrue, List, [], ◌∷◌, Option, None, Some, map, refl}
use Rattle.std.proofs.Common.{subst, eq-eqb, eqb-true, arith}
use Rattle.std.specs.Prelude.{All, is_none, unwrap_or}
use Rattle.std.proofs.lemmas.List.Elements.{All-weaker}
use Rattle.scm_text.specs.Fold.{same_text}
use Rattle.scm_model.specs.declared.flat.Config.{Config}
use Rattle.scm_model.specs.declared.flat.Flat.{Flat}
use Rattle.scm_model.specs.declared.flat.HandleKind.TheVariants as kinds
use Rattle.scm_model.specs.declared.flat.Limits.{Limits}
use Rattle.scm_model.specs.declared.flat.Service.{Service}
use Rattle.scm_model.specs.declared.flat.Status.{Status}
use Rattle.scm_model.specs.declared.calls.ChangeService.{ChangeService}
use Rattle.scm_model.specs.declared.calls.Info.{Info}
use Rattle.scm_model.specs.declared.calls.NewService.{NewService}
use Rattle.scm_model.specs.declared.calls.Reply.{Reply}
use Rattle.scm_model.specs.declared.calls.Request.{Request}
use Rattle.scm_model.specs.declared.calls.Request.TheVariants as request
use Rattle.scm_model.specs.declared.steps.Answer.{Answer}
use Rattle.scm_model.specs.declared.steps.Answer.TheVariants as answer
use Rattle.scm_model.specs.declared.steps.Kept.{Kept}
use Rattle.scm_model.specs.declared.steps.Step.{Step}
use Rattle.scm_model.specs.declared.steps.Step.TheVariants.{Joined, Call, EndStart, LaunchTaken, Launched, LaunchFailed, Report, Ended}
use Rattle.scm_model.specs.declared.steps.Step.TheVariants.{ControlTaken, Tick, Raised, Gone, NoMemory}
use Rattle.scm_model.specs.Refused.{answered, first_refusal}
use Rattle.scm_model.specs.Rows.{handle_of, is_caller, manager_mask, principal_of, held_service, service_of}
use Rattle.scm_model.specs.Changes.{configured_if, with_moment, with_service, reconfigured, with_mark}
use Rattle.scm_model.specs.Outcomes.{CallResult}
use Rattle.service_record.specs.Checks.{check_new, has_bad_names, has_bad_numbers, has_bad_texts, has_bad_lists, is_bad_account}
use Rattle.scm_rules.specs.Change.{change_done, change_refusals, change_verdict, checked, loops, new_config, tags_no_group, takes_name}
use Rattle.scm_rules.specs.Change2.{change2_done, change2_refusals, change2_verdict, has_bad_trigger, is_refused, level_config}
use Rattle.scm_rules.specs.Close.{close_refusals}
use Rattle.scm_rules.specs.Failures.{failed_by}
use Rattle.scm_rules.specs.Launches.{is_launched, process_of}
use Rattle.scm_rules.specs.Locks.{lock_refusals}
use Rattle.scm_rules.specs.Needs.{are_unreadable, makes_cycle, start_order}
use Rattle.scm_rules.specs.Reports.{may_report, released_by, set_status_refusals, set_status_verdict, reported_in, notified_of_report}
use Rattle.scm_rules.specs.Start.{start_done, start_refusals, start_verdict, is_aimed_at}
use Rattle.start_plan.specs.Decided.{code_of}
use Rattle.scm_model.specs.Ready.{state_in}
use Rattle.start_plan.specs.Settle.{settled}
use Rattle.scm_rules.specs.Create.{created_config, create_refusals, create_verdict, new_status, tags_nothing, with_creation}
use Rattle.scm_rules.specs.OpenManager.{open_manager_refusals}
use Rattle.scm_rules.specs.OpenService.{open_service_refusals, service_granted}
use Rattle.scm_rules.specs.Rights.{manager_lacks}
use Rattle.scm_rules.specs.Security.{asked_security, descriptor_in, service_allowed}
use Rattle.scm_rules.proofs.Secured.{asked_written}
use Rattle.access_mask.specs.Granted.{rights_of}
use Rattle.scm_rules.specs.Steps.{at_moment, effect_of, finished, finished_step, left_by, may}
use Rattle.scm_rules.specs.Verdicts.{call_of, done_of, verdict}
use Rattle.scm_runs.proofs.Along.{Keeps}
use Rattle.scm_runs.proofs.Configured.{configured}
use Rattle.scm_runs.proofs.Levels.{display_left, name_left, needs_left}
use Rattle.scm_runs.proofs.Lists.{found_has, none_found, none_any}
use Rattle.scm_runs.proofs.Locked.{not_unlocked, closes_another, notify_another}
use Rattle.scm_runs.proofs.Masks.{granted_within, narrowed_within}
use Rattle.scm_rules.proofs.Needed.{rows_added, rows_configured, tested}
use Rattle.scm_runs.proofs.Ordered.{order_below}
use Rattle.scm_runs.proofs.Settling.{settles}
use Rattle.scm_runs.proofs.Sound.{Sound, moved, joined, left, handed, taken, given_back, closed, added, marked, cleared, planned, over, due}
use Rattle.scm_runs.proofs.Sound.{in_hand, running, not_running, reported, no_more, control_waits, control_sent, are_named, retold}
use Rattle.scm_runs.proofs.Sound.{watching, reported_by, secured_found, told, failing, found_alone, triggers}
use Rattle.std.proofs.lemmas.Bool.{or_parts, or_right, not-false, and_parts}
use Rattle.scm_model.specs.Found.{if_found}
use Rattle.scm_model.proofs.Found.{found_keeps}
use Rattle.scm_runs.proofs.Founds.{opened_keeps, started_keeps, IsHeld, stopped_there, found_all, notify_keeps}
use Rattle.scm_rules.specs.Controls.{controlled_if, order_to}
use Rattle.scm_model.specs.declared.flat.Process.{Process}
use Rattle.status_machine.specs.Moves.{takes}
use Rattle.scm_rules.proofs.Held.{held_is}
use Rattle.scm_runs.proofs.Told.{IsNamed, mark_tells, notified_or, creation_proper}
use Rattle.scm_model.specs.declared.flat.Opened.{Opened}
use Rattle.scm_model.specs.declared.flat.Registration.{Registration}
use Rattle.scm_model.specs.Notices.{with_registration, new_registration, notified, event_of_state, pid_of, without_registration}
use Rattle.scm_rules.specs.Notify.{initial_notification, notify_of, notice_refusals}
use Rattle.scm_rules.specs.Delete.{marked_in, told_of_mark}
use Rattle.scm_runs.proofs.Registered.{AreRegistered, IsOfCaller, events_keep, result_taken, fewer_registered}
use Rattle.scm_rules.specs.Valid.{HasShortName}

-- ## A verdict of 0

-- no code is 0
abbrev pub AreCodes : List (Bool × ℕ) → Type 0
AreCodes [] = Unit {0}
AreCodes (row ∷ rows) = ((row.1 == 0) ≡ false) × AreCodes rows

-- no test applies
abbrev pub Pass : List (Bool × ℕ) → Type 0
Pass [] = Unit {0}
Pass (row ∷ rows) = (row.0 ≡ false) × Pass rows

passed : (b : Bool) (code rest : ℕ) → (code == 0) ≡ false → cond b code rest ≡ 0 → (b ≡ false) × (rest ≡ 0)
passed true code rest some e = let t = eq-eqb code 0 e in absurd (cc)
passed false code rest some e = (refl, e)

pub all_pass : (rows : List (Bool × ℕ)) → AreCodes rows → first_refusal rows ≡ 0 → Pass rows
all_pass [] codes e = tt
all_pass (row ∷ rows) codes e =
    let here = passed row.0 row.1 (first_refusal rows) codes.0 e in
    (here.0, all_pass rows codes.1 here.1)

checked_by : (a b c : Bool) → (cond a 123 (cond b 87 (cond c 1057 0)) == 123) ≡ false
    → (cond a 123 (cond b 87 (cond c 1057 0)) == 87) ≡ false → ◌≡◌ {A = ℕ} (cond a 123 (cond b 87 0)) 0
checked_by true b c x y = absurd (cc)
checked_by false true c x y = absurd (cc)
checked_by false false c x y = refl

-- what holds of a call's effect at code 0, and of a refusal, holds of what the call comes to
pub by_verdict : (G : CallResult → Type 0) (code : ℕ) (told : Reply) (f : Flat) (done : CallResult) → (code ≡ 0 → G done)
    → ((code == 0) ≡ false → G (record { reply = told; flat = f })) → G (answered code told f done)
by_verdict G code told f done passes refuses =
    elim (code == 0) as (λ b. (code == 0) ≡ b → G (cond b done (record { reply = told; flat = f })))
    [ true ↦ λ e. passes (eqb-true code 0 e) | false ↦ refuses ] refl

-- what is refused for no account but its own is not refused without one
checked_alone : (config : Config) (account : Option (List ℕ)) → (check_new config account == 123) ≡ false
    → (check_new config account == 87) ≡ false → check_new config None ≡ 0
unfolding check_new
checked_alone config account x y = checked_by (has_bad_names config) (has_bad_numbers config || has_bad_texts config
    || has_bad_lists config) (is_bad_account account) x y

-- what a Create with verdict 0 knows
record Passed (f : Flat) (caller : ℕ) (new : NewService) : Type 0 where
  names : All (λ (row : Service). same_text row.config.name new.name ≡ false) f.services
  displays : All (λ (row : Service). same_text row.config.display (created_config f new).display ≡ false) f.services
  config : check_new (created_config f new) None ≡ 0
  given : is_none (service_granted f caller new.access) ≡ false
  free : makes_cycle f f.next.service (created_config f new) ≡ false

create_passed : (l : Limits) (f : Flat) (caller : ℕ) (new : NewService) (append : Kept) → create_verdict l f caller new append ≡ 0
    → Passed f caller new
create_passed l f caller new append e =
    let p = all_pass (create_refusals l f caller new append) (
      refl,
      (
        refl,
        (refl, (refl, (refl, (refl, (refl, (refl, (refl, (refl, (refl, tt))))))))),
      ),
    ) e in
    record {
      names = none_found (λ (row : Service). same_text row.config.name new.name) f.services p.1.1.1.1.1.1.0;
      displays = All-weaker (λ (row : Service). (same_text row.config.name (created_config f new).display
          || same_text row.config.display (created_config f new).display) ≡ false)
          (λ (row : Service). same_text row.config.display (created_config f new).display ≡ false)
          (λ row h. (or_parts (same_text row.config.name (created_config f new).display)
          (same_text row.config.display (created_config f new).display) h).1) f.services
          (none_any (λ (row : Service). same_text row.config.name (created_config f new).display
          || same_text row.config.display (created_config f new).display) f.services p.1.1.1.1.1.1.1.0);
      config = checked_alone (created_config f new) new.account p.1.1.0
          (or_parts _ _ (or_parts (check_new (created_config f new) new.account == 87 || tags_nothing new)
          (are_unreadable new.needs) p.1.1.1.0).0).0;
      given = (or_parts (manager_lacks (manager_mask f caller new.handle) 2) (is_none (service_granted f caller new.access)) p.1.0).1;
      free = p.1.1.1.1.1.1.1.1.0;
    }

-- a Change with verdict 0
changed : (f : Flat) (change : ChangeService) (row : Service) (found : Option Service) → Sound f → found ≡ Some row
    → service_of f row.number ≡ Some row
    → (checked f change found == 123) ≡ false → (checked f change found == 87) ≡ false → takes_name f change found ≡ false
    → loops f change found ≡ false → Sound (reconfigured f row.number (new_config f change row))
changed f change row None s is e x y free loop = absurd cc
changed f change row (Some one) s is e x y free loop =
    let same : one ≡ row = cc in
    let config = new_config f change row in
    configured f row.number row config change.display s e refl refl (subst (λ r. takes_name f change (Some r) ≡ false) same free)
    (checked_alone config change.account (subst (λ r. (checked f change (Some r) == 123) ≡ false) same x)
    (subst (λ r. (checked f change (Some r) == 87) ≡ false) same y))
    (tested (map (configured_if row.number config) f.services) _ (rows_configured row.number config row f.services e)
    (subst (λ r. loops f change (Some r) ≡ false) same loop))

change_done_sound : (f : Flat) (caller : ℕ) (change : ChangeService) (append : Kept) → Sound f → change_verdict f caller change append ≡ 0
    → Sound (change_done f caller change).flat
change_done_sound f caller change append s e =
    let p = all_pass (change_refusals f caller change append) (refl, (refl, (refl, (refl, (refl, (refl, (refl, (refl, (refl, tt))))))))) e
    in
    let found = held_service f caller change.handle in
    found_keeps (λ (rows : List Service). Sound (record f { services = rows }))
    (λ (row : Service). map (configured_if row.number (new_config f change row))) found f.services s
    (λ row is. changed f change row found s is (held_is f caller change.handle row is) p.1.1.1.0
    (or_parts _ _ (or_parts (checked f change found == 87 || tags_no_group change found) (are_unreadable change.needs) p.1.1.1.1.0).0).0
    p.1.1.1.1.1.1.0 p.1.1.1.1.1.1.1.0)

-- a Change2 with verdict 0
levelled : (f : Flat) (asked : Info) (row : Service) (found : Option Service) → Sound f → found ≡ Some row
    → service_of f row.number ≡ Some row → is_refused asked found ≡ false → Sound (reconfigured f row.number (level_config asked row))
levelled f asked row None s is e free = absurd cc
levelled f asked row (Some one) s is e free =
    let same : one ≡ row = cc in
    configured f row.number row (level_config asked row) None s e (name_left asked row) (display_left asked row) refl
    (eqb-true (check_new (level_config asked row) None) 0 (not-false _ (subst (λ r. is_refused asked (Some r) ≡ false) same free)))
    (needs_left f asked row s.services e)

change2_done_sound : (f : Flat) (caller handle : ℕ) (asked : Info) (append : Kept) → Sound f
    → change2_verdict f caller handle asked append ≡ 0 → Sound (change2_done f caller handle asked).flat
change2_done_sound f caller handle asked append s e =
    let p = all_pass (change2_refusals f caller handle asked append) (refl, (refl, (refl, (refl, (refl, (refl, tt)))))) e in
    let found = held_service f caller handle in
    found_keeps (λ (rows : List Service). Sound (record f { services = rows }))
    (λ (row : Service). map (configured_if row.number (level_config asked row))) found f.services s
    (λ row is. levelled f asked row found s is (held_is f caller handle row is)
    (or_parts (has_bad_trigger asked) (is_refused asked found) p.1.1.1.1.0).1)

-- a Start
started : (f : Flat) (caller handle : ℕ) (words : Option (List (List ℕ))) → Sound f → is_caller f caller ≡ true
    → Sound (start_done f caller handle words).flat
started f caller handle words s there =
    started_keeps Sound f caller handle words s
    (λ row is. planned f caller row.number (start_order f row.number) (unwrap_or words []) s
    (or_right (caller == 0) (is_caller f caller) there) (order_below f f.next.service row.number s.services.numbered.below
    (found_has (λ (r : Service). r.number < f.next.service) (λ (r : Service). r.number == row.number) row f.services
    s.services.numbered.below (held_is f caller handle row is))))

-- a Start with verdict 0 is of a service that is there
pub start_held : (f : Flat) (caller handle : ℕ) (words : Option (List (List ℕ))) → start_verdict f caller handle words ≡ 0
    → IsHeld f caller handle
start_held f caller handle words e =
    let service = held_service f caller handle in
    let p = all_pass (start_refusals f caller handle words) (refl, (refl, (refl, (refl, (refl, (refl, (refl, (refl, tt)))))))) e in
    stopped_there f caller handle service refl (not-false _ (or_parts (not (state_in service == 1))
    (is_aimed_at f service) p.1.1.1.1.1.0).0)

-- who may report has a process that runs
pub set_status_runs : (f : Flat) (caller handle : ℕ) (report : Status) (row : Service) → held_service f caller handle ≡ Some row
    → set_status_verdict f caller handle report ≡ 0 → is_launched (process_of f row.process) ≡ true
set_status_runs f caller handle report row is e =
    let p = all_pass (set_status_refusals f caller handle report) (refl, (refl, (refl, tt))) e in
    (and_parts (is_launched (process_of f row.process)) (takes row.status report)
    (subst (λ found. may_report f found report ≡ true) is (not-false _ p.1.1.0))).0

-- ## Registrations

-- the service that a handle is of has a number and a short name
held_named : (f : Flat) (caller handle : ℕ) (row : Service) → Sound f → held_service f caller handle ≡ Some row → IsNamed row
held_named f caller handle row s is = found_has IsNamed (λ (r : Service). r.number == row.number) row f.services (are_named f s)
    (held_is f caller handle row is)

-- the registration that a Notify makes
abbrev watching_row : Flat → ℕ → ℕ → ℕ → Opened → Registration
watching_row f caller handle mask of = initial_notification f (held_service f caller handle)
    (new_registration f.next.registration caller of.service mask)

watches : (f : Flat) (caller handle mask : ℕ) (of : Opened) → Sound f → is_caller f caller ≡ true
    → Sound (with_registration f (watching_row f caller handle mask of))
watches f caller handle mask of s there =
    let new = new_registration f.next.registration caller of.service mask in
    let at_once = λ (row : Service). notified (event_of_state (pid_of f.processes row) row) in
    let service = held_service f caller handle in
    watching f (watching_row f caller handle mask of)
    (found_keeps (λ (row : Registration). row.number ≡ f.next.registration) at_once service new refl
    (λ row is. notified_or (λ (r : Registration). r.number ≡ f.next.registration) (event_of_state (pid_of f.processes row) row) new
    (λ h. refl) refl))
    (found_keeps (IsOfCaller f.callers) at_once service new there
    (λ row is. notified_or (IsOfCaller f.callers) (event_of_state (pid_of f.processes row) row) new (λ h. there) there))
    (found_keeps HasShortName at_once service new (omega arith)
    (λ row is. notified_or HasShortName (event_of_state (pid_of f.processes row) row) new (λ h. (held_named f caller handle row s is).short)
    (omega arith)))
    s

-- ## Calls

pub of_done : (l : Limits) (f : Flat) (caller : ℕ) (asked : Request) (append : Kept) → Sound f → is_caller f caller ≡ true
    → verdict l f caller asked append ≡ 0 → Sound (done_of l f caller asked).flat
of_done l f caller (request.Close handle) append s there e =
    let p = all_pass (close_refusals f caller handle) (refl, tt) e in
    closed f handle s (not_unlocked f.lock f.handles caller handle (handle_of f caller handle) refl
    (closes_another (handle_of f caller handle) (not-false _ p.0)) s.handles.lock)
of_done l f caller (request.Control handle control) append s there e =
    found_keeps (λ (rows : List Process). Sound (record f { processes = rows }))
    (λ (row : Service). map (controlled_if l.controls row.process (order_to row.number control)))
    (held_service f caller handle) f.processes s
    (λ row is. control_waits l f row.process (order_to row.number control) s)
of_done l f caller (request.Delete handle) append s there e =
    found_all (λ found. Sound (record f {
      services = marked_in found f.services;
      registrations = told_of_mark f.processes found f.registrations;
    })) (held_service f caller handle) s
    (λ row is. retold (with_mark f row.number) _ (mark_tells (AreRegistered f.next.registration f.callers)
    (events_keep f.next.registration f.callers) f.processes row f.registrations
    (held_named f caller handle row s is) s.registrations) (marked f row.number s))
of_done l f caller (request.Lock handle) append s there e =
    let p = all_pass (lock_refusals l f caller handle) (refl, (refl, (refl, (refl, tt)))) e in
    taken f caller s there p.1.1.0
of_done l f caller (request.SetStatus handle status) append s there e =
    failing (failed_by status (held_service f caller handle)) _
    (found_all (λ found. Sound (record f {
      services = reported_in status found f.services;
      processes = if_found (released_by status) found f.processes;
      registrations = notified_of_report f.processes status found f.registrations;
    })) (held_service f caller handle) s
    (λ row is. reported_by f status row (held_named f caller handle row s is)
    (found_alone f (λ (r : Service). r.number == row.number) row s (held_is f caller handle row is))
    (set_status_runs f caller handle status row is e) s))
of_done l f caller (request.Unlock handle) append s there e = given_back f handle s
of_done l f caller (request.Change change) append s there e = change_done_sound f caller change append s e
of_done l f caller (request.Change2 handle asked) append s there e = change2_done_sound f caller handle asked append s e
of_done l f caller (request.Create new) append s there e =
    let p = create_passed l f caller new append e in
    handed (with_creation f (created_config f new) (new_status new.kind)) caller _ _
    (told (with_service f (created_config f new) (new_status new.kind)) _
    (creation_proper (created_config f new) (new_status new.kind) p.config)
    (added f (created_config f new) (new_status new.kind) s p.names p.displays p.config refl refl
    (tested (with_service f (created_config f new) (new_status new.kind)).services _
    (rows_added f.services _ s.services.numbered.below) p.free))) there
    (granted_within (principal_of f caller) false new.access p.given) refl
of_done l f caller (request.OpenManager database access) append s there e =
    let p = all_pass (open_manager_refusals l f caller database access) (refl, (refl, (refl, (refl, tt)))) e in
    handed f caller kinds.Manager _ s there (granted_within (principal_of f caller) true access p.1.1.0) refl
of_done l f caller (request.Start handle words) append s there e = started f caller handle words s there
of_done l f caller (request.OpenService handle name access) append s there e =
    let p = all_pass (open_service_refusals l f caller handle name access) (refl, (refl, (refl, (refl, (refl, (refl, tt)))))) e in
    opened_keeps Sound f caller name access s (λ row is. handed f caller (kinds.Service row.number) _ s there
    (narrowed_within (rights_of (principal_of f caller) false) (unwrap_or (service_granted f caller access) 0)
    (unwrap_or (service_allowed f caller name access) 0) (granted_within (principal_of f caller) false access p.1.1.1.0)) refl)
of_done l f caller (request.SetSecurity handle parts bytes) append s there e =
    secured_found f (held_service f caller handle) (asked_security f caller handle parts (descriptor_in bytes))
    (asked_written f caller handle parts bytes s.services.secured) s
of_done l f caller (request.Notify handle mask) append s there e =
    notify_keeps Sound f caller handle mask (handed f caller (kinds.Notify f.next.registration) 0 s there refl refl)
    (λ of is. handed (with_registration f (watching_row f caller handle mask of)) caller (kinds.Notify f.next.registration) 0
    (watches f caller handle mask of s there) there refl refl)
of_done l f caller (request.GetNotify handle) append s there e =
    retold f _ (result_taken f.next.registration (unwrap_or (notify_of f caller handle) 0) f.callers f.registrations s.registrations) s
of_done l f caller (request.CloseNotify handle) append s there e =
    let p = all_pass (notice_refusals f caller handle) (refl, tt) e in
    let number = unwrap_or (notify_of f caller handle) 0 in
    let g = without_registration f number in
    closed g handle (retold f g.registrations (fewer_registered f.next.registration f.callers
    (λ (row : Registration). not (row.number == number)) f.registrations s.registrations) s)
    (not_unlocked f.lock f.handles caller handle (handle_of f caller handle) refl
    (notify_another (handle_of f caller handle) p.0) s.handles.lock)
-- the others only read
of_done l f caller asked append s there e = s

of_call : (l : Limits) (f : Flat) (caller : ℕ) (asked : Request) (append : Kept) → Sound f → is_caller f caller ≡ true
    → Sound (call_of l f caller asked append).flat
of_call l f caller asked append s there =
    by_verdict (λ r. Sound r.flat) (verdict l f caller asked append) _ f (done_of l f caller asked)
    (of_done l f caller asked append s there) (λ e. s)

-- ## Steps

pub of_effect : (l : Limits) (f : Flat) (moment : ℕ) (step : Step) → Sound f → IsTrue (may l f moment step)
    → Sound (effect_of l (at_moment f moment step) step).flat
of_effect l f moment (Joined principal) s ok = joined (with_moment f moment) principal (moved f moment s)
of_effect l f moment (Call caller asked append) s ok =
    of_call l (with_moment f moment) caller asked append (moved f moment s) (and_parts _ _ (and_parts _ _ ok).0).0
of_effect l f moment (EndStart caller plan) s ok = over (with_moment f moment) plan (moved f moment s)
of_effect l f moment LaunchTaken s ok = in_hand (with_moment f moment) (and_parts _ _ ok).0 (moved f moment s)
of_effect l f moment (Launched process pid) s ok = running (with_moment f moment) process pid (moved f moment s)
of_effect l f moment (LaunchFailed process code) s ok = not_running (with_moment f moment) process code (moved f moment s)
of_effect l f moment (Report process service status) s ok =
    reported (with_moment f moment) process service status (and_parts _ _ ok).0 (moved f moment s)
of_effect l f moment (Ended process) s ok = no_more (with_moment f moment) process (moved f moment s)
of_effect l f moment (ControlTaken process) s ok = control_sent (with_moment f moment) process (moved f moment s)
of_effect l f moment Tick s ok = due l (with_moment f moment) (moved f moment s)
of_effect l f moment (Raised caller subtype) s ok = triggers l (with_moment f moment) caller subtype (moved f moment s)
of_effect l f moment (Gone caller) s ok = left (with_moment f moment) caller (moved f moment s)
of_effect l f moment (NoMemory caller) s ok = s

left_by_code : (g : Flat) (plan : ℕ) (code : Option ℕ) → Sound g → Sound (left_by g plan code)
left_by_code g plan None s = s
left_by_code g plan (Some code) s = over g plan s

-- what is answered leaves
pub finishes : (g : Flat) (told : Answer) → Sound g → Sound (finished g told).flat
finishes g (answer.Begun plan) s = left_by_code g plan (code_of g.plans plan) s
finishes g told s = s

pub before_sound : (l : Limits) (f : Flat) (moment : ℕ) (step : Step) → Sound f → IsTrue (may l f moment step)
    → Sound (finished_step l f moment step).flat
before_sound l f moment step s ok =
    let done = effect_of l (at_moment f moment step) step in
    finishes (settled l done.flat) done.answer (settles l done.flat (of_effect l f moment step s ok))

pub keeps : (l : Limits) → Keeps Sound l
keeps l f e s ok = cleared (finished_step l f e.0 e.1).flat (before_sound l f e.0 e.1 s ok)
