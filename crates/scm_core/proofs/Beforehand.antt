-- What is made for a step, and its room, don't hang on the moment.
use Rattle.std.proofs.Common.{ℕ, ◌≡◌, ◌≤◌, ◌<◌, ◌+◌, ◌^◌, ◌==◌, ◌∙◌, true, false, cond, length, List, Option, Some, ap, arith, refl, subst}
use Rattle.std.proofs.Common.{sym}
use Rattle.std.specs.Prelude.{is_some}
use Rattle.scm_model.specs.Changes.{with_moment}
use Rattle.scm_model.specs.declared.calls.Request.{Request}
use Rattle.scm_model.specs.declared.calls.Request.TheVariants as request
use Rattle.scm_model.specs.declared.flat.Flat.{Flat}
use Rattle.scm_model.specs.declared.flat.Limits.{Limits}
use Rattle.scm_model.specs.declared.steps.Kept.{Kept}
use Rattle.scm_model.specs.declared.steps.Step.{Step}
use Rattle.scm_model.specs.declared.steps.Step.TheVariants.{Joined, Call, EndStart, LaunchTaken, Launched, LaunchFailed, Report, Ended}
use Rattle.scm_model.specs.declared.steps.Step.TheVariants.{ControlTaken, Tick, Raised, Gone, NoMemory}
use Rattle.scm_model.specs.declared.calls.Reply.{Reply}
use Rattle.scm_model.specs.Refused.{answered}
use Rattle.scm_model.specs.Entries.{unkept}
use Rattle.scm_model.specs.Outcomes.{CallResult}
use Rattle.scm_rules.specs.OtherName.{display_by_name, name_by_display, other_name_done, other_name_reply, other_name_told}
use Rattle.scm_rules.specs.OtherName.{other_name_verdict}
use Rattle.scm_rules.specs.EnumDependents.{enum_dependents_done, enum_dependents_told, enum_dependents_verdict}
use Rattle.scm_rules.specs.EnumServices.{enum_services_done, enum_services_told, enum_services_verdict}
use Rattle.scm_rules.specs.QueryStatusEx.{query_ex_done, query_ex_told, query_ex_verdict}
use Rattle.scm_rules.specs.QueryConfig.{query_config_done, query_config_told, query_config_verdict}
use Rattle.scm_rules.specs.QueryConfig2.{query_config2_done, query_config2_told, query_config2_verdict}
use Rattle.scm_rules.specs.Security.{query_security_done, query_security_told, query_security_verdict}
use Rattle.scm_rules.specs.Steps.{at_moment, keeps_right}
use Rattle.scm_rules.specs.Verdicts.{change_of, change_of_call, tells_right}
use Rattle.scm_core.proofs.Numbers.{numbers_at, numbers_left, processes_at}
use Rattle.scm_core.specs.Inside.{KeepsMade}
use Rattle.scm_core.specs.Judged.{told_in, change_if_kept}
use Rattle.scm_core.specs.Managed.{WasMadeFor}
use Rattle.scm_arms_process.specs.Raised.{raise_starts, started_among}
use Rattle.scm_rules.specs.Raise.{raise_verdict}
use Rattle.scm_rules.specs.Room.{is_started_at}
use Rattle.scm_tables.specs.Firing.{CanFire, HasFires, HasPlanNumbers, HasStarts, starts_in}
use Rattle.scm_tables.proofs.Placed.{fewer}
use Rattle.scm_tables.specs.Tabled.{Spare, Tabled}
use Rattle.scm_core.specs.declared.room.Prepared.{Prepared}
use Rattle.scm_core.specs.Room.{HasNumbers, HasRoomForStep, IsMadeFor, prepared_for, nothing_made}
use Rattle.scm_model.specs.declared.steps.Change.{Change}

-- the reply of a call that changes nothing
told_at : (code : ℕ) (told done : Reply) (f g : Flat) → (answered code told f (record { reply = done; flat = f })).reply ≡
    (answered code told g (record { reply = done; flat = g })).reply
told_at code told done f g =
    elim (code == 0) as (λ b. (cond {A = CallResult} b (record { reply = done; flat = f }) (record { reply = told; flat = f })).reply
    ≡ (cond {A = CallResult} b (record { reply = done; flat = g }) (record { reply = told; flat = g })).reply) [
      | true ↦ refl
      | false ↦ refl
    ]

abbrev replying : Reply → Prepared
replying told = record nothing_made { reply = Some told }

other_name_at : (f : Flat) (moment caller handle size : ℕ) (other : Option (List ℕ))
    → replying (other_name_reply (with_moment f moment) caller handle size other) ≡ replying (other_name_reply f caller handle size other)
other_name_at f moment caller handle size other =
    let code = other_name_verdict f caller handle size other in
    ap replying (told_at code (other_name_told other code) (other_name_done f other).reply (with_moment f moment) f)

made_at : (l : Limits) (f : Flat) (moment caller : ℕ) (asked : Request)
    → prepared_for l (with_moment f moment) caller asked ≡ prepared_for l f caller asked
made_at l f moment caller (request.QueryConfig handle size) =
    let code = query_config_verdict f caller handle size in
    ap replying (told_at code (query_config_told f caller handle code) (query_config_done f caller handle).reply (with_moment f moment) f)
made_at l f moment caller (request.DisplayName handle name size) = other_name_at f moment caller handle size (display_by_name f name)
made_at l f moment caller (request.KeyName handle name size) = other_name_at f moment caller handle size (name_by_display f name)
made_at l f moment caller (request.Close handle) = refl
made_at l f moment caller (request.Control handle control) = refl
made_at l f moment caller (request.Delete handle) = refl
made_at l f moment caller (request.Lock handle) = refl
made_at l f moment caller (request.QueryStatus handle) = refl
made_at l f moment caller (request.QuerySecurity handle parts size) =
    let code = query_security_verdict f caller handle parts size in
    ap replying (told_at code (query_security_told f caller handle parts size code) (query_security_done f caller handle parts size).reply
    (with_moment f moment) f)
made_at l f moment caller (request.SetSecurity handle parts bytes) = refl
made_at l f moment caller (request.SetStatus handle status) = refl
made_at l f moment caller (request.Unlock handle) = refl
made_at l f moment caller (request.QueryLock handle size) = refl
made_at l f moment caller (request.Change change) = refl
made_at l f moment caller (request.Change2 handle asked) = refl
made_at l f moment caller (request.Create new) = refl
made_at l f moment caller (request.OpenManager database access) = refl
made_at l f moment caller (request.OpenService handle name access) = refl
made_at l f moment caller (request.Start handle words) = refl
made_at l f moment caller (request.EnumDependents handle states size) =
    let code = enum_dependents_verdict f caller handle states size in
    ap replying (told_at code (enum_dependents_told f caller handle states size code)
    (enum_dependents_done f caller handle states size).reply (with_moment f moment) f)
made_at l f moment caller (request.EnumServices handle kinds states size resume) =
    let code = enum_services_verdict f caller handle kinds states size resume in
    ap replying (told_at code (enum_services_told f kinds states size resume code) (enum_services_done f kinds states size resume).reply
    (with_moment f moment) f)
made_at l f moment caller (request.QueryConfig2 handle level size) =
    let code = query_config2_verdict f caller handle level size in
    ap replying (told_at code (query_config2_told f caller handle level size code) (query_config2_done f caller handle level size).reply
    (with_moment f moment) f)
made_at l f moment caller (request.QueryStatusEx handle level size) =
    let code = query_ex_verdict f caller handle level size in
    ap replying (told_at code (query_ex_told size code) (query_ex_done f caller handle size).reply (with_moment f moment) f)
made_at l f moment caller (request.Notify handle mask) = refl
made_at l f moment caller (request.GetNotify handle) = refl
made_at l f moment caller (request.CloseNotify handle) = refl

pub is_made_at : (l : Limits) (f : Flat) (moment : ℕ) (made : Prepared) (step : Step) → IsMadeFor l f made step
    → IsMadeFor l (at_moment f moment step) made step
is_made_at l f moment made (Call caller asked append) is = rw (made_at l f moment caller asked) is
is_made_at l f moment made (Joined principal) is = tt
is_made_at l f moment made (EndStart caller plan) is = tt
is_made_at l f moment made LaunchTaken is = tt
is_made_at l f moment made (Launched process pid) is = tt
is_made_at l f moment made (LaunchFailed process code) is = tt
is_made_at l f moment made (Report process service status) is = tt
is_made_at l f moment made (Ended process) is = tt
is_made_at l f moment made (ControlTaken process) is = tt
is_made_at l f moment made Tick is = tt
is_made_at l f moment made (Raised caller subtype) is = tt
is_made_at l f moment made (Gone caller) is = tt
is_made_at l f moment made (NoMemory caller) is = tt

room_at : (t : Tabled) (moment caller : ℕ) (asked : Request) (append : Kept) → HasRoomForStep t (Call caller asked append)
    → HasRoomForStep (record t { flat = with_moment t.flat moment }) (Call caller asked append)
room_at t moment caller (request.QueryConfig handle size) append has = has
room_at t moment caller (request.DisplayName handle name size) append has = has
room_at t moment caller (request.KeyName handle name size) append has = has
room_at t moment caller (request.Close handle) append has = has
room_at t moment caller (request.Control handle control) append has = has
room_at t moment caller (request.Delete handle) append has = has
room_at t moment caller (request.Lock handle) append has = has
room_at t moment caller (request.QueryStatus handle) append has = has
room_at t moment caller (request.QuerySecurity handle parts size) append has = has
room_at t moment caller (request.SetSecurity handle parts bytes) append has = has
room_at t moment caller (request.SetStatus handle status) append has = has
room_at t moment caller (request.Unlock handle) append has = has
room_at t moment caller (request.QueryLock handle size) append has = has
room_at t moment caller (request.Change change) append has = has
room_at t moment caller (request.Change2 handle asked) append has = has
room_at t moment caller (request.Create new) append has = has
room_at t moment caller (request.OpenManager database access) append has = has
room_at t moment caller (request.OpenService handle name access) append has = has
room_at t moment caller (request.Start handle words) append has = has
room_at t moment caller (request.EnumDependents handle states size) append has = has
room_at t moment caller (request.EnumServices handle kinds states size resume) append has = has
room_at t moment caller (request.QueryConfig2 handle level size) append has = has
room_at t moment caller (request.QueryStatusEx handle level size) append has = has
room_at t moment caller (request.Notify handle mask) append has = has
room_at t moment caller (request.GetNotify handle) append has = has
room_at t moment caller (request.CloseNotify handle) append has = has

starts_at : (t : Tabled) (moment count : ℕ) → HasStarts count t → HasStarts count (record t { flat = with_moment t.flat moment })
starts_at t moment count has = record { starts = has.starts; plans = has.plans; dues = has.dues; entries = has.entries }

-- lists with these parts
moved : (t u : Tabled) (moment : ℕ) (P : Tabled → Type 0) → u.flat ≡ with_moment t.flat moment → u.limits ≡ t.limits → u.spare ≡ t.spare
    → P (record t { flat = with_moment t.flat moment }) → P u
moved t u moment P flat limits spare has =
    subst (λ s. P (record { flat = u.flat; limits = u.limits; spare = s })) (sym spare)
    (subst (λ l. P (record { flat = u.flat; limits = l; spare = t.spare })) (sym limits)
    (subst (λ f. P (record { flat = f; limits = t.limits; spare = t.spare })) (sym flat) has))

-- the room of lists that moved on to the step's moment
pub has_room_at : (t u : Tabled) (moment : ℕ) (step : Step) → u.flat ≡ at_moment t.flat moment step → u.limits ≡ t.limits
    → u.spare ≡ t.spare → HasRoomForStep t step → HasRoomForStep u step
has_room_at t u moment (Call caller asked append) flat limits spare has =
    moved t u moment (λ v. HasRoomForStep v (Call caller asked append)) flat limits spare (room_at t moment caller asked append has)
has_room_at t u moment Tick flat limits spare has =
    moved t u moment HasFires flat limits spare (record {
      starts = starts_at t moment (starts_in t.flat.dues) has.starts;
      commands = has.commands;
    })
has_room_at t u moment (Raised caller subtype) flat limits spare has =
    moved t u moment (λ v. HasRoomForStep v (Raised caller subtype)) flat limits spare
    (starts_at t moment (raise_starts t.flat caller subtype) has)
has_room_at t u moment (Joined principal) flat limits spare has = subst (λ (s : Spare). 1 ≤ s.callers) (sym spare) has
has_room_at t u moment (EndStart caller plan) flat limits spare has = tt
has_room_at t u moment LaunchTaken flat limits spare has = tt
has_room_at t u moment (Launched process pid) flat limits spare has = tt
has_room_at t u moment (LaunchFailed process code) flat limits spare has = tt
has_room_at t u moment (Report process service status) flat limits spare has = tt
has_room_at t u moment (Ended process) flat limits spare has = tt
has_room_at t u moment (ControlTaken process) flat limits spare has = tt
has_room_at t u moment (Gone caller) flat limits spare has = tt
has_room_at t u moment (NoMemory caller) flat limits spare has = tt

pub ruleset before_moment = (is_made_at, has_room_at, numbers_at, processes_at, numbers_left)

-- nor on what is kept
pub is_made_unkept : (l : Limits) (f : Flat) (made : Prepared) (step : Step) → IsMadeFor l f made step → IsMadeFor l f made (unkept step)
is_made_unkept l f made (Call caller asked append) is = is
is_made_unkept l f made (Joined principal) is = tt
is_made_unkept l f made (EndStart caller plan) is = tt
is_made_unkept l f made LaunchTaken is = tt
is_made_unkept l f made (Launched process pid) is = tt
is_made_unkept l f made (LaunchFailed process code) is = tt
is_made_unkept l f made (Report process service status) is = tt
is_made_unkept l f made (Ended process) is = tt
is_made_unkept l f made (ControlTaken process) is = tt
is_made_unkept l f made Tick is = tt
is_made_unkept l f made (Raised caller subtype) is = tt
is_made_unkept l f made (Gone caller) is = tt
is_made_unkept l f made (NoMemory caller) is = tt

pub has_room_unkept : (t : Tabled) (step : Step) → HasRoomForStep t step → HasRoomForStep t (unkept step)
has_room_unkept t (Call caller asked append) has = has
has_room_unkept t (Joined principal) has = has
has_room_unkept t (EndStart caller plan) has = tt
has_room_unkept t LaunchTaken has = tt
has_room_unkept t (Launched process pid) has = tt
has_room_unkept t (LaunchFailed process code) has = tt
has_room_unkept t (Report process service status) has = tt
has_room_unkept t (Ended process) has = tt
has_room_unkept t (ControlTaken process) has = tt
has_room_unkept t Tick has = has
has_room_unkept t (Raised caller subtype) has = has
has_room_unkept t (Gone caller) has = tt
has_room_unkept t (NoMemory caller) has = tt

-- what was made for a call has the change that it makes
change_made : (l : Limits) (f : Flat) (caller : ℕ) (asked : Request) → (prepared_for l f caller asked).change ≡ change_of_call l f caller
    asked
change_made l f caller (request.Change change) = refl
change_made l f caller (request.Change2 handle asked) = refl
change_made l f caller (request.Create new) = refl
change_made l f caller (request.Delete handle) = refl
change_made l f caller _ = refl

-- so has what is kept for a step that room was made for
pub made_before : (l : Limits) (f : Flat) (made : Prepared) (room : Option Step) (step : Step) → KeepsMade l f made room
    → WasMadeFor room step → change_if_kept made step ≡ change_of l f step
made_before l f made room (Call caller asked append) keeps was =
    ap (λ (m : Prepared). m.change) (subst (KeepsMade l f made) was keeps) ∙ change_made l f caller asked
made_before l f made room _ keeps was = refl

pub told_made : (l : Limits) (f : Flat) (made : Prepared) (room : Option Step) (step : Step) → KeepsMade l f made room
    → WasMadeFor room step → told_in made step ≡ keeps_right l f step
told_made l f made room (Call caller asked append) keeps was =
    ap (λ (change : Option Change). tells_right (is_some change) append) (made_before l f made room (Call caller asked append) keeps was)
told_made l f made room _ keeps was = refl

-- ## What a tick and a raise begin

-- all that is due can take place
pub can_fire : (t : Tabled) → HasFires t → HasNumbers t.flat → t.limits.processes < 2 ^ 32 → t.flat.next.process ≤ 2 ^ 62 → CanFire t
can_fire t room numbers limit few = record {
  room = room;
  numbers = record { plans = omega (arith, numbers.starts.plans); dues = omega (arith, numbers.starts.dues) };
  processes = omega (arith, limit, few);
}

raises_few : (f : Flat) (caller : ℕ) (subtype : List ℕ) → raise_starts f caller subtype ≤ length f.services
raises_few f caller subtype =
    elim (raise_verdict f caller == 0) as (λ b. cond b (started_among subtype f.services) 0 ≤ length f.services)
    [ true ↦ fewer (is_started_at subtype) f.services | false ↦ omega arith ]

-- what is raised has numbers
pub raise_numbers : (f : Flat) (caller : ℕ) (subtype : List ℕ) → HasNumbers f → HasPlanNumbers (raise_starts f caller subtype) f
raise_numbers f caller subtype numbers =
    let few = raises_few f caller subtype in
    record { plans = omega (arith, few, numbers.starts.plans); dues = omega (arith, few, numbers.starts.dues) }

-- ## What an end begins

-- each service may fail
pub end_numbers : (f : Flat) → HasNumbers f → f.next.due + length f.services ≤ 2 ^ 63
end_numbers f numbers = let dues = numbers.starts.dues in omega (arith, dues)
