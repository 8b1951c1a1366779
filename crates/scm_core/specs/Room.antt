-- The room that a step uses.
use Rattle.std.specs.Prelude.{ℕ, Bool, true, false, ◌≡◌, ◌≤◌, ◌<◌, ◌+◌, ◌^◌, length, nat_lt, IfSome, None, Some, Result, Ok, Err}
use Rattle.scm_model.specs.declared.flat.Flat.{Flat}
use Rattle.scm_model.specs.declared.calls.NewService.{NewService}
use Rattle.scm_model.specs.declared.calls.Request.{Request}
use Rattle.scm_model.specs.declared.calls.Request.TheVariants as request
use Rattle.scm_model.specs.declared.steps.Step.{Step}
use Rattle.scm_model.specs.declared.steps.Step.TheVariants.{Joined, Call, Tick, Raised}
use Rattle.scm_model.specs.declared.flat.Limits.{Limits}
use Rattle.scm_text.specs.declared.OutOfMemory.{OutOfMemory}
use Rattle.scm_model.specs.declared.steps.Kept.TheVariants as appended
use Rattle.scm_rules.specs.Change.{asked_config, change_verdict}
use Rattle.scm_rules.specs.Change2.{asked_level, change2_verdict}
use Rattle.scm_rules.specs.Create.{created_config, create_verdict}
use Rattle.scm_rules.specs.EnumDependents.{enum_dependents_reply}
use Rattle.scm_rules.specs.EnumServices.{enum_services_reply}
use Rattle.scm_rules.specs.QueryConfig.{query_config_reply}
use Rattle.scm_rules.specs.QueryConfig2.{query_config2_reply}
use Rattle.scm_rules.specs.QueryStatusEx.{query_ex_reply}
use Rattle.scm_rules.specs.Locks.{lock_owner}
use Rattle.scm_rules.specs.Security.{asked_security, descriptor_in, query_security_reply, set_security_verdict}
use Rattle.scm_rules.specs.Verdicts.{change_of_call}
use Rattle.scm_rules.specs.OtherName.{display_by_name, name_by_display, other_name_reply}
use Rattle.scm_arms_start.specs.Entries.{start_entries}
use Rattle.scm_arms_process.specs.Raised.{raise_starts}
use Rattle.scm_tables.specs.Firing.{HasFires, HasPlanNumbers, HasStarts, commands_in, starts_in}
use Rattle.scm_tables.specs.Tabled.{HasNeedRoom, Tabled}
use Rattle.scm_core.specs.declared.room.Prepared.{Prepared}

-- the rows that a call may add find room, and so do the texts and needs of a service that comes or changes; a plan also has room for what
-- it will have tried
abbrev pub HasRoomForCall : Tabled → ℕ → Request → Type 0
HasRoomForCall t caller (request.Lock handle) = 1 ≤ t.spare.handles
HasRoomForCall t caller (request.Create new) = (1 ≤ t.spare.handles) × (1 ≤ t.spare.services)
    × HasNeedRoom t.spare (created_config t.flat new)
HasRoomForCall t caller (request.Change change) = IfSome (asked_config t.flat caller change) (HasNeedRoom t.spare)
HasRoomForCall t caller (request.Change2 handle asked) = IfSome (asked_level t.flat caller handle asked) (HasNeedRoom t.spare)
HasRoomForCall t caller (request.OpenManager database access) = 1 ≤ t.spare.handles
HasRoomForCall t caller (request.OpenService handle name access) = 1 ≤ t.spare.handles
HasRoomForCall t caller (request.Start handle words) =
    (1 ≤ t.spare.plans) × (1 ≤ t.spare.dues) × (length (start_entries t.flat caller handle words) ≤ t.spare.tried)
HasRoomForCall t caller (request.Notify handle mask) = (1 ≤ t.spare.handles) × (1 ≤ t.spare.registrations)
HasRoomForCall t caller asked = Unit {0}

-- so do the plans and commands that a tick or a raise begins
abbrev pub HasRoomForStep : Tabled → Step → Type 0
HasRoomForStep t (Joined principal) = 1 ≤ t.spare.callers
HasRoomForStep t (Call caller asked append) = HasRoomForCall t caller asked
HasRoomForStep t Tick = HasFires t
HasRoomForStep t (Raised caller subtype) = HasStarts (raise_starts t.flat caller subtype) t
HasRoomForStep t step = Unit {0}

-- ## The steps that need no memory

-- whether a call may add a row, or something is made for it beforehand
abbrev pub call_needs_memory : Request → Bool
call_needs_memory (request.Close handle) = false
call_needs_memory (request.CloseNotify handle) = false
call_needs_memory (request.Control handle control) = false
call_needs_memory (request.GetNotify handle) = false
call_needs_memory (request.QueryStatus handle) = false
call_needs_memory (request.SetStatus handle status) = false
call_needs_memory (request.Unlock handle) = false
call_needs_memory asked = true

-- a tick does while a start or a command is due or will be, and a raise that starts a service
abbrev pub needs_memory : Flat → Step → Bool
needs_memory f (Joined principal) = true
needs_memory f (Call caller asked append) = call_needs_memory asked
needs_memory f Tick = nat_lt 0 (starts_in f.dues + commands_in f.dues)
needs_memory f (Raised caller subtype) = nat_lt 0 (raise_starts f caller subtype)
needs_memory f step = false

-- ## What is made beforehand, so that the step takes no memory

abbrev pub nothing_made : Prepared
nothing_made = record { name = None; config = None; code = 0; change = None; entries = None; reply = None; security = None }

-- what is made of a value, if there was memory for it
abbrev pub made_with : {T : Type 0} → (T → Prepared) → Result T OutOfMemory → Result Prepared OutOfMemory
made_with make (Ok value) = Ok (make value)
made_with make (Err fault) = Err fault

-- for a creation and a change the new configuration, and what they are refused with if they are kept; for what may change the
-- configurations the change; for a start the services that it goes by; for a query of the lock the owner's name; for a call that sets a
-- security descriptor the new one, and what it is refused with; for another call that only reads, and has texts or bytes in its reply, the
-- reply
abbrev pub prepared_for : Limits → Flat → ℕ → Request → Prepared
prepared_for l f caller (request.Change change) = record nothing_made {
  config = asked_config f caller change;
  code = change_verdict f caller change appended.Kept;
  change = change_of_call l f caller (request.Change change);
}
prepared_for l f caller (request.Change2 handle asked) = record nothing_made {
  config = asked_level f caller handle asked;
  code = change2_verdict f caller handle asked appended.Kept;
  change = change_of_call l f caller (request.Change2 handle asked);
}
prepared_for l f caller (request.Create new) = record nothing_made {
  config = Some (created_config f new);
  code = create_verdict l f caller new appended.Kept;
  change = change_of_call l f caller (request.Create new);
}
prepared_for l f caller (request.Delete handle) = record nothing_made { change = change_of_call l f caller (request.Delete handle) }
prepared_for l f caller (request.QuerySecurity handle parts size) = record nothing_made {
  reply =
      Some (query_security_reply f caller handle parts size);
}
prepared_for l f caller (request.SetSecurity handle parts bytes) = record nothing_made {
  code = set_security_verdict f caller handle parts (descriptor_in bytes);
  security = asked_security f caller handle parts (descriptor_in bytes);
}
prepared_for l f caller (request.QueryConfig handle size) = record nothing_made { reply = Some (query_config_reply f caller handle size) }
prepared_for l f caller (request.QueryLock handle size) = record nothing_made { name = Some (lock_owner f) }
prepared_for l f caller (request.Start handle words) = record nothing_made { entries = Some (start_entries f caller handle words) }
prepared_for l f caller (request.DisplayName handle name size) = record nothing_made {
  reply =
      Some (other_name_reply f caller handle size (display_by_name f name));
}
prepared_for l f caller (request.KeyName handle name size) = record nothing_made {
  reply =
      Some (other_name_reply f caller handle size (name_by_display f name));
}
prepared_for l f caller (request.EnumDependents handle states size) = record nothing_made {
  reply =
      Some (enum_dependents_reply f caller handle states size);
}
prepared_for l f caller (request.EnumServices handle kinds states size resume) =
    record nothing_made { reply = Some (enum_services_reply f caller handle kinds states size resume) }
prepared_for l f caller (request.QueryConfig2 handle level size) = record nothing_made {
  reply =
      Some (query_config2_reply f caller handle level size);
}
prepared_for l f caller (request.QueryStatusEx handle level size) = record nothing_made {
  reply =
      Some (query_ex_reply f caller handle level size);
}
prepared_for l f caller asked = nothing_made

-- whether a call goes by what was made for it
abbrev pub uses_made : Request → Bool
uses_made (request.Change change) = true
uses_made (request.Change2 handle asked) = true
uses_made (request.Create new) = true
uses_made (request.QueryLock handle size) = true
uses_made (request.QuerySecurity handle parts size) = true
uses_made (request.SetSecurity handle parts bytes) = true
uses_made (request.Start handle words) = true
uses_made (request.QueryConfig handle size) = true
uses_made (request.DisplayName handle name size) = true
uses_made (request.KeyName handle name size) = true
uses_made (request.EnumDependents handle states size) = true
uses_made (request.EnumServices handle kinds states size resume) = true
uses_made (request.QueryConfig2 handle level size) = true
uses_made (request.QueryStatusEx handle level size) = true
uses_made asked = false

-- a service is asked to be created
abbrev pub IsCreation : Request → Type 0
IsCreation asked = (new : NewService) × (asked ≡ request.Create new)

abbrev pub IsMadeFor : Limits → Flat → Prepared → Step → Type 0
IsMadeFor l f made (Call caller asked append) = made ≡ prepared_for l f caller asked
IsMadeFor l f made step = Unit {0}

-- the next numbers can still be given; of plans and what becomes due also those of each start that is due or raised
pub record HasNumbers (f : Flat) : Type 0 where
  pub handle : f.next.handle < 2 ^ 63
  pub caller : f.next.caller < 2 ^ 63
  pub service : f.next.service < 2 ^ 63
  pub plan : f.next.plan < 2 ^ 63
  pub due : f.next.due < 2 ^ 63
  pub registration : f.next.registration < 2 ^ 63
  pub starts : HasPlanNumbers (starts_in f.dues + length f.services) f
