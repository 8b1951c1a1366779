-- The sizes that replies return, and what they are the sizes of.
use Rattle.std.specs.Prelude.{ℕ, Bool, ◌≡◌, ◌<◌, ◌≤◌, ◌^◌, ◌+◌, ◌*◌, ◌==◌, ◌||◌, All, IfSome, List, [], ◌∷◌, Option, None, Some, length}
use Rattle.std.specs.Prelude.{min, option_map, if◌then◌else◌}
use Rattle.std.specs.List.{AllByRecursion}
use Rattle.scm_model.specs.declared.codes.TheConstants.{ERROR_INSUFFICIENT_BUFFER, ERROR_MORE_DATA, MAX_ENUM_SIZE}
use Rattle.scm_model.specs.declared.flat.Flat.{Flat}
use Rattle.scm_model.specs.declared.flat.Limits.{Limits}
use Rattle.scm_model.specs.declared.flat.Service.{Service}
use Rattle.scm_model.specs.declared.calls.Info.{Info}
use Rattle.scm_model.specs.declared.calls.Info.TheVariants as info
use Rattle.scm_model.specs.declared.calls.Reply.{Reply}
use Rattle.scm_model.specs.declared.calls.Reply.TheVariants as reply
use Rattle.scm_model.specs.declared.calls.Request.{Request}
use Rattle.scm_model.specs.declared.calls.Request.TheVariants as request
use Rattle.scm_model.specs.declared.calls.TriggerIn.{TriggerIn}
use Rattle.scm_model.specs.declared.steps.Answer.{Answer}
use Rattle.scm_model.specs.declared.steps.Answer.TheVariants as answer
use Rattle.scm_model.specs.declared.steps.Step.{Step}
use Rattle.scm_model.specs.declared.steps.Step.TheVariants.{Call}
use Rattle.scm_model.specs.Entries.{Entry}
use Rattle.scm_model.specs.Rows.{held_service}
use Rattle.service_listing.specs.Layout.{listing_size}
use Rattle.service_listing.specs.Pages.{left_of, page_in}
use Rattle.service_listing.specs.Placed.{HasUuid}
use Rattle.scm_rules.specs.EnumDependents.{dependents_by}
use Rattle.scm_rules.specs.EnumServices.{services_asked}
use Rattle.scm_rules.specs.Locks.{lock_owner, lock_size}
use Rattle.scm_rules.specs.OtherName.{display_by_name, name_by_display, name_or_empty}
use Rattle.scm_rules.specs.QueryConfig2.{level_by}
use Rattle.scm_rules.specs.Security.{security_by}
use Rattle.scm_runs.specs.Sizes.{config_bytes}
use Rattle.scm_replies.specs.Replies.{reply_code}

-- ## What a reply returns

-- the size: the bytes that are needed, or the units of a name
abbrev pub reply_size : Reply → ℕ
reply_size (reply.Shown config needed code) = needed
reply_size (reply.LockState held owner seconds needed code) = needed
reply_size (reply.Name name size code) = size
reply_size (reply.Listing size bytes needed returned code) = needed
reply_size (reply.Page size bytes needed returned resume code) = needed
reply_size (reply.Bytes size bytes needed code) = needed
reply_size told = 0

-- the resume index of an enumeration
abbrev pub reply_resume : Reply → Option ℕ
reply_resume (reply.Page size bytes needed returned resume code) = resume
reply_resume told = None

-- the codes with which a call returns a size: that of a configuration, of the lock and of a name with success, too
abbrev pub returns_size : Request → ℕ → Bool
returns_size (request.EnumDependents handle states size) code = code == ERROR_MORE_DATA
returns_size (request.EnumServices handle kinds states size resume) code = code == ERROR_MORE_DATA
returns_size (request.QueryConfig2 handle level size) code = code == ERROR_INSUFFICIENT_BUFFER
returns_size (request.QueryStatusEx handle level size) code = code == ERROR_INSUFFICIENT_BUFFER
returns_size (request.QuerySecurity handle parts size) code = code == ERROR_INSUFFICIENT_BUFFER
returns_size asked code = code == 0 || code == ERROR_INSUFFICIENT_BUFFER

-- ## What is needed

abbrev pub config_size : Option Service → ℕ
config_size None = 0
config_size (Some row) = config_bytes row.config

abbrev pub name_units : Option (List ℕ) → ℕ
name_units name = length (name_or_empty name)

-- the services that an enumeration returns, and those that it leaves
abbrev pub services_given : Flat → ℕ → ℕ → ℕ → Option ℕ → List Service
services_given f kinds states size resume = page_in size (services_asked f kinds states resume)

abbrev pub services_left : Flat → ℕ → ℕ → ℕ → Option ℕ → List Service
services_left f kinds states size resume = left_of size (services_asked f kinds states resume)

-- the size of what a call asks for; of what an enumeration leaves, at most MAX_ENUM_SIZE, the range of its parameter
abbrev pub needed_size : Flat → ℕ → Request → ℕ
needed_size f caller (request.EnumDependents handle states size) = listing_size (dependents_by f caller handle states)
needed_size f caller (request.EnumServices handle kinds states size resume) =
    min MAX_ENUM_SIZE (listing_size (services_left f kinds states size resume))
needed_size f caller (request.QueryConfig handle size) = config_size (held_service f caller handle)
needed_size f caller (request.QueryLock handle size) = lock_size (lock_owner f)
needed_size f caller (request.DisplayName handle name size) = name_units (display_by_name f name)
needed_size f caller (request.KeyName handle display size) = name_units (name_by_display f display)
needed_size f caller (request.QueryConfig2 handle level size) = length (level_by f caller handle level)
needed_size f caller (request.QueryStatusEx handle level size) = 36
needed_size f caller (request.QuerySecurity handle parts size) = length (security_by f caller handle parts)
needed_size f caller asked = 0

-- the greatest size of what each call may ask for. Of 1,024 services: a record of 36 bytes and two names of 256 units, each with a zero. Of
-- a configuration: a path, a group, 512 needs, each a name after + and before /, the account and a display name. Of its levels: the actions
-- after a failure, with their command. Of a security descriptor: its header, owner and group of 15 parts each, and a list
abbrev pub greatest_size : Request → ℕ
greatest_size (request.EnumDependents handle states size) = 1024 * (36 + 2 * 257 + 2 * 257)
greatest_size (request.EnumServices handle kinds states size resume) = MAX_ENUM_SIZE
greatest_size (request.QueryConfig handle size) = 36 + 2 * 2049 + 2 * 257 + 2 * (512 * 258 + 1) + 2 * 12 + 2 * 257
greatest_size (request.QueryLock handle size) = 12 + 2 * 6
greatest_size (request.DisplayName handle name size) = 256
greatest_size (request.KeyName handle display size) = 256
greatest_size (request.QueryConfig2 handle level size) = 20 + 8 * 64 + 2 * 2049
greatest_size (request.QueryStatusEx handle level size) = 36
greatest_size (request.QuerySecurity handle parts size) = 20 + 2 * (8 + 4 * 15) + 65535
greatest_size asked = 0

-- the number of the last of some services, or another if there is none
abbrev pub number_of_last : ℕ → List Service → ℕ
number_of_last none [] = none
number_of_last none (row ∷ rows) = number_of_last row.number rows

-- the number after which an enumeration goes on: that of the last service returned if some are left, 0 if none is, else as it was read
abbrev pub resume_index : Flat → Request → ℕ → Option ℕ
resume_index f (request.EnumServices handle kinds states size resume) code =
    if code == ERROR_MORE_DATA then option_map (λ read. number_of_last read (services_given f kinds states size resume)) resume
    else if code == 0 then option_map (λ read. 0) resume
    else resume
resume_index f asked code = None

-- ## The law

-- at most 1,024 services, and a history so short that 32 bits hold the number of each service
pub record AreSmall (l : Limits) (es : List Entry) : Type 0 where
  pub services : l.services ≤ 1024
  pub short : length es < 2 ^ 31

-- the subtypes of triggers have the 16 bytes of a UUID: those of a service, and those that a request gives
abbrev pub HasUuids : Service → Type 0
HasUuids row = AllByRecursion HasUuid row.config.triggers

abbrev pub IsWithUuid : TriggerIn → Type 0
IsWithUuid trigger = IfSome trigger.subtype (λ uuid. length uuid ≡ 16)

abbrev pub GivesUuids : Info → Type 0
GivesUuids (info.Triggers list) = AllByRecursion IsWithUuid list
GivesUuids asked = Unit {0}

abbrev pub AsksWithUuids : Request → Type 0
AsksWithUuids (request.Change2 handle asked) = GivesUuids asked
AsksWithUuids asked = Unit {0}

abbrev pub IsWithUuids : Step → Type 0
IsWithUuids (Call caller asked append) = AsksWithUuids asked
IsWithUuids step = Unit {0}

pub record HaveUuids (f : Flat) (es : List Entry) : Type 0 where
  pub services : All HasUuids f.services
  pub steps : AllByRecursion (λ (e : Entry). IsWithUuids e.1) es

-- The size that is returned is the one that is needed, and the resume index is the number of a service: 32 bits hold both, and neither is
-- cut off. What an enumeration leaves of 246 services is in the range of its parameter.
pub record ReturnsSizes (f : Flat) (caller : ℕ) (asked : Request) (told : Reply) : Type 0 where
  pub size : reply_size told ≡ (if returns_size asked (reply_code told) then needed_size f caller asked else 0)
  pub greatest : needed_size f caller asked ≤ greatest_size asked
  pub fits : greatest_size asked < 2 ^ 32
  pub resume : reply_resume told ≡ resume_index f asked (reply_code told)
  pub numbers : All (λ (row : Service). row.number < 2 ^ 32) f.services
  pub ranges : length f.services ≤ 246 → listing_size f.services ≤ MAX_ENUM_SIZE

abbrev pub AnswerReturnsSizes : Flat → ℕ → Request → Answer → Type 0
AnswerReturnsSizes f caller asked (answer.Reply told) = ReturnsSizes f caller asked told
AnswerReturnsSizes f caller asked told = Unit {0}

abbrev pub StepReturnsSizes : Flat → Step → Answer → Type 0
StepReturnsSizes f (Call caller asked append) told = AnswerReturnsSizes f caller asked told
StepReturnsSizes f step told = Unit {0}

-- each reply to a call returns the sizes of the state before it
abbrev pub LawOfNeededSizes : Flat → Entry → Answer → Flat → Type 0
LawOfNeededSizes before e told after = StepReturnsSizes before e.1 told
