-- RNotifyServiceStatusChange, RGetNotifyResults, RCloseNotifyHandle: registrations, and what they were told.
use Rattle.std.specs.Prelude.{ℕ, Bool, true, not, ◌||◌, ◌==◌, bit_and, nat_le, [], ◌∷◌, Option, None, Some, is_none, option_and_then}
use Rattle.std.specs.Prelude.{unwrap_or, if◌then◌else◌}
use Rattle.scm_model.specs.declared.flat.Flat.{Flat}
use Rattle.scm_model.specs.declared.flat.HandleKind.{HandleKind}
use Rattle.scm_model.specs.declared.flat.HandleKind.TheVariants as kinds
use Rattle.scm_model.specs.declared.flat.HandleRow.{HandleRow}
use Rattle.scm_model.specs.declared.flat.Limits.{Limits}
use Rattle.scm_model.specs.declared.flat.Opened.{Opened}
use Rattle.scm_model.specs.declared.flat.Registration.{Registration}
use Rattle.scm_model.specs.declared.flat.Service.{Service}
use Rattle.scm_model.specs.declared.calls.Reply.{Reply}
use Rattle.scm_model.specs.declared.calls.Reply.TheVariants as reply
use Rattle.scm_model.specs.declared.calls.Request.TheVariants as request
use Rattle.scm_model.specs.Changes.{with_handle, without_handle}
use Rattle.scm_model.specs.Found.{if_found}
use Rattle.scm_model.specs.Notices.{event_of_state, new_registration, notified, pid_of, registered_by, registration_of, with_registration}
use Rattle.scm_model.specs.Notices.{with_taken_result, without_registration}
use Rattle.scm_model.specs.Outcomes.{CallResult}
use Rattle.scm_model.specs.Refused.{first_refusal, outcome, Refusals, zero_process_status}
use Rattle.scm_model.specs.Rows.{handle_of, held_by, held_service}
use Rattle.scm_model.specs.declared.codes.TheConstants.{ERROR_ACCESS_DENIED, ERROR_INVALID_HANDLE, ERROR_INVALID_PARAMETER}
use Rattle.scm_model.specs.declared.codes.TheConstants.{ERROR_NOT_ENOUGH_QUOTA, ERROR_SERVICE_MARKED_FOR_DELETE, NOTIFY_OF_MANAGER}
use Rattle.scm_model.specs.declared.codes.TheConstants.{NOTIFY_OF_SERVICE, SERVICE_QUERY_STATUS}
use Rattle.scm_rules.specs.Delete.{is_marked}
use Rattle.scm_rules.specs.Rights.{lacks}

-- ## A registration

abbrev pub notify_target : HandleKind → ℕ → Option Opened
notify_target kinds.Manager granted = Some (record { service = 0; granted = granted })
notify_target (kinds.Service number) granted = Some (record { service = number; granted = granted })
notify_target kinds.Lock granted = None
notify_target (kinds.Notify number) granted = None

abbrev pub watched_by : HandleRow → Option Opened
watched_by row = notify_target row.kind row.granted

-- the service, or the manager as 0, that a caller's handle is of, with the rights on it
abbrev pub watched : Flat → ℕ → ℕ → Option Opened
watched f caller handle = option_and_then watched_by (handle_of f caller handle)

-- the events that there are
abbrev pub events_of : ℕ → ℕ
events_of service = if service == 0 then NOTIFY_OF_MANAGER else NOTIFY_OF_SERVICE

-- a mask without an event, or with one that there isn't
abbrev pub is_bad_mask : ℕ → ℕ → Bool
is_bad_mask service mask = mask == 0 || not (bit_and mask (events_of service) == mask)

abbrev pub asks_badly : Option Opened → ℕ → Bool
asks_badly None mask = true
asks_badly (Some handle) mask = is_bad_mask handle.service mask

-- the right to ask for a status has the number of the right to enumerate services
abbrev pub notify_refusals : Limits → Flat → ℕ → ℕ → ℕ → Refusals
notify_refusals l f caller handle mask =
    (is_none (watched f caller handle), ERROR_INVALID_HANDLE)
    ∷ (lacks (watched f caller handle) SERVICE_QUERY_STATUS, ERROR_ACCESS_DENIED)
    ∷ (asks_badly (watched f caller handle) mask, ERROR_INVALID_PARAMETER)
    ∷ (is_marked (held_service f caller handle), ERROR_SERVICE_MARKED_FOR_DELETE)
    ∷ (nat_le l.registrations (registered_by f caller) || nat_le l.handles (held_by f caller), ERROR_NOT_ENOUGH_QUOTA)
    ∷ []

abbrev pub notify_verdict : Limits → Flat → ℕ → ℕ → ℕ → ℕ
notify_verdict l f caller handle mask = first_refusal (notify_refusals l f caller handle mask)

-- a registration whose mask has the present state of its service is notified of it at once
abbrev pub initial_notification : Flat → Option Service → Registration → Registration
initial_notification f = if_found (λ row. notified (event_of_state (pid_of f.processes row) row))

abbrev pub registered : Flat → ℕ → ℕ → ℕ → Option Opened → Flat
registered f caller handle mask None = f
registered f caller handle mask (Some of) =
    with_registration f (initial_notification f (held_service f caller handle)
    (new_registration f.next.registration caller of.service mask))

abbrev pub notify_done : Flat → ℕ → ℕ → ℕ → CallResult
notify_done f caller handle mask = record {
  reply = reply.Handle f.next.handle 0;
  flat = with_handle (registered f caller handle mask (watched f caller handle)) caller (kinds.Notify f.next.registration) 0;
}

abbrev pub notify_outcome : Limits → Flat → ℕ → ℕ → ℕ → CallResult
notify_outcome l f caller handle mask =
    outcome (notify_verdict l f caller handle mask) (request.Notify handle mask) f (notify_done f caller handle mask)

-- ## What it was told

abbrev pub notify_at : HandleKind → Option ℕ
notify_at kinds.Manager = None
notify_at (kinds.Service number) = None
notify_at kinds.Lock = None
notify_at (kinds.Notify number) = Some number

abbrev pub notify_by : HandleRow → Option ℕ
notify_by row = notify_at row.kind

-- the registration that a caller's handle is of
abbrev pub notify_of : Flat → ℕ → ℕ → Option ℕ
notify_of f caller handle = option_and_then notify_by (handle_of f caller handle)

abbrev pub notice_refusals : Flat → ℕ → ℕ → Refusals
notice_refusals f caller handle = (is_none (notify_of f caller handle), ERROR_INVALID_HANDLE) ∷ []

abbrev pub notice_verdict : Flat → ℕ → ℕ → ℕ
notice_verdict f caller handle = first_refusal (notice_refusals f caller handle)

-- the event with the status and the name that the service had then; without one no mask, no numbers and no name
abbrev pub notice_in : Option Registration → Reply
notice_in None = reply.Notice 0 zero_process_status None 0
notice_in (Some row) = if row.fired == 0 then reply.Notice 0 zero_process_status None 0
    else reply.Notice row.fired row.status (Some row.name) 0

abbrev pub notice_reply : Flat → ℕ → ℕ → Reply
notice_reply f caller handle = notice_in (option_and_then (registration_of f) (notify_of f caller handle))

abbrev pub get_notify_done : Flat → ℕ → ℕ → CallResult
get_notify_done f caller handle = record {
  reply = notice_reply f caller handle;
  flat = with_taken_result f (unwrap_or (notify_of f caller handle) 0);
}

abbrev pub get_notify_outcome : Flat → ℕ → ℕ → CallResult
get_notify_outcome f caller handle = outcome (notice_verdict f caller handle) (request.GetNotify handle) f (get_notify_done f caller handle)

-- ## A registration leaves, and its handle

abbrev pub close_notify_done : Flat → ℕ → ℕ → CallResult
close_notify_done f caller handle = record {
  reply = reply.Handle 0 0;
  flat = without_handle (without_registration f (unwrap_or (notify_of f caller handle) 0)) handle;
}

abbrev pub close_notify_outcome : Flat → ℕ → ℕ → CallResult
close_notify_outcome f caller handle = outcome (notice_verdict f caller handle) (request.CloseNotify handle) f
    (close_notify_done f caller handle)
