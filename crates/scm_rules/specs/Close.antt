-- RCloseServiceHandle: a handle of the manager or of a service leaves.
use Rattle.std.specs.Prelude.{ℕ, Bool, false, not, [], ◌∷◌, Option, None, Some}
use Rattle.scm_model.specs.declared.flat.Flat.{Flat}
use Rattle.scm_model.specs.declared.flat.HandleRow.{HandleRow}
use Rattle.scm_model.specs.declared.calls.Reply.TheVariants as reply
use Rattle.scm_model.specs.Rows.{handle_of, is_closable}
use Rattle.scm_model.specs.Changes.{without_handle}
use Rattle.scm_model.specs.Refused.{first_refusal, outcome, Refusals}
use Rattle.scm_model.specs.Outcomes.{CallResult}
use Rattle.scm_model.specs.declared.codes.TheConstants.{ERROR_INVALID_HANDLE}
use Rattle.scm_model.specs.declared.calls.Request.TheVariants as request

-- whether a handle that is there can be closed
abbrev pub closes : Option HandleRow → Bool
closes None = false
closes (Some row) = is_closable row.kind

-- what it is refused with, in this order
abbrev pub close_refusals : Flat → ℕ → ℕ → Refusals
close_refusals f caller handle = (not (closes (handle_of f caller handle)), ERROR_INVALID_HANDLE) ∷ []

abbrev pub close_verdict : Flat → ℕ → ℕ → ℕ
close_verdict f caller handle = first_refusal (close_refusals f caller handle)

abbrev pub close_done : Flat → ℕ → CallResult
close_done f handle = record { reply = reply.Handle 0 0; flat = without_handle f handle }

abbrev pub close_outcome : Flat → ℕ → ℕ → CallResult
close_outcome f caller handle = outcome (close_verdict f caller handle) (request.Close handle) f (close_done f handle)
