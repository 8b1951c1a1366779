-- What contracts see of the registrations, and what one gives that was told of an event.
use Rattle.std.specs.Prelude.{ℕ, ◌==◌, List, Option, None, Some, find, option_and_then, if◌then◌else◌}
use Rattle.scm_model.specs.declared.flat.Registration.{Registration}
use Rattle.notify_queue.specs.declared.row.Notice.{Notice}

pub record Queued : Type 0 where
  pub rows : List Registration
  pub spare : ℕ  -- for how many registrations more there is room

-- the event that a registration was told of, or none
abbrev pub notice_at : Registration → Option Notice
notice_at row = if row.fired == 0 then None else Some (record { bit = row.fired; status = row.status; name = row.name })

-- what the registration with a number was told
abbrev pub notice_of : ℕ → List Registration → Option Notice
notice_of number rows = option_and_then notice_at (find (λ (row : Registration). row.number == number) rows)
