-- What contracts see of the fields of the queue, and what is always true of them.
use Rattle.std.specs.Prelude.{ℕ, ◌≡◌, ◌<◌, [], Option, None, Some, IfSome, IsSome, vec_capacity, vec_len}
use Rattle.std.specs.List.Sorted.{IsNonDecreasingBy}
use Rattle.scm_text.specs.TextWithRoom.{TextWithRoom}
use Rattle.scm_model.specs.declared.flat.Registration.{Registration}
use Rattle.notify_queue.specs.Queued.{Queued}
use Rattle.notify_queue.specs.declared.queue.NotifyQueue.TheInside.{Inside}

-- an empty text that has room for a name
abbrev pub IsFresh : TextWithRoom → Type 0
IsFresh text = text ≡ record { units = []; room = 256 }

abbrev pub spare_count : Option TextWithRoom → ℕ
spare_count None = 0
spare_count (Some text) = 1

abbrev pub queued : Inside → Queued
queued q = record { rows = q.rows.items; spare = spare_count q.made }

-- registrations stand in the order of their services; one for whose name room was made finds room
pub record IsOrdered (q : Inside) : Type 0 where
  pub sorted : IsNonDecreasingBy (λ (row : Registration). row.service) q.rows.items
  pub name : IfSome q.made IsFresh
  pub room : IsSome q.made → vec_len q.rows < vec_capacity q.rows
