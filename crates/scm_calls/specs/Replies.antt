-- The bodies of replies of every kind: their shapes, what is made of their values, the values of a reply, and how long it can be.
use Rattle.std.specs.Prelude.{ℕ, ◌≡◌, ◌+◌, ◌-◌, ◌*◌, ◌/◌, ◌≤◌, nat_lt, List, [], ◌∷◌, ◌++◌, length, IfSome, if◌then◌else◌}
use Rattle.scm_model.specs.declared.flat.ProcessStatus.{ProcessStatus}
use Rattle.scm_model.specs.declared.calls.Shown.{Shown}
use Rattle.scm_model.specs.declared.calls.Request.{Request}
use Rattle.scm_model.specs.declared.calls.Request.TheVariants as request
use Rattle.scm_model.specs.declared.calls.Reply.{Reply}
use Rattle.scm_model.specs.declared.calls.Reply.TheVariants as reply
use Rattle.scm_shapes.specs.declared.item.Item.{Item}
use Rattle.scm_shapes.specs.declared.item.Item.TheVariants as item
use Rattle.scm_shapes.specs.declared.item.Value.{Value}
use Rattle.scm_shapes.specs.declared.item.Value.TheVariants as value
use Rattle.scm_shapes.specs.Shapes.{after, first_handle, first_number, first_text, first_some_text, first_some_number, first_size}
use Rattle.scm_shapes.specs.Shapes.{first_bytes, first_lock, first_shown}
use Rattle.scm_calls.specs.declared.kinds.ReplyKind.{ReplyKind}
use Rattle.scm_calls.specs.declared.kinds.ReplyKind.TheVariants as kind
use Rattle.scm_calls.specs.Requests.{status_shape, status_from, status_values}

abbrev pub kind_of : Reply → ReplyKind
kind_of (reply.Code code) = kind.Code
kind_of (reply.Handle handle code) = kind.Handle
kind_of (reply.State status code) = kind.State
kind_of (reply.Made tag handle code) = kind.Made
kind_of (reply.Tag tag code) = kind.Tag
kind_of (reply.Shown config needed code) = kind.Shown
kind_of (reply.LockState held owner seconds needed code) = kind.LockState
kind_of (reply.Name name size code) = kind.Name
kind_of (reply.Listing size bytes needed returned code) = kind.Listing
kind_of (reply.Page size bytes needed returned resume code) = kind.Page
kind_of (reply.Bytes size bytes needed code) = kind.Bytes
kind_of (reply.Notice mask status name code) = kind.Notice

-- a status with its process is nine numbers
abbrev pub process_shape : List Item
process_shape = status_shape ++ item.Number ∷ item.Number ∷ []

abbrev pub process_from : List Value → ProcessStatus
process_from vs = record { status = status_from vs; pid = first_number (after 7 vs); flags = first_number (after 8 vs) }

abbrev pub process_values : ProcessStatus → List Value
process_values s = status_values s.status ++ value.Number s.pid ∷ value.Number s.flags ∷ []

abbrev pub reply_shape : ReplyKind → List Item
reply_shape kind.Code = item.Number ∷ []
reply_shape kind.Handle = item.Handle ∷ item.Number ∷ []
reply_shape kind.State = status_shape ++ item.Number ∷ []
reply_shape kind.Made = item.SomeNumber ∷ item.Handle ∷ item.Number ∷ []
reply_shape kind.Tag = item.SomeNumber ∷ item.Number ∷ []
reply_shape kind.Shown = item.Shown ∷ item.Number ∷ item.Number ∷ []
reply_shape kind.LockState = item.Lock ∷ item.Number ∷ item.Number ∷ []
reply_shape kind.Name = item.Text ∷ item.Number ∷ item.Number ∷ []
reply_shape kind.Listing = item.Bytes ∷ item.Number ∷ item.Number ∷ item.Number ∷ []
reply_shape kind.Page = item.Bytes ∷ item.Number ∷ item.Number ∷ item.SomeNumber ∷ item.Number ∷ []
reply_shape kind.Bytes = item.Bytes ∷ item.Number ∷ item.Number ∷ []
reply_shape kind.Notice = item.Number ∷ process_shape ++ item.SomeText ∷ item.Number ∷ []

abbrev pub reply_from : ReplyKind → List Value → Reply
reply_from kind.Code vs = reply.Code (first_number vs)
reply_from kind.Handle vs = reply.Handle (first_handle vs) (first_number (after 1 vs))
reply_from kind.State vs = reply.State (status_from vs) (first_number (after 7 vs))
reply_from kind.Made vs = reply.Made (first_some_number vs) (first_handle (after 1 vs)) (first_number (after 2 vs))
reply_from kind.Tag vs = reply.Tag (first_some_number vs) (first_number (after 1 vs))
reply_from kind.Shown vs = reply.Shown (first_shown vs) (first_number (after 1 vs)) (first_number (after 2 vs))
reply_from kind.LockState vs = reply.LockState (first_lock vs).0 (first_lock vs).1 (first_lock vs).2 (first_number (after 1 vs))
    (first_number (after 2 vs))
reply_from kind.Name vs = reply.Name (first_text vs) (first_number (after 1 vs)) (first_number (after 2 vs))
reply_from kind.Listing vs = reply.Listing (first_size vs) (first_bytes vs) (first_number (after 1 vs)) (first_number (after 2 vs))
    (first_number (after 3 vs))
reply_from kind.Page vs = reply.Page (first_size vs) (first_bytes vs) (first_number (after 1 vs)) (first_number (after 2 vs))
    (first_some_number (after 3 vs)) (first_number (after 4 vs))
reply_from kind.Bytes vs = reply.Bytes (first_size vs) (first_bytes vs) (first_number (after 1 vs)) (first_number (after 2 vs))
reply_from kind.Notice vs = reply.Notice (first_number vs) (process_from (after 1 vs)) (first_some_text (after 10 vs))
    (first_number (after 11 vs))

-- replies with bytes up to a size, and notices
abbrev pub filled_values : Reply → List Value
filled_values (reply.Listing size bytes needed returned code) = value.Bytes size bytes ∷ value.Number needed ∷ value.Number returned ∷
    value.Number code ∷ []
filled_values (reply.Page size bytes needed returned resume code) = value.Bytes size bytes ∷ value.Number needed ∷ value.Number returned ∷
    value.SomeNumber resume ∷ value.Number code ∷ []
filled_values (reply.Bytes size bytes needed code) = value.Bytes size bytes ∷ value.Number needed ∷ value.Number code ∷ []
filled_values (reply.Notice mask status name code) = value.Number mask ∷ process_values status
    ++ value.SomeText name ∷ value.Number code ∷ []
filled_values _ = []

abbrev pub reply_values : Reply → List Value
reply_values (reply.Code code) = value.Number code ∷ []
reply_values (reply.Handle handle code) = value.Handle handle ∷ value.Number code ∷ []
reply_values (reply.State status code) = status_values status ++ value.Number code ∷ []
reply_values (reply.Made tag handle code) = value.SomeNumber tag ∷ value.Handle handle ∷ value.Number code ∷ []
reply_values (reply.Tag tag code) = value.SomeNumber tag ∷ value.Number code ∷ []
reply_values (reply.Shown config needed code) = value.Shown config ∷ value.Number needed ∷ value.Number code ∷ []
reply_values (reply.LockState held owner seconds needed code) = value.Lock held owner seconds ∷ value.Number needed ∷ value.Number code ∷ []
reply_values (reply.Name name size code) = value.Text name ∷ value.Number size ∷ value.Number code ∷ []
reply_values told = filled_values told

-- ## How long a reply can be

-- the size in which a request asks for its reply, in bytes, where that decides how long it can be
abbrev pub asked_size : Request → ℕ
asked_size (request.QueryConfig handle size) = size
asked_size (request.EnumDependents handle states size) = size
asked_size (request.EnumServices handle kinds states size resume) = size
asked_size (request.QueryStatusEx handle level size) = size
asked_size (request.QueryConfig2 handle level size) = size
asked_size (request.QuerySecurity handle parts size) = size
asked_size _ = 0

-- how many bytes a text takes in a caller's buffer, with its last 0
abbrev pub buffer_bytes : List ℕ → ℕ
buffer_bytes text = 2 * (length text + 1)

-- how many bytes a configuration takes there: its numbers and its texts
abbrev pub bytes_needed : Shown → ℕ
bytes_needed shown = 36 + buffer_bytes shown.path + buffer_bytes shown.group + buffer_bytes shown.needs + buffer_bytes shown.account
    + buffer_bytes shown.display

-- the size that a reply states with its bytes is the one that was asked for, and all the bytes fit in it
pub record IsWhole (size told : ℕ) (bytes : List ℕ) : Type 0 where
  pub is : told ≡ size
  pub whole : length bytes ≤ size

-- a name or an owner has at most 256 units, a configuration takes at most the size, and bytes fit in it
abbrev pub Fits : ℕ → Reply → Type 0
Fits size (reply.Shown config needed code) = IfSome config (λ shown. bytes_needed shown ≤ size)
Fits size (reply.LockState held owner seconds needed code) = IfSome owner (λ owner. length owner ≤ 256)
Fits size (reply.Name name n code) = length name ≤ 256
Fits size (reply.Listing n bytes needed returned code) = IsWhole size n bytes
Fits size (reply.Page n bytes needed returned resume code) = IsWhole size n bytes
Fits size (reply.Bytes n bytes needed code) = IsWhole size n bytes
Fits size (reply.Notice mask status name code) = IfSome name (λ name. length name ≤ 256)
Fits size _ = Unit {0}

-- five texts share the units that a size leaves, their last 0s included. Each has at least one, and an odd count takes padding: most bytes
-- come of
-- five odd counts.
abbrev pub odd_below : ℕ → ℕ
odd_below units = (units - 1) / 2 * 2 + 1

abbrev pub longest_shown : ℕ → ℕ
longest_shown size = let units = (size - 36) / 2 in if nat_lt units 5 then 44 else 114 + 2 * odd_below units

-- a size, as many bytes, and what pads them
abbrev pub filled_width : ℕ → ℕ
filled_width size = (size + 7) / 4 * 4

-- the greatest length of a reply of a kind in a size
abbrev pub longest : ReplyKind → ℕ → ℕ
longest kind.Code size = 4
longest kind.Handle size = 24
longest kind.State size = 32
longest kind.Made size = 32
longest kind.Tag size = 12
longest kind.Shown size = longest_shown size
longest kind.LockState size = 548
longest kind.Name size = 536
longest kind.Listing size = filled_width size + 12
longest kind.Page size = filled_width size + 20
longest kind.Bytes size = filled_width size + 8
longest kind.Notice size = 576
