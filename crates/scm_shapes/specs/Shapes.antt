-- Bodies by their shapes: how a body is read, and the one form that is written.
use Rattle.std.specs.Prelude.{ℕ, zero, suc, Bool, true, false, List, [], ◌∷◌, length, take, Option, None, Result, Ok, if◌then◌else◌}
use Rattle.std.specs.List.{list_any}
use Rattle.scm_model.specs.declared.calls.Info.{Info}
use Rattle.scm_model.specs.declared.calls.Info.TheVariants as info
use Rattle.scm_model.specs.declared.calls.Shown.{Shown}
use Rattle.ndr_body.specs.declared.fault.BodyFault.{BodyFault}
use Rattle.ndr_body.specs.Reading.{◌>>=◌, number_at, handle_at, text_at, some_text_at, some_number_at, bytes_at, ended_at}
use Rattle.ndr_body.specs.Writing.{Draft, blank, put_number, put_handle, put_text, put_bytes, put_some_text, put_some_number}
use Rattle.scm_shapes.specs.declared.item.Item.{Item}
use Rattle.scm_shapes.specs.declared.item.Item.TheVariants as item
use Rattle.scm_shapes.specs.declared.item.Value.{Value}
use Rattle.scm_shapes.specs.declared.item.Value.TheVariants as value
use Rattle.scm_shapes.specs.declared.item.Piece.{Piece}
use Rattle.scm_shapes.specs.declared.item.Piece.TheVariants as piece
use Rattle.scm_shapes.specs.Ranges.{within_at}
use Rattle.scm_shapes.specs.Sized.{sized_array_at, put_sized_array, sized_at, put_sized}
use Rattle.scm_shapes.specs.Words.{words_at, put_words}
use Rattle.scm_shapes.specs.Records.{lock_at, lock_marks, lock_texts, shown_at, shown_marks, shown_texts, put_record}
use Rattle.scm_shapes.specs.Parts.{made}
use Rattle.scm_shapes.specs.Levels.{info_at, put_info}

-- ## Reading

unfoldable pub item_at : Item → List ℕ → ℕ → Result (Value × ℕ) BodyFault
item_at item.Handle body place = made value.Handle (handle_at body place)
item_at item.Number body place = made value.Number (number_at body place)
item_at (item.NumberTo most) body place = made value.Number (within_at most body place)
item_at item.Text body place = made value.Text (text_at body place)
item_at item.SomeText body place = made value.SomeText (some_text_at body place)
item_at item.UnkeptText body place = made (λ text. value.UnkeptText) (some_text_at body place)
item_at item.SomeNumber body place = made value.SomeNumber (some_number_at body place)
item_at item.SomeBytes body place = made value.SomeBytes (sized_at body place)
item_at item.UnkeptBytes body place = made (λ held. value.UnkeptBytes) (sized_at body place)
item_at (item.SizedArray most) body place = made value.SizedArray (sized_array_at most body place)
item_at item.Bytes body place = made (λ held. value.Bytes (length held) held) (bytes_at body place)
item_at item.Words body place = made value.Words (words_at body place)
item_at item.Lock body place = made (λ l. value.Lock l.0 l.1 l.2) (lock_at body place)
item_at item.Shown body place = made value.Shown (shown_at body place)
item_at item.Info body place = made value.Info (info_at body place)

-- the items of a shape, one after the other
unfoldable pub values_at : List Item → List ℕ → ℕ → Result (List Value × ℕ) BodyFault
values_at [] body place = Ok ([], place)
values_at (kind ∷ kinds) body place = do
  first ← item_at kind body place
  others ← values_at kinds body first.1
  Ok (first.0 ∷ others.0, others.1)

-- any bytes may follow a level that isn't served
abbrev pub leaves_open : Value → Bool
leaves_open (value.Info (info.Other level)) = true
leaves_open _ = false

abbrev pub leave_open : List Value → Bool
leave_open vs = list_any leaves_open vs

unfoldable pub closed_at : List Value → List ℕ → ℕ → Result (Unit {0}) BodyFault
closed_at vs body place = if leave_open vs then Ok tt else ended_at body place

-- a whole body of a shape, or the first fault
unfoldable pub body_values : List Item → List ℕ → Result (List Value) BodyFault
body_values shape body = do
  values ← values_at shape body 0
  closed ← closed_at values.0 body values.1
  Ok values.0

-- ## Taking values

abbrev pub rest : List Value → List Value
rest [] = []
rest (v ∷ vs) = vs

-- the values after so many
abbrev pub after : ℕ → List Value → List Value
after zero vs = vs
after (suc n) vs = after n (rest vs)

-- the first value, where it is of this kind; these are the values of a shape's kinds
abbrev pub first_handle : List Value → ℕ
first_handle (value.Handle handle ∷ vs) = handle
first_handle _ = 0

abbrev pub first_number : List Value → ℕ
first_number (value.Number number ∷ vs) = number
first_number _ = 0

abbrev pub first_text : List Value → List ℕ
first_text (value.Text text ∷ vs) = text
first_text _ = []

abbrev pub first_some_text : List Value → Option (List ℕ)
first_some_text (value.SomeText text ∷ vs) = text
first_some_text _ = None

abbrev pub first_some_number : List Value → Option ℕ
first_some_number (value.SomeNumber number ∷ vs) = number
first_some_number _ = None

abbrev pub first_some_bytes : List Value → Option (List ℕ)
first_some_bytes (value.SomeBytes held ∷ vs) = held
first_some_bytes _ = None

abbrev pub first_sized_array : List Value → List ℕ
first_sized_array (value.SizedArray held ∷ vs) = held
first_sized_array _ = []

abbrev pub first_size : List Value → ℕ
first_size (value.Bytes size held ∷ vs) = size
first_size _ = 0

abbrev pub first_bytes : List Value → List ℕ
first_bytes (value.Bytes size held ∷ vs) = held
first_bytes _ = []

abbrev pub first_words : List Value → Option (List (List ℕ))
first_words (value.Words words ∷ vs) = words
first_words _ = None

abbrev pub first_lock : List Value → ℕ × Option (List ℕ) × ℕ
first_lock (value.Lock held owner seconds ∷ vs) = (held, owner, seconds)
first_lock _ = (0, None, 0)

abbrev pub first_shown : List Value → Option Shown
first_shown (value.Shown shown ∷ vs) = shown
first_shown _ = None

abbrev pub first_info : List Value → Info
first_info (value.Info asked ∷ vs) = asked
first_info _ = info.Other 0

-- the first value as one of a kind
abbrev pub first_as : Item → List Value → Value
first_as item.Handle vs = value.Handle (first_handle vs)
first_as item.Number vs = value.Number (first_number vs)
first_as (item.NumberTo most) vs = value.Number (first_number vs)
first_as item.Text vs = value.Text (first_text vs)
first_as item.SomeText vs = value.SomeText (first_some_text vs)
first_as item.UnkeptText vs = value.UnkeptText
first_as item.SomeNumber vs = value.SomeNumber (first_some_number vs)
first_as item.SomeBytes vs = value.SomeBytes (first_some_bytes vs)
first_as item.UnkeptBytes vs = value.UnkeptBytes
first_as (item.SizedArray most) vs = value.SizedArray (first_sized_array vs)
first_as item.Bytes vs = value.Bytes (first_size vs) (first_bytes vs)
first_as item.Words vs = value.Words (first_words vs)
first_as item.Lock vs = value.Lock (first_lock vs).0 (first_lock vs).1 (first_lock vs).2
first_as item.Shown vs = value.Shown (first_shown vs)
first_as item.Info vs = value.Info (first_info vs)

-- values as those of a shape
abbrev pub fitted : List Item → List Value → List Value
fitted [] vs = []
fitted (kind ∷ kinds) vs = first_as kind vs ∷ fitted kinds (rest vs)

-- ## Writing

unfoldable pub put_value : Value → Draft → Draft
put_value (value.Handle handle) d = put_handle handle d
put_value (value.Number number) d = put_number number d
put_value (value.Text text) d = put_text text d
put_value (value.SomeText text) d = put_some_text text d
put_value value.UnkeptText d = put_some_text None d
put_value (value.SomeNumber number) d = put_some_number number d
put_value (value.SomeBytes held) d = put_sized held d
put_value value.UnkeptBytes d = put_sized None d
put_value (value.SizedArray held) d = put_sized_array held d
put_value (value.Bytes size held) d = put_bytes (take size held) size d
put_value (value.Words words) d = put_words words d
put_value (value.Lock held owner seconds) d = put_record (lock_marks held owner seconds) (lock_texts owner) d
put_value (value.Shown shown) d = put_record (shown_marks shown) (shown_texts shown) d
put_value (value.Info asked) d = put_info asked d

unfoldable pub put_values : List Value → Draft → Draft
put_values [] d = d
put_values (v ∷ vs) d = put_values vs (put_value v d)

unfoldable pub body_bytes : List Value → List ℕ
body_bytes vs = (put_values vs blank).bytes

-- a piece without where it lies in memory
abbrev pub value_of : Piece → Value
value_of (piece.Handle handle) = value.Handle handle
value_of (piece.Number number) = value.Number number
value_of (piece.Text text) = value.Text text.now
value_of (piece.SomeText text) = value.SomeText text.now
value_of piece.UnkeptText = value.UnkeptText
value_of (piece.SomeNumber number) = value.SomeNumber number
value_of (piece.SomeBytes held) = value.SomeBytes held.now
value_of piece.UnkeptBytes = value.UnkeptBytes
value_of (piece.SizedArray held) = value.SizedArray held.now
value_of (piece.Bytes size held) = value.Bytes size held.now
value_of (piece.Words words) = value.Words words.now
value_of (piece.Lock held owner seconds) = value.Lock held owner.now seconds
value_of (piece.Shown shown) = value.Shown shown.now
value_of (piece.Info asked) = value.Info asked.now
