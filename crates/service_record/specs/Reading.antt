-- Reading a configuration from left to right. A fault is how many bytes are left where the first item that fails begins.
use Rattle.std.specs.Prelude.{◌≡◌, ℕ, zero, suc, Bool, true, false, ◌-◌, ◌*◌, ◌==◌, ◌||◌, List, [], ◌∷◌, length, take, drop, Result, Ok}
use Rattle.std.specs.Prelude.{Err, nat_lt, if◌then◌else◌}
use Rattle.std.specs.List.{list_any}
use Rattle.std.specs.Int.{w32, from_le_bytes}
use Rattle.ndr_body.specs.Units.{le_units}
use Rattle.scm_model.specs.declared.flat.Action.{Action}
use Rattle.scm_model.specs.declared.flat.Config.{Config}
use Rattle.scm_model.specs.declared.flat.Need.{Need}
use Rattle.scm_model.specs.declared.flat.Need.TheVariants as needs
use Rattle.scm_model.specs.declared.flat.Trigger.{Trigger}
use Rattle.service_record.specs.declared.reading.Front.{Front}
use Rattle.service_record.specs.declared.reading.Middle.{Middle}
use Rattle.service_record.specs.declared.reading.Back.{Back}
use Rattle.service_record.specs.declared.reading.End.{End}
use Rattle.service_record.specs.declared.reading.Stop.{Stop}
use Rattle.service_record.specs.declared.reading.Stop.TheVariants as stops
use Rattle.service_record.specs.declared.reading.RecordFault.{RecordFault}
use Rattle.service_record.specs.declared.reading.RecordFault.TheVariants as faults

infixl 10 ◌>>=◌
abbrev pub ◌>>=◌ : {A B : Type 0} → Result A ℕ → (A → Result B ℕ) → Result B ℕ
(Ok x) >>= f = f x
(Err left) >>= f = Err left

-- what a function returned is what reading gives, unless memory ran out
abbrev pub StopsAs : {Y : Type 0} → Stop → Result Y ℕ → Type 0
StopsAs (stops.Left left) read = read ≡ Err left
StopsAs stops.OutOfMemory read = Unit {0}

abbrev pub Yields : {X Y : Type 0} → (X → Y) → Result X Stop → Result Y ℕ → Type 0
Yields view (Ok x) read = read ≡ Ok (view x)
Yields view (Err e) read = StopsAs e read

-- an item is a value and the bytes after it
abbrev pub Item : Type 0 → Type 0
Item A = Result (A × List ℕ) ℕ

abbrev pub take_number : List ℕ → Item ℕ
take_number bytes = if nat_lt (length bytes) 4 then Err (length bytes) else Ok (from_le_bytes w32 (take 4 bytes), drop 4 bytes)

-- a byte that is 0 or 1
unfoldable pub take_flag : List ℕ → Item Bool
take_flag [] = Err 0
take_flag (zero ∷ rest) = Ok (false, rest)
take_flag (suc zero ∷ rest) = Ok (true, rest)
take_flag (suc (suc b) ∷ rest) = Err (suc (length rest))

-- a count of units, and these, none of them 0
unfoldable pub take_text : List ℕ → Item (List ℕ)
take_text bytes = do
  n ← take_number bytes
  if nat_lt (length n.1) (2 * n.0) || list_any (λ u. u == 0) (le_units n.0 n.1) then Err (length bytes)
      else Ok (le_units n.0 n.1, drop (2 * n.0) n.1)

abbrev pub need_of : Bool → List ℕ → Need
need_of false name = needs.Service name
need_of true name = needs.Group name

unfoldable pub take_need : List ℕ → Item Need
take_need bytes = do
  group ← take_flag bytes
  name ← take_text group.1
  Ok (need_of group.0 name.0, name.1)

unfoldable pub take_action : List ℕ → Item Action
take_action bytes = do
  what ← take_number bytes
  delay ← take_number what.1
  Ok (record { what = what.0; delay = delay.0 }, delay.1)

-- 16 bytes as they stand
abbrev pub take_subtype : List ℕ → Item (List ℕ)
take_subtype bytes = if nat_lt (length bytes) 16 then Err (length bytes) else Ok (take 16 bytes, drop 16 bytes)

unfoldable pub take_trigger : List ℕ → Item Trigger
take_trigger bytes = do
  action ← take_number bytes
  subtype ← take_subtype action.1
  Ok (record { action = action.0; subtype = subtype.0 }, subtype.1)

-- so many items one after the other
unfoldable pub take_items : {A : Type 0} → (List ℕ → Item A) → ℕ → List ℕ → Item (List A)
take_items item zero bytes = Ok ([], bytes)
take_items item (suc n) bytes = do
  first ← item bytes
  others ← take_items item n first.1
  Ok (first.0 ∷ others.0, others.1)

-- a count, and so many items
unfoldable pub take_counted : {A : Type 0} → (List ℕ → Item A) → List ℕ → Item (List A)
take_counted item bytes = do
  n ← take_number bytes
  take_items item n.0 n.1

unfoldable pub take_front : List ℕ → Item Front
take_front bytes = do
  name ← take_text bytes
  display ← take_text name.1
  kind ← take_number display.1
  start ← take_number kind.1
  error ← take_number start.1
  path ← take_text error.1
  Ok (record { name = name.0; display = display.0; kind = kind.0; start = start.0; error = error.0; path = path.0 }, path.1)

unfoldable pub take_middle : List ℕ → Item Middle
take_middle bytes = do
  group ← take_text bytes
  tag ← take_number group.1
  needs ← take_counted take_need tag.1
  description ← take_text needs.1
  Ok (record { group = group.0; tag = tag.0; needs = needs.0; description = description.0 }, description.1)

unfoldable pub take_back : List ℕ → Item Back
take_back bytes = do
  reset ← take_number bytes
  actions ← take_counted take_action reset.1
  command ← take_text actions.1
  on_exit ← take_flag command.1
  Ok (record { reset = reset.0; actions = actions.0; command = command.0; on_exit = on_exit.0 }, on_exit.1)

unfoldable pub take_end : List ℕ → Item End
take_end bytes = do
  delayed ← take_flag bytes
  triggers ← take_counted take_trigger delayed.1
  Ok (record { delayed = delayed.0; triggers = triggers.0 }, triggers.1)

-- without a delayed start and without triggers
abbrev pub config_from : Front → Middle → Back → Config
config_from front middle back = record {
  name = front.name;
  display = front.display;
  kind = front.kind;
  start = front.start;
  error = front.error;
  path = front.path;
  group = middle.group;
  tag = middle.tag;
  needs = middle.needs;
  description = middle.description;
  reset = back.reset;
  actions = back.actions;
  command = back.command;
  on_exit = back.on_exit;
  delayed = false;
  triggers = [];
}

abbrev pub with_end : Config → End → Config
with_end config last = record config { delayed = last.delayed; triggers = last.triggers }

-- form 1
unfoldable pub take_config_1 : List ℕ → Item Config
take_config_1 bytes = do
  front ← take_front bytes
  middle ← take_middle front.1
  back ← take_back middle.1
  Ok (config_from front.0 middle.0 back.0, back.1)

-- form 2: form 1, and after it what form 1 doesn't hold
unfoldable pub take_config : List ℕ → Item Config
take_config bytes = do
  config ← take_config_1 bytes
  last ← take_end config.1
  Ok (with_end config.0 last.0, last.1)

-- an item that is all of the bytes
abbrev pub all_of : {A : Type 0} → (List ℕ → Item A) → List ℕ → Result A ℕ
all_of item bytes = do
  x ← item bytes
  if length x.1 == 0 then Ok x.0 else Err (length x.1)

unfoldable pub whole_of_1 : List ℕ → Result Config ℕ
whole_of_1 bytes = all_of take_config_1 bytes

unfoldable pub whole_of : List ℕ → Result Config ℕ
whole_of bytes = all_of take_config bytes

-- the place of the first item that fails
abbrev pub placed : {A : Type 0} → ℕ → Result A ℕ → Result A ℕ
placed size (Ok x) = Ok x
placed size (Err left) = Err (size - left)

-- the configuration that the bytes are in form 1, or the place of the first item that fails
abbrev pub record_of_1 : List ℕ → Result Config ℕ
record_of_1 bytes = placed (length bytes) (whole_of_1 bytes)

-- the same in form 2
abbrev pub record_of : List ℕ → Result Config ℕ
record_of bytes = placed (length bytes) (whole_of bytes)

-- that is answered, unless memory ran out
abbrev pub Tells : {X : Type 0} → Result X RecordFault → Result X ℕ → Type 0
Tells (Ok x) read = read ≡ Ok x
Tells (Err (faults.Bad place)) read = read ≡ Err place
Tells (Err faults.OutOfMemory) read = Unit {0}
