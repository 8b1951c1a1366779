-- The entries of a journal's bytes.
use Rattle.std.specs.Prelude.{ℕ, zero, suc, ◌≡◌, Bool, true, false, not, ◌&&◌, ◌==◌, ◌-◌, eqb, nat_lt, List, [], ◌∷◌, take, drop, length}
use Rattle.std.specs.Prelude.{Option, None, Some, option_and_then, option_map, Result, Ok, Err, is_ok, ◌||◌, if◌then◌else◌}
use Rattle.std.specs.List.{list_any, starts_with}
use Rattle.scm_text.specs.Fold.{same_text}
use Rattle.scm_model.specs.declared.flat.Config.{Config}
use Rattle.scm_model.specs.declared.flat.NeedRow.{NeedRow}
use Rattle.scm_model.specs.declared.steps.Change.{Change}
use Rattle.scm_model.specs.declared.steps.Change.TheVariants.{Created, Changed, Removed}
use Rattle.scm_model.specs.Order.{is_cyclic}
use Rattle.service_record.specs.Checks.{check_new}
use Rattle.service_record.specs.Reading.{Item, all_of, placed, take_config, take_config_1, take_number, take_text, whole_of, whole_of_1}
use Rattle.scm_rules.specs.Needs.{need_rows}
use Rattle.scm_rules.specs.Opening.{services_from}
use Rattle.record_journal.specs.Format.{header, header_of, switch}
use Rattle.record_journal.specs.Replay.{after_change, replayed}
use Rattle.scm_model.specs.declared.steps.Form.{Form}
use Rattle.scm_model.specs.declared.steps.Form.TheVariants.{First, Second}
use Rattle.record_journal.specs.declared.reading.Front.{Front}
use Rattle.record_journal.specs.declared.reading.Said.{Said}
use Rattle.record_journal.specs.declared.reading.Said.TheVariants.{Says, Turns}
use Rattle.record_journal.specs.declared.replaying.Next.{Next}
use Rattle.record_journal.specs.declared.replaying.Next.TheVariants as nexts
use Rattle.record_journal.specs.declared.replaying.Replay.{Replay}

-- ## What an entry says

abbrev pub if_read : {A : Type 0} → Result A ℕ → Option A
if_read (Ok item) = Some item
if_read (Err left) = None

-- a whole entry at the front of some bytes, and what stands after it
pub record Whole : Type 0 where
  pub kind : ℕ
  pub body : List ℕ
  pub rest : List ℕ

abbrev pub seen_front : Front → Whole
seen_front front = record { kind = front.kind; body = front.body.now; rest = front.rest.now }

-- a body has the length that stands before it; less is no whole entry
abbrev pub with_body : ℕ → Option (ℕ × List ℕ) → Option Whole
with_body kind None = None
with_body kind (Some size) =
    if nat_lt (length size.1) size.0 then None
    else Some (record { kind = kind; body = take size.0 size.1; rest = drop size.0 size.1 })

abbrev pub whole_entry : List ℕ → Option Whole
whole_entry [] = None
whole_entry (kind ∷ bytes) = with_body kind (if_read (take_number bytes))

-- the name that the bytes are, all of them
abbrev pub name_of : List ℕ → Result (List ℕ) ℕ
name_of bytes = all_of take_text bytes

-- a configuration of a form, and the bytes after it
abbrev pub take_in : Form → List ℕ → Item Config
take_in First bytes = take_config_1 bytes
take_in Second bytes = take_config bytes

-- the configuration that the bytes are in a form, all of them
abbrev pub whole_in : Form → List ℕ → Result Config ℕ
whole_in First bytes = whole_of_1 bytes
whole_in Second bytes = whole_of bytes

abbrev pub record_in : Form → List ℕ → Result Config ℕ
record_in form bytes = placed (length bytes) (whole_in form bytes)

-- the change that a kind and a body are
abbrev pub change_in : Form → ℕ → List ℕ → Option Change
change_in form kind body =
    if kind == 1 then option_map Created (if_read (whole_in form body))
    else if kind == 2 then option_map Changed (if_read (whole_in form body))
    else if kind == 3 then option_map Removed (if_read (name_of body))
    else None

-- form 1 alone can end
abbrev pub is_switch : Form → ℕ → List ℕ → Bool
is_switch First kind body = kind == 4 && length body == 0
is_switch Second kind body = false

-- what a kind and a body say: a change, or that the entries after them are of form 2
abbrev pub said_in : Form → ℕ → List ℕ → Option Said
said_in form kind body =
    if is_switch form kind body then Some Turns else option_map Says (change_in form kind body)

-- ## What can still become an entry

-- whether more bytes can make a body of this kind: no whole configuration, or name, is there yet
abbrev pub can_grow : Form → ℕ → List ℕ → Bool
can_grow form kind body =
    if kind == 1 || kind == 2 then not (is_ok (take_in form body))
    else kind == 3 && not (is_ok (take_text body))

-- whether these are a front of the entry that ends form 1
abbrev pub begins_switch : Form → List ℕ → Bool
begins_switch First bytes = starts_with eqb switch bytes
begins_switch Second bytes = false

-- whether less than a whole entry can become one; its body begins after the kind and the length
abbrev pub is_unfinished : Form → List ℕ → Bool
is_unfinished form [] = true
is_unfinished form (kind ∷ bytes) =
    begins_switch form (kind ∷ bytes) || can_grow form kind (drop 4 bytes)

-- a part of an entry, and not all of it
pub record IsPart (form : Form) (bytes : List ℕ) : Type 0 where
  pub less : whole_entry bytes ≡ None
  pub unfinished : is_unfinished form bytes ≡ true

-- ## What can be replayed

abbrev pub has_name : List ℕ → Config → Bool
has_name name config = same_text config.name name

-- whether another service has the display name of this one
abbrev pub shows_as : Config → Config → Bool
shows_as config old =
    same_text old.display config.display && not (same_text old.name config.name)

-- a configuration is accepted, and no other has its display name
abbrev pub is_fit : List Config → Config → Bool
is_fit configs config = check_new config None == 0 && not (list_any (shows_as config) configs)

-- the needs of services with these configurations, which are numbered from 1
abbrev pub needs_in : List Config → List NeedRow
needs_in configs = need_rows (services_from 1 configs)

-- whether needs stay without a cycle
abbrev pub stays_acyclic : List Config → Change → Bool
stays_acyclic configs change = not (is_cyclic (needs_in (after_change configs change)))

-- what is created has a new name and a place, what is changed or removed is there
abbrev pub can_replay : List Config → Change → Bool
can_replay configs (Created config) =
    not (list_any (has_name config.name) configs) && nat_lt (length configs) 1024
    && is_fit configs config && stays_acyclic configs (Created config)
can_replay configs (Changed config) =
    list_any (has_name config.name) configs && is_fit configs config
    && stays_acyclic configs (Changed config)
can_replay configs (Removed name) = list_any (has_name name) configs

abbrev pub replayable : List Config → Said → Option Said
replayable configs (Says change) = if can_replay configs change then Some (Says change) else None
replayable configs Turns = Some Turns

-- ## The entries of a journal

-- changes, how many bytes are left after them, and the form in which they end
pub record Entries : Type 0 where
  pub changes : List Change
  pub left : ℕ
  pub form : Form

abbrev pub with_change : Change → Result Entries ℕ → Result Entries ℕ
with_change change (Ok entries) = Ok (record entries { changes = change ∷ entries.changes })
with_change change (Err left) = Err left

abbrev pub with_said : Said → Result Entries ℕ → Result Entries ℕ
with_said (Says change) read = with_change change read
with_said Turns read = read

-- what an entry makes of configurations
abbrev pub after_said : List Config → Said → List Config
after_said configs (Says change) = after_change configs change
after_said configs Turns = configs

-- the form of what stands after an entry
abbrev pub form_after : Form → Said → Form
form_after form (Says change) = form
form_after form Turns = Second

-- how entries of a form are read over configurations
abbrev pub Reader : Type 0
Reader = Form → List Config → List ℕ → Result Entries ℕ

-- an entry is followed by others; where there is none, damage begins with so many bytes left
abbrev pub followed : Reader → Form → List Config → ℕ → List ℕ → Option Said → Result Entries ℕ
followed later form configs left rest None = Err left
followed later form configs left rest (Some said) =
    with_said said (later (form_after form said) (after_said configs said) rest)

abbrev pub none_more : Form → ℕ → Entries
none_more form left = record { changes = []; left = left; form = form }

-- an unfinished entry ends them; what is less than a whole entry and can't become one is damage
abbrev pub last_of : Form → ℕ → Bool → Result Entries ℕ
last_of form left true = Ok (none_more form left)
last_of form left false = Err left

abbrev pub first_of : Reader → Form → List Config → List ℕ → Option Whole → Result Entries ℕ
first_of later form configs bytes None = last_of form (length bytes) (is_unfinished form bytes)
first_of later form configs bytes (Some whole) =
    followed later form configs (length bytes) whole.rest
    (option_and_then (replayable configs) (said_in form whole.kind whole.body))

-- entry after entry over these configurations, so many at most
unfoldable pub entries_from : ℕ → Form → List Config → List ℕ → Result Entries ℕ
entries_from zero form configs bytes = Ok (none_more form (length bytes))
entries_from (suc n) form configs bytes =
    first_of (entries_from n) form configs bytes (whole_entry bytes)

-- no entry is shorter than a byte
abbrev pub all_from : Form → List Config → List ℕ → Result Entries ℕ
all_from form configs bytes = entries_from (length bytes) form configs bytes

-- whether these are less than a header, of either form
abbrev pub is_part_header : List ℕ → Bool
is_part_header bytes =
    (starts_with eqb header bytes || starts_with eqb (header_of First) bytes)
    && nat_lt (length bytes) 8

-- the changes of a journal up to an unfinished last entry, or with how many bytes left its first
-- damage begins; a part of a header is nothing yet
abbrev pub entries : List ℕ → Result Entries ℕ
entries bytes =
    if is_part_header bytes then Ok (none_more Second (length bytes))
    else if starts_with eqb bytes header then all_from Second [] (drop 8 bytes)
    else if starts_with eqb bytes (header_of First) then all_from First [] (drop 8 bytes)
    else Err (length bytes)

-- ## Its replay

-- what changes come to over configurations, how many bytes are kept of so many, and their form
abbrev pub replay_of : ℕ → List Config → Result Entries ℕ → Result Replay ℕ
replay_of size configs (Ok entries) =
    Ok (record {
      configs = replayed configs entries.changes;
      kept = size - entries.left;
      form = entries.form;
    })
replay_of size configs (Err left) = Err (size - left)

-- the configurations of a journal, how many of its bytes are kept, and the form in which these end,
-- or the place of its first damage
abbrev pub read_journal : List ℕ → Result Replay ℕ
read_journal bytes = replay_of (length bytes) [] (entries bytes)

-- ## An entry at a time

-- what an entry says is done, where it can be, and what stands after it is of this form
abbrev pub IsSaid : Form → List Config → Option Said → List Config → Option Form → Type 0
IsSaid form old asked new (Some after) =
    (said : Said) × (asked ≡ Some said) × (new ≡ after_said old said) × (after ≡ form_after form said)
IsSaid form old asked new None = asked ≡ None

-- what is read once an entry was looked at
abbrev pub read_next : ℕ → ℕ → Reader → Form → List Config → Next → Result Replay ℕ
read_next size left later form new (nexts.Rest after rest) = replay_of size new (later after new rest.now)
read_next size left later form new nexts.Unfinished = Ok (record { configs = new; kept = size - left; form = form })
read_next size left later form new nexts.Damaged = Err (size - left)

-- reading goes on after an entry, or ends before one
abbrev pub Goes : Form → List Config → List ℕ → List Config → Next → Type 0
Goes form old bytes new next =
    (size : ℕ) (later : Reader)
    → replay_of size old (first_of later form old bytes (whole_entry bytes))
    ≡ read_next size (length bytes) later form new next
