-- What was written is read.
use Rattle.std.proofs.Common.{ℕ, zero, suc, ◌≡◌, ◌∙◌, ◌≤◌, ◌-◌, ◌+◌, ◌||◌, Bool, true, false, cond, List, [], ◌∷◌, ◌++◌, Option, None, Some}
use Rattle.std.proofs.Common.{◌==◌, ◌&&◌, Ok, Err, map, length, length-append, append_assoc, refl, sym, ap, arith, nat_lt, le-ltb, eqb}
use Rattle.std.specs.Prelude.{Result, option_and_then, option_map}
use Rattle.std.specs.List.{flat_map, starts_with}
use Rattle.std.proofs.lemmas.Bool.{and_right}
use Rattle.std.proofs.lemmas.List.{append-nil, drop_at, take_at}
use Rattle.scm_model.specs.declared.flat.Config.{Config}
use Rattle.scm_model.specs.declared.steps.Change.{Change}
use Rattle.scm_model.specs.declared.steps.Change.TheVariants.{Created, Changed, Removed}
use Rattle.service_record.specs.Reading.{◌>>=◌, Item, take_number, take_text}
use Rattle.service_record.specs.Spelling.{FitsText, number, text}
use Rattle.service_record.proofs.Fields.{a_number}
use Rattle.service_record.proofs.Texts.{a_text}
use Rattle.record_journal.specs.Entries.{Entries, IsPart, Whole, all_from, can_replay, change_in, entries, entries_from, first_of, followed}
use Rattle.record_journal.specs.Entries.{if_read, is_switch, last_of, name_of, none_more, replay_of, replayable, said_in, whole_entry}
use Rattle.record_journal.specs.Entries.{with_body, with_change}
use Rattle.record_journal.specs.Format.{HasEntryIn, body_in, entry_bytes, entry_in, entry_kind, header, header_of, held_in}
use Rattle.record_journal.specs.Format.{switch}
use Rattle.record_journal.specs.ReadBack.{AreReplayableIn, AreUpgraded, IsReadBack, journal_in, old_configs, upgraded}
use Rattle.record_journal.specs.Replay.{after_change, replayed}
use Rattle.scm_model.specs.declared.steps.Form.{Form}
use Rattle.scm_model.specs.declared.steps.Form.TheVariants.{First, Second}
use Rattle.record_journal.specs.declared.reading.Said.{Said}
use Rattle.record_journal.specs.declared.reading.Said.TheVariants.{Says, Turns}
use Rattle.record_journal.proofs.Parts.{config_back}

-- ## An entry

whole_name : Item (List ℕ) → Result (List ℕ) ℕ
whole_name read = read >>= λ name. cond (length name.1 == 0) (Ok name.0) (Err (length name.1))

name_back : (name : List ℕ) → FitsText name → name_of (text name) ≡ Ok name
unfolding whole_name
name_back name fits =
    let read : take_text (text name) ≡ Ok (name, []) = ap take_text (sym (append-nil (text name))) ∙ a_text.again name [] fits in
    ap whole_name read

change_back : (form : Form) (change : Change) → HasEntryIn form change
    → change_in form (entry_kind change) (body_in form change) ≡ Some (held_in form change)
change_back First (Created config) entry = ap (λ (r : Result Config ℕ). option_map Created (if_read r))
    (config_back First config entry.body)
change_back First (Changed config) entry = ap (λ (r : Result Config ℕ). option_map Changed (if_read r))
    (config_back First config entry.body)
change_back First (Removed name) entry = ap (λ (r : Result (List ℕ) ℕ). option_map Removed (if_read r)) (name_back name entry.body)
change_back Second (Created config) entry = ap (λ (r : Result Config ℕ). option_map Created (if_read r))
    (config_back Second config entry.body)
change_back Second (Changed config) entry = ap (λ (r : Result Config ℕ). option_map Changed (if_read r))
    (config_back Second config entry.body)
change_back Second (Removed name) entry = ap (λ (r : Result (List ℕ) ℕ). option_map Removed (if_read r)) (name_back name entry.body)

-- a change is no end of a form
pub no_switch : (form : Form) (change : Change) (body : List ℕ) → is_switch form (entry_kind change) body ≡ false
no_switch First (Created config) body = refl
no_switch First (Changed config) body = refl
no_switch First (Removed name) body = refl
no_switch Second change body = refl

pub says_change : (form : Form) (change : Change) (body : List ℕ)
    → said_in form (entry_kind change) body ≡ option_map Says (change_in form (entry_kind change) body)
says_change form change body =
    ap (λ b. cond b (Some Turns) (option_map Says (change_in form (entry_kind change) body))) (no_switch form change body)

said_back : (form : Form) (change : Change) → HasEntryIn form change
    → said_in form (entry_kind change) (body_in form change) ≡ Some (Says (held_in form change))
said_back form change entry =
    says_change form change (body_in form change) ∙ ap (λ (o : Option Change). option_map Says o) (change_back form change entry)

abbrev pub entry_of : Form → Change → List ℕ → Whole
entry_of form change rest = record { kind = entry_kind change; body = body_in form change; rest = rest }

pub body_back : (kind : ℕ) (body rest : List ℕ) → with_body kind (Some (length body, body ++ rest)) ≡ Some
    (record { kind = kind; body = body; rest = rest })
body_back kind body rest =
    let long = length-append body rest in
    rw (
      le-ltb (length (body ++ rest)) (length body) (omega (arith, long)),
      take_at body rest (length body) refl,
      drop_at body rest (length body) refl,
    ) refl

pub front_back : (form : Form) (change : Change) (rest : List ℕ) → HasEntryIn form change → whole_entry (entry_in form change ++ rest)
    ≡ Some (entry_of form change rest)
unfolding entry_in
front_back form change rest entry =
    let body = body_in form change in
    let size = length body in
    let read : take_number (number size ++ body ++ rest) ≡ Ok (size, body ++ rest) =
    ap take_number (append_assoc (number size) body rest) ∙ a_number.again size (body ++ rest) entry.length in
    ap (λ (r : Item ℕ). with_body (entry_kind change) (if_read r)) read ∙ body_back (entry_kind change) body rest

-- the entry that ends form 1
pub switch_front : (rest : List ℕ) → whole_entry (switch ++ rest) ≡ Some (record { kind = 4; body = []; rest = rest })
switch_front rest =
    ap (λ (r : Item ℕ). with_body 4 (if_read r)) (a_number.again 0 rest (omega arith)) ∙ body_back 4 [] rest

-- ## Entry after entry

ended : (n : ℕ) (form : Form) (configs : List Config) (tail : List ℕ) → IsPart form tail →
    entries_from n form configs tail ≡ Ok (none_more form (length tail))
unfolding entries_from
ended zero form configs tail part = refl
ended (suc n) form configs tail part = ap (first_of (entries_from n) form configs tail) part.less
    ∙ ap (last_of form (length tail)) part.unfinished

pub entry_back : (n : ℕ) (form : Form) (configs : List Config) (change : Change) (rest : List ℕ) → HasEntryIn form change
    → can_replay configs (held_in form change) ≡ true
    → entries_from (suc n) form configs (entry_in form change ++ rest) ≡ with_change (held_in form change)
    (entries_from n form (after_change configs (held_in form change)) rest)
unfolding entries_from
entry_back n form configs change rest entry can =
    let bytes = entry_in form change ++ rest in
    let left = length bytes in
    let held = held_in form change in
    ap (first_of (entries_from n) form configs bytes) (front_back form change rest entry)
    ∙ ap (λ (o : Option Said). followed (entries_from n) form configs left rest (option_and_then (replayable configs) o))
    (said_back form change entry)
    ∙ ap (λ (b : Bool). followed (entries_from n) form configs left rest (cond b (Some (Says held)) None)) can

pub switch_back : (n : ℕ) (configs : List Config) (rest : List ℕ)
    → entries_from (suc n) First configs (switch ++ rest) ≡ entries_from n Second configs rest
unfolding entries_from
switch_back n configs rest = ap (first_of (entries_from n) First configs (switch ++ rest)) (switch_front rest)

-- changes before what is read
unfoldable pub with_changes : List Change → Result Entries ℕ → Result Entries ℕ
with_changes [] read = read
with_changes (change ∷ changes) read = with_change change (with_changes changes read)

-- a turn for each change, and so many
unfoldable pub turns : List Change → ℕ → ℕ
turns [] n = n
turns (change ∷ changes) n = suc (turns changes n)

pub turns_are : (changes : List Change) (n : ℕ) → turns changes n ≡ length changes + n
unfolding turns
turns_are [] n = omega arith
turns_are (change ∷ changes) n = let rest = turns_are changes n in omega (arith, rest)

pub with_are : (changes more : List Change) (left : ℕ) (form : Form)
    → with_changes changes (Ok (record { changes = more; left = left; form = form }))
    ≡ Ok (record { changes = changes ++ more; left = left; form = form })
unfolding with_changes
with_are [] more left form = refl
with_are (change ∷ changes) more left form = ap (with_change change) (with_are changes more left form)

abbrev pub held_all : Form → List Change → List Change
held_all form changes = map (held_in form) changes

pub all_back : (n : ℕ) (form : Form) (configs : List Config) (changes : List Change) (rest : List ℕ) → AreReplayableIn form configs changes
    → entries_from (turns changes n) form configs (flat_map (entry_in form) changes ++ rest)
    ≡ with_changes (held_all form changes) (entries_from n form (replayed configs (held_all form changes)) rest)
unfolding turns with_changes
all_back n form configs [] rest can = refl
all_back n form configs (change ∷ changes) rest can =
    let held = held_in form change in
    let others = flat_map (entry_in form) changes in
    ap (entries_from (suc (turns changes n)) form configs) (append_assoc (entry_in form change) others rest)
    ∙ entry_back (turns changes n) form configs change (others ++ rest) can.0 can.1
    ∙ ap (with_change held) (all_back n form (after_change configs held) changes rest can.2)

-- ## A journal

long_entry : (form : Form) (change : Change) → 1 ≤ length (entry_in form change)
unfolding entry_in
long_entry form change = omega arith

pub enough : (form : Form) (changes : List Change) → length changes ≤ length (flat_map (entry_in form) changes)
enough form [] = omega arith
enough form (change ∷ changes) =
    let one = long_entry form change in
    let rest = enough form changes in
    let long = length-append (entry_in form change) (flat_map (entry_in form) changes) in
    omega (arith, one, rest, long)

pub header_long : (form : Form) → length (header_of form) ≡ 8
header_long First = refl
header_long Second = refl

-- a whole header is no part of one
pub whole_header : (bytes : List ℕ) → 8 ≤ length bytes
    → ((starts_with eqb header bytes || starts_with eqb (header_of First) bytes) && nat_lt (length bytes) 8) ≡ false
whole_header bytes long =
    and_right (starts_with eqb header bytes || starts_with eqb (header_of First) bytes) (nat_lt (length bytes) 8)
    (le-ltb (length bytes) 8 long)

pub headed : (form : Form) (rest : List ℕ) → entries (header_of form ++ rest) ≡ all_from form [] rest
headed First rest = rw (whole_header (header_of First ++ rest) (omega arith)) refl
headed Second rest = rw (whole_header (header ++ rest) (omega arith)) refl

-- what so many bytes are read as, all but the last of which are kept
kept_front : (front tail : List ℕ) (changes : List Change) (form : Form)
    → replay_of (length (front ++ tail)) [] (Ok (record { changes = changes; left = length tail; form = form }))
    ≡ Ok (record { configs = replayed [] changes; kept = length front; form = form })
kept_front front tail changes form =
    let long = length-append front tail in
    ap (λ n. Ok (record { configs = replayed [] changes; kept = n; form = form })) (omega (arith, long))

-- an end whose part is left
part_left : (n : ℕ) (form : Form) (configs : List Config) (changes : List Change) (tail : List ℕ) → IsPart form tail
    → with_changes changes (entries_from n form configs tail)
    ≡ Ok (record { changes = changes; left = length tail; form = form })
part_left n form configs changes tail part =
    ap (with_changes changes) (ended n form configs tail part)
    ∙ with_are changes [] (length tail) form
    ∙ ap (λ (all : List Change). Ok (record { changes = all; left = length tail; form = form })) (append-nil changes)

pub read_back : (form : Form) (changes : List Change) → AreReplayableIn form [] changes
    → IsReadBack (journal_in form changes) form (replayed [] (map (held_in form) changes))
read_back form changes can tail part =
    let es = flat_map (entry_in form) changes in
    let held = held_all form changes in
    let n = length (es ++ tail) - length changes in
    let count : turns changes n ≡ length (es ++ tail) =
    (let long = length-append es tail in let few = enough form changes in let are = turns_are changes n in
    omega (arith, long, few, are)) in
    let read : all_from form [] (es ++ tail) ≡ Ok (record { changes = held; left = length tail; form = form }) =
    ap (λ k. entries_from k form [] (es ++ tail)) (sym count) ∙ all_back n form [] changes tail can
    ∙ part_left n form (replayed [] held) held tail part in
    let whole : entries (journal_in form changes ++ tail) ≡ Ok (record { changes = held; left = length tail; form = form }) =
    ap entries (append_assoc (header_of form) es tail) ∙ headed form (es ++ tail) ∙ read in
    ap (replay_of (length (journal_in form changes ++ tail)) []) whole
    ∙ kept_front (journal_in form changes) tail held form

-- ## A journal of form 1 that goes on in form 2

pub replayed_both : (configs : List Config) (a b : List Change) → replayed configs (a ++ b) ≡ replayed (replayed configs a) b
replayed_both configs [] b = refl
replayed_both configs (change ∷ a) b = replayed_both (after_change configs change) a b

all_held : (changes : List Change) → held_all Second changes ≡ changes
all_held [] = refl
all_held (change ∷ changes) = ap (λ (cs : List Change). change ∷ cs) (all_held changes)

with_both : (a b : List Change) (left : ℕ) (form : Form)
    → with_changes a (Ok (record { changes = b; left = left; form = form })) ≡ Ok (record { changes = a ++ b; left = left; form = form })
with_both a b left form = with_are a b left form

pub upgraded_back : (old changes : List Change) → AreUpgraded old changes
    → IsReadBack (upgraded old changes) Second (replayed (old_configs old) changes)
upgraded_back old changes can tail part =
    let olds = flat_map (entry_in First) old in
    let news = flat_map entry_bytes changes in
    let behind = news ++ tail in
    let all = olds ++ (switch ++ behind) in
    let m = length all - (1 + length old + length changes) in
    let count : turns old (suc (turns changes m)) ≡ length all =
    (let l1 = length-append olds (switch ++ behind) in let l2 = length-append news tail in
    let f1 = enough First old in let f2 = enough Second changes in
    let t1 = turns_are old (suc (turns changes m)) in let t2 = turns_are changes m in
    omega (arith, l1, l2, f1, f2, t1, t2)) in
    let held = held_all First old in
    let last : Entries = record { changes = changes; left = length tail; form = Second } in
    let later : entries_from (turns changes m) Second (old_configs old) behind ≡ Ok last =
    all_back m Second (old_configs old) changes tail can.1
    ∙ ap (λ (cs : List Change). with_changes cs (entries_from m Second (replayed (old_configs old) cs) tail)) (all_held changes)
    ∙ part_left m Second (replayed (old_configs old) changes) changes tail part in
    let read : all_from First [] all ≡ Ok (record { changes = held ++ changes; left = length tail; form = Second }) =
    ap (λ k. entries_from k First [] all) (sym count)
    ∙ all_back (suc (turns changes m)) First [] old (switch ++ behind) can.0
    ∙ ap (with_changes held) (switch_back (turns changes m) (old_configs old) behind ∙ later)
    ∙ with_both held changes (length tail) Second in
    let parts : upgraded old changes ++ tail ≡ header_of First ++ all =
    append_assoc (journal_in First old ++ switch) news tail
    ∙ append_assoc (journal_in First old) switch behind
    ∙ append_assoc (header_of First) olds (switch ++ behind) in
    ap (replay_of (length (upgraded old changes ++ tail)) []) (ap entries parts ∙ headed First all ∙ read)
    ∙ kept_front (upgraded old changes) tail (held ++ changes) Second
    ∙ ap (λ (cs : List Config). Ok (record { configs = cs; kept = length (upgraded old changes); form = Second }))
    (replayed_both [] held changes)
