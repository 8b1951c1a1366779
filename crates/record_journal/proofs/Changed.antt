-- A journal with a changed byte is read with all its bytes, or not at all.
use Rattle.std.proofs.Common.{ℕ, zero, suc, ◌≡◌, ◌∙◌, ◌<◌, ◌≤◌, ◌-◌, ◌+◌, ◌==◌, ◌||◌, not, Bool, true, false, cond, List, [], ◌∷◌, ◌++◌}
use Rattle.std.proofs.Common.{◌&&◌, Option, None, Some, Ok, Err, take, drop, set, length, length-append, append_assoc, append-nil, refl}
use Rattle.std.proofs.Common.{sym, ap, subst, arith, nat_lt, ltb-false, ltb-true, eqb, eqb-true, ne_eqb, ⊎_elim}
use Rattle.std.specs.Prelude.{Result, is_ok, option_and_then, option_map}
use Rattle.std.specs.Int.{w32, from_le_bytes}
use Rattle.std.specs.List.{flat_map, starts_with}
use Rattle.std.proofs.lemmas.Bool.{cases_lt}
use Rattle.std.proofs.lemmas.Bool.Decides.{Decides-eqb}
use Rattle.std.proofs.lemmas.List.{drop_at, length-set, length-take-le, nil_from_length, set-append_left, set-append_right}
use Rattle.std.proofs.lemmas.List.{take-append-drop, take_at}
use Rattle.std.proofs.lemmas.Slice.Eq.{starts_is}
use Rattle.scm_model.specs.declared.flat.Config.{Config}
use Rattle.scm_model.specs.declared.steps.Change.{Change}
use Rattle.scm_model.specs.declared.steps.Change.TheVariants.{Created, Changed, Removed}
use Rattle.service_record.specs.Reading.{◌>>=◌, Item, take_config, take_config_1, take_end, take_flag, take_front, take_text, whole_of_1}
use Rattle.service_record.specs.Reading.{with_end}
use Rattle.service_record.specs.Spelling.{FitsNumber, IsConfig, IsConfig_1, counted_items, encoding, encoding_1, end, flag, held, number}
use Rattle.service_record.specs.Spelling.{text, trigger_bytes}
use Rattle.service_record.proofs.Fields.{a_number, ok_is}
use Rattle.service_record.proofs.Records.{config_again_1, fits_1}
use Rattle.record_journal.specs.Entries.{Entries, Reader, Whole, after_said, all_from, begins_switch, can_grow, can_replay, change_in}
use Rattle.record_journal.specs.Entries.{entries_from, first_of, followed, form_after, if_read, is_switch, is_unfinished, last_of, name_of}
use Rattle.record_journal.specs.Entries.{none_more, read_journal, replay_of, replayable, said_in, take_in, whole_entry, whole_in, with_body}
use Rattle.record_journal.specs.Entries.{with_said}
use Rattle.record_journal.specs.Format.{HasConfig, HasEntryIn, body_in, config_in, entry_bytes, entry_in, entry_kind, header, header_of}
use Rattle.record_journal.specs.Format.{held_in, switch}
use Rattle.record_journal.specs.ReadBack.{AreReplayableIn, AreUpgraded, IsNotCut, journal_in, old_configs, upgraded}
use Rattle.record_journal.specs.Replay.{after_change}
use Rattle.scm_model.specs.declared.steps.Form.{Form}
use Rattle.scm_model.specs.declared.steps.Form.TheVariants.{First, Second}
use Rattle.record_journal.specs.declared.reading.Said.{Said}
use Rattle.record_journal.specs.declared.reading.Said.TheVariants.{Says, Turns}
use Rattle.record_journal.specs.declared.replaying.Replay.{Replay}
use Rattle.record_journal.proofs.Back.{body_back, enough, front_back, header_long, says_change, switch_front, turns, turns_are}
use Rattle.record_journal.proofs.Back.{whole_header}
use Rattle.record_journal.proofs.Parts.{Ends, config_ends, ended, ends_of, name_ends, still, whole_is}
use Rattle.record_journal.proofs.Readers.{IsReader, config_reader, number_before, text_reader}

-- ## What leaves no bytes

abbrev LeavesNone : Result Entries ℕ → Type 0
LeavesNone read = (e : Entries) → read ≡ Ok e → e.left ≡ 0

same_entries : (a b : Entries) → ◌≡◌ {A = Result Entries ℕ} (Ok a) (Ok b) → a ≡ b
same_entries a b is = cc

none_left : (a : Entries) → a.left ≡ 0 → LeavesNone (Ok a)
none_left a none e is = ap (λ (x : Entries). x.left) (sym (same_entries a e is)) ∙ none

damage : (left : ℕ) → LeavesNone (Err left)
damage left e is = absurd cc

one_more : (said : Said) (read : Result Entries ℕ) → LeavesNone read → LeavesNone (with_said said read)
one_more (Says change) (Ok a) none = none_left (record a { changes = change ∷ a.changes }) (none a refl)
one_more (Says change) (Err left) none = damage left
one_more Turns read none = none

of_both : {A : Type 0} (o : Option A) (f : A → Option A) (x : A) → option_and_then f o ≡ Some x → (y : A) × (o ≡ Some y) × (f y ≡ Some x)
of_both None f x is = absurd cc
of_both (Some y) f x is = (y, refl, is)

-- what can be replayed is what is said
same_said : (configs : List Config) (a b : Said) → replayable configs a ≡ Some b → a ≡ b
same_said configs (Says change) b is =
    elim (can_replay configs change) as (λ t. cond t (Some (Says change)) None ≡ Some b → Says change ≡ b) [
      | true ↦ λ e. cc
      | false ↦ λ e. absurd cc
    ] is
same_said configs Turns b is = cc

after_one : (later : Reader) (form : Form) (configs : List Config) (left : ℕ) (rest : List ℕ) (done : Option Said)
    → ((said : Said) → done ≡ Some said → (cs : List Config) → LeavesNone (later (form_after form said) cs rest))
    → LeavesNone (followed later form configs left rest done)
after_one later form configs left rest None behind = damage left
after_one later form configs left rest (Some said) behind =
    one_more said (later (form_after form said) (after_said configs said) rest) (behind said refl (after_said configs said))

-- ## An entry at a time

abbrev Behind : ℕ → Form → List ℕ → Type 0
Behind n form rest = (configs : List Config) → LeavesNone (entries_from n form configs rest)

whole_first : (n : ℕ) (form : Form) (configs : List Config) (bytes : List ℕ) (whole : Whole) → whole_entry bytes ≡ Some whole
    → ((said : Said) → said_in form whole.kind whole.body ≡ Some said → Behind n (form_after form said) whole.rest)
    → LeavesNone (entries_from (suc n) form configs bytes)
unfolding entries_from
whole_first n form configs bytes whole is behind =
    subst LeavesNone (sym (ap (first_of (entries_from n) form configs bytes) is))
    (after_one (entries_from n) form configs (length bytes) whole.rest
    (option_and_then (replayable configs) (said_in form whole.kind whole.body))
    (λ said done. let p = of_both (said_in form whole.kind whole.body) (replayable configs) said done in
    behind said (p.1 ∙ ap (λ (s : Said). Some s) (same_said configs p.0 said p.2))))

bad_first : (n : ℕ) (form : Form) (configs : List Config) (bytes : List ℕ) → whole_entry bytes ≡ None → is_unfinished form bytes ≡ false
    → LeavesNone (entries_from (suc n) form configs bytes)
unfolding entries_from
bad_first n form configs bytes none bad =
    subst LeavesNone (sym (ap (first_of (entries_from n) form configs bytes) none ∙ ap (last_of form (length bytes)) bad))
    (damage (length bytes))

-- an entry of a change is followed by entries of its form
no_turn : (o : Option Change) (said : Said) → option_map Says o ≡ Some said → (other : Change) × (o ≡ Some other) × (said ≡ Says other)
no_turn None said is = absurd cc
no_turn (Some other) said is = (other, refl, cc)

change_first : (n : ℕ) (form : Form) (configs : List Config) (bytes : List ℕ) (change : Change) (body rest : List ℕ)
    → whole_entry bytes ≡ Some (record { kind = entry_kind change; body = body; rest = rest })
    → ((other : Change) → change_in form (entry_kind change) body ≡ Some other → Behind n form rest)
    → LeavesNone (entries_from (suc n) form configs bytes)
change_first n form configs bytes change body rest is behind =
    whole_first n form configs bytes (record { kind = entry_kind change; body = body; rest = rest }) is
    (λ said told.
    let p = no_turn (change_in form (entry_kind change) body) said (sym (says_change form change body) ∙ told) in
    subst (λ (s : Said). Behind n (form_after form s) rest) (sym p.2) (behind p.0 p.1))

-- ## Entries that are as they were

abbrev HaveEntries : Form → List Change → Type 0
HaveEntries form [] = Unit {0}
HaveEntries form (change ∷ changes) = HasEntryIn form change × HaveEntries form changes

have_entries : (form : Form) (configs : List Config) (changes : List Change) → AreReplayableIn form configs changes
    → HaveEntries form changes
have_entries form configs [] can = tt
have_entries form configs (change ∷ changes) can = (can.0, have_entries form (after_change configs (held_in form change)) changes can.2)

nothing : (n : ℕ) (form : Form) → Behind n form []
unfolding entries_from
nothing zero form configs = none_left (none_more form 0) refl
nothing (suc n) form configs = none_left (none_more form 0) refl

intact : (n : ℕ) (form : Form) (changes : List Change) (rest : List ℕ) → HaveEntries form changes → Behind n form rest
    → Behind (turns changes n) form (flat_map (entry_in form) changes ++ rest)
unfolding turns
intact n form [] rest have behind configs = behind configs
intact n form (change ∷ changes) rest have behind configs =
    let others = flat_map (entry_in form) changes ++ rest in
    subst (λ (xs : List ℕ). LeavesNone (entries_from (suc (turns changes n)) form configs xs))
    (sym (append_assoc (entry_in form change) (flat_map (entry_in form) changes) rest))
    (change_first (turns changes n) form configs (entry_in form change ++ others) change (body_in form change) others
    (front_back form change others have.0) (λ other is. intact n form changes rest have.1 behind))

switch_intact : (n : ℕ) (rest : List ℕ) → Behind n Second rest → Behind (suc n) First (switch ++ rest)
switch_intact n rest behind configs =
    whole_first n First configs (switch ++ rest) (record { kind = 4; body = []; rest = rest }) (switch_front rest)
    (λ said is. let turned : Turns ≡ said = cc in subst (λ (s : Said). Behind n (form_after First s) rest) turned behind)

-- ## A body that is read ends where it ended

-- what two fronts of the same bytes leave, where both are read to their ends
rest_same : {A : Type 0} (read : List ℕ → Item A) → IsReader read → (front after body rest : List ℕ) → front ++ after ≡ body ++ rest
    → Ends read front → Ends read body → after ≡ rest
rest_same {A} read one front after body rest parts x y =
    let left : x.item.1 ++ after ≡ y.item.1 ++ rest =
    ap (λ (z : A × List ℕ). z.1) (ok_is (x.item.0, x.item.1 ++ after) (y.item.0, y.item.1 ++ rest)
    (sym (still read one front after x.item x.is) ∙ ap read parts ∙ still read one body rest y.item y.is)) in
    ap (λ (xs : List ℕ). xs ++ after) (sym (nil_from_length x.item.1 x.end)) ∙ left
    ∙ ap (λ (xs : List ℕ). xs ++ rest) (nil_from_length y.item.1 y.end)

of_read : {A B : Type 0} (f : A → B) (read : Result A ℕ) (o : B) → option_map f (if_read read) ≡ Some o → (x : A) × (read ≡ Ok x)
of_read f (Ok x) o is = (x, refl)
of_read f (Err left) o is = absurd cc

config_read : (form : Form) (front : List ℕ) (c : Config) → whole_in form front ≡ Ok c → Ends (take_in form) front
config_read form front c is = ends_of (take_in form) front c (sym (whole_is form front) ∙ is)

name_read : (front name : List ℕ) → name_of front ≡ Ok name → Ends take_text front
name_read front name is = ends_of take_text front name is

body_same : (form : Form) (change : Change) → HasEntryIn form change → (front after rest : List ℕ) (other : Change)
    → change_in form (entry_kind change) front ≡ Some other → front ++ after ≡ body_in form change ++ rest → after ≡ rest
body_same form (Created config) entry front after rest other is parts =
    let p = of_read Created (whole_in form front) other is in
    rest_same (take_in form) (config_reader form) front after (config_in form config) rest parts (config_read form front p.0 p.1)
    (config_ends form config entry.body)
body_same form (Changed config) entry front after rest other is parts =
    let p = of_read Changed (whole_in form front) other is in
    rest_same (take_in form) (config_reader form) front after (config_in form config) rest parts (config_read form front p.0 p.1)
    (config_ends form config entry.body)
body_same form (Removed name) entry front after rest other is parts =
    let p = of_read Removed (name_of front) other is in
    rest_same take_text text_reader front after (text name) rest parts (name_read front p.0 p.1) (name_ends name entry.body)

has_read : {A : Type 0} (read : List ℕ → Item A) → IsReader read → (body rest : List ℕ) → Ends read body
    → is_ok (read (body ++ rest)) ≡ true
has_read {A} read one body rest y = ap (λ (r : Item A). is_ok r) (still read one body rest y.item y.is)

body_grown : (form : Form) (change : Change) → HasEntryIn form change → (rest : List ℕ)
    → can_grow form (entry_kind change) (body_in form change ++ rest) ≡ false
body_grown form (Created config) entry rest = ap not (has_read (take_in form) (config_reader form) (config_in form config) rest
    (config_ends form config entry.body))
body_grown form (Changed config) entry rest = ap not (has_read (take_in form) (config_reader form) (config_in form config) rest
    (config_ends form config entry.body))
body_grown form (Removed name) entry rest = ap not (has_read take_text text_reader (text name) rest (name_ends name entry.body))

-- an entry of a change begins no switch
no_begin : (form : Form) (change : Change) (bytes : List ℕ) → begins_switch form (entry_kind change ∷ bytes) ≡ false
no_begin First (Created config) bytes = refl
no_begin First (Changed config) bytes = refl
no_begin First (Removed name) bytes = refl
no_begin Second change bytes = refl

-- ## An entry that is changed

-- any length in the place of the body's
any_length : (n : ℕ) (form : Form) (configs : List Config) (change : Change) (p rest : List ℕ) → HasEntryIn form change → length p ≡ 4
    → Behind n form rest → LeavesNone (entries_from (suc n) form configs (entry_kind change ∷ p ++ (body_in form change ++ rest)))
any_length n form configs change p rest entry four behind =
    let size = from_le_bytes w32 p in
    let all = body_in form change ++ rest in
    let kind = entry_kind change in
    let whole : Whole = record { kind = kind; body = take size all; rest = drop size all } in
    let read : whole_entry (kind ∷ p ++ all) ≡ cond (nat_lt (length all) size) None (Some whole) = ap
    (λ (r : Item ℕ). with_body kind (if_read r)) (number_before p all four) in
    let ends : is_unfinished form (kind ∷ p ++ all) ≡ false =
    ap (λ b. b || can_grow form kind (drop 4 (p ++ all))) (no_begin form change (p ++ all))
    ∙ ap (can_grow form kind) (drop_at p all 4 four) ∙ body_grown form change entry rest in
    elim (nat_lt (length all) size) as (λ b. nat_lt (length all) size ≡ b
    → LeavesNone (entries_from (suc n) form configs (kind ∷ p ++ all))) [
      | true ↦ λ e. bad_first n form configs (kind ∷ p ++ all) (read ∙ ap (λ b. cond b None (Some whole)) e) ends
      | false ↦ λ e.
          change_first n form configs (kind ∷ p ++ all) change (take size all) (drop size all)
          (read ∙ ap (λ b. cond b None (Some whole)) e)
          (λ other is. subst (Behind n form) (sym (body_same form change entry (take size all) (drop size all) rest other is
          (take-append-drop size all))) behind)
    ] refl

-- a body that isn't empty ends no form
no_turn_at : (form : Form) (kind : ℕ) (body : List ℕ) → 1 ≤ length body → is_switch form kind body ≡ false
no_turn_at First kind body some =
    let long : (length body == 0) ≡ false = ne_eqb (length body) 0 (λ q. absurd (omega (arith, q, some))) in
    elim (kind == 4) as (λ b. (b && length body == 0) ≡ false) [ true ↦ long | false ↦ refl ]
no_turn_at Second kind body some = refl

-- any kind, and any body of the length
any_body : (n : ℕ) (form : Form) (configs : List Config) (kind : ℕ) (body rest : List ℕ) → FitsNumber (length body) → 1 ≤ length body
    → Behind n form rest → LeavesNone (entries_from (suc n) form configs (kind ∷ number (length body) ++ (body ++ rest)))
any_body n form configs kind body rest fits some behind =
    whole_first n form configs (kind ∷ number (length body) ++ (body ++ rest)) (record { kind = kind; body = body; rest = rest })
    (ap (λ (r : Item ℕ). with_body kind (if_read r)) (a_number.again (length body) (body ++ rest) fits) ∙ body_back kind body rest)
    (λ said is.
    let says : option_map Says (change_in form kind body) ≡ Some said =
    sym (ap (λ b. cond b (Some Turns) (option_map Says (change_in form kind body))) (no_turn_at form kind body some)) ∙ is in
    let p = no_turn (change_in form kind body) said says in
    subst (λ (s : Said). Behind n (form_after form s) rest) (sym p.2) behind)

-- a body begins with a number
body_long : (form : Form) (change : Change) → 1 ≤ length (body_in form change)
body_long First (Created config) = omega arith
body_long First (Changed config) = omega arith
body_long First (Removed name) = omega arith
body_long Second (Created config) = omega arith
body_long Second (Changed config) = omega arith
body_long Second (Removed name) = omega arith

entry_changed : (n : ℕ) (form : Form) (configs : List Config) (change : Change) (place byte : ℕ) (rest : List ℕ) → HasEntryIn form change
    → Behind n form rest → LeavesNone (entries_from (suc n) form configs (set (entry_in form change) place byte ++ rest))
unfolding entry_in
entry_changed n form configs change zero byte rest entry behind =
    let p = number (length (body_in form change)) in
    subst (λ (xs : List ℕ). LeavesNone (entries_from (suc n) form configs (byte ∷ xs))) (sym (append_assoc p (body_in form change) rest))
    (any_body n form configs byte (body_in form change) rest entry.length (body_long form change) behind)
entry_changed n form configs change (suc q) byte rest entry behind =
    let body = body_in form change in
    let p = number (length body) in
    let kind = entry_kind change in
    ⊎_elim
    (λ (lt : q < 4).
    let at : set (p ++ body) q byte ++ rest ≡ set p q byte ++ (body ++ rest) = ap (λ (xs : List ℕ). xs ++ rest)
    (set-append_left p body q byte lt) ∙ append_assoc (set p q byte) body rest in
    subst (λ (xs : List ℕ). LeavesNone (entries_from (suc n) form configs (kind ∷ xs))) (sym at)
    (any_length n form configs change (set p q byte) rest entry (length-set p q byte) behind))
    (λ (le : 4 ≤ q).
    let b = set body (q - 4) byte in
    let long : length b ≡ length body = length-set body (q - 4) byte in
    let some = body_long form change in
    let at : set (p ++ body) q byte ++ rest ≡ number (length b) ++ (b ++ rest) =
    ap (λ (xs : List ℕ). xs ++ rest) (set-append_right p body 4 q byte refl le) ∙ append_assoc p b rest
    ∙ ap (λ k. number k ++ (b ++ rest)) (sym long) in
    subst (λ (xs : List ℕ). LeavesNone (entries_from (suc n) form configs (kind ∷ xs))) (sym at)
    (any_body n form configs kind b rest (subst FitsNumber (sym long) entry.length) (omega (arith, long, some)) behind))
    (cases_lt q 4)

-- entries of which one is changed, and what stands after them
changed : (n : ℕ) (form : Form) (changes : List Change) (place byte : ℕ) (rest : List ℕ) → HaveEntries form changes → Behind n form rest
    → Behind (turns changes n) form (set (flat_map (entry_in form) changes) place byte ++ rest)
unfolding turns
changed n form [] zero byte rest have behind configs = behind configs
changed n form [] (suc place) byte rest have behind configs = behind configs
changed n form (change ∷ changes) place byte rest have behind configs =
    let entry = entry_in form change in
    let others = flat_map (entry_in form) changes in
    let m = turns changes n in
    ⊎_elim
    (λ (lt : place < length entry).
    let at : set (entry ++ others) place byte ++ rest ≡ set entry place byte ++ (others ++ rest) =
    ap (λ (xs : List ℕ). xs ++ rest) (set-append_left entry others place byte lt) ∙ append_assoc (set entry place byte) others rest in
    subst (λ (xs : List ℕ). LeavesNone (entries_from (suc m) form configs xs)) (sym at)
    (entry_changed m form configs change place byte (others ++ rest) have.0 (intact n form changes rest have.1 behind)))
    (λ (le : length entry ≤ place).
    let q = place - length entry in
    let last = set others q byte ++ rest in
    let at : set (entry ++ others) place byte ++ rest ≡ entry ++ last =
    ap (λ (xs : List ℕ). xs ++ rest) (set-append_right entry others (length entry) place byte refl le)
    ∙ append_assoc entry (set others q byte) rest in
    subst (λ (xs : List ℕ). LeavesNone (entries_from (suc m) form configs xs)) (sym at)
    (change_first m form configs (entry ++ last) change (body_in form change) last (front_back form change last have.0)
    (λ other is. changed n form changes q byte rest have.1 behind)))
    (cases_lt place (length entry))

-- ## The entry that ends form 1, changed

no_config : whole_in First [] ≡ Err 0
unfolding whole_of_1 take_config_1 take_front take_text
no_config = refl

no_name : name_of [] ≡ Err 0
unfolding take_text
no_name = refl

abbrev change_made : Bool → Bool → Bool → Result Config ℕ → Result (List ℕ) ℕ → Option Change
change_made one two three config name =
    cond one (option_map Created (if_read config)) (cond two (option_map Changed (if_read config))
    (cond three (option_map Removed (if_read name)) None))

none_made : (one two three : Bool) → change_made one two three (Err 0) (Err 0) ≡ None
none_made true two three = refl
none_made false true three = refl
none_made false false true = refl
none_made false false false = refl

no_change : (kind : ℕ) → change_in First kind [] ≡ None
no_change kind =
    ap (λ (r : Result Config ℕ). change_made (kind == 1) (kind == 2) (kind == 3) r (name_of [])) no_config
    ∙ ap (λ (r : Result (List ℕ) ℕ). change_made (kind == 1) (kind == 2) (kind == 3) (Err 0) r) no_name
    ∙ none_made (kind == 1) (kind == 2) (kind == 3)

-- an empty body says no more than that form 1 ends
nothing_said : (kind : ℕ) (said : Said) → said_in First kind [] ≡ Some said → Turns ≡ said
nothing_said kind said is =
    elim (kind == 4) as (λ b. cond (b && true) (Some Turns) (option_map Says (change_in First kind [])) ≡ Some said → Turns ≡ said) [
      | true ↦ λ e. cc
      | false ↦ λ e. absurd (let none = sym (ap (λ (o : Option Change). option_map Says o) (no_change kind)) ∙ e in cc)
    ] is

abbrev four_zeros : List ℕ
four_zeros = 0 ∷ 0 ∷ 0 ∷ 0 ∷ []

-- another length is no front of it
other_length : (p rest : List ℕ) → length p ≡ 4 → length rest < from_le_bytes w32 p → begins_switch First (4 ∷ p ++ rest) ≡ false
other_length p rest four less =
    let bytes = 4 ∷ p ++ rest in
    elim (starts_with eqb switch bytes) as (λ b. starts_with eqb switch bytes ≡ b → b ≡ false) [
      | true ↦ λ e.
          let is : switch ≡ bytes ++ drop (length bytes) switch =
          (starts_is Decides-eqb switch bytes (starts_with eqb switch bytes) refl).0 e in
          let more = drop (length bytes) switch in
          let same : four_zeros ≡ p = ap (λ (xs : List ℕ). take 4 (drop 1 xs)) is
          ∙ ap (take 4) (append_assoc p rest more) ∙ take_at p (rest ++ more) 4 four in
          let none : 0 ≡ from_le_bytes w32 p = ap (from_le_bytes w32) same in
          absurd (omega (arith, none, less))
      | false ↦ λ e. refl
    ] refl

-- a body of kind 4 is empty where it says something
turned : (n size : ℕ) (rest : List ℕ) (said : Said) → size ≤ length rest → said_in First 4 (take size rest) ≡ Some said
    → Behind n Second rest → Behind n (form_after First said) (drop size rest)
turned n size rest said le is behind =
    elim (length (take size rest) == 0) as (λ b. (length (take size rest) == 0) ≡ b
    → cond b (Some Turns) None ≡ Some said → Behind n (form_after First said) (drop size rest)) [
      | true ↦ λ e told.
          let none : size ≡ 0 = sym (length-take-le size rest le) ∙ eqb-true (length (take size rest)) 0 e in
          let same : Turns ≡ said = cc in
          subst (λ (s : Said). Behind n (form_after First s) (drop size rest)) same
          (subst (λ (k : ℕ). Behind n Second (drop k rest)) (sym none) behind)
      | false ↦ λ e told. absurd cc
    ] refl is

any_switch_length : (n : ℕ) (configs : List Config) (p rest : List ℕ) → length p ≡ 4 → Behind n Second rest
    → LeavesNone (entries_from (suc n) First configs (4 ∷ p ++ rest))
any_switch_length n configs p rest four behind =
    let size = from_le_bytes w32 p in
    let whole : Whole = record { kind = 4; body = take size rest; rest = drop size rest } in
    let read : whole_entry (4 ∷ p ++ rest) ≡ cond (nat_lt (length rest) size) None (Some whole) = ap
    (λ (r : Item ℕ). with_body 4 (if_read r)) (number_before p rest four) in
    elim (nat_lt (length rest) size) as (λ b. nat_lt (length rest) size ≡ b
    → LeavesNone (entries_from (suc n) First configs (4 ∷ p ++ rest))) [
      | true ↦ λ e.
          bad_first n First configs (4 ∷ p ++ rest) (read ∙ ap (λ b. cond b None (Some whole)) e)
          (ap (λ b. b || can_grow First 4 (drop 4 (p ++ rest))) (other_length p rest four (ltb-true (length rest) size e)))
      | false ↦ λ e.
          whole_first n First configs (4 ∷ p ++ rest) whole (read ∙ ap (λ b. cond b None (Some whole)) e)
          (λ said is. turned n size rest said (ltb-false (length rest) size e) is behind)
    ] refl

switch_changed : (n place byte : ℕ) (rest : List ℕ) → Behind n Second rest → Behind (suc n) First (set switch place byte ++ rest)
switch_changed n zero byte rest behind configs =
    whole_first n First configs (byte ∷ number 0 ++ rest) (record { kind = byte; body = []; rest = rest })
    (ap (λ (r : Item ℕ). with_body byte (if_read r)) (a_number.again 0 rest (omega arith)) ∙ body_back byte [] rest)
    (λ said is. subst (λ (s : Said). Behind n (form_after First s) rest) (nothing_said byte said is) behind)
switch_changed n (suc q) byte rest behind configs =
    any_switch_length n configs (set four_zeros q byte) rest (length-set four_zeros q byte) behind

-- ## Entries that are read in the other form

abbrev other : Form → Form
other First = Second
other Second = First

flag_long : (b : Bool) → length (flag b) ≡ 1
flag_long true = refl
flag_long false = refl

end_long : (c : Config) → 1 ≤ length (end c)
end_long c =
    let more = counted_items trigger_bytes c.triggers in
    let one = flag_long c.delayed in
    let long = length-append (flag c.delayed) more in
    omega (arith, one, long)

abbrev and_end : Item Config → Item Config
and_end read = read >>= λ config. take_end config.1 >>= λ last. Ok (with_end config.0 last.0, last.1)

first_as_second : (c : Config) → IsConfig_1 c → take_config (encoding_1 c) ≡ Err 0
unfolding take_config take_end take_flag
first_as_second c fits =
    ap and_end (ap take_config_1 (sym (append-nil (encoding_1 c))) ∙ config_again_1 c [] fits)

second_as_first : (c : Config) → IsConfig c → take_config_1 (encoding c) ≡ Ok (held c, end c)
second_as_first c fits = config_again_1 c (end c) (fits_1 c fits)

not_whole : (form : Form) (c : Config) → HasConfig form c → if_read (whole_in (other form) (config_in form c)) ≡ None
not_whole First c fits =
    ap if_read (whole_is Second (encoding_1 c)) ∙ ap (λ (r : Item Config). if_read (r >>= ended)) (first_as_second c fits)
not_whole Second c fits =
    let some : (length (end c) == 0) ≡ false = ne_eqb (length (end c)) 0
    (λ q. absurd (let long = end_long c in omega (arith, q, long))) in
    ap if_read (whole_is First (encoding c)) ∙ ap (λ (r : Item Config). if_read (r >>= ended)) (second_as_first c fits)
    ∙ ap (λ b. if_read (cond {A = Result Config ℕ} b (Ok (held c)) (Err (length (end c))))) some

-- the first change of all can't be a removal
not_said : (form : Form) (change : Change) → HasEntryIn form change → can_replay [] (held_in form change) ≡ true
    → change_in (other form) (entry_kind change) (body_in form change) ≡ None
not_said form (Created config) entry can = ap (λ (o : Option Config). option_map Created o) (not_whole form config entry.body)
not_said form (Changed config) entry can = ap (λ (o : Option Config). option_map Changed o) (not_whole form config entry.body)
not_said First (Removed name) entry can = absurd cc
not_said Second (Removed name) entry can = absurd cc

wrong_form : (n : ℕ) (form : Form) (changes : List Change) (rest : List ℕ) → AreReplayableIn form [] changes → Behind n (other form) rest
    → LeavesNone (entries_from (turns changes n) (other form) [] (flat_map (entry_in form) changes ++ rest))
unfolding turns
wrong_form n form [] rest can behind = behind []
wrong_form n form (change ∷ changes) rest can behind =
    let others = flat_map (entry_in form) changes ++ rest in
    subst (λ (xs : List ℕ). LeavesNone (entries_from (suc (turns changes n)) (other form) [] xs))
    (sym (append_assoc (entry_in form change) (flat_map (entry_in form) changes) rest))
    (change_first (turns changes n) (other form) [] (entry_in form change ++ others) change (body_in form change) others
    (front_back form change others can.0)
    (λ made is. absurd (let none = sym (not_said form change can.0 can.1) ∙ is in cc)))

-- form 2 doesn't end
switch_wrong : (n : ℕ) (rest : List ℕ) → Behind (suc n) Second (switch ++ rest)
switch_wrong n rest configs =
    whole_first n Second configs (switch ++ rest) (record { kind = 4; body = []; rest = rest }) (switch_front rest)
    (λ said is. absurd cc)

-- ## A journal that is changed

kept_all : (size : ℕ) (read : Result Entries ℕ) (replay : Replay) → LeavesNone read → replay_of size [] read ≡ Ok replay
    → replay.kept ≡ size
kept_all size (Ok e) replay none is =
    let left = none e refl in
    let kept : size - e.left ≡ replay.kept = cc in
    omega (arith, left, kept)
kept_all size (Err left) replay none is = absurd cc

abbrev IsHeaded : List ℕ → Form → Type 0
IsHeaded bytes form = starts_with eqb bytes (header_of form) ≡ true

all_kept : (bytes : List ℕ) (replay : Replay) → 8 ≤ length bytes
    → ((form : Form) → IsHeaded bytes form → LeavesNone (all_from form [] (drop 8 bytes))) → read_journal bytes ≡ Ok replay
    → replay.kept ≡ length bytes
all_kept bytes replay long none is =
    let size = length bytes in
    let last = cond (starts_with eqb bytes (header_of First)) (all_from First [] (drop 8 bytes)) (Err size) in
    let rest = cond (starts_with eqb bytes header) (all_from Second [] (drop 8 bytes)) last in
    let read : replay_of size [] rest ≡ Ok replay = sym
    (ap (λ b. replay_of size [] (cond b (Ok (none_more Second size)) rest)) (whole_header bytes long)) ∙ is in
    elim (starts_with eqb bytes header) as (λ b. starts_with eqb bytes header ≡ b
    → replay_of size [] (cond b (all_from Second [] (drop 8 bytes)) last) ≡ Ok replay → replay.kept ≡ size) [
      | true ↦ λ headed e. kept_all size (all_from Second [] (drop 8 bytes)) replay (none Second headed) e
      | false ↦ λ other. elim (starts_with eqb bytes (header_of First)) as (λ b. starts_with eqb bytes (header_of First) ≡ b
          → replay_of size [] (cond b (all_from First [] (drop 8 bytes)) (Err size)) ≡ Ok replay → replay.kept ≡ size) [
            | true ↦ λ headed e. kept_all size (all_from First [] (drop 8 bytes)) replay (none First headed) e
            | false ↦ λ headed e. absurd cc
          ] refl
    ] refl read

-- of a header only one form is one
same_form : (form f : Form) (xs : List ℕ) → IsHeaded (header_of form ++ xs) f → form ≡ f
same_form First First xs is = refl
same_form First Second xs is = absurd cc
same_form Second First xs is = absurd cc
same_form Second Second xs is = refl

either_form : (P : Form → Type 0) (form f : Form) → P form → P (other form) → P f
either_form P First First one two = one
either_form P First Second one two = two
either_form P Second First one two = two
either_form P Second Second one two = one

-- entries after a header, whatever byte of them is changed
record StayKept (form : Form) (es : List ℕ) : Type 0 where
  same : LeavesNone (all_from form [] es)
  wrong : LeavesNone (all_from (other form) [] es)
  changed : (place byte : ℕ) → LeavesNone (all_from form [] (set es place byte))

-- a byte of the header, or one after it
headed_kept : (form : Form) (es : List ℕ) → StayKept form es → IsNotCut (header_of form ++ es)
headed_kept form es stay place byte replay is =
    let head = header_of form in
    let eight = header_long form in
    let bytes = set (head ++ es) place byte in
    let size : length bytes ≡ length (head ++ es) = length-set (head ++ es) place byte in
    let both = length-append head es in
    all_kept bytes replay (omega (arith, size, both, eight))
    (λ f headed. ⊎_elim
    (λ (lt : place < 8).
    let within : place < length head = omega (arith, lt, eight) in
    let at : drop 8 bytes ≡ es = ap (drop 8) (set-append_left head es place byte within)
    ∙ drop_at (set head place byte) es 8 (length-set head place byte ∙ eight) in
    subst (λ (xs : List ℕ). LeavesNone (all_from f [] xs)) (sym at)
    (either_form (λ (g : Form). LeavesNone (all_from g [] es)) form f stay.same stay.wrong))
    (λ (le : 8 ≤ place).
    let xs = set es (place - 8) byte in
    let parts : bytes ≡ head ++ xs = set-append_right head es 8 place byte eight le in
    let at : drop 8 bytes ≡ xs = ap (drop 8) parts ∙ drop_at head xs 8 eight in
    let one : form ≡ f = same_form form f xs (subst (λ (ys : List ℕ). IsHeaded ys f) parts headed) in
    subst (λ (ys : List ℕ). LeavesNone (all_from f [] ys)) (sym at)
    (subst (λ (g : Form). LeavesNone (all_from g [] xs)) one (stay.changed (place - 8) byte)))
    (cases_lt place 8)) is ∙ size

-- so many turns are all
all_turns : (n : ℕ) (form : Form) (bytes : List ℕ) → n ≡ length bytes → LeavesNone (entries_from n form [] bytes)
    → LeavesNone (all_from form [] bytes)
all_turns n form bytes is none = subst (λ (k : ℕ). LeavesNone (entries_from k form [] bytes)) is none

-- with nothing after them
alone : (n : ℕ) (form : Form) (bytes : List ℕ) → n ≡ length bytes → LeavesNone (entries_from n form [] (bytes ++ []))
    → LeavesNone (all_from form [] bytes)
alone n form bytes is none = all_turns n form bytes is
    (subst (λ (xs : List ℕ). LeavesNone (entries_from n form [] xs)) (append-nil bytes) none)

pub not_cut : (form : Form) (changes : List Change) → AreReplayableIn form [] changes → IsNotCut (journal_in form changes)
not_cut form changes can =
    let es = flat_map (entry_in form) changes in
    let have = have_entries form [] changes can in
    let n = length es - length changes in
    let count : turns changes n ≡ length es = (let few = enough form changes in let are = turns_are changes n in omega (arith, few, are)) in
    headed_kept form es (record {
      same = alone (turns changes n) form es count (intact n form changes [] have (nothing n form) []);
      wrong = alone (turns changes n) (other form) es count (wrong_form n form changes [] can (nothing n (other form)));
      changed = λ place byte. alone (turns changes n) form (set es place byte) (count ∙ sym (length-set es place byte))
          (changed n form changes place byte [] have (nothing n form) []);
    })

-- ## A journal of form 1 that goes on in form 2, changed

news_changed : (m : ℕ) (changes : List Change) (place byte : ℕ) → HaveEntries Second changes
    → Behind (turns changes m) Second (set (flat_map entry_bytes changes) place byte)
news_changed m changes place byte have =
    subst (Behind (turns changes m) Second) (append-nil (set (flat_map entry_bytes changes) place byte))
    (changed m Second changes place byte [] have (nothing m Second))

news_intact : (m : ℕ) (changes : List Change) → HaveEntries Second changes → Behind (turns changes m) Second (flat_map entry_bytes changes)
news_intact m changes have =
    subst (Behind (turns changes m) Second) (append-nil (flat_map entry_bytes changes)) (intact m Second changes [] have (nothing m Second))

turn_changed : (m : ℕ) (changes : List Change) (place byte : ℕ) → HaveEntries Second changes
    → Behind (suc (turns changes m)) First (set (switch ++ flat_map entry_bytes changes) place byte)
turn_changed m changes place byte have =
    let news = flat_map entry_bytes changes in
    let k = turns changes m in
    ⊎_elim
    (λ (lt : place < 5). subst (Behind (suc k) First) (sym (set-append_left switch news place byte lt))
    (switch_changed k place byte news (news_intact m changes have)))
    (λ (le : 5 ≤ place). subst (Behind (suc k) First) (sym (set-append_right switch news 5 place byte refl le))
    (switch_intact k (set news (place - 5) byte) (news_changed m changes (place - 5) byte have)))
    (cases_lt place 5)

both_changed : (m : ℕ) (old changes : List Change) (place byte : ℕ) → HaveEntries First old → HaveEntries Second changes
    → Behind (turns old (suc (turns changes m))) First
    (set (flat_map (entry_in First) old ++ (switch ++ flat_map entry_bytes changes)) place byte)
both_changed m old changes place byte olds_have have =
    let olds = flat_map (entry_in First) old in
    let behind = switch ++ flat_map entry_bytes changes in
    let k = suc (turns changes m) in
    ⊎_elim
    (λ (lt : place < length olds). subst (Behind (turns old k) First) (sym (set-append_left olds behind place byte lt))
    (changed k First old place byte behind olds_have (switch_intact (turns changes m) (flat_map entry_bytes changes)
    (news_intact m changes have))))
    (λ (le : length olds ≤ place).
    subst (Behind (turns old k) First) (sym (set-append_right olds behind (length olds) place byte refl le))
    (intact k First old (set behind (place - length olds) byte) olds_have (turn_changed m changes (place - length olds) byte have)))
    (cases_lt place (length olds))

pub upgraded_not_cut : (old changes : List Change) → AreUpgraded old changes → IsNotCut (upgraded old changes)
upgraded_not_cut old changes can =
    let olds = flat_map (entry_in First) old in
    let news = flat_map entry_bytes changes in
    let es = olds ++ (switch ++ news) in
    let olds_have = have_entries First [] old can.0 in
    let have = have_entries Second (old_configs old) changes can.1 in
    let m = length es - (1 + length old + length changes) in
    let k = suc (turns changes m) in
    let count : turns old k ≡ length es =
    (let l1 = length-append olds (switch ++ news) in let f1 = enough First old in let f2 = enough Second changes in
    let t1 = turns_are old k in let t2 = turns_are changes m in
    omega (arith, l1, f1, f2, t1, t2)) in
    let parts : upgraded old changes ≡ header_of First ++ es =
    append_assoc (journal_in First old) switch news ∙ append_assoc (header_of First) olds (switch ++ news) in
    subst IsNotCut (sym parts)
    (headed_kept First es (record {
      same = all_turns (turns old k) First es count
          (intact k First old (switch ++ news) olds_have (switch_intact (turns changes m) news (news_intact m changes have)) []);
      wrong = all_turns (turns old k) Second es count
          (wrong_form k First old (switch ++ news) can.0 (switch_wrong (turns changes m) news));
      changed = λ place byte. all_turns (turns old k) First (set es place byte) (count ∙ sym (length-set es place byte))
          (both_changed m old changes place byte olds_have have []);
    }))
