-- What a journal is read as has the numbers and units of its types.
use Rattle.std.proofs.Common.{ℕ, zero, suc, ◌≡◌, ◌-◌, ◌==◌, Bool, true, false, cond, not, List, [], ◌∷◌, ◌++◌, Option, None}
use Rattle.std.proofs.Common.{Some, Ok, Err, take, drop, filter, length, map, nat_lt, refl, ap, arith, subst, eqb}
use Rattle.std.specs.Prelude.{Result, option_and_then, option_map}
use Rattle.std.specs.Int.{w32, from_le_bytes}
use Rattle.std.specs.List.{AllByRecursion, starts_with}
use Rattle.std.proofs.lemmas.List.Elements.{All-from_recursion, All-nil, All-push, recursion_from_All}
use Rattle.scm_text.specs.Fold.{same_text}
use Rattle.scm_model.specs.declared.flat.Config.{Config}
use Rattle.scm_model.specs.declared.flat.Trigger.{Trigger}
use Rattle.scm_model.specs.declared.steps.Change.{Change}
use Rattle.scm_model.specs.declared.steps.Change.TheVariants.{Created, Changed, Removed}
use Rattle.scm_model.specs.declared.steps.Form.{Form}
use Rattle.scm_model.specs.declared.steps.Form.TheVariants.{First, Second}
use Rattle.service_record.specs.Reading.{placed}
use Rattle.service_record.specs.Spelling.{AreItems, IsConfig, IsConfig_1, IsTrigger, held}
use Rattle.service_record.proofs.Fields.{IsBytes, IsBytes-drop, IsBytes-take}
use Rattle.service_record.proofs.Records.{is_found, is_found_1}
use Rattle.record_journal.specs.Entries.{Entries, Whole, all_from, can_replay, change_in, entries, entries_from, first_of, followed}
use Rattle.record_journal.specs.Entries.{if_read, is_part_header, is_switch, is_unfinished, last_of, name_of, none_more, read_journal}
use Rattle.record_journal.specs.Entries.{replay_of, replayable, said_in, whole_entry, whole_in, with_body, with_change}
use Rattle.record_journal.specs.Format.{header, header_of}
use Rattle.record_journal.specs.declared.reading.Said.{Said}
use Rattle.record_journal.specs.declared.reading.Said.TheVariants.{Says, Turns}
use Rattle.record_journal.specs.declared.replaying.Replay.{Replay}
use Rattle.scm_kept.specs.Replayed.{after_change, replaced_by, replayed}

-- ## One configuration

-- form 1 holds no triggers
first_fits : (config : Config) → IsConfig_1 config → held config ≡ config → IsConfig config
first_fits config fits same =
    let none : [] ≡ config.triggers = ap (λ (c : Config). c.triggers) same in
    let last : AreItems IsTrigger config.triggers = subst (λ (list : List Trigger). AreItems IsTrigger list) none
    (omega arith, All-nil IsTrigger) in
    (fits.0, fits.1, fits.2, record { triggers = last })

config_fits : (form : Form) (bytes : List ℕ) (config : Config) → IsBytes bytes → whole_in form bytes ≡ Ok config → IsConfig config
config_fits First bytes config fits is =
    let found = is_found_1 bytes (Ok config) fits (ap (placed (length bytes)) is) in first_fits config found.0 found.1
config_fits Second bytes config fits is = (is_found bytes (Ok config) fits (ap (placed (length bytes)) is)).0

-- a change of such a configuration
abbrev HasFields : Change → Type 0
HasFields (Created config) = IsConfig config
HasFields (Changed config) = IsConfig config
HasFields (Removed name) = Unit {0}

abbrev SaysFields : Said → Type 0
SaysFields (Says change) = HasFields change
SaysFields Turns = Unit {0}

-- ## A change that is read

same_change : (a b : Change) → Some a ≡ Some b → a ≡ b
same_change a b e = cc

config_read : (make : Config → Change) → ((config : Config) → IsConfig config → HasFields (make config)) → (form : Form)
    → (bytes : List ℕ) (change : Change) (read : Result Config ℕ) → IsBytes bytes → whole_in form bytes ≡ read
    → option_map make (if_read read) ≡ Some change → HasFields change
config_read make of form bytes change (Ok config) fits is e = subst HasFields (same_change (make config) change e)
    (of config (config_fits form bytes config fits is))
config_read make of form bytes change (Err left) fits is e = absurd cc

name_read : (change : Change) (read : Result (List ℕ) ℕ) → option_map Removed (if_read read) ≡ Some change → HasFields change
name_read change (Ok name) e = subst HasFields (same_change (Removed name) change e) tt
name_read change (Err left) e = absurd cc

change_read : (form : Form) (kind : ℕ) (body : List ℕ) (change : Change) → IsBytes body → change_in form kind body ≡ Some change
    → HasFields change
change_read form kind body change fits =
    let other = cond (kind == 3) (option_map Removed (if_read (name_of body))) None in
    let second = cond (kind == 2) (option_map Changed (if_read (whole_in form body))) other in
    elim (kind == 1) as (λ b. cond b (option_map Created (if_read (whole_in form body))) second ≡ Some change → HasFields change) [
      | true ↦ λ e. config_read Created (λ config is. is) form body change (whole_in form body) fits refl e
      | false ↦ elim (kind == 2) as
          (λ b. cond b (option_map Changed (if_read (whole_in form body))) other ≡ Some change → HasFields change) [
            | true ↦ λ e. config_read Changed (λ config is. is) form body change (whole_in form body) fits refl e
            | false ↦ elim (kind == 3) as
                (λ b. cond b (option_map Removed (if_read (name_of body))) None ≡ Some change → HasFields change) [
                  | true ↦ λ e. name_read change (name_of body) e
                  | false ↦ λ e. absurd cc
                ]
          ]
    ]

same_said : (a b : Said) → Some a ≡ Some b → a ≡ b
same_said a b e = cc

says_read : (said : Said) (change : Option Change) → ((one : Change) → change ≡ Some one → HasFields one)
    → option_map Says change ≡ Some said → SaysFields said
says_read said None each e = absurd cc
says_read said (Some change) each e = subst SaysFields (same_said (Says change) said e) (each change refl)

said_read : (form : Form) (kind : ℕ) (body : List ℕ) (said : Said) → IsBytes body → said_in form kind body ≡ Some said → SaysFields said
said_read form kind body said fits =
    elim (is_switch form kind body) as (λ b. cond b (Some Turns) (option_map Says (change_in form kind body)) ≡ Some said
    → SaysFields said) [
      | true ↦ λ e. subst SaysFields (same_said Turns said e) tt
      | false ↦ λ e. says_read said (change_in form kind body) (λ change is. change_read form kind body change fits is) e
    ]

-- ## An entry that is read

record AreWholeBytes (whole : Whole) : Type 0 where
  body : IsBytes whole.body
  rest : IsBytes whole.rest

same_whole : (a b : Whole) → Some a ≡ Some b → a ≡ b
same_whole a b e = cc

body_bytes : (kind size : ℕ) (bytes : List ℕ) (whole : Whole) → IsBytes bytes → with_body kind (Some (size, bytes)) ≡ Some whole
    → AreWholeBytes whole
body_bytes kind size bytes whole fits =
    elim (nat_lt (length bytes) size) as (λ b. cond b None
    (Some (record { kind = kind; body = take size bytes; rest = drop size bytes })) ≡ Some whole → AreWholeBytes whole) [
      | true ↦ λ e. absurd cc
      | false ↦ λ e. subst AreWholeBytes (same_whole (record { kind = kind; body = take size bytes; rest = drop size bytes }) whole e)
          (record { body = IsBytes-take size bytes fits; rest = IsBytes-drop size bytes fits })
    ]

after_first : (byte : ℕ) (bytes : List ℕ) → IsBytes (byte ∷ bytes) → IsBytes bytes
after_first byte bytes fits i = fits (suc i)

entry_bytes_are : (bytes : List ℕ) (whole : Whole) → IsBytes bytes → whole_entry bytes ≡ Some whole → AreWholeBytes whole
entry_bytes_are [] whole fits e = absurd cc
entry_bytes_are (kind ∷ bytes) whole fits e =
    elim (nat_lt (length bytes) 4) as (λ b. with_body kind
    (if_read (cond b (Err (length bytes)) (Ok (from_le_bytes w32 (take 4 bytes), drop 4 bytes)))) ≡ Some whole → AreWholeBytes whole) [
      | true ↦ λ h. absurd cc
      | false ↦ λ h. body_bytes kind (from_le_bytes w32 (take 4 bytes)) (drop 4 bytes) whole
          (IsBytes-drop 4 bytes (after_first kind bytes fits)) h
    ] e

-- ## Entries

abbrev HaveFields : Result Entries ℕ → Type 0
HaveFields (Ok entries) = AllByRecursion HasFields entries.changes
HaveFields (Err left) = Unit {0}

one_more : (change : Change) (read : Result Entries ℕ) → HasFields change → HaveFields read → HaveFields (with_change change read)
one_more change (Ok entries) one each = (one, each)
one_more change (Err left) one each = tt

last_fits : (form : Form) (left : ℕ) (unfinished : Bool) → HaveFields (last_of form left unfinished)
last_fits form left true = tt
last_fits form left false = tt

abbrev Reads : ℕ → Type 0
Reads n = (form : Form) (configs : List Config) (bytes : List ℕ) → IsBytes bytes → HaveFields (entries_from n form configs bytes)

followed_fits : (n : ℕ) (form : Form) (configs : List Config) (left : ℕ) (rest : List ℕ) (said : Option Said) → Reads n → IsBytes rest
    → ((one : Said) → said ≡ Some one → SaysFields one)
    → HaveFields (followed (entries_from n) form configs left rest (option_and_then (replayable configs) said))
followed_fits n form configs left rest None later fits each = tt
followed_fits n form configs left rest (Some (Says change)) later fits each =
    elim (can_replay configs change) as
    (λ b. HaveFields (followed (entries_from n) form configs left rest (cond b (Some (Says change)) None))) [
      | true ↦ one_more change (entries_from n form (after_change configs change) rest) (each (Says change) refl)
          (later form (after_change configs change) rest fits)
      | false ↦ tt
    ]
followed_fits n form configs left rest (Some Turns) later fits each = later Second configs rest fits

first_read : (n : ℕ) (form : Form) (configs : List Config) (bytes : List ℕ) (whole : Option Whole) → Reads n
    → ((one : Whole) → whole ≡ Some one → AreWholeBytes one)
    → HaveFields (first_of (entries_from n) form configs bytes whole)
first_read n form configs bytes None later are = last_fits form (length bytes) (is_unfinished form bytes)
first_read n form configs bytes (Some whole) later are =
    let fits = are whole refl in
    followed_fits n form configs (length bytes) whole.rest (said_in form whole.kind whole.body) later fits.rest
    (λ said is. said_read form whole.kind whole.body said fits.body is)

reads : (n : ℕ) → Reads n
unfolding entries_from
reads zero form configs bytes fits = tt
reads (suc n) form configs bytes fits = first_read n form configs bytes (whole_entry bytes) (reads n)
    (λ whole is. entry_bytes_are bytes whole fits is)

all_read : (form : Form) (bytes : List ℕ) → IsBytes bytes → HaveFields (all_from form [] (drop 8 bytes))
all_read form bytes fits = reads (length (drop 8 bytes)) form [] (drop 8 bytes) (IsBytes-drop 8 bytes fits)

entries_fit : (bytes : List ℕ) → IsBytes bytes → HaveFields (entries bytes)
entries_fit bytes fits =
    let first = cond (starts_with eqb bytes (header_of First)) (all_from First [] (drop 8 bytes)) (Err (length bytes)) in
    elim (is_part_header bytes) as
    (λ b. HaveFields (cond b (Ok (none_more Second (length bytes)))
    (cond (starts_with eqb bytes header) (all_from Second [] (drop 8 bytes)) first))) [
      | true ↦ tt
      | false ↦ elim (starts_with eqb bytes header) as (λ b. HaveFields (cond b (all_from Second [] (drop 8 bytes)) first)) [
        | true ↦ all_read Second bytes fits
        | false ↦ elim (starts_with eqb bytes (header_of First)) as
            (λ b. HaveFields (cond b (all_from First [] (drop 8 bytes)) (Err (length bytes)))) [
              | true ↦ all_read First bytes fits
              | false ↦ tt
            ]
      ]
    ]

-- ## What they come to

abbrev pub AreConfigs : List Config → Type 0
AreConfigs configs = AllByRecursion IsConfig configs

replaced_fits : (config : Config) (configs : List Config) → IsConfig config → AreConfigs configs
    → AreConfigs (map (replaced_by config) configs)
replaced_fits config [] one each = tt
replaced_fits config (old ∷ configs) one each = (
  elim (same_text old.name config.name) as
      (λ t. IsConfig (cond t config old)) [ true ↦ one | false ↦ each.0 ],
  replaced_fits config configs one each.1,
)

removed_fits : (name : List ℕ) (configs : List Config) → AreConfigs configs
    → AreConfigs (filter (λ (old : Config). not (same_text old.name name)) configs)
removed_fits name [] each = tt
removed_fits name (old ∷ configs) each =
    let others = filter (λ (c : Config). not (same_text c.name name)) configs in
    let rest = removed_fits name configs each.1 in
    elim (same_text old.name name) as (λ t. AreConfigs (cond (not t) (old ∷ others) others)) [ true ↦ rest | false ↦ (each.0, rest) ]

after_fits : (configs : List Config) (change : Change) → AreConfigs configs → HasFields change → AreConfigs (after_change configs change)
after_fits configs (Created config) each one = recursion_from_All IsConfig (configs ++ config ∷ [])
    (All-push IsConfig configs config (All-from_recursion IsConfig configs each) one)
after_fits configs (Changed config) each one = replaced_fits config configs one each
after_fits configs (Removed name) each one = removed_fits name configs each

replayed_fits : (configs : List Config) (changes : List Change) → AreConfigs configs → AllByRecursion HasFields changes
    → AreConfigs (replayed configs changes)
replayed_fits configs [] each news = each
replayed_fits configs (change ∷ changes) each news = replayed_fits (after_change configs change) changes
    (after_fits configs change each news.0) news.1

same_replay : (a b : Replay) → ◌≡◌ {A = Result Replay ℕ} (Ok a) (Ok b) → a ≡ b
same_replay a b e = cc

replay_fits : (size : ℕ) (read : Result Entries ℕ) (replay : Replay) → HaveFields read → replay_of size [] read ≡ Ok replay
    → AreConfigs replay.configs
replay_fits size (Ok entries) replay each is =
    subst AreConfigs (ap (λ (r : Replay). r.configs)
    (same_replay (record { configs = replayed [] entries.changes; kept = size - entries.left; form = entries.form }) replay is))
    (replayed_fits [] entries.changes tt each)
replay_fits size (Err left) replay each is = absurd cc

pub journal_fits : (bytes : List ℕ) (replay : Replay) → IsBytes bytes → read_journal bytes ≡ Ok replay → AreConfigs replay.configs
journal_fits bytes replay fits is = replay_fits (length bytes) (entries bytes) replay (entries_fit bytes fits) is
