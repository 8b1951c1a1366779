-- A compact text is read back.
use Rattle.std.proofs.Common.{ℕ, suc, ◌≡◌, ◌∙◌, ◌≤◌, ◌-◌, Bool, true, false, cond, List, [], ◌∷◌, ◌++◌, Option, None, Some, Ok, Err, map}
use Rattle.std.proofs.Common.{length, append_assoc, ap, sym, refl, subst, arith}
use Rattle.std.specs.Prelude.{All, Result, option_and_then, option_map}
use Rattle.std.specs.List.{flat_map}
use Rattle.std.proofs.lemmas.List.{append-nil}
use Rattle.std.proofs.lemmas.List.Elements.{All-head, All-tail}
use Rattle.std.proofs.lemmas.List.Folds.{flat_map-map}
use Rattle.scm_model.specs.declared.flat.Config.{Config}
use Rattle.scm_model.specs.declared.steps.Change.{Change}
use Rattle.scm_model.specs.declared.steps.Change.TheVariants.{Created}
use Rattle.scm_model.specs.declared.steps.Form.TheVariants.{Second}
use Rattle.record_journal.specs.Entries.{Entries, can_replay, entries, entries_from, first_of, followed, if_read, read_journal, replay_of}
use Rattle.record_journal.specs.Entries.{replayable, said_in, with_change}
use Rattle.record_journal.specs.Format.{HasEntry, body_in, entry_in, held_in}
use Rattle.record_journal.specs.Opening.{CanBegin}
use Rattle.record_journal.specs.ReadBack.{AreReplayableIn, journal_in}
use Rattle.record_journal.specs.Replay.{replayed}
use Rattle.record_journal.specs.declared.reading.Said.{Said}
use Rattle.record_journal.specs.declared.reading.Said.TheVariants.{Says}
use Rattle.record_journal.specs.declared.replaying.Replay.{Replay}
use Rattle.record_journal.proofs.Back.{enough, entry_back, front_back, headed, read_back, turns, turns_are}
use Rattle.record_journal.proofs.Begins.{begins_empty, begins_with}
use Rattle.record_journal.proofs.Parts.{config_back}
use Rattle.journal_compact.specs.Compact.{HasCreated, HaveEntries, compact_replay, compact_text, created_entry}
use Rattle.journal_compact.proofs.Creating.{begins_front, created_can}

abbrev created_all : List Config → List Change
created_all configs = map (λ (config : Config). Created config) configs

-- ## What can be created is read back

can_create_all : (front configs : List Config) → CanBegin (front ++ configs) → HaveEntries configs
    → AreReplayableIn Second front (created_all configs)
can_create_all front [] begins fits = tt
can_create_all front (config ∷ configs) begins fits =
    let next = subst CanBegin (sym (append_assoc front (config ∷ []) configs)) begins in
    let can = created_can front config (begins_front (front ++ config ∷ []) configs next) in
    let more = can_create_all (front ++ config ∷ []) configs next (All-tail HasCreated config configs fits) in
    (All-head HasCreated config configs fits, can, more)

come_to : (front configs : List Config) → replayed front (map (held_in Second) (created_all configs)) ≡ front ++ configs
come_to front [] = sym (append-nil front)
come_to front (config ∷ configs) = come_to (front ++ config ∷ []) configs ∙ append_assoc front (config ∷ []) configs

is_journal : (configs : List Config) → journal_in Second (created_all configs) ≡ compact_text configs
is_journal configs =
    ap (λ (es : List ℕ). journal_in Second [] ++ es) (flat_map-map (entry_in Second) (λ (config : Config). Created config) configs)

pub read_compact : (configs : List Config) → HaveEntries configs → CanBegin configs
    → read_journal (compact_text configs) ≡ Ok (compact_replay configs)
read_compact configs fits begins =
    let bytes = journal_in Second (created_all configs) in
    let read = read_back Second (created_all configs) (can_create_all [] configs begins fits) [] (record { less = refl; unfinished = refl })
    in
    subst (λ (all : List ℕ). read_journal all ≡ Ok (record { configs = configs; kept = length all; form = Second })) (is_journal configs)
    (ap read_journal (sym (append-nil bytes)) ∙ read
    ∙ ap (λ (cs : List Config). Ok (record { configs = cs; kept = length bytes; form = Second })) (come_to [] configs))

-- ## What is read back can be created

said_of : (config : Config) → HasEntry (Created config)
    → said_in Second 1 (body_in Second (Created config)) ≡ Some (Says (Created config))
said_of config entry =
    ap (λ (r : Result Config ℕ). option_map Says (option_map (λ (c : Config). Created c) (if_read r)))
    (config_back Second config entry.body)

-- an entry that creates what can't be created is damage
refused : (n : ℕ) (front : List Config) (config : Config) (rest : List ℕ) → HasEntry (Created config)
    → can_replay front (Created config) ≡ false
    → entries_from (suc n) Second front (created_entry config ++ rest) ≡ Err (length (created_entry config ++ rest))
unfolding entries_from
refused n front config rest entry cannot =
    let bytes = created_entry config ++ rest in
    ap (first_of (entries_from n) Second front bytes) (front_back Second (Created config) rest entry)
    ∙ ap (λ (o : Option Said). followed (entries_from n) Second front (length bytes) rest (option_and_then (replayable front) o))
    (said_of config entry)
    ∙ ap (λ (b : Bool). followed (entries_from n) Second front (length bytes) rest (cond b (Some (Says (Created config))) None)) cannot

after_change_read : (change : Change) (read : Result Entries ℕ) (all : Entries) → with_change change read ≡ Ok all
    → (later : Entries) × (read ≡ Ok later)
after_change_read change (Ok later) all is = (later, refl)
after_change_read change (Err left) all is = absurd cc

created_or_not : (n : ℕ) (front configs : List Config) (config : Config) (all : Entries) (can : Bool) → HasEntry (Created config)
    → can_replay front (Created config) ≡ can
    → entries_from (suc n) Second front (created_entry config ++ flat_map created_entry configs) ≡ Ok all
    → (can_replay front (Created config) ≡ true)
    × ((later : Entries) × (entries_from n Second (front ++ config ∷ []) (flat_map created_entry configs) ≡ Ok later))
created_or_not n front configs config all true entry can is =
    let rest = flat_map created_entry configs in (
      can,
      after_change_read (Created config) (entries_from n Second (front ++ config ∷ []) rest) all
          (sym (entry_back n Second front (Created config) rest entry can) ∙ is),
    )
created_or_not n front configs config all false entry can is =
    absurd (let no = refused n front config (flat_map created_entry configs) entry can in cc)

only_from : (n : ℕ) (front configs : List Config) (all : Entries) → CanBegin front → HaveEntries configs
    → entries_from (turns (created_all configs) n) Second front (flat_map created_entry configs) ≡ Ok all
    → CanBegin (front ++ configs)
unfolding turns
only_from n front [] all begins fits is = subst CanBegin (sym (append-nil front)) begins
only_from n front (config ∷ configs) all begins fits is =
    let step = created_or_not (turns (created_all configs) n) front configs config all (can_replay front (Created config))
    (All-head HasCreated config configs fits) refl is in
    let rest = only_from n (front ++ config ∷ []) configs step.1.0 (begins_with front (Created config) begins step.0)
    (All-tail HasCreated config configs fits) step.1.1 in
    subst CanBegin (append_assoc front (config ∷ []) configs) rest

read_entries : (size : ℕ) (read : Result Entries ℕ) (replay : Replay) → replay_of size [] read ≡ Ok replay
    → (all : Entries) × (read ≡ Ok all)
read_entries size (Ok all) replay is = (all, refl)
read_entries size (Err left) replay is = absurd cc

begins_read : (configs : List Config) (replay : Replay) → HaveEntries configs → read_journal (compact_text configs) ≡ Ok replay
    → CanBegin configs
begins_read configs replay fits is =
    let es = flat_map created_entry configs in
    let changes = created_all configs in
    let n = length es - length changes in
    let few : length changes ≤ length es =
    subst (λ (all : List ℕ). length changes ≤ length all) (flat_map-map (entry_in Second) (λ (config : Config). Created config) configs)
    (enough Second changes) in
    let count : turns changes n ≡ length es = (let are = turns_are changes n in omega (arith, are, few)) in
    let found = read_entries (length (compact_text configs)) (entries (compact_text configs)) replay is in
    only_from n [] configs found.0 begins_empty fits
    (ap (λ k. entries_from k Second [] es) count ∙ sym (headed Second es) ∙ found.1)

pub only_compact : (configs : List Config) (replay : Replay) → HaveEntries configs → read_journal (compact_text configs) ≡ Ok replay
    → CanBegin configs × (replay ≡ compact_replay configs)
only_compact configs replay fits is =
    let begins = begins_read configs replay fits is in
    (begins, let back = read_compact configs fits begins in cc)
