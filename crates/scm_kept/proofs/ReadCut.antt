-- What an append that was cut off leaves is read.
use Rattle.std.proofs.Common.{ℕ, zero, suc, ◌≡◌, ◌∙◌, ◌<◌, ◌≤◌, ◌-◌, ◌+◌, true, cond, List, [], ◌∷◌, ◌++◌, Ok, Err}
use Rattle.std.proofs.Common.{take, drop, length, length-append, append_assoc, refl, sym, ap, subst, arith, lt-ltb, eqb, ⊎_elim}
use Rattle.std.proofs.Common.{inl, inr}
use Rattle.std.specs.List.{starts_with}
use Rattle.std.proofs.Math.Seq.{take-append-add}
use Rattle.std.proofs.lemmas.Bool.{cases_lt}
use Rattle.std.proofs.lemmas.Bool.Decides.{Decides-eqb}
use Rattle.std.proofs.lemmas.List.{append-nil, drop_at, length-take-le, take-append-drop, take_at}
use Rattle.std.proofs.lemmas.Slice.Eq.{starts_is}
use Rattle.scm_model.specs.declared.flat.Config.{Config}
use Rattle.scm_model.specs.declared.steps.Change.{Change}
use Rattle.scm_model.specs.declared.steps.Form.{Form}
use Rattle.scm_model.specs.declared.steps.Form.TheVariants.{First, Second}
use Rattle.record_journal.specs.Bearing.{Stood, piece_after}
use Rattle.record_journal.specs.Entries.{IsPart, all_from, can_replay, entries_from, first_of, is_part_header, last_of, none_more}
use Rattle.record_journal.specs.Entries.{read_journal, replay_of}
use Rattle.record_journal.specs.Format.{HasEntry, entry_bytes, header, header_of, switch, turn_from}
use Rattle.record_journal.specs.Replay.{after_change}
use Rattle.record_journal.proofs.Back.{switch_back}
use Rattle.record_journal.proofs.Parts.{has_parts, switch_parts}
use Rattle.scm_kept.specs.Read.{IsJournalOf, IsReadCut, Rests, Stays}
use Rattle.scm_kept.proofs.ReadOn.{IsNew, IsStanding, header_stands, new_piece, one_more, standing_piece, standing_with, stands}

-- ## Behind a journal that stands

part_ends : (m : ℕ) (form : Form) (configs : List Config) (front : List ℕ) → IsPart form front
    → entries_from m form configs front ≡ Ok (none_more form (length front))
unfolding entries_from
part_ends zero form configs front part = refl
part_ends (suc m) form configs front part =
    ap (first_of (entries_from m) form configs front) part.less ∙ ap (last_of form (length front)) part.unfinished

standing_cut : (bytes : List ℕ) (form : Form) (configs : List Config) (front : List ℕ) → IsStanding bytes form configs → IsPart form front
    → Rests bytes configs (bytes ++ front)
standing_cut bytes form configs front s part = record {
  replay = record { configs = configs; kept = length (bytes ++ front) - length front; form = form };
  read = standing_with bytes form configs front [] (length front) form s (λ m enough. part_ends m form configs front part);
  kept = let long = length-append bytes front in omega (arith, long);
  same = refl;
}

-- ## Bytes behind others, parted

record IsBehind (head tail front more : List ℕ) : Type 0 where
  headed : front ≡ head ++ drop (length head) front
  rest : tail ≡ drop (length head) front ++ more

parted_behind : (head tail front more : List ℕ) → head ++ tail ≡ front ++ more → length head ≤ length front → IsBehind head tail front more
parted_behind head tail front more is long =
    let n = length head in
    let size = length-take-le n front long in
    let all : head ++ tail ≡ take n front ++ (drop n front ++ more) = is
    ∙ ap (λ (xs : List ℕ). xs ++ more) (sym (take-append-drop n front)) ∙ append_assoc (take n front) (drop n front) more in
    let same : head ≡ take n front = sym (take_at head tail n refl) ∙ ap (take n) all
    ∙ take_at (take n front) (drop n front ++ more) n size in
    record {
      headed = sym (take-append-drop n front) ∙ ap (λ (xs : List ℕ). xs ++ drop n front) (sym same);
      rest = sym (drop_at head tail n refl) ∙ ap (drop n) all ∙ drop_at (take n front) (drop n front ++ more) n size;
    }

parted_within : (head tail front more : List ℕ) → head ++ tail ≡ front ++ more → length front < length head
    → head ≡ front ++ take (length head - length front) more
parted_within head tail front more is less =
    let n = length head in
    let whole : n ≡ length front + (n - length front) = omega (arith, less) in
    sym (take_at head tail n refl)
    ∙ ap (take n) is
    ∙ ap (λ k. take k (front ++ more)) whole
    ∙ take-append-add front more (n - length front)

-- ## A new journal

-- a front of a header
header_cut : (front more : List ℕ) → header ≡ front ++ more → length front < 8
    → read_journal front ≡ Ok (record { configs = []; kept = 0; form = Second })
header_cut front more is less =
    let left = length front in
    let starts : starts_with eqb header front ≡ true = (starts_is Decides-eqb header front (starts_with eqb header front) refl).1 more is in
    let part : is_part_header front ≡ true = rw (starts, lt-ltb (length front) 8 less) refl in
    ap (λ b. replay_of left [] (cond b (Ok (none_more Second left)) (cond (starts_with eqb front header) (all_from Second [] (drop 8 front))
    (cond (starts_with eqb front (header_of First)) (all_from First [] (drop 8 front)) (Err left))))) part
    ∙ ap (λ n. Ok (record { configs = []; kept = n; form = Second })) (omega arith)

from_nothing : (bytes : List ℕ) (configs : List Config) (now : List ℕ) → Rests bytes configs now → Rests [] configs now
from_nothing bytes configs now rests = record { replay = rests.replay; read = rests.read; kept = omega arith; same = rests.same }

new_cut : (change : Change) (front more : List ℕ) → HasEntry change → header ++ entry_bytes change ≡ front ++ more → 1 ≤ length more
    → Rests [] [] front
new_cut change front more entry is some =
    ⊎_elim
    (λ (less : length front < 8). record {
      replay = record { configs = []; kept = 0; form = Second };
      read = header_cut front (take (8 - length front) more) (parted_within header (entry_bytes change) front more is less) less;
      kept = omega arith;
      same = refl;
    })
    (λ (long : 8 ≤ length front).
    let p = parted_behind header (entry_bytes change) front more is long in
    let rest = drop 8 front in
    subst (λ (xs : List ℕ). Rests [] [] xs) (sym p.headed)
    (from_nothing header [] (header ++ rest) (standing_cut header Second [] rest header_stands
    (has_parts Second change entry rest more p.rest some))))
    (cases_lt (length front) 8)

-- ## A journal that stands

-- form 1 has ended
turn_ends : (m : ℕ) (configs : List Config) (rest : List ℕ) → IsPart Second rest → length (switch ++ rest) ≤ m
    → entries_from m First configs (switch ++ rest) ≡ Ok (none_more Second (length rest))
turn_ends zero configs rest part enough = absurd (let long = length-append switch rest in omega (arith, enough, long))
turn_ends (suc m) configs rest part enough = switch_back m configs rest ∙ part_ends m Second configs rest part

turned_cut : (bytes : List ℕ) (configs : List Config) (rest : List ℕ) → IsStanding bytes First configs → IsPart Second rest
    → Rests bytes configs (bytes ++ (switch ++ rest))
turned_cut bytes configs rest s part = record {
  replay = record { configs = configs; kept = length (bytes ++ (switch ++ rest)) - length rest; form = Second };
  read = standing_with bytes First configs (switch ++ rest) [] (length rest) Second s (λ m enough. turn_ends m configs rest part enough);
  kept = let long = length-append bytes (switch ++ rest) in let both = length-append switch rest in omega (arith, long, both);
  same = refl;
}

-- less than all of what ends form 1
switch_cut : (front more : List ℕ) → switch ≡ front ++ more → length front < 5 → IsPart First front
switch_cut front more is less =
    let long = ap length is in
    let both = length-append front more in
    switch_parts front more is (omega (arith, long, both, less))

turn_cut : (form : Form) (bytes : List ℕ) (configs : List Config) (change : Change) (front more : List ℕ) → IsStanding bytes form configs
    → HasEntry change → turn_from form ++ entry_bytes change ≡ front ++ more → 1 ≤ length more → Rests bytes configs (bytes ++ front)
turn_cut Second bytes configs change front more s entry is some =
    standing_cut bytes Second configs front s (has_parts Second change entry front more is some)
turn_cut First bytes configs change front more s entry is some =
    ⊎_elim
    (λ (less : length front < 5).
    standing_cut bytes First configs front s
    (switch_cut front (take (5 - length front) more) (parted_within switch (entry_bytes change) front more is less) less))
    (λ (long : 5 ≤ length front).
    let p = parted_behind switch (entry_bytes change) front more is long in
    subst (λ (xs : List ℕ). Rests bytes configs (bytes ++ xs)) (sym p.headed)
    (turned_cut bytes configs (drop 5 front) s (has_parts Second change entry (drop 5 front) more p.rest some)))
    (cases_lt (length front) 5)

-- ## Any journal

cut_within : (s : Stood) (configs : List Config) (change : Change) (front more : List ℕ) → IsJournalOf s configs → HasEntry change
    → piece_after s change ≡ front ++ more → 1 ≤ length more → Rests s.bytes configs (s.bytes ++ front)
cut_within s configs change front more is entry parts some =
    ⊎_elim
    (λ (new : IsNew s.bytes configs).
    subst (λ (cs : List Config). Rests s.bytes cs (s.bytes ++ front)) (sym new.empty)
    (subst (λ (xs : List ℕ). Rests xs [] (xs ++ front)) (sym new.none)
    (new_cut change front more entry (sym (new_piece s change new.none) ∙ parts) some)))
    (λ (t : IsStanding s.bytes s.form configs).
    turn_cut s.form s.bytes configs change front more t entry (sym (standing_piece s configs change t) ∙ parts) some)
    (stands s configs is)

-- all of a piece
cut_behind : (s : Stood) (configs : List Config) (change : Change) (front : List ℕ) → IsJournalOf s configs → HasEntry change
    → can_replay configs change ≡ true
    → piece_after s change ≡ front → Stays s.bytes configs change (s.bytes ++ front)
cut_behind s configs change front is entry can whole = record {
  replay = record { configs = after_change configs change; kept = length (s.bytes ++ front); form = Second };
  read = subst (λ (xs : List ℕ). read_journal (s.bytes ++ xs)
      ≡ Ok (record { configs = after_change configs change; kept = length (s.bytes ++ xs); form = Second })) whole
      (one_more s configs change is entry can);
  kept = let long = length-append s.bytes front in omega (arith, long);
  either = inr refl;
}

it_stays : (bytes : List ℕ) (configs : List Config) (change : Change) (now : List ℕ) → Rests bytes configs now
    → Stays bytes configs change now
it_stays bytes configs change now rests = record { replay = rests.replay; read = rests.read; kept = rests.kept; either = inl rests.same }

cut_at : (s : Stood) (configs : List Config) (change : Change) (front more : List ℕ) → IsJournalOf s configs → HasEntry change
    → can_replay configs change ≡ true
    → piece_after s change ≡ front ++ more → Stays s.bytes configs change (s.bytes ++ front)
cut_at s configs change front [] is entry can parts = cut_behind s configs change front is entry can (parts ∙ append-nil front)
cut_at s configs change front (x ∷ more) is entry can parts =
    it_stays s.bytes configs change (s.bytes ++ front) (cut_within s configs change front (x ∷ more) is entry parts (omega arith))

pub read_cut : (s : Stood) (configs : List Config) (change : Change) (size : ℕ) → IsReadCut s configs change size
read_cut s configs change size is entry can =
    let all = piece_after s change in
    cut_at s configs change (take size all) (drop size all) is entry can (sym (take-append-drop size all))

-- ## What was kept

pub rests_all : (s : Stood) (configs : List Config) → IsJournalOf s configs → Rests s.bytes configs s.bytes
rests_all s configs is = record {
  replay = record { configs = configs; kept = length s.bytes; form = s.form };
  read = is;
  kept = omega arith;
  same = refl;
}
