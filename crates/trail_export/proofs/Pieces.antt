-- What a sink holds, and then what is gathered beside it.
use Rattle.std.proofs.Common.{◌≡◌, ℕ, ◌+◌, ◌≤◌, List, [], ◌∷◌, ◌++◌, length, take, drop, get_or, refl, sym, ap, ◌∙◌, subst, arith}
use Rattle.std.proofs.Common.{append_assoc, append-nil, drop-drop, length-append, take-append-drop}
use Rattle.std.specs.Prelude.{Option, Some, None, Result, Ok, Err}
use Rattle.std.specs.Io.KnownBytes.{Appends, Keeps, append_known}
use Rattle.std.proofs.KnownBytes.{Appends-kept, Appends-nil, Appends-trans, Keeps-trans, append_known-moved}
use Rattle.outside.specs.Written.{AppendsFront, Writes}
use Rattle.trail_export.specs.Gathered.{Gathers, held_size}

-- ## What a sink holds grows

pub appended_longer : (old new : Option (List ℕ)) (bytes : List ℕ) → Appends old new bytes → held_size old ≤ held_size new
appended_longer None new bytes held = omega arith
appended_longer (Some xs) None bytes held = absurd held
appended_longer (Some xs) (Some ys) bytes held =
    let longer : length xs ≤ length ys = omega (arith, ap length held ∙ length-append xs bytes) in longer

pub written_longer : {T E : Type 0} (old new : Option (List ℕ)) (r : Result T E) (bytes : List ℕ) → Writes old new r bytes
    → held_size old ≤ held_size new
written_longer old new (Ok done) bytes w = appended_longer old new bytes w
written_longer old new (Err fault) bytes w = appended_longer old new w.front w.held

-- ## Passing on

pub passed_more : (old mid new : Option (List ℕ)) (bytes : List ℕ) (count more : ℕ)
    → Keeps (append_known old bytes) (append_known mid (drop count bytes)) → Appends mid new (take more (drop count bytes))
    → Keeps (append_known old bytes) (append_known new (drop (count + more) bytes))
passed_more old mid new bytes count more kept taken =
    let rest = drop count bytes in
    let cut : rest ≡ take more rest ++ drop (count + more) bytes =
    sym (take-append-drop more rest) ∙ ap (λ l. take more rest ++ l) (drop-drop more count bytes) in
    Keeps-trans (append_known old bytes) (append_known mid rest) (append_known new (drop (count + more) bytes)) kept
    (append_known-moved mid new (take more rest) (drop (count + more) bytes) rest taken cut)

pub passed_last : (old mid new : Option (List ℕ)) (bytes rest : List ℕ) → Keeps (append_known old bytes) (append_known mid rest)
    → Keeps mid new → Keeps (append_known old bytes) (append_known new rest)
passed_last None mid new bytes rest kept last = tt
passed_last (Some xs) None new bytes rest kept last = absurd kept
passed_last (Some xs) (Some ys) None bytes rest kept last = absurd last
passed_last (Some xs) (Some ys) (Some zs) bytes rest kept last = ap (λ l. l ++ rest) last ∙ kept

-- ## Putting

none_gathered : (held : Option (List ℕ)) (gathered : List ℕ) → gathered ≡ [] → append_known held gathered ≡ held
none_gathered None gathered none = refl
none_gathered (Some xs) gathered none = ap Some (ap (λ l. xs ++ l) none ∙ append-nil xs)

pub front_of_none : (old new : Option (List ℕ)) (bytes : List ℕ) → Keeps old new → AppendsFront old new bytes
front_of_none old new bytes kept = record {
  front = [];
  begins = (bytes, refl);
  held = Appends-kept old old new [] (Appends-nil old) kept;
}

-- after bytes that were passed on, others went straight to the sink
pub written_past : {T E : Type 0} (all old new : Option (List ℕ)) (r : Result T E) (gathered gathered_now bytes : List ℕ)
    → Keeps all (append_known old gathered) → gathered ≡ [] → gathered_now ≡ gathered → Writes old new r bytes
    → Writes all (append_known new gathered_now) r bytes
written_past all old new r gathered gathered_now bytes kept none same w =
    let start : Keeps all old = subst (Keeps all) (none_gathered old gathered none) kept in
    subst (λ now. Writes all now r bytes) (sym (none_gathered new gathered_now (same ∙ none))) (after_kept all old new r bytes start w)
  where
    after_kept : {T E : Type 0} (all old new : Option (List ℕ)) (r : Result T E) (bytes : List ℕ) → Keeps all old
        → Writes old new r bytes → Writes all new r bytes
    after_kept all old new (Ok done) bytes start w =
        Appends-trans all old new [] bytes (Appends-kept all all old [] (Appends-nil all) start) w
    after_kept all old new (Err fault) bytes start w = record {
      front = w.front;
      begins = w.begins;
      held = Appends-trans all old new [] w.front (Appends-kept all all old [] (Appends-nil all) start) w.held;
    }

-- ## At the end

-- what the sink holds itself is a front of both
split_front : (xs ys gathered front : List ℕ) → ys ++ gathered ≡ xs ++ front → length xs ≤ length ys
    → (part : List ℕ) × (ys ≡ xs ++ part) × (front ≡ part ++ gathered)
split_front [] ys gathered front is longer = (ys, refl, sym is)
split_front (x ∷ xs) [] gathered front is longer = absurd (omega (arith, longer))
split_front (x ∷ xs) (y ∷ ys) gathered front is longer =
    let rest = split_front xs ys gathered front (ap (λ l. drop 1 l) is) (omega (arith, longer)) in
    (rest.0, ap (λ l. get_or l 0 0 ∷ ys) is ∙ ap (λ l. x ∷ l) rest.1, rest.2)

pub front_passed : (old new : Option (List ℕ)) (none gathered bytes : List ℕ) → none ≡ []
    → AppendsFront (append_known old none) (append_known new gathered) bytes → held_size old ≤ held_size new
    → AppendsFront old new bytes
front_passed None new none gathered bytes is w longer = record { front = []; begins = (bytes, refl); held = tt }
front_passed (Some xs) None none gathered bytes is w longer = absurd w.held
front_passed (Some xs) (Some ys) none gathered bytes is w longer =
    let both : ys ++ gathered ≡ xs ++ w.front =
    w.held ∙ ap (λ l. l ++ w.front) (ap (λ l. xs ++ l) is ∙ append-nil xs) in
    let split = split_front xs ys gathered w.front both longer in
    record {
      front = split.0;
      begins = (
        gathered ++ w.begins.0,
        w.begins.1 ∙ ap (λ l. l ++ w.begins.0) split.2 ∙ append_assoc split.0 gathered w.begins.0,
      );
      held = split.1;
    }

-- all that was gathered was passed on
pub all_passed : {T E : Type 0} (old mid new : Option (List ℕ)) (r : Result T E) (none gathered gathered_now bytes : List ℕ)
    → none ≡ [] → Gathers old none mid gathered r bytes → Keeps (append_known mid gathered) (append_known new gathered_now)
    → gathered_now ≡ [] → Writes old new r bytes
all_passed old mid new (Ok done) none gathered gathered_now bytes is w kept passed =
    subst (λ start. Appends start new bytes) (none_gathered old none is)
    (subst (λ end. Appends (append_known old none) end bytes) (none_gathered new gathered_now passed)
    (Appends-kept (append_known old none) (append_known mid gathered) (append_known new gathered_now) bytes w kept))
all_passed old mid new (Err fault) none gathered gathered_now bytes is w kept passed = record {
  front = w.front;
  begins = w.begins;
  held = subst (λ start. Appends start new w.front) (none_gathered old none is)
      (subst (λ end. Appends (append_known old none) end w.front) (none_gathered new gathered_now passed)
      (Appends-kept (append_known old none) (append_known mid gathered) (append_known new gathered_now) w.front w.held kept));
}

-- a front of it was
pub some_passed : {T E : Type 0} (old mid new : Option (List ℕ)) (r : Result T E) (none gathered gathered_now bytes : List ℕ)
    → none ≡ [] → Gathers old none mid gathered r bytes → Keeps (append_known mid gathered) (append_known new gathered_now)
    → held_size old ≤ held_size mid → held_size mid ≤ held_size new → AppendsFront old new bytes
some_passed old mid new (Ok done) none gathered gathered_now bytes is w kept first last =
    front_passed old new none gathered_now bytes is (record {
      front = bytes;
      begins = ([], sym (append-nil bytes));
      held = Appends-kept (append_known old none) (append_known mid gathered) (append_known new gathered_now) bytes w kept;
    }) (omega (arith, first, last))
some_passed old mid new (Err fault) none gathered gathered_now bytes is w kept first last =
    front_passed old new none gathered_now bytes is (record {
      front = w.front;
      begins = w.begins;
      held = Appends-kept (append_known old none) (append_known mid gathered) (append_known new gathered_now) w.front w.held kept;
    }) (omega (arith, first, last))
