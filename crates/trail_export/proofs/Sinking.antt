-- Texts that are written in a row.
use Rattle.std.proofs.Common.{◌≡◌, ℕ, ◌+◌, ◌<◌, ◌≤◌, List, [], ◌∷◌, ◌++◌, length, drop, map, get_or, refl, sym, ap, ◌∙◌, subst, add-one}
use Rattle.std.proofs.Common.{suc, drop-cons, append_assoc, append-nil}
use Rattle.std.specs.Prelude.{Option, Result, Ok, Err, OnOk}
use Rattle.std.specs.Io.KnownBytes.{Appends}
use Rattle.std.proofs.KnownBytes.{Appends-nil, Appends-trans}
use Rattle.std.proofs.Math.ListN.{drop_of_length-le}
use Rattle.outside.specs.Written.{AppendsFront, Writes}
use Rattle.outside.proofs.Sending.{Sent, sent_more, sent_failed, sent_all}
use Rattle.trail_text.specs.Histories.{ended}

pub on_ok : {T E P : Type 0} (r : Result T E) → P → OnOk r P
on_ok (Ok x) p = p
on_ok (Err y) p = tt

pub on_ok_both : {T E P Q R : Type 0} (r : Result T E) → (P → Q → R) → OnOk r P → OnOk r Q → OnOk r R
on_ok_both (Ok x) both p q = both p q
on_ok_both (Err y) both p q = tt

-- nothing of a text was written
pub nothing_of : (held : Option (List ℕ)) (text : List ℕ) → AppendsFront held held text
nothing_of held text = record { front = []; begins = (text, refl); held = Appends-nil held }

-- a front of a text is one of a longer text
pub front_of : (old new : Option (List ℕ)) (xs ys : List ℕ) → AppendsFront old new xs → AppendsFront old new (xs ++ ys)
front_of old new xs ys a = record {
  front = a.front;
  begins = (a.begins.0 ++ ys, ap (λ text. text ++ ys) a.begins.1 ∙ append_assoc a.front a.begins.0 ys);
  held = a.held;
}

-- and so is the whole of it
pub whole_of : (old new : Option (List ℕ)) (xs ys : List ℕ) → Appends old new xs → AppendsFront old new (xs ++ ys)
whole_of old new xs ys held = record { front = xs; begins = (ys, refl); held = held }

-- one text was written, and then another one or a front of it
pub written_then : {T E : Type 0} (old mid new : Option (List ℕ)) (r : Result T E) (xs ys : List ℕ) → Appends old mid xs
    → Writes mid new r ys → Writes old new r (xs ++ ys)
written_then old mid new (Ok done) xs ys first last = Appends-trans old mid new xs ys first last
written_then old mid new (Err fault) xs ys first last = record {
  front = xs ++ last.front;
  begins = (last.begins.0, ap (λ text. xs ++ text) last.begins.1 ∙ sym (append_assoc xs last.front last.begins.0));
  held = Appends-trans old mid new xs last.front first last.held;
}

-- what was left of a text was written, or a front of it
pub sent_last : {T E : Type 0} (old mid new : Option (List ℕ)) (r : Result T E) (whole rest : List ℕ) → Sent old mid whole rest
    → Writes mid new r rest → Writes old new r whole
sent_last old mid new (Ok done) whole rest s last =
    subst (Appends old new) (sym s.split) (Appends-trans old mid new s.front rest s.held last)
sent_last old mid new (Err fault) whole rest s last = sent_failed old mid new whole rest rest [] s (sym (append-nil rest)) last

-- ## A line for each item

module _ {A : Type 0} (line : A → List ℕ) (xs : List A) (place : ℕ) (old mid new : Option (List ℕ)) where
  -- the line of the item at a place, and those after it
  line_and : (x : A) → x ≡ get_or xs place x → place < length xs
      → ended (map line (drop place xs)) ≡ (line x ++ 10 ∷ []) ++ ended (map line (drop (place + 1) xs))
  line_and x is within =
      let cut : drop place xs ≡ x ∷ drop (place + 1) xs =
      rw add-one (drop-cons xs place x within ∙ ap (λ y. y ∷ drop (suc place) xs) (sym is)) in
      ap (λ ys. ended (map line ys)) cut

  -- one more was written
  pub line_sent : (x : A) → x ≡ get_or xs place x → place < length xs
      → Sent old mid (ended (map line xs)) (ended (map line (drop place xs))) → Appends mid new (line x ++ 10 ∷ [])
      → Sent old new (ended (map line xs)) (ended (map line (drop (place + 1) xs)))
  line_sent x is within s held = sent_more old mid new (ended (map line xs)) (ended (map line (drop place xs))) (line x ++ 10 ∷ [])
      (ended (map line (drop (place + 1) xs))) s (line_and x is within) held

  -- or a front of it
  pub line_failed : (x : A) → x ≡ get_or xs place x → place < length xs
      → Sent old mid (ended (map line xs)) (ended (map line (drop place xs))) → AppendsFront mid new (line x ++ 10 ∷ [])
      → AppendsFront old new (ended (map line xs))
  line_failed x is within s held = sent_failed old mid new (ended (map line xs)) (ended (map line (drop place xs)))
      (line x ++ 10 ∷ []) (ended (map line (drop (place + 1) xs))) s (line_and x is within) held

-- all were
pub lines_sent : {A : Type 0} (line : A → List ℕ) (xs : List A) (place : ℕ) (old new : Option (List ℕ)) → length xs ≤ place
    → Sent old new (ended (map line xs)) (ended (map line (drop place xs))) → Appends old new (ended (map line xs))
lines_sent line xs place old new past s = sent_all old new (ended (map line xs)) (ended (map line (drop place xs))) s
    (ap (λ ys. length (ended (map line ys))) (drop_of_length-le xs past))
