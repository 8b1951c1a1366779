-- What was written on the way.
use Rattle.std.proofs.Common.{◌≡◌, ℕ, List, [], ◌∷◌, ◌++◌, length, take, drop, Option, refl, sym, ap, ◌∙◌, arith, append_assoc, append-nil}
use Rattle.std.proofs.Common.{subst}
use Rattle.std.proofs.KnownBytes.{Appends-kept, Appends-nil, Appends-trans}
use Rattle.std.proofs.lemmas.List.{take-append-drop}
use Rattle.std.specs.Io.KnownBytes.{Appends, Keeps}
use Rattle.outside.specs.Written.{AppendsFront}

-- on the way through some bytes a front was written, and this is left
pub record Sent (old new : Option (List ℕ)) (whole rest : List ℕ) : Type 0 where
  pub front : List ℕ
  pub split : whole ≡ front ++ rest
  pub held : Appends old new front

pub sent_none : (old : Option (List ℕ)) (whole : List ℕ) → Sent old old whole whole
sent_none old whole = record { front = []; split = refl; held = Appends-nil old }

pub sent_more : (old mid new : Option (List ℕ)) (whole rest part left : List ℕ) → Sent old mid whole rest → rest ≡ part ++ left
    → Appends mid new part → Sent old new whole left
sent_more old mid new whole rest part left s is h = record {
  front = s.front ++ part;
  split = s.split ∙ ap (λ r. s.front ++ r) is ∙ sym (append_assoc s.front part left);
  held = Appends-trans old mid new s.front part s.held h;
}

pub sent_part : (old mid new : Option (List ℕ)) (whole rest left : List ℕ) (n : ℕ) → Sent old mid whole rest → left ≡ drop n rest
    → Appends mid new (take n rest) → Sent old new whole left
sent_part old mid new whole rest left n s is h =
    sent_more old mid new whole rest (take n rest) left s (sym (take-append-drop n rest) ∙ ap (λ r. take n rest ++ r) (sym is)) h

pub sent_kept : (old mid new : Option (List ℕ)) (whole rest : List ℕ) → Sent old mid whole rest → Keeps mid new → AppendsFront old new whole
sent_kept old mid new whole rest s k = record {
  front = s.front;
  begins = (rest, s.split);
  held = Appends-kept old mid new s.front s.held k;
}

pub sent_all : (old new : Option (List ℕ)) (whole rest : List ℕ) → Sent old new whole rest → length rest ≡ 0 → Appends old new whole
sent_all old new whole [] s e = subst (Appends old new) (sym (s.split ∙ append-nil s.front)) s.held
sent_all old new whole (b ∷ rest) s e = absurd (omega (arith, e))

pub sent_failed : (old mid new : Option (List ℕ)) (whole rest part left : List ℕ) → Sent old mid whole rest → rest ≡ part ++ left
    → AppendsFront mid new part → AppendsFront old new whole
sent_failed old mid new whole rest part left s is a =
    let later = sent_more old mid new whole rest a.front (a.begins.0 ++ left) s (is ∙ ap (λ p. p ++ left) a.begins.1
    ∙ append_assoc a.front a.begins.0 left) a.held in
    record { front = later.front; begins = (a.begins.0 ++ left, later.split); held = later.held }
