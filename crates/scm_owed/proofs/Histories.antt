-- What is to be known of histories, and that they stay legal.
use Rattle.std.proofs.Common.{ℕ, ◌≡◌, ◌∙◌, ◌+◌, ◌≤◌, ◌⊎◌, IsTrue, List, [], ◌∷◌, ◌++◌, length, length-append, inl, inr, refl, ap, sym}
use Rattle.std.proofs.Common.{subst, arith}
use Rattle.scm_model.specs.declared.flat.Flat.{Flat}
use Rattle.scm_model.specs.declared.flat.Limits.{Limits}
use Rattle.scm_rules.specs.Runs.{IsLegal}
use Rattle.scm_model.specs.Entries.{Entry, text_in}
use Rattle.scm_rules.specs.Steps.{may, step_of}
use Rattle.scm_model.specs.Texts.{text_of}
use Rattle.scm_runs.proofs.Along.{at_end}
use Rattle.scm_owed.specs.Legal.{LawOfLegal, StaysLegal}
use Rattle.scm_rules.specs.Histories.{FitsOwed, Legal, state}
use Rattle.scm_rules.specs.Owed.{owed}
use Rattle.scm_owed.specs.Paying.{FoundRoom}
use Rattle.scm_owed.proofs.Whole.{fits_more, room_kept}
use Rattle.scm_runs.proofs.Histories.{state_none, state_more, made_front, made_more, legal_made, may_behind}
use Rattle.std.proofs.lemmas.List.{append_assoc, append-nil}
use Rattle.scm_runs.proofs.Clear.{Clear, clear_keeps}

-- ## States and answers

-- ## Fronts

-- a history that begins with another
record Begins (front es : List Entry) : Type 0 where
  rest : List Entry
  is : es ≡ front ++ rest

-- a front of a history with an entry more is the whole, or a front of the history
front_of : (es front rest : List Entry) (e : Entry) → es ++ e ∷ [] ≡ front ++ rest → (front ≡ es ++ e ∷ []) ⊎ Begins front es
front_of es [] rest e is = inr (record { rest = es; is = refl })
front_of [] (x ∷ []) rest e is = inl cc
front_of [] (x ∷ y ∷ front) rest e is = absurd cc
front_of (a ∷ es) (x ∷ front) rest e is =
    elim (front_of es front rest e cc) as (λ s. (x ∷ front ≡ a ∷ (es ++ e ∷ [])) ⊎ Begins (x ∷ front) (a ∷ es)) [
      | inl whole ↦ inl cc
      | inr begins ↦ let more = begins.is in inr (record { rest = begins.rest; is = cc })
    ]

-- a front of the empty history is empty
none_front : (front rest : List Entry) → [] ≡ front ++ rest → front ≡ []
none_front [] rest is = refl
none_front (x ∷ front) rest is = absurd cc

-- ## Legal histories

pub legal_fits : (l : Limits) (f : Flat) (es : List Entry) → Legal l f es → FitsOwed l f es
unfolding Legal
legal_fits l f es legal = legal.fits es [] (sym (append-nil es))

pub legal_front : (l : Limits) (f : Flat) (front rest : List Entry) → Legal l f (front ++ rest) → Legal l f front
unfolding Legal
legal_front l f front rest legal = record {
  made = made_front l f front rest legal.made;
  fits = λ before later is. legal.fits before (later ++ rest) (ap (λ es. es ++ rest) is ∙ append_assoc before later rest);
}

none_fits : (l : Limits) (f : Flat) → owed f ≤ l.steps → FitsOwed l f []
none_fits l f room = let same = ap owed (state_none l f) in omega (arith, room, same)

pub legal_none : (l : Limits) (f : Flat) → owed f ≤ l.steps → Legal l f []
unfolding Legal
legal_none l f room = record {
  made = tt;
  fits = λ front rest is. subst (FitsOwed l f) (sym (none_front front rest is))
      (none_fits l f room);
}

none_room : (l : Limits) (f : Flat) → Legal l f [] → owed f ≤ l.steps
none_room l f legal = let fits = legal_fits l f [] legal in let same = ap owed (state_none l f) in omega (arith, fits, same)

pub legal_last : (l : Limits) (f : Flat) (es : List Entry) (e : Entry) → Legal l f (es ++ e ∷ []) → IsTrue (may l (state l f es) e.0 e.1)
unfolding state
legal_last l f es e legal = may_behind l f es e [] (legal_made l f (es ++ e ∷ []) legal)

made_so : (l : Limits) (f : Flat) (es : List Entry) (e : Entry) → IsLegal l f es → IsTrue (may l (state l f es) e.0 e.1)
    → IsLegal l f (es ++ e ∷ [])
unfolding state
made_so l f es e legal ok = made_more l f es e legal ok

pub legal_more : (l : Limits) (f : Flat) (es : List Entry) (e : Entry) → Legal l f es → IsTrue (may l (state l f es) e.0 e.1)
    → FitsOwed l f (es ++ e ∷ []) → Legal l f (es ++ e ∷ [])
unfolding Legal
legal_more l f es e legal ok fits = record {
  made = made_so l f es e legal.made ok;
  fits = λ front rest is. elim (front_of es front rest e is) as (λ s. FitsOwed l f front) [
    | inl whole ↦ subst (FitsOwed l f) (sym whole) fits
    | inr begins ↦ legal.fits front begins.rest begins.is
  ];
}

pub law_of_legal : (l : Limits) (f : Flat) → LawOfLegal l f
law_of_legal l f = record {
  none = (none_room l f, legal_none l f);
  more = λ es e. (
    λ legal. (legal_front l f es (e ∷ []) legal, record { may = legal_last l f es e legal; fits = legal_fits l f (es ++ e ∷ []) legal }),
    λ both. legal_more l f es e both.0 both.1.may both.1.fits,
  );
  front = legal_front l f;
  made = legal_made l f;
  fits = legal_fits l f;
}

-- ## Room

clear_at : (l : Limits) (f : Flat) (es : List Entry) → Clear l f → Legal l f es → Clear l (state l f es)
unfolding state
clear_at l f es c legal = at_end (Clear l) l (clear_keeps l) f es c (legal_made l f es legal)

pub stays_legal : (l : Limits) (f : Flat) (es : List Entry) → Clear l f → Legal l f es → StaysLegal l f es
stays_legal l f es c legal e ok room =
    let before = state l f es in
    let now = fits_more l before (length es) (text_in es) e (clear_at l f es c legal) ok (legal_fits l f es legal) room in
    let same = ap owed (state_more l f es e) in
    let longer = length-append es (e ∷ []) in
    legal_more l f es e legal ok (omega (arith, now, same, longer))

room_front : (l : Limits) (f : Flat) (steps text : ℕ) (front rest : List Entry) → FoundRoom l f steps text (front ++ rest)
    → FoundRoom l f steps text front
room_front l f steps text [] rest room = tt
room_front l f steps text (e ∷ front) rest room = (
  room.0,
  room_front l (step_of l f e.0 e.1).flat (steps + 1) (text
      + text_of e.1) front rest room.1,
)

found_fits : (l : Limits) (f : Flat) (front : List Entry) → Clear l f → owed f ≤ l.steps → IsLegal l f front → FoundRoom l f 0 0 front
    → FitsOwed l f front
unfolding state
found_fits l f front c fits legal room = let kept = room_kept l f 0 0 front c (omega (arith, fits)) legal room in omega (arith, kept)

pub found_legal : (l : Limits) (f : Flat) (es : List Entry) → Clear l f → owed f ≤ l.steps → IsLegal l f es → FoundRoom l f 0 0 es
    → Legal l f es
unfolding Legal
found_legal l f es c fits legal room = record {
  made = legal;
  fits = λ front rest is. found_fits l f front c fits (made_front l f front rest (subst (IsLegal l f) is legal))
      (room_front l f 0 0 front rest (subst (FoundRoom l f 0 0) is room));
}
