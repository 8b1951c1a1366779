-- Steps that may come behind each history that goes on from what a pass has seen, and the shapes of what they are told.
use Rattle.std.proofs.Common.{◌≡◌, ◌≢◌, ℕ, inl, inr, true, IsTrue, List, [], ◌∷◌, ◌++◌, length, Some, refl, sym, ap, ◌∙◌, subst, arith}
use Rattle.scm_model.specs.declared.calls.Request.{Request}
use Rattle.scm_model.specs.declared.flat.Flat.{Flat}
use Rattle.scm_model.specs.declared.steps.Answer.{Answer}
use Rattle.scm_model.specs.declared.steps.Kept.{Kept}
use Rattle.scm_model.specs.declared.steps.Kept.TheVariants as appended
use Rattle.scm_model.specs.declared.steps.Name.{Name}
use Rattle.scm_model.specs.declared.steps.Name.TheVariants as names
use Rattle.scm_model.specs.declared.steps.Step.{Step}
use Rattle.scm_model.specs.declared.steps.Step.TheVariants.{Call, Gone, NoMemory, Raised}
use Rattle.scm_model.specs.Entries.{Entry}
use Rattle.scm_model.specs.Ranges.{in_range}
use Rattle.scm_model.specs.Rows.{is_caller}
use Rattle.scm_rules.specs.Histories.{Legal, answer, state}
use Rattle.scm_rules.specs.Runs.{IsLegal, run_state}
use Rattle.scm_runs.proofs.Along.{along, at_end}
use Rattle.scm_runs.proofs.Calls.{keeps}
use Rattle.scm_runs.proofs.Histories.{at_entry, legal_made, made_front, state_is}
use Rattle.scm_runs.proofs.Sound.{Sound, begun}
use Rattle.scm_history.specs.Shapes.{HasShape, LawOfShapes}
use Rattle.scm_history.proofs.Shapes.{gives}
use Rattle.book_rule.specs.declared.view.Opening.{Opening}
use Rattle.book_rule.specs.Ways.{Has}
use Rattle.scm_book.specs.Called.{called, raised_by}
use Rattle.scm_book.specs.Holds.{Opens}
use Rattle.scm_book.specs.Passes.{Known, Made}
use Rattle.scm_book.specs.Turns.{AlwaysMay}
use Rattle.scm_book.proofs.Room.{and_both}

-- ## What is told

pub shape_of : (o : Opening) → Opens o → (before seen : List Entry) (moment : ℕ) (step : Step) (told : Answer) → seen ≡ before
    ++ (moment, step) ∷ [] → Legal o.limits o.first seen
    → answer o.limits o.first seen (length before) ≡ Some told → HasShape (state o.limits o.first before) step told
shape_of o opens before seen moment step told is legal said =
    at_entry LawOfShapes o.limits o.first seen (along Sound LawOfShapes o.limits (keeps o.limits) (gives o.limits) o.first seen
    (begun o.limits o.first opens.begins) (legal_made o.limits o.first seen legal))
    before (moment, step) [] told is said

pub shaped : (o : Opening) → Opens o → (k k' : Known) (moment : ℕ) (step : Step) (told : Answer) (made : Made o k moment step told k')
    → HasShape (state o.limits o.first made.before) step told
shaped o opens k k' moment step told made = shape_of o opens made.before k'.seen moment step told made.seen made.legal made.answer

-- a caller's number is never 0
pub first_caller : (o : Opening) → Opens o → (before : List Entry) (e : Entry) → Legal o.limits o.first (before ++ e ∷ [])
    → (state o.limits o.first before).next.caller ≢ 0
first_caller o opens before e legal =
    let front : IsLegal o.limits o.first before = made_front o.limits o.first before (e ∷ [])
    (legal_made o.limits o.first (before ++ e ∷ []) legal) in
    let sound : Sound (run_state o.limits o.first before) = at_end Sound o.limits (keeps o.limits) o.first before
    (begun o.limits o.first opens.begins) front in
    subst (λ (f : Flat). f.next.caller ≢ 0) (sym (state_is o.limits o.first before))
    (λ none. absurd (let first = sound.handles.first_caller in omega arith))

-- ## A caller's own steps

pub one_is : (c : ℕ) (own : List Name) (n : Name) → Has (names.Caller c) own → Has n (names.Caller c ∷ []) → Has n own
one_is c own n there (inl is) = subst (λ (m : Name). Has m own) (sym is) there
one_is c own n there (inr bad) = absurd bad

pub always_call : (o : Opening) (k : Known) (moment caller : ℕ) (asked : Request) (append : Kept) → k.caller ≢ 0 → caller ≡ k.caller
    → in_range asked ≡ true → AlwaysMay o k moment (Call caller asked append)
always_call o k moment caller asked append some_one same ranged log longer runs claims = record {
  may = and_both (is_caller (state o.limits o.first log) caller) (in_range asked)
      (subst (λ (c : ℕ). IsTrue (is_caller (state o.limits o.first log) c)) (sym same) (claims.lives some_one)) ranged;
  own = λ n has. one_is caller k.names n (subst (λ (c : ℕ). Has (names.Caller c) k.names) (sym same) (claims.caller some_one)) has;
}

pub always_gone : (o : Opening) (k : Known) (moment caller : ℕ) → k.caller ≢ 0 → caller ≡ k.caller → AlwaysMay o k moment (Gone caller)
always_gone o k moment caller some_one same log longer runs claims = record {
  may = subst (λ (c : ℕ). IsTrue (is_caller (state o.limits o.first log) c)) (sym same) (claims.lives some_one);
  own = λ n has. one_is caller k.names n (subst (λ (c : ℕ). Has (names.Caller c) k.names) (sym same) (claims.caller some_one)) has;
}

pub always_raise : (o : Opening) (k : Known) (moment caller : ℕ) (subtype : List ℕ) → k.caller ≢ 0 → caller ≡ k.caller
    → AlwaysMay o k moment (Raised caller subtype)
always_raise o k moment caller subtype some_one same log longer runs claims =
    let may = always_gone o k moment caller some_one same log longer runs claims in record { may = may.may; own = may.own }

pub always_none : (o : Opening) (k : Known) (moment caller : ℕ) → k.caller ≢ 0 → caller ≡ k.caller → AlwaysMay o k moment (NoMemory caller)
always_none o k moment caller some_one same log longer runs claims =
    let may = always_gone o k moment caller some_one same log longer runs claims in record { may = may.may; own = may.own }

-- ## As a book's call asks it

module _ (o : Opening) (k : Known) (moment : ℕ) (some : k.caller ≢ 0) where
  pub may_call : (asked : Request) (step : Step) → step ≡ called k asked → in_range asked ≡ true → AlwaysMay o k moment step
  may_call asked step is ranged = subst (AlwaysMay o k moment) (sym is)
      (always_call o k moment k.caller asked appended.NotAsked some refl ranged)

  pub may_raise : (subtype : List ℕ) (step : Step) → step ≡ raised_by k subtype → AlwaysMay o k moment step
  may_raise subtype step is = subst (AlwaysMay o k moment) (sym is) (always_raise o k moment k.caller subtype some refl)

-- of a pass as its token tells of it
pub may_lack : (o : Opening) (k from : Known) → from ≡ k → (moment caller : ℕ) → caller ≡ from.caller → k.caller ≢ 0
    → AlwaysMay o from moment (NoMemory caller)
may_lack o k from same moment caller whose some = always_none o from moment caller
    (λ none. some (ap (λ (x : Known). x.caller) (sym same) ∙ none)) whose
