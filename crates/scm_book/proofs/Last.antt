-- What the laws say of the last entry of a history.
use Rattle.std.proofs.Common.{◌≡◌, ◌+◌, ◌≤◌, ◌⊎◌, true, IsTrue, List, [], ◌∷◌, ◌++◌, length, Some, refl}
use Rattle.scm_model.specs.declared.flat.Flat.{Flat}
use Rattle.scm_model.specs.declared.flat.Limits.{Limits}
use Rattle.scm_model.specs.Entries.{Entry, text_in}
use Rattle.scm_rules.specs.Histories.{Legal, answer, state}
use Rattle.scm_rules.specs.Opening.{IsOpening}
use Rattle.scm_rules.specs.Owed.{owed}
use Rattle.scm_rules.specs.Room.{debt, has_room, is_owed}
use Rattle.scm_rules.specs.Steps.{may, step_of}
use Rattle.scm_runs.specs.Histories.{EachEntry}
use Rattle.scm_runs.proofs.Along.{along}
use Rattle.scm_runs.proofs.Calls.{keeps}
use Rattle.scm_runs.proofs.Clear.{Clear, clear_begun, clear_keeps}
use Rattle.scm_runs.proofs.Histories.{at_entry, legal_made, told}
use Rattle.scm_runs.proofs.Sound.{Sound, begun}
use Rattle.scm_owed.specs.Paying.{LawOfOwed}
use Rattle.scm_owed.proofs.Histories.{legal_fits, stays_legal}
use Rattle.scm_owed.proofs.Whole.{gives as pays}
use Rattle.scm_history.specs.Anew.{MakesAnew}
use Rattle.scm_history.specs.Callers.{CallersStay}
use Rattle.scm_history.specs.Made.{StandsBehind}
use Rattle.scm_history.proofs.Anew.{makes_anew}
use Rattle.scm_history.proofs.Callers.{gives as stay}
use Rattle.scm_history.proofs.Made.{opened_empty, opened_planless, stands_behind}

module _ (l : Limits) (f : Flat) (begins : IsOpening l f) where
  pub stays : (log : List Entry) (e : Entry) → Legal l f log → IsTrue (may l (state l f log) e.0 e.1)
      → (is_owed e.1 ≡ true) ⊎ IsTrue (has_room l (state l f log) (length log) (text_in log) e.1) → Legal l f (log ++ e ∷ [])
  stays log e legal ok free = stays_legal l f log (clear_begun l f begins) legal e ok free

  pub within : (log : List Entry) → Legal l f log → length log + owed (state l f log) ≤ l.steps
  within log legal = legal_fits l f log legal

  module _ (log : List Entry) (e : Entry) (legal : Legal l f (log ++ e ∷ [])) where
    one_told : answer l f (log ++ e ∷ []) (length log) ≡ Some (step_of l (state l f log) e.0 e.1).answer
    one_told = told l f log e []

    pub leaves_owed : owed (state l f (log ++ e ∷ [])) + 1 ≤ owed (state l f log) + debt (state l f log) e.1
    leaves_owed =
        let each : EachEntry LawOfOwed l f (log ++ e ∷ []) = at_entry LawOfOwed l f (log ++ e ∷ [])
        (along (Clear l) LawOfOwed l (clear_keeps l) (pays l) f (log ++ e ∷ []) (clear_begun l f begins)
        (legal_made l f (log ++ e ∷ []) legal)) in
        (each log e [] (step_of l (state l f log) e.0 e.1).answer refl one_told).pays

    pub callers_stay : CallersStay (state l f log) e (step_of l (state l f log) e.0 e.1).answer (state l f (log ++ e ∷ []))
    callers_stay =
        let each : EachEntry CallersStay l f (log ++ e ∷ []) = at_entry CallersStay l f (log ++ e ∷ [])
        (along Sound CallersStay l (keeps l) (stay l) f (log ++ e ∷ []) (begun l f begins) (legal_made l f (log ++ e ∷ []) legal)) in
        each log e [] (step_of l (state l f log) e.0 e.1).answer refl one_told

    pub anew : MakesAnew l f log e
    anew = makes_anew l f (log ++ e ∷ []) (begun l f begins) (legal_made l f (log ++ e ∷ []) legal) log e [] refl

  pub behind : (log front : List Entry) (e : Entry) (rest : List Entry) → log ≡ front ++ e ∷ rest → Legal l f log → StandsBehind l f front e
  behind log front e rest is legal = stands_behind l f log (begun l f begins) (opened_empty l f begins) (opened_planless l f begins)
      (legal_made l f log legal) front e rest is
