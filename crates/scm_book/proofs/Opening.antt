-- A new book stands at the empty history.
use Rattle.std.proofs.Common.{◌≡◌, ℕ, List, [], Option, None, Some, inr, refl, sym, ap, ◌∙◌, subst, arith}
use Rattle.std.specs.Prelude.{IfSome, option_map}
use Rattle.scm_rules.specs.Opening.{IsOpening}
use Rattle.scm_core.specs.Managed.{AreSmall, Managed}
use Rattle.scm_runs.proofs.Histories.{state_none}
use Rattle.scm_owed.proofs.Histories.{legal_none}
use Rattle.scm_owed.proofs.Whole.{opened_owes}
use Rattle.scm_history.specs.Outcomes.{Outcome}
use Rattle.scm_history.proofs.Outcomes.{law_of_outcomes}
use Rattle.journal_lasting.specs.Lasting.{HasLasted, stood_after}
use Rattle.journal_lasting.proofs.Turning.{settled_stands}
use Rattle.scm_trail.specs.Trailed.{Trailed, no_entries}
use Rattle.scm_book.proofs.Recording.{coded_none, recorded_none}
use Rattle.record_journal.specs.Bearing.{Bears, StandsIn, Stood, stood_in}
use Rattle.record_journal.specs.Crashes.{AreCrashes, Crashes}
use Rattle.record_journal.specs.declared.journal.Journal.{Journal}
use Rattle.scm_book.specs.Ghosts.{Ghosts}
use Rattle.scm_book.specs.declared.held.Held.{Held}
use Rattle.scm_book.specs.Holds.{Holds, Runs, way_of}
use Rattle.scm_book.proofs.Leaving.{bears_first, lasts_first}

-- what is asked of the parts of a new book
pub record IsNew {K : Type 0} (ghosts : Ghosts K) (h : Held K) : Type 0 where
  pub begins : IsOpening h.manager.limits h.manager.flat
  pub small : AreSmall h.manager.limits
  pub steps : h.manager.steps ≡ 0
  pub text : h.manager.text ≡ 0
  pub journal : Bears (stood_in h.journal.form (ghosts.held h.keeper)) h.journal (ghosts.held h.keeper)
  pub settled : ghosts.settled h.keeper
  pub trail : h.trail ≡ no_entries
  pub at : h.recorder.at ≡ 0

-- a crash leaves what a settled keeper bears
pub stands_at : (good : Option Stood) (j : Journal) (held : Option (List ℕ)) (settled : Type 0) (c : Crashes) → AreCrashes held c settled
    → settled → Bears good j held → StandsIn good c
stands_at None j held settled c law so bears = tt
stands_at (Some s) j held settled c law so bears = settled_stands s j held settled c law so bears

module _ {K : Type 0} (ghosts : Ghosts K) (h : Held K)
    (new : IsNew ghosts h) where
  pub new_runs : Runs ((way_of ghosts).opening h) []
  new_runs = record {
    opens = record { begins = new.begins; small = new.small };
    legal = legal_none h.manager.limits h.manager.flat (let none = opened_owes h.manager.limits h.manager.flat new.begins in omega arith);
  }

  pub new_holds : Holds ghosts ((way_of ghosts).opening h) [] h
  new_holds = record {
    recorded = recorded_none h.trail h.recorder new.trail new.at;
    records = refl;
    coded = coded_none h.trail new.trail;
    limits = refl;
    steps = new.steps;
    text = new.text;
    manager = sym (state_none h.manager.limits h.manager.flat);
    journal = subst (λ (outs : List Outcome). Bears (option_map (λ s. stood_after s outs) (stood_in h.journal.form
        (ghosts.held h.keeper))) h.journal (ghosts.held h.keeper)) (sym (law_of_outcomes h.manager.limits h.manager.flat).none)
        (bears_first (stood_in h.journal.form (ghosts.held h.keeper)) h.journal (ghosts.held h.keeper) new.journal);
    lasts = subst (λ (outs : List Outcome). IfSome (stood_in h.journal.form (ghosts.held h.keeper))
        (λ s. HasLasted s (ghosts.crashes h.keeper).moment outs (ghosts.crashes h.keeper)))
        (sym (law_of_outcomes h.manager.limits h.manager.flat).none)
        (lasts_first (stood_in h.journal.form (ghosts.held h.keeper)) (ghosts.held h.keeper) (ghosts.settled h.keeper)
        (ghosts.crashes h.keeper) (ghosts.are_crashes h.keeper)
        (stands_at (stood_in h.journal.form (ghosts.held h.keeper)) h.journal (ghosts.held h.keeper) (ghosts.settled h.keeper)
        (ghosts.crashes h.keeper) (ghosts.are_crashes h.keeper) new.settled new.journal));
    asked = refl;
    faults = omega arith;
    settled = inr new.settled;
    room = let none = opened_owes h.manager.limits h.manager.flat new.begins in omega arith;
    fits = omega arith;
  }

pub is_new : {K : Type 0} (ghosts : Ghosts K) (h : Held K) (m : Managed) (t : Trailed) (j : Journal)
    (k : K) → h.manager ≡ m → h.trail ≡ t → h.recorder.at ≡ 0 → h.journal ≡ j → h.keeper ≡ k
    → IsOpening m.limits m.flat → AreSmall m.limits → m.steps ≡ 0 → m.text ≡ 0
    → Bears (stood_in j.form (ghosts.held k)) j (ghosts.held k) → ghosts.settled k → t ≡ no_entries → IsNew ghosts h
is_new ghosts h m t j k manager trail at journal keeper begins small steps text bears settled none = record {
  begins = subst (λ (x : Managed). IsOpening x.limits x.flat) (sym manager) begins;
  small = subst (λ (x : Managed). AreSmall x.limits) (sym manager) small;
  steps = ap (λ (x : Managed). x.steps) manager ∙ steps;
  text = ap (λ (x : Managed). x.text) manager ∙ text;
  journal = subst (λ (x : Journal). Bears (stood_in x.form (ghosts.held h.keeper)) x (ghosts.held h.keeper)) (sym journal)
      (subst (λ x. Bears (stood_in j.form (ghosts.held x)) j (ghosts.held x)) (sym keeper) bears);
  settled = subst ghosts.settled (sym keeper) settled;
  trail = trail ∙ none;
  at = at;
}
