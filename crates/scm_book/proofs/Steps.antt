-- What one step more makes of what the holder of the turn has.
use Rattle.std.proofs.Common.{ℕ, ◌≡◌, ◌∙◌, ◌+◌, ◌≤◌, true, IsTrue, List, [], ◌∷◌, Option, Some, refl, ap, sym, subst, arith}
use Rattle.std.proofs.Common.{false, inl, inr}
use Rattle.std.specs.Prelude.{option_map}
use Rattle.outside.specs.Causes.{Rose}
use Rattle.scm_model.specs.declared.flat.Flat.{Flat}
use Rattle.scm_model.specs.declared.flat.Limits.{Limits}
use Rattle.scm_model.specs.declared.steps.Answer.{Answer}
use Rattle.scm_model.specs.declared.steps.Change.{Change}
use Rattle.scm_model.specs.declared.steps.Kept.{Kept}
use Rattle.scm_model.specs.declared.steps.Kept.TheVariants as appended
use Rattle.scm_model.specs.declared.steps.Step.{Step}
use Rattle.scm_model.specs.declared.steps.Step.TheVariants.{Call}
use Rattle.scm_model.specs.Entries.{with_kept}
use Rattle.scm_model.specs.Texts.{text_of}
use Rattle.record_journal.specs.Bearing.{Bears, BearsLost, BearsMore, MovesOn, Stands, Stood}
use Rattle.record_journal.specs.Crashes.{Crashes}
use Rattle.record_journal.specs.Keepers.{SettledSince}
use Rattle.scm_rules.specs.Histories.{answer, state}
use Rattle.scm_rules.specs.Owed.{owed}
use Rattle.scm_rules.specs.Room.{debt}
use Rattle.scm_rules.specs.Steps.{keeps_right, may, may_come, step_of}
use Rattle.scm_core.specs.Managed.{Managed, WasMadeFor}
use Rattle.scm_trail.specs.Trailed.{Extends, Trailed}
use Rattle.scm_trail.proofs.Histories.{stays_extended, stays_on, stays_self}
use Rattle.record_journal.specs.declared.journal.Journal.{Journal}
use Rattle.scm_rules.specs.Verdicts.{change_of}
use Rattle.scm_history.specs.Outcomes.{Outcome, no_outcome, outcome_in}
use Rattle.scm_history.proofs.Outcomes.{law_of_outcomes}
use Rattle.journal_lasting.specs.Lasting.{TurnLeaves, with_outcome}
use Rattle.journal_lasting.proofs.Turning.{bears_lost, bears_more, same_bears, turn_kept, turn_lost, turn_none}
use Rattle.scm_book.specs.Ghosts.{Ghosts}
use Rattle.scm_book.specs.declared.held.Held.{Held}
use Rattle.scm_book.specs.Holds.{RoseBy, one_failed}
use Rattle.scm_book.specs.Steps.{Grows, IsAsItWas, IsPrepared, Keeps, Makes, MakesNone, has_room_in, outcome_at}
use Rattle.scm_book.proofs.Room.{and_both, come_kept}

-- ## The manager

state_one : (l : Limits) (f : Flat) (moment : ℕ) (step : Step) → state l f ((moment, step) ∷ []) ≡ (step_of l f moment step).flat
unfolding state
state_one l f moment step = refl

pub answer_one : (l : Limits) (f : Flat) (moment : ℕ) (step : Step) → answer l f ((moment, step) ∷ []) 0 ≡ Some
    (step_of l f moment step).answer
unfolding answer
answer_one l f moment step = refl

pub grown : {K : Type 0} (h h' : Held K) (moment : ℕ) (step both copy : Step) (told : Answer) → both ≡ step → copy ≡ step
    → IsTrue (may h.manager.limits h.manager.flat moment step)
    → Extends h.trail h'.trail (moment, copy) → h'.recorder ≡ h.recorder
    → told ≡ (step_of h.manager.limits h.manager.flat moment both).answer
    → h'.manager.flat ≡ (step_of h.manager.limits h.manager.flat moment both).flat
    → h'.manager.limits ≡ h.manager.limits → h'.manager.steps ≡ h.manager.steps + 1 → h'.manager.text ≡ h.manager.text + text_of both
    → Grows h h' moment step told
grown h h' moment step both copy told one other may trail recorder says flat limits steps text = record {
  may = may;
  trail = subst (λ (s : Step). Extends h.trail h'.trail (moment, s)) other trail;
  recorder = recorder;
  flat = flat ∙ (ap (λ (s : Step). (step_of h.manager.limits h.manager.flat moment s).flat) one
      ∙ sym (state_one h.manager.limits h.manager.flat moment step));
  answer = answer_one h.manager.limits h.manager.flat moment step
      ∙ ap (λ (a : Answer). Some a) (sym (says ∙ ap (λ (s : Step). (step_of h.manager.limits h.manager.flat moment s).answer) one));
  limits = limits;
  steps = steps;
  text = text ∙ ap (λ (s : Step). h.manager.text + text_of s) one;
}

-- ## The keeper

none_failed : (step : Step) → one_failed (with_kept step appended.NotAsked) ≡ 0
none_failed (Call caller asked append) = refl
none_failed step = refl

kept_failed : (step : Step) → one_failed (with_kept step appended.Kept) ≡ 0
kept_failed (Call caller asked append) = refl
kept_failed step = refl

failed_once : (step : Step) → one_failed (with_kept step appended.Failed) ≤ 1
failed_once (Call caller asked append) = omega arith
failed_once step = omega arith

rose_none : (n a b : ℕ) → n ≡ 0 → a ≤ b → RoseBy n a b
rose_none n a b none le = omega arith

rose_once : (n a b : ℕ) → n ≤ 1 → Rose a b → RoseBy n a b
rose_once n a b once rose = omega arith

-- a step that isn't asked to keep a change makes none
bears_none : (o : Outcome) → o ≡ no_outcome → (j : Journal) (told : Option (List ℕ)) (good : Option Stood) → Bears good j told
    → Bears (option_map (λ s. with_outcome s o) good) j told
bears_none o none j told good bears = subst (λ (o : Outcome). Bears (option_map (λ s. with_outcome s o) good) j told) (sym none)
    (same_bears good false j told bears)

leaves_none : (o : Outcome) → o ≡ no_outcome → (c : Crashes) (s : Stood) → Stands s c → TurnLeaves s o c c
leaves_none o none c s stands = subst (λ (o : Outcome). TurnLeaves s o c c) (sym none) (turn_none s false c stands)

module _ {K : Type 0} (ghosts : Ghosts K) (h h' : Held K) (step : Step) where
  pub keeps_none : h' ≡ h → Keeps ghosts h h' (with_kept step appended.NotAsked)
  keeps_none same =
      let unasked = (law_of_outcomes h.manager.limits h.manager.flat).unasked h.manager.flat step in
      subst (λ (g : Held K). Keeps ghosts h g (with_kept step appended.NotAsked)) (sym same) (record {
        bears = bears_none (outcome_at h (with_kept step appended.NotAsked)) unasked h.journal (ghosts.held h.keeper);
        turn = λ s bears stands. leaves_none (outcome_at h (with_kept step appended.NotAsked)) unasked (ghosts.crashes h.keeper) s stands;
        faults = rose_none (one_failed (with_kept step appended.NotAsked)) (ghosts.faults h.keeper) (ghosts.faults h.keeper)
            (none_failed step) (omega arith);
        settled = λ settled. inr settled;
        asked = refl;
      })

  module _ (change : Change) (is : change_of h.manager.limits h.manager.flat step ≡ Some change)
      (moves : MovesOn change h.journal (ghosts.held h.keeper) (ghosts.crashes h.keeper) (ghosts.crashes h'.keeper))
      (asked : ghosts.asked h'.keeper ≡ ghosts.asked h.keeper) where
    pub keeps_kept : BearsMore change h.journal (ghosts.held h.keeper) h'.journal (ghosts.held h'.keeper)
        → ghosts.faults h.keeper ≤ ghosts.faults h'.keeper → ghosts.settled h'.keeper → Keeps ghosts h h' (with_kept step appended.Kept)
    keeps_kept more grows settled =
        let kept = (law_of_outcomes h.manager.limits h.manager.flat).kept h.manager.flat step change is in
        let told = ghosts.held h.keeper in let told' = ghosts.held h'.keeper in record {
          bears = λ good bears. subst (λ (o : Outcome). Bears (option_map (λ s. with_outcome s o) good) h'.journal (ghosts.held h'.keeper))
              (sym kept) (bears_more change h.journal h'.journal told told' more good bears);
          turn = λ s bears stands. subst (λ (o : Outcome). TurnLeaves s o (ghosts.crashes h.keeper) (ghosts.crashes h'.keeper)) (sym kept)
              (turn_kept change h.journal h'.journal told told' (ghosts.settled h'.keeper) (ghosts.crashes h.keeper)
              (ghosts.crashes h'.keeper) moves (ghosts.are_crashes h'.keeper) settled more s bears stands);
          faults = rose_none (one_failed (with_kept step appended.Kept)) (ghosts.faults h.keeper) (ghosts.faults h'.keeper)
              (kept_failed step) grows;
          settled = λ before. inr settled;
          asked = asked;
        }

    pub keeps_failed : BearsLost change h.journal (ghosts.held h.keeper) h'.journal (ghosts.held h'.keeper)
        → Rose (ghosts.faults h.keeper) (ghosts.faults h'.keeper) → Keeps ghosts h h' (with_kept step appended.Failed)
    keeps_failed lost rose =
        let failed = (law_of_outcomes h.manager.limits h.manager.flat).failed h.manager.flat step change is in
        let told = ghosts.held h.keeper in let told' = ghosts.held h'.keeper in record {
          bears = λ good bears. subst (λ (o : Outcome). Bears (option_map (λ s. with_outcome s o) good) h'.journal (ghosts.held h'.keeper))
              (sym failed) (bears_lost change h.journal h'.journal told told' lost good bears);
          turn = λ s bears stands. subst (λ (o : Outcome). TurnLeaves s o (ghosts.crashes h.keeper) (ghosts.crashes h'.keeper)) (sym failed)
              (turn_lost change h.journal h'.journal told told' (ghosts.settled h'.keeper) (ghosts.crashes h.keeper)
              (ghosts.crashes h'.keeper) moves s bears stands);
          faults = rose_once (one_failed (with_kept step appended.Failed)) (ghosts.faults h.keeper) (ghosts.faults h'.keeper)
              (failed_once step) rose;
          settled = λ before. inl rose;
          asked = asked;
        }

-- ## One after another

module _ {K : Type 0} (h mid h' : Held K) where
  none_as : MakesNone h mid → h'.manager ≡ mid.manager → h'.trail ≡ mid.trail → h'.recorder ≡ mid.recorder → MakesNone h h'
  none_as was manager trail recorder = record {
    trail = stays_on h.trail mid.trail h'.trail was.trail (stays_self mid.trail h'.trail trail);
    recorder = recorder ∙ was.recorder;
    flat = ap (λ (m : Managed). m.flat) manager ∙ was.flat;
    limits = ap (λ (m : Managed). m.limits) manager ∙ was.limits;
    steps = ap (λ (m : Managed). m.steps) manager ∙ was.steps;
    text = ap (λ (m : Managed). m.text) manager ∙ was.text;
  }

  pub still_as : IsAsItWas h mid → h'.manager ≡ mid.manager → h'.trail ≡ mid.trail → h'.recorder ≡ mid.recorder
      → h'.journal ≡ mid.journal → h'.keeper ≡ mid.keeper → IsAsItWas h h'
  still_as was manager trail recorder journal keeper = record {
    none = none_as was.none manager trail recorder;
    journal = journal ∙ was.journal;
    keeper = keeper ∙ was.keeper;
    room = let same = ap (λ (t : Trailed). t.room) trail in let r = was.room in omega arith;
    text_room = let same = ap (λ (t : Trailed). t.text_room) trail in let r = was.text_room in omega arith;
  }

  -- the state, the limits and the entries are those of before
  grown_from : (moment : ℕ) (step : Step) (told : Answer) → MakesNone h mid → Grows mid h' moment step told → Grows h h' moment step told
  grown_from moment step told none grows = record {
    may = (λ i. may (sym none.limits i) (sym none.flat i) moment step) ∙ grows.may;
    trail = stays_extended h.trail mid.trail h'.trail (moment, step) none.trail grows.trail;
    recorder = grows.recorder ∙ none.recorder;
    flat = grows.flat ∙ (λ i. state (none.limits i) (none.flat i) ((moment, step) ∷ []));
    answer = (λ i. answer (sym none.limits i) (sym none.flat i) ((moment, step) ∷ []) 0) ∙ grows.answer;
    limits = grows.limits ∙ none.limits;
    steps = grows.steps ∙ ap (λ (n : ℕ). n + 1) none.steps;
    text = grows.text ∙ ap (λ (n : ℕ). n + text_of step) none.text;
  }

  module _ (ghosts : Ghosts K) (step : Step) (append : Kept) where
    keeps_from : IsAsItWas h mid → Keeps ghosts mid h' (with_kept step append)
        → Keeps ghosts h h' (with_kept step append)
    keeps_from was keeps =
        let now : Step = with_kept step append in
        let same : outcome_at mid now ≡ outcome_at h now = λ i. outcome_in (was.none.limits i) (was.none.flat i) now in
        let there = λ (good : Option Stood) (bears : Bears good h.journal (ghosts.held h.keeper)).
        subst (λ (j : Journal). Bears good j (ghosts.held mid.keeper)) (sym was.journal)
        (subst (λ (k : K). Bears good h.journal (ghosts.held k)) (sym was.keeper) bears) in record {
          bears = λ good bears. subst (λ (o : Outcome). Bears (option_map (λ s. with_outcome s o) good) h'.journal (ghosts.held h'.keeper))
              same (keeps.bears good (there good bears));
          turn = λ s bears stands. subst (λ (o : Outcome). TurnLeaves s o (ghosts.crashes h.keeper) (ghosts.crashes h'.keeper)) same
              (subst (λ (k : K). TurnLeaves s (outcome_at mid now) (ghosts.crashes k) (ghosts.crashes h'.keeper)) was.keeper
              (keeps.turn s (there (Some s) bears) (subst (λ (k : K). Stands s (ghosts.crashes k)) (sym was.keeper) stands)));
          faults = let f = ap ghosts.faults was.keeper in let k = keeps.faults in omega arith;
          settled = subst (λ (k : K). ghosts.settled k
              → SettledSince (ghosts.faults k) (ghosts.faults h'.keeper) (ghosts.settled h'.keeper)) was.keeper keeps.settled;
          asked = keeps.asked ∙ ap ghosts.asked was.keeper;
        }

    pub prepared : has_room_in h step ≡ true → IsAsItWas h mid → WasMadeFor mid.manager.room step → owed h.manager.flat
        + debt h.manager.flat step ≤ mid.trail.room → 1 ≤ mid.trail.room
        → text_of step ≤ mid.trail.text_room → h'.manager ≡ mid.manager → h'.trail ≡ mid.trail
        → h'.recorder ≡ mid.recorder → Keeps ghosts mid h' (with_kept step append)
        → IsTrue (keeps_right mid.manager.limits mid.manager.flat (with_kept step append))
        → IsPrepared ghosts h h' step append
    prepared free was made room one text manager trail recorder keeps right = record {
      free = free;
      none = none_as was.none manager trail recorder;
      keeps = keeps_from was keeps;
      right = (λ i. keeps_right (sym was.none.limits i) (sym was.none.flat i) (with_kept step append)) ∙ right;
      made = subst (λ (m : Managed). WasMadeFor m.room step) (sym manager) made;
      room = subst (λ (t : Trailed). owed h.manager.flat + debt h.manager.flat step ≤ t.room) (sym trail) room;
      one = subst (λ (t : Trailed). 1 ≤ t.room) (sym trail) one;
      text_room = subst (λ (t : Trailed). text_of step ≤ t.text_room) (sym trail) text;
    }

    pub made : (moment : ℕ) (told : Answer) → IsPrepared ghosts h mid step append
        → Grows mid h' moment (with_kept step append) told
        → h'.journal ≡ mid.journal → h'.keeper ≡ mid.keeper
        → mid.trail.room ≤ h'.trail.room + 1 → Makes ghosts h h' moment step told
    made moment told p grows journal keeper room = record {
      append = append;
      free = p.free;
      grows = grown_from moment (with_kept step append) told p.none grows;
      keeps = record {
        bears = λ good bears. subst (λ (j : Journal). Bears (option_map (λ s. with_outcome s (outcome_at h (with_kept step append))) good) j
            (ghosts.held h'.keeper)) (sym journal)
            (subst (λ (k : K). Bears (option_map (λ s. with_outcome s (outcome_at h (with_kept step append))) good) mid.journal
            (ghosts.held k)) (sym keeper) (p.keeps.bears good bears));
        turn = λ s bears stands. subst (λ (k : K). TurnLeaves s (outcome_at h (with_kept step append)) (ghosts.crashes h.keeper)
            (ghosts.crashes k)) (sym keeper) (p.keeps.turn s bears stands);
        faults = let f = ap ghosts.faults keeper in let k = p.keeps.faults in omega arith;
        settled = subst (λ (k : K). ghosts.settled h.keeper
            → SettledSince (ghosts.faults h.keeper) (ghosts.faults k) (ghosts.settled k)) (sym keeper) p.keeps.settled;
        asked = ap ghosts.asked keeper ∙ p.keeps.asked;
      };
      room = let r = p.room in omega arith;
    }

    -- what the step asks then
    pub may_finish : (moment : ℕ) → IsPrepared ghosts h mid step append
        → IsTrue (may_come h.manager.limits h.manager.flat moment step)
        → IsTrue (may mid.manager.limits mid.manager.flat moment (with_kept step append))
    may_finish moment p come = (λ i. may (p.none.limits i) (p.none.flat i) moment (with_kept step append))
        ∙ and_both (may_come h.manager.limits h.manager.flat moment (with_kept step append))
        (keeps_right h.manager.limits h.manager.flat (with_kept step append))
        (come_kept h.manager.limits h.manager.flat moment step append ∙ come) p.right
