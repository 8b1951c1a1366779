-- The launch that is wanted first, as the holder of the turn takes it in hand and as a pass sees it.
use Rattle.std.proofs.Common.{◌≡◌, ◌∙◌, ℕ, ◌+◌, ◌≤◌, true, false, IsTrue, List, [], ◌∷◌, ◌++◌, Option, None, Some, Box, refl, sym, ap}
use Rattle.std.proofs.Common.{subst, arith}
use Rattle.std.specs.declared.alloc.Global.{Global}
use Rattle.atomic_table.specs.declared.shared.Seat.{Seat}
use Rattle.book_rule.specs.declared.view.Opening.{Opening}
use Rattle.book_rule.specs.declared.view.View.{View}
use Rattle.book_rule.specs.Seats.{Enters, Identity}
use Rattle.std.proofs.lemmas.List.{append_cancel_right}
use Rattle.scm_text.specs.TextWithRoom.{TextWithRoom}
use Rattle.scm_model.specs.declared.flat.Flat.{Flat}
use Rattle.scm_model.specs.declared.flat.Limits.{Limits}
use Rattle.scm_model.specs.declared.flat.Wanted.{Wanted}
use Rattle.scm_model.specs.declared.steps.Answer.TheVariants as answers
use Rattle.scm_model.specs.declared.steps.Step.TheVariants.{LaunchTaken}
use Rattle.scm_model.specs.Changes.{with_moment}
use Rattle.scm_model.specs.Entries.{Entry}
use Rattle.scm_trail.specs.Trailed.{Extends}
use Rattle.start_plan.specs.Settle.{settled}
use Rattle.scm_rules.specs.Launches.{first_wanted, launch_taken, launch_told}
use Rattle.scm_rules.specs.Steps.{finished, step_of, wants_launch}
use Rattle.scm_tables.specs.Lines.{first_line}
use Rattle.scm_core.specs.Managed.{Managed}
use Rattle.scm_book.specs.Ghosts.{Ghosts}
use Rattle.scm_book.specs.declared.held.Held.{Held}
use Rattle.scm_book.specs.Steps.{Adds}
use Rattle.scm_book.specs.Holds.{Holds, Runs, way_of}
use Rattle.scm_book.specs.Processes.{DidLaunch, HandsOut, TakesBy, is_wanted_behind, line_behind}
use Rattle.scm_book.specs.Turns.{known}
use Rattle.scm_book.specs.declared.processes.TakenLaunch.{TakenLaunch}
use Rattle.scm_book.specs.declared.held.Owed.TheVariants as owes
use Rattle.scm_book.proofs.Passes.{did_made, left_learnt}
use Rattle.scm_book.proofs.Room.{and_both}
use Rattle.scm_book.proofs.Standing.{owed_room}
use Rattle.scm_book.proofs.Steps.{grown}

none_first : (rows : List Wanted) → first_wanted rows ≡ None → wants_launch rows ≡ false
none_first [] is = refl
none_first (row ∷ rows) is = absurd cc

pub some_first : (rows : List Wanted) (process : ℕ) → first_wanted rows ≡ Some process → wants_launch rows ≡ true
some_first [] process is = absurd cc
some_first (row ∷ rows) process is = refl

-- taking it in hand tells which process that is
first_answer : (l : Limits) (f : Flat) (moment process : ℕ) → first_wanted f.wanted ≡ Some process
    → (step_of l f moment LaunchTaken).answer ≡ answers.Launch process
first_answer l f moment process is = ap (λ (found : Option ℕ). (finished (settled l (launch_taken (with_moment f moment)).flat)
    (launch_told found)).answer) is

module _ {K : Type 0} (h h' : Held K) (moment process : ℕ) (first : first_wanted h.manager.flat.wanted ≡ Some process) where
  pub adds_launch : h'.manager ≡ record h.manager {
    flat = (step_of h.manager.limits h.manager.flat moment LaunchTaken).flat;
    steps = h.manager.steps + 1;
    room = None;
  }
      → Extends h.trail h'.trail (moment, LaunchTaken) → h'.recorder ≡ h.recorder → h.trail.room ≤ h'.trail.room + 1 → h'.journal ≡ h.journal
      → h'.keeper ≡ h.keeper
      → Adds h h' moment LaunchTaken (answers.Launch process)
  adds_launch manager entries recorder room journal keeper = record {
    grows = grown h h' moment LaunchTaken LaunchTaken LaunchTaken (answers.Launch process) refl refl
        (and_both (wants_launch h.manager.flat.wanted) true (some_first h.manager.flat.wanted process first) refl) entries recorder
        (sym (first_answer h.manager.limits h.manager.flat moment process first)) (ap (λ (m : Managed). m.flat) manager)
        (ap (λ (m : Managed). m.limits) manager)
        (ap (λ (m : Managed). m.steps) manager) (let t = ap (λ (m : Managed). m.text) manager in omega arith);
    journal = journal;
    keeper = keeper;
    room = room;
  }

-- nothing is wanted where none is the first
pub nothing_wanted : (f : Flat) → first_wanted f.wanted ≡ None → wants_launch f.wanted ≡ false
nothing_wanted f is = none_first f.wanted is

-- ## At the end of a history

module _ {K : Type 0} (ghosts : Ghosts K) (o : Opening) (log : List Entry) (h : Held K)
    (holds : Holds ghosts o log h) where
  pub wanted_same : wants_launch h.manager.flat.wanted ≡ is_wanted_behind o log
  wanted_same = ap (λ (f : Flat). wants_launch f.wanted) holds.manager

  -- where a launch is wanted, there is memory for the entry that takes it
  pub launch_room : Runs o log → (moment : ℕ) → IsTrue (wants_launch h.manager.flat.wanted) → 1 ≤ h.trail.room
  launch_room runs moment wanted = owed_room ghosts o log h holds runs moment owes.LaunchTaken (sym wanted_same ∙ wanted)

  pub line_same : (path path' : TextWithRoom) (words : List (List ℕ)) →
      HandsOut (first_line h.manager.flat h.manager.flat.wanted) path path' words → HandsOut (line_behind o log) path path' words
  line_same path path' words = subst (λ (f : Flat). HandsOut (first_line f f.wanted) path path' words) holds.manager

-- ## A turn

module _ {K : Type 0} (ghosts : Ghosts K) (b : Identity)
    (s s1 : Seat (Option (Box (Held K) Global)) View)
    (h : Box (Held K) Global) (enters : Enters (way_of ghosts) b s s1 h) where
  pub did_launch : (s2 : Seat (Option (Box (Held K) Global)) View) (moment : ℕ) (path path' : TextWithRoom) (r : Option TakenLaunch)
      → DidLaunch ghosts b s1 s2 moment path path' r
      → TakesBy b.opening (known s) moment path path' r (known s2)
  did_launch s2 moment path path' None did = (
    left_learnt ghosts b s s1 h enters s2 did.0,
    subst (λ (l : List Entry). is_wanted_behind b.opening l ≡ false)
        (sym (ap (λ m. m.0.seen) did.0.me)) did.1,
    did.2,
  )
  did_launch s2 moment path path' (Some taken) did =
      let e : Entry = (moment, LaunchTaken) in
      let made = did_made ghosts b s s1 h enters s2 moment LaunchTaken (answers.Launch taken.process) did.0 in
      let now : s2.me.0.seen ≡ s1.me.0.seen ++ e ∷ [] = ap (λ m. m.0.seen) did.0.me in
      let same : made.before ≡ s1.me.0.seen = append_cancel_right made.before s1.me.0.seen (e ∷ []) (sym made.seen ∙ now) in record {
        made = made;
        line = subst (λ (l : List Entry). HandsOut (line_behind b.opening l) path path' taken.words) (sym same) did.1;
      }
