-- What the laws of the manager mean for the rule of turns.
use Rattle.std.specs.Prelude.{ℕ, ◌≡◌, ◌⊎◌, true, IsTrue, List, [], ◌∷◌, ◌++◌, length}
use Rattle.scm_model.specs.declared.steps.Answer.{Answer}
use Rattle.scm_model.specs.declared.steps.Step.{Step}
use Rattle.scm_model.specs.Entries.{Entry, text_in, with_kept}
use Rattle.scm_rules.specs.Histories.{state}
use Rattle.scm_rules.specs.Room.{has_room, is_owed}
use Rattle.scm_rules.specs.Steps.{may}
use Rattle.book_rule.specs.declared.view.Opening.{Opening}
use Rattle.book_rule.specs.Ways.{Follows}
use Rattle.scm_book.specs.Ghosts.{Ghosts}
use Rattle.scm_book.specs.declared.held.Held.{Held}
use Rattle.scm_book.specs.declared.held.Owed.{Owed}
use Rattle.scm_book.specs.Holds.{Holds, Runs, way_of}
use Rattle.scm_book.specs.Steps.{Adds, IsAsItWas, Makes, owed_step}

module _ {K : Type 0} (ghosts : Ghosts K) where
  -- an entry that may be made after a legal history, and is owed or has room, is all that a commit asks for
  abbrev pub EachFollows : Type 0
  EachFollows = (o : Opening) (log : List Entry) (e : Entry) → Runs o log → IsTrue (may o.limits (state o.limits o.first log) e.0 e.1)
      → (is_owed e.1 ≡ true) ⊎ IsTrue (has_room o.limits (state o.limits o.first log) (length log) (text_in log) e.1)
      → Follows (way_of ghosts) o log e

  -- what stands at the end of a history stands at the end of the longer one once a step is made, or an owed step is done
  pub record KeepsStanding : Type 0 where
    pub makes : (o : Opening) (log : List Entry) (h h' : Held K) (moment : ℕ) (step : Step) (told : Answer) → Runs o log
        → Holds ghosts o log h
        → (made : Makes ghosts h h' moment step told) →
        Holds ghosts o (log ++ (moment, with_kept step made.append) ∷ []) h'
    pub adds : (o : Opening) (log : List Entry) (h h' : Held K) (moment : ℕ) (owed : Owed) (told : Answer) → Runs o log
        → Holds ghosts o log h
        → Adds h h' moment (owed_step owed) told → Holds ghosts o (log ++ (moment, owed_step owed) ∷ []) h'
    pub leaves : (o : Opening) (log : List Entry) (h h' : Held K) → Holds ghosts o log h → IsAsItWas h h'
        → Holds ghosts o log h'
