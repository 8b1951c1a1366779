-- What one step more asks, and what it leaves, of what stands at the end of a history.
use Rattle.std.proofs.Common.{◌≡◌, ℕ, ◌≤◌, ◌<◌, ◌^◌, inl, inr, true, IsTrue, List, [], ◌∷◌, ◌++◌, length, Some, sym, ap, ◌∙◌, subst}
use Rattle.std.proofs.Common.{arith}
use Rattle.scm_model.specs.declared.flat.Flat.{Flat}
use Rattle.scm_model.specs.declared.flat.Limits.{Limits}
use Rattle.scm_model.specs.declared.steps.Answer.{Answer}
use Rattle.scm_model.specs.declared.steps.Step.{Step}
use Rattle.scm_model.specs.Entries.{Entry, text_in, with_kept}
use Rattle.scm_rules.specs.Histories.{answer, state}
use Rattle.scm_rules.specs.Owed.{owed as owed_in}
use Rattle.scm_rules.specs.Room.{has_room}
use Rattle.scm_rules.specs.Steps.{keeps_right, may, may_come}
use Rattle.scm_core.specs.Managed.{AreSmall}
use Rattle.scm_runs.proofs.Histories.{told as last_told}
use Rattle.scm_owed.proofs.Effects.{debt_owed}
use Rattle.book_rule.specs.declared.view.Opening.{Opening}
use Rattle.scm_book.specs.Ghosts.{Ghosts}
use Rattle.scm_book.specs.declared.held.Held.{Held}
use Rattle.scm_book.specs.declared.held.Owed.{Owed}
use Rattle.scm_book.specs.Holds.{Holds, Runs}
use Rattle.scm_book.specs.Steps.{Adds, Grows, Makes, has_room_in, owed_step}
use Rattle.scm_book.proofs.Following.{runs_on}
use Rattle.scm_book.proofs.Holdings.{holds_added, holds_made}
use Rattle.scm_book.proofs.Last.{leaves_owed, within}
use Rattle.scm_book.proofs.Room.{and_both, has_kept, owed_changes, owed_faults, owed_is, owed_right, owed_text}
use Rattle.scm_book.proofs.Steps.{answer_one}

-- the last entry is told what its step answers in the state before it
last_answer : (l : Limits) (f : Flat) (log : List Entry) (moment : ℕ) (step : Step)
    → answer l f (log ++ (moment, step) ∷ []) (length log) ≡ answer l (state l f log) ((moment, step) ∷ []) 0
last_answer l f log moment step = last_told l f log (moment, step) [] ∙ sym (answer_one l (state l f log) moment step)

module _ {K : Type 0} (ghosts : Ghosts K) (o : Opening) (log : List Entry) (h : Held K)
    (holds : Holds ghosts o log h) where
  pub room_same : (step : Step) → has_room_in h step ≡ has_room o.limits (state o.limits o.first log) (length log) (text_in log) step
  room_same step = λ i. has_room (holds.limits i) (holds.manager i) (holds.steps i) (holds.text i) step

  may_same : (moment : ℕ) (step : Step) → may h.manager.limits h.manager.flat moment step ≡ may o.limits
      (state o.limits o.first log) moment step
  may_same moment step = λ i. may (holds.limits i) (holds.manager i) moment step

  module _ (h' : Held K) (moment : ℕ) (step : Step) (told : Answer) where
    pub may_then : Grows h h' moment step told → IsTrue (may o.limits (state o.limits o.first log) moment step)
    may_then grows = sym (may_same moment step) ∙ grows.may

    pub told_then : Grows h h' moment step told → answer o.limits o.first (log ++ (moment, step) ∷ []) (length log) ≡ Some told
    told_then grows = last_answer o.limits o.first log moment step ∙ ((λ i. answer (sym holds.limits i) (sym holds.manager i)
        ((moment, step) ∷ []) 0) ∙ grows.answer)

  module _ (h' : Held K) (moment : ℕ) (step : Step) (told : Answer) (runs : Runs o log)
      (made : Makes ghosts h h' moment step told) where
    pub made_free : IsTrue (has_room o.limits (state o.limits o.first log) (length log) (text_in log) (with_kept step made.append))
    made_free = has_kept o.limits (state o.limits o.first log) (length log) (text_in log) step made.append
        ∙ (sym (room_same step) ∙ made.free)

    pub made_runs : Runs o (log ++ (moment, with_kept step made.append) ∷ [])
    made_runs = runs_on ghosts o log (moment, with_kept step made.append) runs
        (may_then h' moment (with_kept step made.append) told made.grows) (inr made_free)

    pub made_holds : Holds ghosts o (log ++ (moment, with_kept step made.append) ∷ []) h'
    made_holds = holds_made ghosts o log h h' holds moment step told made made_runs

  module _ (h' : Held K) (moment : ℕ) (owed : Owed) (told : Answer) (runs : Runs o log)
      (adds : Adds h h' moment (owed_step owed) told) where
    pub added_runs : Runs o (log ++ (moment, owed_step owed) ∷ [])
    added_runs = runs_on ghosts o log (moment, owed_step owed) runs (may_then h' moment (owed_step owed) told adds.grows)
        (inl (owed_is owed))

    pub added_holds : Holds ghosts o (log ++ (moment, owed_step owed) ∷ []) h'
    added_holds = holds_added ghosts o log h h' holds moment (owed_step owed) told adds (owed_is owed) (owed_text owed)
        (owed_faults owed) (owed_changes h.manager.limits h.manager.flat owed) added_runs

-- ## What a step asks before

module _ {K : Type 0} (ghosts : Ghosts K) (o : Opening) (log : List Entry) (h : Held K)
    (holds : Holds ghosts o log h) where
  pub come_same : (moment : ℕ) (step : Step) → may_come h.manager.limits h.manager.flat moment step ≡ may_come o.limits
      (state o.limits o.first log) moment step
  come_same moment step = λ i. may_come (holds.limits i) (holds.manager i) moment step

  pub is_small : Runs o log → AreSmall h.manager.limits
  is_small runs = subst AreSmall (sym holds.limits) runs.opens.small

  pub few_steps : Runs o log → h.manager.steps < 2 ^ 50
  few_steps runs = let s = holds.steps in let w = within o.limits o.first runs.opens.begins log runs.legal in
      let m = runs.opens.small.steps in omega arith

  pub little_text : Runs o log → h.manager.text < 2 ^ 63
  little_text runs = let t = holds.text in let w = holds.fits in let m = runs.opens.small.text in omega arith

  -- where an owed step may come, there is memory for its entry
  pub owed_room : Runs o log → (moment : ℕ) (owed : Owed) → may_come o.limits (state o.limits o.first log) moment (owed_step owed) ≡ true
      → 1 ≤ h.trail.room
  owed_room runs moment owed may =
      let e : Entry = (moment, owed_step owed) in
      let ok = and_both (may_come o.limits (state o.limits o.first log) moment (owed_step owed))
      (keeps_right o.limits (state o.limits o.first log) (owed_step owed)) may
      (owed_right o.limits (state o.limits o.first log) owed) in
      let then = runs_on ghosts o log e runs ok (inl (owed_is owed)) in
      let pays = leaves_owed o.limits o.first runs.opens.begins log e then.legal in
      let none = debt_owed (state o.limits o.first log) (owed_step owed) (owed_is owed) in
      let same = ap owed_in holds.manager in
      let room = holds.room in
      omega arith
