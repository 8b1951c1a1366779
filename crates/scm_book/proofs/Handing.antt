-- What is handed over where an order is taken.
use Rattle.std.proofs.Common.{◌≡◌, ◌≤◌, ◌∙◌, ◌+◌, ℕ, Some, ap, subst, sym}
use Rattle.scm_text.specs.TextWithRoom.{TextWithRoom}
use Rattle.scm_model.specs.declared.flat.Flat.{Flat}
use Rattle.scm_model.specs.declared.flat.Order.{Order}
use Rattle.scm_model.specs.declared.steps.Answer.{Answer}
use Rattle.scm_model.specs.declared.steps.Answer.TheVariants as answers
use Rattle.scm_model.specs.declared.steps.Kept.{Kept}
use Rattle.scm_model.specs.declared.steps.Step.{Step}
use Rattle.scm_model.specs.declared.steps.Step.TheVariants.{ControlTaken}
use Rattle.scm_model.specs.Entries.{with_kept}
use Rattle.scm_rules.specs.Controls.{next_order}
use Rattle.scm_rules.specs.Steps.{step_of}
use Rattle.scm_book.specs.Ghosts.{Ghosts}
use Rattle.scm_book.specs.declared.controlling.HandedOrder.{HandedOrder}
use Rattle.scm_book.specs.declared.held.Held.{Held}
use Rattle.scm_book.specs.Reporting.{HandsOver, HoldsControl}
use Rattle.scm_book.specs.Steps.{Grows, IsPrepared, Makes}
use Rattle.scm_book.proofs.ReportsMade.{order_answer}
use Rattle.scm_book.proofs.Steps.{answer_one, made}

module _ {K : Type 0} (ghosts : Ghosts K) (h mid h' : Held K) (process moment : ℕ)
    (append : Kept)
    (step : Step) (is : step ≡ ControlTaken process) (prepared : IsPrepared ghosts h mid step append) where
  -- the answer is the order that was sent next
  order_told : (told : Answer) (order : Order) → Grows mid h' moment (with_kept step append) told
      → next_order mid.manager.flat process ≡ Some order → told ≡ answers.Control order
  order_told told order grows next =
      let l = mid.manager.limits in
      let f = mid.manager.flat in
      let one : Some told ≡ Some (step_of l f moment (with_kept step append)).answer =
      sym grows.answer ∙ answer_one l f moment (with_kept step append) in
      let same : told ≡ (step_of l f moment (with_kept step append)).answer = cc in
      same ∙ (ap (λ (s : Step). (step_of l f moment (with_kept s append)).answer) is ∙ order_answer l f moment process order next)

  -- the step that was prepared was made, and what it took is handed over
  pub handed_over : (name name' : TextWithRoom) (told : Answer) (handed : HandedOrder) → Grows mid h' moment (with_kept step append) told
      → h'.journal ≡ mid.journal → h'.keeper ≡ mid.keeper → mid.trail.room ≤ h'.trail.room + 1
      → HandsOver mid.manager.flat process name name' handed
      → HoldsControl ghosts h h' moment process name name' handed
  handed_over name name' told handed grows journal keeper room hands =
      let all = made h mid h' ghosts step append moment told prepared grows journal keeper room in
      let so : Makes ghosts h h' moment (ControlTaken process) told =
      subst (λ (s : Step). Makes ghosts h h' moment s told) is all in (
        subst (λ (a : Answer). Makes ghosts h h' moment (ControlTaken process) a)
            (order_told told handed.order grows hands.order) so,
        subst (λ (f : Flat). HandsOver f process name name' handed) prepared.none.flat hands,
      )
