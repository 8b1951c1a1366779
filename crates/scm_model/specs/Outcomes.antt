-- What a call and what a step come to.
use Rattle.scm_model.specs.declared.flat.Flat.{Flat}
use Rattle.scm_model.specs.declared.calls.Reply.{Reply}
use Rattle.scm_model.specs.declared.steps.Answer.{Answer}

-- the reply of a call, and the state that its effect leaves
pub record CallResult : Type 0 where
  pub reply : Reply
  pub flat : Flat

-- what a step answers, and the state that it leaves
pub record StepResult : Type 0 where
  pub answer : Answer
  pub flat : Flat
