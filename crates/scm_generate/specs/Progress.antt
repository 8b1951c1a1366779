-- Where a run stands.
use Rattle.std.specs.Prelude.{ℕ, Bool, true, not, ◌≡◌, ◌+◌, ◌^◌, ◌<◌, ◌≤◌, IsTrue, List, [], ◌∷◌, length}
use Rattle.scm_model.specs.declared.flat.Flat.{Flat}
use Rattle.scm_model.specs.declared.flat.Limits.{Limits}
use Rattle.scm_model.specs.declared.steps.Answer.{Answer}
use Rattle.scm_model.specs.declared.steps.Step.{Step}
use Rattle.scm_model.specs.declared.steps.Step.TheVariants.{EndStart}
use Rattle.scm_model.specs.Entries.{Entry, text_in}
use Rattle.scm_model.specs.Texts.{text_of}
use Rattle.scm_rules.specs.Opening.{opening}
use Rattle.scm_rules.specs.Runs.{EachStep, IsLegal}
use Rattle.scm_rules.specs.Steps.{wants_launch, step_of}
use Rattle.scm_generate.specs.declared.run.Run.TheInside.{Inside}
use Rattle.scm_generate.specs.Summary.{four_lines, launch_in, running}

-- the state, the limits, how many steps were made and how much text they had, and how many launches were taken
pub record Progress : Type 0 where
  pub flat : Flat
  pub limits : Limits
  pub steps : ℕ
  pub text : ℕ
  pub launches : ℕ

abbrev pub progress : Inside → Progress
progress run = record {
  flat = run.manager.flat;
  limits = run.manager.limits;
  steps = run.steps;
  text = run.manager.text;
  launches = run.launches;
}

-- the run counts as many steps as its manager
pub record IsCounted (run : Inside) : Type 0 where
  pub steps : run.steps ≡ run.manager.steps
  pub launches : run.launches ≤ run.steps

-- nothing was made yet
abbrev pub at_first : Limits → Progress
at_first l = record { flat = opening l [] [] 0; limits = l; steps = 0; text = 0; launches = 0 }

-- one entry further
unfoldable pub after_one : Progress → Entry → Progress
after_one p e = record {
  flat = (step_of p.limits p.flat e.0 e.1).flat;
  limits = p.limits;
  steps = p.steps + 1;
  text = p.text
      + text_of e.1;
  launches = p.launches + launch_in e.1;
}

-- some entries further
abbrev pub progress_after : Progress → List Entry → Progress
progress_after p [] = p
progress_after p (e ∷ es) = progress_after (after_one p e) es

-- no launch is wanted any more where a start is ended
abbrev pub wants_nothing : Flat → Step → Bool
wants_nothing f (EndStart caller plan) = not (wants_launch f.wanted)
wants_nothing f step = true

abbrev pub IsQuietStep : Flat → Entry → Answer → Flat → Type 0
IsQuietStep before e told now = IsTrue (wants_nothing before e.1)

-- each entry may be made in the state before it, and each end of a start comes where no launch is wanted
pub record CanBeMade (l : Limits) (f : Flat) (es : List Entry) : Type 0 where
  pub legal : IsLegal l f es
  pub quiet : EachStep IsQuietStep l f es

-- these entries can be made now: as many steps, and as much text, can be counted
pub record IsOpenTo (p : Progress) (es : List Entry) : Type 0 where
  pub can : CanBeMade p.limits p.flat es
  pub steps : p.steps + length es ≤ 2 ^ 50
  pub text : p.text + text_in es < 2 ^ 63

-- these entries were made, one after another
pub record Makes (p : Progress) (es : List Entry) (q : Progress) : Type 0 where
  pub is : q ≡ progress_after p es
  pub can : CanBeMade p.limits p.flat es

abbrev pub summed_up : Progress → List ℕ
summed_up p = four_lines p.steps (length p.flat.services) p.launches (running p.flat.services)
