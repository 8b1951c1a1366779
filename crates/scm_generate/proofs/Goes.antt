-- Runs from one state to another.
use Rattle.std.proofs.Common.{ℕ, ◌≡◌, ◌∙◌, true, not, List, [], ◌∷◌, ◌++◌, filter, map, ap, sym, refl, subst}
use Rattle.scm_model.specs.declared.flat.Flat.{Flat}
use Rattle.scm_model.specs.declared.flat.Limits.{Limits}
use Rattle.scm_model.specs.declared.flat.Registration.{Registration}
use Rattle.scm_model.specs.declared.flat.Service.{Service}
use Rattle.scm_model.specs.declared.calls.Request.{Request}
use Rattle.scm_model.specs.declared.steps.Kept.{Kept}
use Rattle.scm_model.specs.declared.steps.Step.{Step}
use Rattle.scm_model.specs.declared.steps.Step.TheVariants.{Call}
use Rattle.scm_model.specs.Entries.{Entry}
use Rattle.scm_model.specs.Notices.{all_noted, event_of_leaving}
use Rattle.scm_model.specs.Outcomes.{StepResult}
use Rattle.scm_model.specs.Purge.{leaves, leaving, purged}
use Rattle.scm_model.specs.Refused.{answered}
use Rattle.start_plan.specs.Settle.{settled}
use Rattle.scm_rules.specs.Runs.{EachStep, IsLegal, run_state}
use Rattle.scm_rules.specs.Steps.{at_moment, call_answer, effect_of, finished, may, step_of, tells_plan}
use Rattle.scm_rules.specs.Verdicts.{done_of, told_refused, verdict}
use Rattle.scm_generate.specs.Listed.{at_once}
use Rattle.scm_generate.specs.Progress.{IsQuietStep, wants_nothing}
use Rattle.scm_generate.proofs.Built.{filter_built}
use Rattle.scm_generate.proofs.Shape.{Live, rows, row_at}
use Rattle.scm_generate.proofs.Untold.{events_untold}

-- the entries can be made from the one state on, and lead to the other
pub record Goes (l : Limits) (f : Flat) (es : List Entry) (g : Flat) : Type 0 where
  pub legal : IsLegal l f es
  pub quiet : EachStep IsQuietStep l f es
  pub leads : run_state l f es ≡ g

pub goes_none : (l : Limits) (f : Flat) → Goes l f [] f
goes_none l f = record { legal = tt; quiet = tt; leads = refl }

legal_both : (l : Limits) (f : Flat) (xs ys : List Entry) → IsLegal l f xs → IsLegal l (run_state l f xs) ys → IsLegal l f (xs ++ ys)
legal_both l f [] ys h k = k
legal_both l f (x ∷ xs) ys h k = (h.0, legal_both l (step_of l f x.0 x.1).flat xs ys h.1 k)

quiet_both : (l : Limits) (f : Flat) (xs ys : List Entry) → EachStep IsQuietStep l f xs → EachStep IsQuietStep l (run_state l f xs) ys
    → EachStep IsQuietStep l f (xs ++ ys)
quiet_both l f [] ys h k = k
quiet_both l f (x ∷ xs) ys h k = (h.0, quiet_both l (step_of l f x.0 x.1).flat xs ys h.1 k)

state_both : (l : Limits) (f : Flat) (xs ys : List Entry) → run_state l f (xs ++ ys) ≡ run_state l (run_state l f xs) ys
state_both l f [] ys = refl
state_both l f (x ∷ xs) ys = state_both l (step_of l f x.0 x.1).flat xs ys

pub goes_both : (l : Limits) (f g h : Flat) (xs ys : List Entry) → Goes l f xs g → Goes l g ys h → Goes l f (xs ++ ys) h
goes_both l f g h xs ys a b =
    let b' : Goes l (run_state l f xs) ys h = subst (λ s. Goes l s ys h) (sym a.leads) b in
    record {
      legal = legal_both l f xs ys a.legal b'.legal;
      quiet = quiet_both l f xs ys a.quiet b'.quiet;
      leads = state_both l f xs ys ∙ b'.leads;
    }

pub goes_one : (l : Limits) (f g : Flat) (step : Step) → may l f 0 step ≡ true → wants_nothing f step ≡ true → (step_of l f 0 step).flat ≡ g
    → Goes l f (at_once step ∷ []) g
goes_one l f g step can quiet is = record { legal = (can, tt); quiet = (quiet, tt); leads = is }

-- an entry before others
pub goes_on : (l : Limits) (f g h : Flat) (step : Step) (ys : List Entry) → Goes l f (at_once step ∷ []) g → Goes l g ys h
    → Goes l f (at_once step ∷ ys) h
goes_on l f g h step ys a b = goes_both l f g h (at_once step ∷ []) ys a b

-- what a step leads to, where its effect, what settles then and what it finishes are known
pub stepped : (l : Limits) (f : Flat) (step : Step) (done : StepResult) (g h : Flat) → effect_of l (at_moment f 0 step) step ≡ done
    → settled l done.flat ≡ g → (finished g done.answer).flat ≡ h → purged h ≡ h
    → (step_of l f 0 step).flat ≡ h
stepped l f step done g h effect settles ends stays =
    ap (λ (d : StepResult). purged (finished (settled l d.flat) d.answer).flat) effect
    ∙ ap (λ s. purged (finished s done.answer).flat) settles
    ∙ ap purged ends ∙ stays

-- a call that is not refused
pub called_well : (l : Limits) (f : Flat) (asked : Request) (append : Kept) → verdict l f 1 asked append ≡ 0
    → effect_of l f (Call 1 asked append) ≡ record {
      answer = call_answer (tells_plan asked 0) f.next.plan (done_of l f 1 asked).reply;
      flat = (done_of l f 1 asked).flat;
    }
called_well l f asked append e =
    ap (λ code. record {
      answer = call_answer (tells_plan asked code) f.next.plan
          (answered code (told_refused f 1 asked code) f (done_of l f 1 asked)).reply;
      flat = (answered code (told_refused f 1 asked code) f (done_of l f 1 asked)).flat;
    }) e

-- nobody is marked, and nobody is told
pub all_stay : (f : Flat) (look : ℕ → Live) (n : ℕ) → f.services ≡ rows look n → f.registrations ≡ [] → purged f ≡ f
all_stay f look n is none =
    let same : filter (λ (row : Service). not (leaves f.handles row)) f.services ≡ f.services =
    subst (λ all. filter (λ (row : Service). not (leaves f.handles row)) all ≡ all) (sym is)
    (filter_built (λ (row : Service). not (leaves f.handles row)) [] (λ k. row_at k (look k)) n refl (λ k some lt. refl)) in
    let untold : all_noted (map event_of_leaving (leaving f)) f.registrations ≡ f.registrations =
    subst (λ (told : List Registration). all_noted (map event_of_leaving (leaving f)) told ≡ told) (sym none)
    (events_untold (map event_of_leaving (leaving f))) in
    ap (λ all. record f { services = all; registrations = all_noted (map event_of_leaving (leaving f)) f.registrations }) same
    ∙ ap (λ told. record f { registrations = told }) untold
