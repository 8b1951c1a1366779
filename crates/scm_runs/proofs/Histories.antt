-- What is to be known of histories.
use Rattle.std.proofs.Common.{ℕ, zero, suc, ◌≡◌, ◌∙◌, ◌≤◌, IsTrue, List, [], ◌∷◌, ◌++◌, None, Some, length, refl, ap, sym, subst, arith}
use Rattle.scm_model.specs.declared.flat.Flat.{Flat}
use Rattle.scm_model.specs.declared.flat.Limits.{Limits}
use Rattle.scm_model.specs.declared.steps.Answer.{Answer}
use Rattle.scm_rules.specs.Runs.{EachStep, IsLegal, run_state}
use Rattle.scm_model.specs.Entries.{Entry}
use Rattle.scm_rules.specs.Steps.{may, step_of}
use Rattle.scm_rules.specs.Histories.{Legal, answer, state}
use Rattle.scm_runs.specs.Histories.{EachEntry, LawOfAnswers, LawOfStates}

pub state_none : (l : Limits) (f : Flat) → state l f [] ≡ f
unfolding state
state_none l f = refl

state_of_behind : (l : Limits) (f : Flat) (front rest : List Entry) → run_state l f (front ++ rest) ≡ run_state l (run_state l f front) rest
state_of_behind l f [] rest = refl
state_of_behind l f (e ∷ front) rest = state_of_behind l (step_of l f e.0 e.1).flat front rest

pub state_appended : (l : Limits) (f : Flat) (front rest : List Entry) → state l f (front ++ rest) ≡ state l (state l f front) rest
unfolding state
state_appended l f front rest = state_of_behind l f front rest

pub state_more : (l : Limits) (f : Flat) (es : List Entry) (e : Entry) → state l f (es ++ e ∷ []) ≡ (step_of l (state l f es) e.0 e.1).flat
unfolding state
state_more l f es e = state_of_behind l f es (e ∷ [])

pub told : (l : Limits) (f : Flat) (front : List Entry) (e : Entry) (rest : List Entry)
    → answer l f (front ++ e ∷ rest) (length front) ≡ Some (step_of l (state l f front) e.0 e.1).answer
unfolding answer state
told l f [] e rest = refl
told l f (first ∷ front) e rest = told l (step_of l f first.0 first.1).flat front e rest

pub none_told : (l : Limits) (f : Flat) (es : List Entry) (place : ℕ) → length es ≤ place → answer l f es place ≡ None
unfolding answer
none_told l f [] place far = refl
none_told l f (e ∷ es) zero far = absurd (omega (arith, far))
none_told l f (e ∷ es) (suc place) far = none_told l (step_of l f e.0 e.1).flat es place (omega (arith, far))

-- where `state` has to be opened
pub state_is : (l : Limits) (f : Flat) (es : List Entry) → state l f es ≡ run_state l f es
unfolding state
state_is l f es = refl

pub states : (l : Limits) (f : Flat) → LawOfStates l f
states l f = record { none = state_none l f; more = state_more l f; appended = state_appended l f }

pub answers : (l : Limits) (f : Flat) → LawOfAnswers l f
answers l f = record { told = told l f; none = none_told l f }

-- ## Legal histories

pub made_front : (l : Limits) (f : Flat) (front rest : List Entry) → IsLegal l f (front ++ rest) → IsLegal l f front
made_front l f [] rest legal = tt
made_front l f (e ∷ front) rest legal = (legal.0, made_front l (step_of l f e.0 e.1).flat front rest legal.1)

pub made_more : (l : Limits) (f : Flat) (es : List Entry) (e : Entry) → IsLegal l f es → IsTrue (may l (run_state l f es) e.0 e.1)
    → IsLegal l f (es ++ e ∷ [])
made_more l f [] e legal ok = (ok, tt)
made_more l f (first ∷ es) e legal ok = (legal.0, made_more l (step_of l f first.0 first.1).flat es e legal.1 ok)

pub legal_made : (l : Limits) (f : Flat) (es : List Entry) → Legal l f es → IsLegal l f es
unfolding Legal
legal_made l f es legal = legal.made

-- an entry may be made in the state that the front ends in
pub may_behind : (l : Limits) (f : Flat) (front : List Entry) (e : Entry) (rest : List Entry) → IsLegal l f (front ++ e ∷ rest)
    → IsTrue (may l (run_state l f front) e.0 e.1)
may_behind l f [] e rest legal = legal.0
may_behind l f (first ∷ front) e rest legal = may_behind l (step_of l f first.0 first.1).flat front e rest legal.1

-- ## What each step of a run has

at_front : (P : Flat → Entry → Answer → Flat → Type 0) (l : Limits) (f : Flat) (front : List Entry) (e : Entry) (rest : List Entry)
    → EachStep P l f (front ++ e ∷ rest)
    → P (run_state l f front) e (step_of l (run_state l f front) e.0 e.1).answer (step_of l (run_state l f front) e.0 e.1).flat
at_front P l f [] e rest each = each.0
at_front P l f (first ∷ front) e rest each = at_front P l (step_of l f first.0 first.1).flat front e rest each.1

at_step : (P : Flat → Entry → Answer → Flat → Type 0) (l : Limits) (f : Flat) (front : List Entry) (e : Entry) (rest : List Entry)
    → EachStep P l f (front ++ e ∷ rest)
    → P (state l f front) e (step_of l (state l f front) e.0 e.1).answer (step_of l (state l f front) e.0 e.1).flat
unfolding state
at_step P l f front e rest each = at_front P l f front e rest each

pub same_answer : (a b : Answer) → Some a ≡ Some b → a ≡ b
same_answer a b is = cc

-- so each entry has it, between the states before and behind it and with what it was told
pub at_entry : (P : Flat → Entry → Answer → Flat → Type 0) (l : Limits) (f : Flat) (es : List Entry) → EachStep P l f es
    → EachEntry P l f es
at_entry P l f es each front e rest reply split is =
    let step = step_of l (state l f front) e.0 e.1 in
    let same = same_answer step.answer reply (sym (told l f front e rest) ∙ ap (λ all. answer l f all (length front)) (sym split) ∙ is) in
    subst (λ r. P (state l f front) e r (state l f (front ++ e ∷ []))) same
    (subst (λ after. P (state l f front) e step.answer after) (sym (state_more l f front e))
    (at_step P l f front e rest (subst (EachStep P l f) split each)))
