-- What a whole run came to.
use Rattle.std.proofs.Common.{ℕ, ◌≡◌, ◌+◌, ◌≤◌, sym, List, [], ◌∷◌, length, Result, Ok, Err, ap, ◌∙◌, subst, arith}
use Rattle.std.specs.Prelude.{IfOk}
use Rattle.scm_model.specs.declared.flat.Limits.{Limits}
use Rattle.scm_rules.specs.Opening.{opening}
use Rattle.scm_rules.specs.Runs.{run_state}
use Rattle.scm_core.specs.Managed.{AreSmall}
use Rattle.scm_model.specs.Entries.{Entry, text_in}
use Rattle.scm_model.specs.Texts.{text_of}
use Rattle.scm_owed.proofs.Histories.{legal_fits}
use Rattle.scm_generate.specs.Ample.{IsAmple}
use Rattle.scm_generate.specs.Listed.{generated}
use Rattle.scm_generate.proofs.Fits.{short_text}
use Rattle.scm_generate.proofs.Whole.{ample_legal, ample_made}
use Rattle.scm_rules.specs.Steps.{step_of}
use Rattle.scm_generate.specs.Progress.{IsOpenTo, Progress, progress_after, after_one, at_first, summed_up}
use Rattle.scm_generate.specs.Summary.{four_lines, launch_in, launches, running, generated_summary}

-- the state and the counts behind a list
abbrev behind : Progress → List Entry → Progress
behind p h = record {
  flat = run_state p.limits p.flat h;
  limits = p.limits;
  steps = p.steps + length h;
  text = p.text
      + text_in h;
  launches = p.launches + launches h;
}

run_through : (p : Progress) (h : List Entry) → progress_after p h ≡ behind p h
unfolding after_one
run_through p [] =
    ap (λ n. record p { steps = n }) (omega arith) ∙ ap (λ n. record p { steps = p.steps + 0; text = n }) (omega arith)
    ∙ ap (λ n. record p { steps = p.steps + 0; text = p.text + 0; launches = n }) (omega arith)
run_through p (e ∷ es) =
    let last = run_state p.limits (step_of p.limits p.flat e.0 e.1).flat es in
    let steps : p.steps + 1 + length es ≡ p.steps + length (e ∷ es) = omega arith in
    let text : p.text + text_of e.1 + text_in es ≡ p.text + text_in (e ∷ es) = omega arith in
    let count : p.launches + launch_in e.1 + launches es ≡ p.launches + launches (e ∷ es) = omega arith in
    run_through (after_one p e) es
    ∙ ap (λ n. record {
      flat = last;
      limits = p.limits;
      steps = n;
      text = p.text + text_of e.1 + text_in es;
      launches = p.launches
          + launch_in e.1 + launches es;
    }) steps
    ∙ ap (λ n. record {
      flat = last;
      limits = p.limits;
      steps = p.steps + length (e ∷ es);
      text = n;
      launches = p.launches + launch_in e.1
          + launches es;
    }) text
    ∙ ap (λ n. record { flat = last; limits = p.limits; steps = p.steps + length (e ∷ es); text = p.text + text_in (e ∷ es); launches = n })
    count

-- what a run tells at its end is the summary of its list
pub sums_up : (l : Limits) (h : List Entry) → summed_up (progress_after (at_first l) h) ≡ generated_summary l (opening l [] [] 0) h
sums_up l h =
    let f = run_state l (opening l [] [] 0) h in
    let steps : 0 + length h ≡ length h = omega arith in
    let count : 0 + launches h ≡ launches h = omega arith in
    ap summed_up (run_through (at_first l) h)
    ∙ ap (λ n. four_lines n (length f.services) (0 + launches h) (running f.services)) steps
    ∙ ap (λ n. four_lines (length h) (length f.services) n (running f.services)) count

-- of a run from the beginning on
pub told_of : {E : Type 0} (l : Limits) (p : Progress) (h : List Entry) (r : Result (List ℕ) E) → p ≡ at_first l
    → IfOk r (λ text. text ≡ summed_up (progress_after p h)) → IfOk r (λ text. text ≡ generated_summary l (opening l [] [] 0) h)
told_of l p h (Ok text) e told = told ∙ ap (λ (q : Progress). summed_up (progress_after q h)) e ∙ sums_up l h
told_of l p h (Err fault) e told = tt

-- from the beginning on the list can be made
pub open_first : (l : Limits) (n : ℕ) (p : Progress) → AreSmall l → IsAmple l → n ≤ 512 → p ≡ at_first l → IsOpenTo p (generated n)
open_first l n p small ample few e =
    subst (λ q. IsOpenTo q (generated n)) (sym e)
    (record {
      can = ample_made l n ample few;
      steps = (let fits = legal_fits l (opening l [] [] 0) (generated n) (ample_legal l n ample few) in let most = small.steps in
          omega (arith, fits, most));
      text = (let short = short_text n few in omega (arith, short));
    })
