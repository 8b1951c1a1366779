-- The changes of a history that were kept.
use Rattle.std.proofs.Common.{◌≡◌, ◌∙◌, List, [], ◌∷◌, ◌++◌, ap, sym, refl, None}
use Rattle.std.proofs.lemmas.List.{append_assoc, append-nil}
use Rattle.scm_model.specs.declared.flat.Flat.{Flat}
use Rattle.scm_model.specs.declared.flat.Limits.{Limits}
use Rattle.scm_model.specs.declared.steps.Change.{Change}
use Rattle.scm_model.specs.declared.steps.Kept.TheVariants as appended
use Rattle.scm_model.specs.Entries.{Entry, with_kept}
use Rattle.scm_rules.specs.Runs.{run_state}
use Rattle.scm_rules.specs.Steps.{step_of}
use Rattle.scm_runs.proofs.Histories.{state_is}
use Rattle.scm_history.specs.Kept.{LawOfKept, kept_change, kept_changes, one_or_none}
use Rattle.scm_rules.specs.Verdicts.{change_of}
use Rattle.scm_model.specs.declared.steps.Step.{Step}
use Rattle.scm_model.specs.declared.steps.Step.TheVariants.{Call}

kept_behind : (l : Limits) (f : Flat) (front rest : List Entry) → kept_changes l f (front ++ rest) ≡ kept_changes l f front
    ++ kept_changes l (run_state l f front) rest
unfolding kept_changes
kept_behind l f [] rest = refl
kept_behind l f (e ∷ front) rest =
    let after = (step_of l f e.0 e.1).flat in
    let one = one_or_none (kept_change l f e.1) in
    ap (λ (changes : List Change). one ++ changes) (kept_behind l after front rest)
    ∙ sym (append_assoc one (kept_changes l after front) (kept_changes l (run_state l after front) rest))

kept_one : (l : Limits) (g : Flat) (e : Entry) → kept_changes l g (e ∷ []) ≡ one_or_none (kept_change l g e.1)
unfolding kept_changes
kept_one l g e = append-nil (one_or_none (kept_change l g e.1))

kept_none : (l : Limits) (f : Flat) → kept_changes l f [] ≡ []
unfolding kept_changes
kept_none l f = refl

was_kept : (l : Limits) (g : Flat) (step : Step) → kept_change l g (with_kept step appended.Kept) ≡ change_of l g step
was_kept l g (Call caller asked append) = refl
was_kept l g step = refl

has_failed : (l : Limits) (g : Flat) (step : Step) → kept_change l g (with_kept step appended.Failed) ≡ None
has_failed l g (Call caller asked append) = refl
has_failed l g step = refl

not_asked : (l : Limits) (g : Flat) (step : Step) → kept_change l g (with_kept step appended.NotAsked) ≡ None
not_asked l g (Call caller asked append) = refl
not_asked l g step = refl

pub law_of_kept : (l : Limits) (f : Flat) → LawOfKept l f
law_of_kept l f = record {
  kept = was_kept l;
  failed = has_failed l;
  unasked = not_asked l;
  none = kept_none l f;
  more = λ es e. kept_behind l f es (e ∷ [])
      ∙ ap (λ (changes : List Change). kept_changes l f es ++ changes) (kept_one l (run_state l f es) e
      ∙ ap (λ g. one_or_none (kept_change l g e.1)) (sym (state_is l f es)));
}
