-- A child that was launched, and the passes that are handed out with it.
use Rattle.std.proofs.Common.{◌≡◌, ◌∙◌, ℕ, ap, subst, sym}
use Rattle.scm_model.specs.declared.flat.Phase.TheVariants as phases
use Rattle.book_rule.specs.declared.view.Opening.{Opening}
use Rattle.book_rule.specs.Seats.{Identity}
use Rattle.scm_book.specs.Joins.{accompanied, fresh}
use Rattle.scm_book.specs.Passes.{HoldsProcess, IsOf, Known}
use Rattle.child_runner.specs.declared.launching.LaunchEnd.TheVariants as ends
use Rattle.child_runner.specs.Launches.{Launches, Spawning}
use Rattle.scm_launcher.specs.declared.children.Child.{Child}
use Rattle.scm_launcher.specs.Launches.{IsHanded, IsLaunched}

module _ (o : Opening) (tells : ℕ → Type 0) {L F : Type 0} (pid : L → ℕ) (gives : L → F → Type 0) (k : Known) (s : Spawning) (process : ℕ)
    (link : L) (feed : F)
    (launched mid after taken other next k' : Known) (launches : Launches o tells pid gives k s (ends.Started process link feed) launched)
    (other_is : other ≡ fresh launched) (mid_is : mid ≡ accompanied launched) (next_is : next ≡ fresh mid)
    (after_is : after ≡ accompanied mid)
    (taken_is : taken ≡ after) (goes : k' ≡ next) where
  abbrev pub child : Child L F
  child = record { process = process; link = link; feed = feed; taken = taken; other = other }

  is_taken : taken ≡ accompanied launched
  is_taken = taken_is ∙ (after_is ∙ ap accompanied mid_is)

  is_next : k' ≡ fresh launched
  is_next = goes ∙ (next_is ∙ ap fresh mid_is)

  pub is_launched : IsLaunched o tells pid gives k s child k'
  is_launched = record { launched = launched; launches = launches; taken = is_taken; other = other_is; goes = is_next }

  pub next_nobody : k'.caller ≡ 0
  next_nobody = ap (λ (x : Known). x.caller) is_next

  whose : k.caller ≡ 0 → launched.caller ≡ 0
  whose nobody = launches.1.told.caller ∙ (launches.1.taken.caller ∙ nobody)

  pub is_handed : (b : Identity) → b.opening ≡ o → IsOf b launched → k.caller ≡ 0 → IsHanded b child
  is_handed b same of nobody = record {
    book = subst (IsOf b) (sym is_taken) (record { table = of.table; opening = of.opening });
    nobody = ap (λ (x : Known). x.caller) is_taken ∙ whose nobody;
    process = subst (λ (x : Known). HoldsProcess b.opening x process phases.Launched) (sym is_taken)
        (subst (λ (p : Opening). HoldsProcess p (accompanied launched) process phases.Launched) (sym same)
        (record { named = launches.2.named; listed = launches.2.listed }));
    other = subst (IsOf b) (sym other_is) (record { table = of.table; opening = of.opening });
    runner = ap (λ (x : Known). x.caller) other_is;
  }

-- where nothing was launched the launcher's pass is still nobody's
pub failed_nobody : (o : Opening) (tells : ℕ → Type 0) {L F : Type 0} (pid : L → ℕ) (gives : L → F → Type 0) (k k' : Known) (s : Spawning)
    (process code : ℕ)
    → Launches o tells pid gives k s (ends.Failed process code) k' → k.caller ≡ 0 → k'.caller ≡ 0
failed_nobody o tells pid gives k k' s process code l nobody = l.1.told.caller ∙ (l.1.taken.caller ∙ nobody)

pub empty_nobody : (o : Opening) (tells : ℕ → Type 0) {L F : Type 0} (pid : L → ℕ) (gives : L → F → Type 0) (k k' : Known) (s : Spawning)
    → Launches o tells pid gives k s ends.Empty k' → k.caller ≡ 0 → k'.caller ≡ 0
empty_nobody o tells pid gives k k' s l nobody = l.0.caller ∙ nobody
