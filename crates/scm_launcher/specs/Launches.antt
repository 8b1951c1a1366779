-- The outcome of a look of the launcher.
use Rattle.std.specs.Prelude.{ℕ, ◌≡◌}
use Rattle.scm_model.specs.declared.flat.Phase.TheVariants as phases
use Rattle.book_rule.specs.declared.view.Opening.{Opening}
use Rattle.book_rule.specs.Seats.{Identity}
use Rattle.scm_book.specs.Joins.{accompanied, fresh}
use Rattle.scm_book.specs.Passes.{HoldsProcess, IsOf, Known}
use Rattle.child_runner.specs.declared.launching.LaunchEnd.TheVariants as ends
use Rattle.child_runner.specs.Launches.{Launches, Spawning}
use Rattle.scm_launcher.specs.declared.children.Child.{Child}
use Rattle.scm_launcher.specs.declared.children.Next.{Next}
use Rattle.scm_launcher.specs.declared.children.Next.TheVariants as nexts

-- the pass of a child is responsible for it, and the other one is a runner's; both are of the book
pub record IsHanded {L F : Type 0} (b : Identity) (child : Child L F) : Type 0 where
  pub book : IsOf b child.taken
  pub nobody : child.taken.caller ≡ 0
  pub process : HoldsProcess b.opening child.taken child.process phases.Launched
  pub other : IsOf b child.other
  pub runner : child.other.caller ≡ 0

abbrev pub Hands : {L F : Type 0} → Identity → Next L F → Type 0
Hands b (nexts.Child child) = IsHanded b child
Hands b next = Unit {0}

module _ (o : Opening) (tells : ℕ → Type 0) where
  -- The process was launched, which left the pass that did it so. It stays with the child; the pass for the controls and the launcher's
  -- next one are new, and have seen as much.
  pub record IsLaunched {L F : Type 0} (pid : L → ℕ) (gives : L → F → Type 0) (k : Known) (s : Spawning) (child : Child L F)
      (k' : Known) : Type 0 where
    pub launched : Known
    pub launches : Launches o tells pid gives k s (ends.Started child.process child.link child.feed) launched
    pub taken : child.taken ≡ accompanied launched
    pub other : child.other ≡ fresh launched
    pub goes : k' ≡ fresh launched

  abbrev pub LooksOn : {L F : Type 0} → (L → ℕ) → (L → F → Type 0) → Known → Spawning → Next L F → Known → Type 0
  LooksOn pid gives k s (nexts.Child child) k' = IsLaunched pid gives k s child k'
  LooksOn pid gives k s (nexts.Failed process code) k' = Launches o tells pid gives k s (ends.Failed process code) k'
  LooksOn pid gives k s nexts.Empty k' = Launches o tells pid gives k s ends.Empty k'
