-- What a pass has seen after what it had seen, and the passes that a child leaves.
use Rattle.std.specs.Prelude.{◌≡◌}
use mathlib.Core.List.{IsPrefix}
use Rattle.scm_rules.specs.Histories.{Legal}
use Rattle.book_rule.specs.declared.view.Opening.{Opening}
use Rattle.book_rule.specs.Seats.{Identity}
use Rattle.scm_book.specs.Passes.{IsOf, Known}
use Rattle.scm_launcher.specs.declared.children.Child.{Child}
use Rattle.scm_launcher.specs.declared.children.Next.{Next}
use Rattle.scm_launcher.specs.declared.children.Next.TheVariants as nexts
use Rattle.scm_launcher.specs.declared.launcher.SpentPasses.{SpentPasses}
use Rattle.scm_launcher.specs.Launches.{IsHanded}

-- what the pass has seen is legal
abbrev pub SawLegal : Opening → Known → Type 0
SawLegal o k = Legal o.limits o.first k.seen

-- a pass that is nobody's has seen all that it had seen, and something legal if that was legal
pub record SeesOn (o : Opening) (k k' : Known) : Type 0 where
  pub longer : IsPrefix k.seen k'.seen
  pub legal : SawLegal o k → SawLegal o k'
  pub nobody : k'.caller ≡ 0

-- the child is handed out, and what the pass for its controls has seen is legal
pub record IsReady {L F : Type 0} (b : Identity) (child : Child L F) : Type 0 where
  pub handed : IsHanded b child
  pub legal : SawLegal b.opening child.other

abbrev pub IfReady : {L F : Type 0} → Identity → Next L F → Type 0
IfReady b (nexts.Child child) = IsReady b child
IfReady b next = Unit {0}

-- both passes are of the book, and what they have seen is legal
pub record IsPast (b : Identity) (past : SpentPasses) : Type 0 where
  pub child : IsOf b past.child
  pub child_legal : SawLegal b.opening past.child
  pub controls : IsOf b past.controls
  pub controls_legal : SawLegal b.opening past.controls
