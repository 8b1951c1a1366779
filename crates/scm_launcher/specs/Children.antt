-- A child whose link is dropped when it has ended.
use Rattle.std.specs.Prelude.{ℕ, Bool, List, Option}
use Rattle.book_rule.specs.declared.view.Opening.{Opening}
use Rattle.scm_book.specs.Passes.{Known}
use Rattle.child_runner.specs.declared.served.ChildServed.{ChildServed}
use Rattle.child_runner.specs.Serving.{IsWhole, IsEndedFor, ServesChild}

module _ (tells : ℕ → Type 0) (o : Opening) (process : ℕ) {L : Type 0} (left : L → Option (List ℕ)) (faults : L → ℕ) (ended : L
    → Option Bool) where
  -- a child was served from its first byte to its end; last is its link as it was dropped
  pub record ServesLink (link : L) (k : Known) (how : ChildServed) (k' : Known) : Type 0 where
    pub last : L
    pub serves : ServesChild tells o process k k' (left link) (left last) (faults link) (faults last) how
    pub cause : IsEndedFor how (ended last) (faults link) (faults last)
    pub complete : IsWhole tells o process k k' (left link) (faults link) (faults last) how
