use Rattle.std.proofs.Common.{◌≢◌}
use Rattle.scm_book.specs.Passes.{IsOf}
use Rattle.test_books.proofs.books.tells.Given as goal

-- the pass is still its caller's
abbrev pub invariant-loop-asked : goal.invariant-loop-asked
invariant-loop-asked g l = record {
  book : IsOf l.at.book.now l.caller;
  caller : l.caller.caller ≢ 0;
}
