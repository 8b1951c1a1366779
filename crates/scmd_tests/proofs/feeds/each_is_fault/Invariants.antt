use Rattle.std.proofs.Common.{◌≢◌}
use Rattle.scm_book.specs.Passes.{IsOf}
use Rattle.scmd_tests.proofs.feeds.each_is_fault.Given as goal

-- the passes are still of the book
abbrev pub invariant-loop-written : goal.invariant-loop-written
invariant-loop-written g l = record {
  book : IsOf l.at.book.now l.caller;
  caller : l.caller.caller ≢ 0;
  runner : IsOf l.at.book.now l.runner;
}
