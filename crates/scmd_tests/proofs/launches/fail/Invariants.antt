use Rattle.std.proofs.Common.{◌≢◌}
use Rattle.scm_book.specs.Passes.{IsOf}
use Rattle.scmd_tests.proofs.launches.fail.Given as goal

-- the passes are still of the book
abbrev pub invariant-loop-code : goal.invariant-loop-code
invariant-loop-code g l = record {
  book : IsOf l.at.book.now l.caller;
  caller : l.caller.caller ≢ 0;
  runner : IsOf l.at.book.now l.runner;
}
