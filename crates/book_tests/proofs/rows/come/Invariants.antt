use Rattle.std.proofs.Common.{◌≢◌}
use Rattle.scm_book.specs.Passes.{IsOf}
use Rattle.book_tests.proofs.rows.come.Given as goal

abbrev pub invariant-loop-asked : goal.invariant-loop-asked
invariant-loop-asked g l = IsOf l.at.book.now l.pass × (l.pass.caller ≢ 0)
