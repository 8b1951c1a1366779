use Rattle.std.proofs.Common.{◌≢◌}
use Rattle.scm_book.specs.Passes.{IsOf}
use Rattle.book_tests.proofs.talking.talk.Given as goal

abbrev pub invariant-loop-call : goal.invariant-loop-call
invariant-loop-call g l = IsOf l.at.book.now l.pass × (l.pass.caller ≢ 0)
