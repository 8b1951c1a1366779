use Rattle.scm_book.specs.Passes.{IsOf}
use Rattle.book_tests.proofs.rows.join.Given as goal

abbrev pub invariant-loop : goal.invariant-loop
invariant-loop g l = IsOf l.book l.root
