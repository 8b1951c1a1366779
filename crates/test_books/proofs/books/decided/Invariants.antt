use Rattle.scm_book.specs.Passes.{HasPlan, IsOf}
use Rattle.test_books.proofs.books.decided.Given as goal

abbrev pub invariant-loop : goal.invariant-loop
invariant-loop g l = record {
  book : IsOf l.book l.caller;
  plan : HasPlan l.book.opening l.caller l.plan;
}
