use Rattle.std.proofs.Common.{ℕ, List}
use Rattle.std.specs.Prelude.{All}
use Rattle.scm_book.specs.Passes.{HasPlan, IsOf}
use Rattle.conn_worker.specs.Waiting.{Waits}
use Rattle.conn_worker.proofs.desk.wait.Given as goal

-- the start waits still, behind turns
abbrev pub invariant-loop : goal.invariant-loop
invariant-loop g l = record {
  book : IsOf l.book l.pass;
  plan : HasPlan l.book.opening l.pass l.plan;
  turns : List ℕ;
  told : All (g.C.Clock.tells l.clock) turns;
  waits : Waits g.W.Waiter.silent l.book.opening l.plan turns l.fn.pass l.pass;
}
