use Rattle.scm_book.specs.Passes.{IsOf}
use Rattle.scm_launcher.proofs.Chains.{Ticked}
use Rattle.scm_launcher.proofs.ticking.tick_until.Given as goal

-- what was done so far are ticks that found room
abbrev pub invariant-loop : goal.invariant-loop
invariant-loop g l = record {
  book : IsOf l.book l.pass;
  ticks : Ticked (g.C.Clock.tells l.clock) l.book.opening l.fn.pass l.pass;
}
