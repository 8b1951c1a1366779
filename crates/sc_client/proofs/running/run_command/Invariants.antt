use Rattle.std.proofs.Common.{◌≡◌, ◌≤◌, ◌*◌, false}
use Rattle.sc_client.specs.Along.{read_so_far}
use Rattle.sc_client.specs.Talks.{is_over}
use Rattle.sc_client.proofs.WholeRuns.{SoFar}
use Rattle.sc_client.proofs.running.run_command.Given as goal

abbrev pub invariant-loop : goal.invariant-loop
invariant-loop g l = record {
  so_far : SoFar l.fn.command l.talk l.held (g.S.Source.left l.fn.source) (g.S.Source.left l.source) (g.T.Sink.held l.fn.sink)
      (g.T.Sink.held l.sink);
  goes : is_over l.fn.command l.talk ≡ false;
  small : read_so_far l.held ≤ 4096 * l.counter;
  source : g.S.Source.faults l.source ≡ g.S.Source.faults l.fn.source;
  sink : g.T.Sink.faults l.sink ≡ g.T.Sink.faults l.fn.sink;
}
