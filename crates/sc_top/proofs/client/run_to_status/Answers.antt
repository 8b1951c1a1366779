use Rattle.sc_top.specs.Runs.{outside_of}
use Rattle.sc_top.proofs.Whole.{complete}
use Rattle.sc_top.proofs.client.run_to_status.Goals as goal

pub returns-clause-complete : goal.returns-clause-complete
returns-clause-complete g c =
    complete c.args.words.now c.args.command.now
    (outside_of (g.D.Dialer.next c.args.dialer.now) (g.D.Dialer.past c.args.dialer.now) (g.D.Dialer.past c.run-how.new.dialer)
    (g.D.Dialer.faults c.args.dialer.now) (g.D.Dialer.faults c.run-how.new.dialer)
    (g.O.Sink.held c.args.output.now) (g.O.Sink.held c.run-how.new.output) (g.O.Sink.faults c.args.output.now)
    (g.O.Sink.faults c.run-how.new.output))
    (g.E.Sink.held c.args.errors.now) (g.E.Sink.held c.finish.new.errors) (g.E.Sink.faults c.args.errors.now)
    (g.E.Sink.faults c.finish.new.errors)
    c.finish.result (record { how = c.run-how.result; run = c.run-how.ensures.run; told = c.finish.ensures })
