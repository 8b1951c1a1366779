use Rattle.scm_server.proofs.Named.{is_done}
use Rattle.scm_server.proofs.working.work.Goals as goal

pub returns : goal.returns
returns g c =
    let served = c.serve_connection-how in record {
      done = is_done (g.C.Clock.tells c.args.clock.now) c.args.book.now c.args.pass served.result.spent c.args.input.number
          (g.N.In.Source.left c.args.input.end) (g.N.In.Source.left served.new.input) (g.N.Out.Sink.held c.args.output.end)
          (g.N.Out.Sink.held served.new.output)
          (g.N.In.Source.faults c.args.input.end) (g.N.In.Source.faults served.new.input) (g.N.Out.Sink.faults c.args.output.end)
          (g.N.Out.Sink.faults served.new.output)
          (g.N.Listener.tells c.end-past.result) served.result.how c.end-past.ensures served.ensures.book served.ensures.connects
          served.ensures.cause;
    }
