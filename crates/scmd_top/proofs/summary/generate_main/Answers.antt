use Rattle.scmd_top.specs.Sides.{side}
use Rattle.scmd_top.proofs.Summaries.{summed_up}
use Rattle.scmd_top.proofs.summary.generate_main.Goals as goal

pub returns-clause-complete : goal.returns-clause-complete
returns-clause-complete g c =
    let how = c.generate-how in
    rw c.status_of_generate.ensures
    (summed_up how.result (side g.O.Sink.held g.O.Sink.faults c.args.world.output how.new.output) how.ensures.cause)
