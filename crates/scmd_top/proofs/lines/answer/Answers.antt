use Rattle.std.proofs.Common.{refl}
use Rattle.scmd_top.specs.Sides.{side}
use Rattle.scmd_top.proofs.Replays.{answered_alone, complete_alone}
use Rattle.scmd_top.proofs.lines.answer.Goals as goal

pub returns-in-None-clause-complete : goal.returns-in-None-clause-complete
returns-in-None-clause-complete g c =
    let how = c.answer_lines in
    rw c.in-None.is
    (rw c.status_of_replay.ensures
    (complete_alone how.result
    (record {
      input = side g.I.Source.left g.I.Source.faults c.args.input.now how.new.input;
      output = side g.O.Sink.held g.O.Sink.faults c.args.output.now how.new.output;
      keeper = side g.K.Keeper.held g.K.Keeper.faults c.args.keeper.now c.args.keeper.now;
    })
    how.ensures.replayed how.ensures.cause))

pub returns-in-None-clause-run : goal.returns-in-None-clause-run
returns-in-None-clause-run g c =
    let how = c.answer_lines in
    rw c.in-None.is
    (rw c.status_of_replay.ensures
    (answered_alone how.result
    (record {
      input = side g.I.Source.left g.I.Source.faults c.args.input.now how.new.input;
      output = side g.O.Sink.held g.O.Sink.faults c.args.output.now how.new.output;
      keeper = side g.K.Keeper.held g.K.Keeper.faults c.args.keeper.now c.args.keeper.now;
    })
    (record { bytes = refl; faults = refl }) how.ensures.replayed how.ensures.cause))
