use Rattle.std.proofs.Common.{Some, inr, refl}
use Rattle.scmd_top.proofs.Filed.{opens_file}
use Rattle.scm_replay.specs.Outcomes.{standing}
use Rattle.scmd_top.specs.Sides.{side}
use Rattle.scmd_top.proofs.Replays.{answered_over, complete_over}
use Rattle.scmd_top.proofs.lines.answer_over.Goals as goal

pub returns-in-Ok-clause-complete : goal.returns-in-Ok-clause-complete
returns-in-Ok-clause-complete g c =
    let how = c.replay-how in
    rw c.status_of_replay.ensures
    (complete_over how.result
    (record {
      input = side g.I.Source.left g.I.Source.faults c.args.input.now how.new.input;
      output = side g.O.Sink.held g.O.Sink.faults c.args.output.now how.new.output;
      keeper = side g.K.Keeper.held g.K.Keeper.faults c.args.keeper.now c.open_stored.new.keeper;
    })
    _ (standing how.new.manager) c.in-Ok.ensures.opens how.ensures.replayed how.ensures.cause)

pub returns-in-Ok-clause-run : goal.returns-in-Ok-clause-run
returns-in-Ok-clause-run g c =
    let how = c.replay-how in
    rw c.status_of_replay.ensures
    (answered_over how.result
    (record {
      input = side g.I.Source.left g.I.Source.faults c.args.input.now how.new.input;
      output = side g.O.Sink.held g.O.Sink.faults c.args.output.now how.new.output;
      keeper = side g.K.Keeper.held g.K.Keeper.faults c.args.keeper.now c.open_stored.new.keeper;
    })
    _ (standing how.new.manager) c.in-Ok.ensures.opens how.ensures.replayed how.ensures.cause)

pub returns-in-Ok-clause-settled : goal.returns-in-Ok-clause-settled
returns-in-Ok-clause-settled g c = λ was. inr c.in-Ok.ensures.settled

pub returns-in-Ok-clause-file : goal.returns-in-Ok-clause-file
returns-in-Ok-clause-file g c =
    opens_file (Some c.args.path.now) (g.K.Keeper.asked c.args.keeper.now) (g.K.Keeper.asked c.open_stored.new.keeper)
    (g.K.Keeper.asked c.open_stored.new.keeper) c.status_of_replay.result c.in-Ok.ensures.asked refl
