use Rattle.std.proofs.Common.{false, inl}
use Rattle.std.specs.Prelude.{is_some}
use Rattle.scmd_top.specs.Sides.{side, sides_of}
use Rattle.scm_book.specs.Ghosts.{ghosts_of}
use Rattle.outside.specs.Asked.{text_of}
use Rattle.scmd_top.proofs.Connected.{come, complete_pipe, end_asked, end_settled, room_always}
use Rattle.scmd_top.proofs.Filed.{opens_file}
use Rattle.scmd_top.proofs.pipe.pipe_main.Goals as goal

pub returns-in-Ok-clause-run : goal.returns-in-Ok-clause-run
returns-in-Ok-clause-run g c =
    let how = c.serve_alone-how in
    inl (record {
      how = how.result.how;
      status_is = c.status_of.ensures;
      come = come
          (ghosts_of g.K.Keeper.held g.K.Keeper.faults g.K.Keeper.settled g.K.Keeper.crashes g.K.Keeper.are_crashes g.K.Keeper.asked)
          (g.C.Clock.tells c.args.world.clock)
          (is_some c.args.path) c.args.principal c.now-moment.result _
          (side g.I.Source.left g.I.Source.faults c.args.world.input how.new.input)
          (side g.O.Sink.held g.O.Sink.faults c.args.world.output how.new.output)
          c.args.world.keeper c.open_at.new.keeper how.result c.now-moment.ensures c.in-Ok.ensures.opens c.in-Ok.ensures.stands how.ensures.ended;
      cause = how.ensures.cause;
    })

pub returns-in-Ok-clause-complete : goal.returns-in-Ok-clause-complete
returns-in-Ok-clause-complete g c =
    let how = c.serve_alone-how in
    rw c.status_of.ensures
    (complete_pipe (is_some c.args.path) c.args.principal
    (sides_of g.I.Source.left g.I.Source.faults g.O.Sink.held g.O.Sink.faults g.K.Keeper.held g.K.Keeper.faults c.args.world
    (record {
      input = how.new.input;
      output = how.new.output;
      keeper = how.result.keeper;
      admin = c.args.world.admin;
      user = c.args.world.user;
      spawner = c.args.world.spawner;
      clock = c.args.world.clock;
    }))
    how.result.how how.ensures.complete
    (room_always (is_some c.args.path) c.args.principal c.now-moment.result _
    (side g.K.Keeper.held g.K.Keeper.faults c.args.world.keeper c.open_at.new.keeper) _ how.result.how
    c.in-Ok.ensures.opens how.ensures.room))

pub returns-in-Ok-clause-settled : goal.returns-in-Ok-clause-settled
returns-in-Ok-clause-settled g c = λ was.
    let how = c.serve_alone-how in
    end_settled (ghosts_of g.K.Keeper.held g.K.Keeper.faults g.K.Keeper.settled g.K.Keeper.crashes g.K.Keeper.are_crashes g.K.Keeper.asked)
    (g.C.Clock.tells c.args.world.clock) c.args.principal _ _
    (record { good = 0; dirty = false; form = _ })
    (g.I.Source.left c.args.world.input) (g.I.Source.left how.new.input) (g.O.Sink.held c.args.world.output) (g.O.Sink.held how.new.output)
    c.args.world.keeper c.open_at.new.keeper how.result c.in-Ok.ensures.opens.faults c.in-Ok.ensures.settled how.ensures.ended

pub returns-in-Ok-clause-file : goal.returns-in-Ok-clause-file
returns-in-Ok-clause-file g c =
    let how = c.serve_alone-how in
    opens_file (text_of c.args.path) (g.K.Keeper.asked c.args.world.keeper) (g.K.Keeper.asked c.open_at.new.keeper)
    (g.K.Keeper.asked how.result.keeper) c.status_of.result c.in-Ok.ensures.asked
    (end_asked (ghosts_of g.K.Keeper.held g.K.Keeper.faults g.K.Keeper.settled g.K.Keeper.crashes g.K.Keeper.are_crashes g.K.Keeper.asked)
    (g.C.Clock.tells c.args.world.clock) c.args.principal _ _ (record { good = 0; dirty = false; form = _ })
    (g.I.Source.left c.args.world.input) (g.I.Source.left how.new.input) (g.O.Sink.held c.args.world.output) (g.O.Sink.held how.new.output)
    c.open_at.new.keeper how.result how.ensures.ended)
