use Rattle.scm_book.specs.Ghosts.{ghosts_of}
use Rattle.scm_book.specs.Holds.{begun_with}
use Rattle.scm_pipe.proofs.Joining.{can_join}
use Rattle.scm_pipe.proofs.Piping.{complete_at, finds_room_at}
use Rattle.scm_pipe.proofs.alone.serve_alone.Goals as goal

pub serve_root-requires-clause-can : goal.serve_root-requires-clause-can
serve_root-requires-clause-can g c =
    let ghosts = ghosts_of g.K.Keeper.held g.K.Keeper.faults g.K.Keeper.settled g.K.Keeper.crashes
    g.K.Keeper.are_crashes g.K.Keeper.asked in
    can_join c.in-Ok-new.opened.book.opening
    (begun_with ghosts c.args.manager.limits c.args.manager.flat c.args.journal c.args.keeper) c.args.principal
    c.in-Ok-new.ensures.ok.0 c.requires.begins c.requires.place c.requires.room

pub returns-in-Ok-new-clause-complete : goal.returns-in-Ok-new-clause-complete
returns-in-Ok-new-clause-complete g c =
    let ghosts = ghosts_of g.K.Keeper.held g.K.Keeper.faults g.K.Keeper.settled g.K.Keeper.crashes
    g.K.Keeper.are_crashes g.K.Keeper.asked in
    let served = c.serve_root in
    complete_at ghosts (g.C.Clock.tells c.args.clock.now) c.args.principal
    c.args.manager.limits
    c.args.manager.flat c.args.journal
    (g.I.Source.left c.args.input.now) (g.I.Source.left served.new.input) (g.O.Sink.held c.args.output.now)
    (g.O.Sink.held served.new.output)
    (g.I.Source.faults c.args.input.now) (g.I.Source.faults served.new.input) (g.O.Sink.faults c.args.output.now)
    (g.O.Sink.faults served.new.output) c.args.keeper served.result
    c.in-Ok-new.opened.book.opening c.in-Ok-new.ensures.ok.0 served.ensures.ended served.ensures.cause

pub returns-in-Ok-new-clause-room : goal.returns-in-Ok-new-clause-room
returns-in-Ok-new-clause-room g c =
    let ghosts = ghosts_of g.K.Keeper.held g.K.Keeper.faults g.K.Keeper.settled g.K.Keeper.crashes
    g.K.Keeper.are_crashes g.K.Keeper.asked in
    let served = c.serve_root in
    finds_room_at ghosts (g.C.Clock.tells c.args.clock.now) c.args.principal
    c.args.manager.limits
    c.args.manager.flat c.args.journal
    (g.I.Source.left c.args.input.now) (g.I.Source.left served.new.input) (g.O.Sink.held c.args.output.now)
    (g.O.Sink.held served.new.output) c.args.keeper served.result
    c.in-Ok-new.opened.book.opening c.in-Ok-new.ensures.ok.0 served.ensures.ended
