use Rattle.std.proofs.Common.{inl}
use Rattle.scm_book.specs.Ghosts.{ghosts_of}
use Rattle.scm_pipe.proofs.Joining.{has_joined}
use Rattle.scm_pipe.proofs.Piping.{joined_end}
use Rattle.scm_pipe.proofs.alone.serve_root.Goals as goal

pub returns-in-Ok-clause-ended : goal.returns-in-Ok-clause-ended
returns-in-Ok-clause-ended g c =
    let ghosts = ghosts_of g.K.Keeper.held g.K.Keeper.faults g.K.Keeper.settled g.K.Keeper.crashes
    g.K.Keeper.are_crashes g.K.Keeper.asked in
    let o = c.args.opened.book.opening in
    let served = c.serve_connection-ended in
    let joined = has_joined (g.C.Clock.tells c.args.clock.now) o c.args.opened.pass c.in-Ok.pass c.now.result c.args.principal
    c.requires.can c.requires.root c.now.ensures c.in-Ok.ensures.ok in
    inl (joined_end ghosts
    (g.C.Clock.tells c.args.clock.now) c.args.principal o c.in-Ok.pass served.result.spent
    (g.I.Source.left c.args.input.now) (g.I.Source.left served.new.input) (g.O.Sink.held c.args.output.now)
    (g.O.Sink.held served.new.output)
    served.result.how c.finished.result joined served.ensures.connects c.finished.ensures.how c.finished.ensures.kept)
