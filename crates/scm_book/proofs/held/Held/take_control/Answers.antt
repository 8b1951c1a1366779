use Rattle.std.proofs.Common.{sym}
use Rattle.scm_book.proofs.Handing.{handed_over}
use Rattle.scm_book.proofs.ReportsMade.{next_there}
use Rattle.scm_book.specs.Ghosts.{ghosts_of}
use Rattle.scm_book.proofs.held.Held.take_control.Goals as goal

pub unreachable-requires : goal.unreachable-requires
unreachable-requires g c =
    next_there c.args.self.now.manager.flat c.prepare.new.self.manager.flat c.args.process c.in_ok-kept.ensures.ok.none.flat
    c.requires.may (sym c.in_default.ensures)

pub returns-clause-ok : goal.returns-clause-ok
returns-clause-ok g c =
    let ghosts = ghosts_of g.K.Keeper.held g.K.Keeper.faults g.K.Keeper.settled g.K.Keeper.crashes
    g.K.Keeper.are_crashes g.K.Keeper.asked in
    handed_over ghosts c.args.self.now c.prepare.new.self c.finish.new.self c.args.process
    c.args.moment
    c.in_ok-kept.kept c.args.control.now.step c.requires.step c.in_ok-kept.ensures.ok c.args.name.now c.write_name.new.name
    c.finish.new.answer (record { order = c.in-Some.order; shared = c.shares-shared.result }) c.finish.ensures.grows
    c.finish.ensures.journal c.finish.ensures.keeper c.finish.ensures.room
    (record { order = sym c.in-Some.ensures; shared = c.shares-shared.ensures; name = c.write_name.ensures })
