use Rattle.std.proofs.Common.{ap, sym, Result, Err}
use Rattle.record_journal.specs.declared.keeper.KeepFault.{KeepFault}
use Rattle.scm_book.proofs.Steps.{keeps_failed, keeps_kept}
use Rattle.scm_book.specs.Ghosts.{ghosts_of}
use Rattle.scm_book.proofs.held.Held.keep.Goals as goal

pub returns-in-Ok-clause-keeps : goal.returns-in-Ok-clause-keeps
returns-in-Ok-clause-keeps g c =
    let ghosts = ghosts_of g.K.Keeper.held g.K.Keeper.faults g.K.Keeper.settled g.K.Keeper.crashes
    g.K.Keeper.are_crashes g.K.Keeper.asked in
    keeps_kept ghosts c.args.self.now _ c.args.step.now c.in-Some.change.now
    (sym c.in-Some.ensures) c.append.ensures.moments c.append.ensures.asked c.in-Ok.ensures.ok c.append.ensures.grows
    c.in-Ok.ensures.settled

pub returns-in-Err-Failed-clause-keeps : goal.returns-in-Err-Failed-clause-keeps
returns-in-Err-Failed-clause-keeps g c =
    let ghosts = ghosts_of g.K.Keeper.held g.K.Keeper.faults g.K.Keeper.settled g.K.Keeper.crashes
    g.K.Keeper.are_crashes g.K.Keeper.asked in
    let wrapped : KeepFault → Result (Unit {0}) KeepFault = λ fault. Err fault in
    keeps_failed ghosts c.args.self.now _ c.args.step.now c.in-Some.change.now (sym c.in-Some.ensures)
    c.append.ensures.moments c.append.ensures.asked
    (c.in-Err-Failed.ensures.lost (ap wrapped c.in-Err-Failed.field-0-is))
    (c.in-Err-Failed.ensures.cause (ap wrapped c.in-Err-Failed.field-0-is))
