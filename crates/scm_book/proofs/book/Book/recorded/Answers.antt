use Rattle.std.proofs.Common.{◌∙◌, ap, refl}
use Rattle.scm_trail.specs.Trailed.{no_entries}
use Rattle.scm_book.proofs.Opening.{is_new, new_holds, new_runs}
use Rattle.scm_book.specs.Ghosts.{ghosts_of}
use Rattle.scm_book.proofs.book.Book.recorded.Goals as goal

pub new-requires-clause-run : goal.new-requires-clause-run
new-requires-clause-run g c =
    let ghosts = ghosts_of g.K.Keeper.held g.K.Keeper.faults g.K.Keeper.settled g.K.Keeper.crashes
    g.K.Keeper.are_crashes g.K.Keeper.asked in
    new_runs ghosts c.new-held.result
    (is_new ghosts c.new-held.result c.args.manager no_entries
    c.args.journal c.args.keeper
    c.new-held.ensures.manager c.new-held.ensures.trail (ap (λ (r : _). r.at) c.new-held.ensures.recorder ∙ c.requires.at) c.new-held.ensures.journal c.new-held.ensures.keeper
    c.requires.begins c.requires.small c.requires.steps c.requires.text c.requires.journal c.requires.settled refl)

pub new-requires-clause-fits : goal.new-requires-clause-fits
new-requires-clause-fits g c =
    let ghosts = ghosts_of g.K.Keeper.held g.K.Keeper.faults g.K.Keeper.settled g.K.Keeper.crashes
    g.K.Keeper.are_crashes g.K.Keeper.asked in
    new_holds ghosts c.new-held.result
    (is_new ghosts c.new-held.result c.args.manager no_entries
    c.args.journal c.args.keeper
    c.new-held.ensures.manager c.new-held.ensures.trail (ap (λ (r : _). r.at) c.new-held.ensures.recorder ∙ c.requires.at) c.new-held.ensures.journal c.new-held.ensures.keeper
    c.requires.begins c.requires.small c.requires.steps c.requires.text c.requires.journal c.requires.settled refl)
