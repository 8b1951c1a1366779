use Rattle.journal_lasting.proofs.Lasting.{lasted_more, lasted_none}
use Rattle.journal_lasting.proofs.law.a_run_lasts.Goals as goal

pub returns-clause-opened : goal.returns-clause-opened
returns-clause-opened g c = λ s stands.
    lasted_none s (g.K.Keeper.held c.args.old.now) (g.K.Keeper.settled c.args.old.now) (g.K.Keeper.crashes c.args.old.now)
    (g.K.Keeper.are_crashes c.args.old.now) stands

pub returns-clause-more : goal.returns-clause-more
returns-clause-more g c = λ s opened outs o was turn.
    lasted_more s opened outs o (g.K.Keeper.held c.args.new.now) (g.K.Keeper.settled c.args.new.now)
    (g.K.Keeper.crashes c.args.old.now) (g.K.Keeper.crashes c.args.new.now) (g.K.Keeper.are_crashes c.args.new.now) was turn
