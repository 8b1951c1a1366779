use Rattle.std.proofs.Common.{sym, ◌∙◌}
use Rattle.sc_words.proofs.Pairs.{pairs_end}
use Rattle.sc_words.proofs.settings.settings_from.Goals as goal

pub returns : goal.returns
returns c = sym c.loop-place.invariant ∙ pairs_end c.args.verb c.loop-place.place c.loop-place.settings c.args.words.now
    c.loop-place-test.false
