use Rattle.std.proofs.Common.{sym, ◌∙◌}
use Rattle.sc_words.specs.Values.{name_at}
use Rattle.sc_words.proofs.Lists.{names_more, names_stop, names_end, on_ok}
use Rattle.sc_words.proofs.values.names_of.Goals as goal

pub returns-in_default : goal.returns-in_default
returns-in_default c =
    sym (names_stop name_at c.args.words.now c.loop-word.word-index _ c.loop-word.names c.loop-word-test.true (sym c.in_ok-name.ensures
    ∙ c.in_default.is)) ∙ c.loop-word.invariant

pub loop-word-preserved : goal.loop-word-preserved
loop-word-preserved c =
    names_more name_at c.args.words.now c.loop-word.word-index _ c.loop-word.names c.push.new.self c.in-Some.name c.loop-word-test.true
    (sym c.in_ok-name.ensures ∙ c.in-Some.is)
    (on_ok c.push.result c.push.ensures.ok (sym c.if-is_err.ensures.value))
    ∙ c.loop-word.invariant

pub returns : goal.returns
returns c = sym (names_end name_at c.args.words.now c.loop-word.word-index c.loop-word.names c.loop-word-test.false) ∙ c.loop-word.invariant
