use Rattle.std.proofs.Common.{drop, ap, sym, ◌∙◌}
use Rattle.sc_words.specs.Texts.{word_text}
use Rattle.sc_words.specs.Words.{texts_from}
use Rattle.sc_words.proofs.Lists.{before, from_begin, from_more, from_stop, from_end, on_ok, read_and}
use Rattle.sc_words.proofs.reading.texts_from.Goals as goal

pub loop-place-init : goal.loop-place-init
loop-place-init c =
    let all = texts_from c.args.start (drop c.args.start c.args.words.now) in
    ap (λ ts. before ts all) c.new-texts.ensures ∙ from_begin all

pub returns-in_default : goal.returns-in_default
returns-in_default c =
    sym c.loop-place.invariant
    ∙ from_stop word_text c.args.words.now c.loop-place.place _ c.loop-place.texts
    (read_and _ _ _ c.loop-place-test.true c.index-words-place.is)
    (ap word_text (sym c.as_str.ensures) ∙ sym c.in_ok-text.ensures ∙ c.in_default.is)

pub loop-place-preserved : goal.loop-place-preserved
loop-place-preserved c =
    from_more word_text c.args.words.now c.loop-place.place _ c.loop-place.texts c.push.new.self c.in-Some.text
    (read_and _ _ _ c.loop-place-test.true c.index-words-place.is)
    (ap word_text (sym c.as_str.ensures) ∙ sym c.in_ok-text.ensures ∙ c.in-Some.is)
    (on_ok c.push.result c.push.ensures.ok (sym c.if-is_err.ensures.value))
    ∙ c.loop-place.invariant

pub returns : goal.returns
returns c = sym c.loop-place.invariant ∙ from_end word_text c.args.words.now c.loop-place.place c.loop-place.texts c.loop-place-test.false
