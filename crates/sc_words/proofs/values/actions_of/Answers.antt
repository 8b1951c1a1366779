use Rattle.std.proofs.Common.{sym, ◌∙◌, arith}
use Rattle.sc_words.proofs.Lists.{actions_more, actions_stop, actions_odd, actions_end, on_ok}
use Rattle.sc_words.proofs.values.actions_of.Goals as goal

pub returns-in_default : goal.returns-in_default
returns-in_default c =
    sym (actions_stop c.args.words.now c.loop-place.place _ _ c.loop-place.actions (omega arith) (sym c.action_at.ensures
    ∙ c.in_default.is)) ∙ c.loop-place.invariant

pub loop-place-preserved : goal.loop-place-preserved
loop-place-preserved c =
    actions_more c.args.words.now c.loop-place.place _ _ c.loop-place.actions c.push.new.self c.in-Some.action (omega arith)
    (sym c.action_at.ensures ∙ c.in-Some.is)
    (on_ok c.push.result c.push.ensures.ok (sym c.if-is_err.ensures.value))
    ∙ c.loop-place.invariant

pub returns : goal.returns
returns c = sym (actions_end c.args.words.now c.loop-place.place c.loop-place.actions c.loop-place-test.false) ∙ c.loop-place.invariant

pub returns-then-place-words : goal.returns-then-place-words
returns-then-place-words c =
    sym (actions_odd c.args.words.now c.loop-place.place c.loop-place.actions c.loop-place-test.true c.if-place-words.true)
    ∙ c.loop-place.invariant
