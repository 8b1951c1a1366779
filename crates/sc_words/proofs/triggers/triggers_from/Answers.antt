use Rattle.std.proofs.Common.{List, drop, ap, sym, subst, ◌∙◌}
use Rattle.std.specs.Prelude.{Err}
use Rattle.scm_model.specs.declared.calls.TriggerIn.{TriggerIn}
use Rattle.sc_words.specs.Along.{IsPut, with_next}
use Rattle.sc_words.specs.Places.{AnswersAs, each_from}
use Rattle.sc_words.specs.Triggers.{trigger_named}
use Rattle.sc_words.proofs.Adding.{put_more, put_stops}
use Rattle.sc_words.proofs.Lists.{before, from_begin, from_end, read_and}
use Rattle.sc_words.proofs.triggers.triggers_from.Goals as goal

pub loop-place-init : goal.loop-place-init
loop-place-init c =
    let all = each_from trigger_named c.args.start (drop c.args.start c.args.words.now) in
    ap (λ xs. before xs all) c.new-triggers.ensures ∙ from_begin all

pub returns-in-Err : goal.returns-in-Err
returns-in-Err c =
    let put = subst (λ word. IsPut c.loop-place.place (with_next c.loop-place.triggers (trigger_named word)) c.add_trigger.new.triggers
    (Err c.in-Err.fault)) c.as_str.ensures c.in-Err.ensures in
    subst (AnswersAs {A = List TriggerIn} (Err c.in-Err.fault)) c.loop-place.invariant
    (put_stops trigger_named c.args.words.now c.loop-place.place c.index-words-place.result c.loop-place.triggers c.add_trigger.new.triggers
    (read_and _ _ _ c.loop-place-test.true c.index-words-place.is) c.in-Err.fault put)

pub loop-place-preserved : goal.loop-place-preserved
loop-place-preserved c =
    put_more trigger_named c.args.words.now c.loop-place.place c.index-words-place.result c.loop-place.triggers c.add_trigger.new.triggers
    (read_and _ _ _ c.loop-place-test.true c.index-words-place.is)
    (ap (λ word. with_next c.loop-place.triggers (trigger_named word)) (sym c.as_str.ensures) ∙ c.in_default.ensures)
    ∙ c.loop-place.invariant

pub returns : goal.returns
returns c =
    sym c.loop-place.invariant
    ∙ from_end trigger_named c.args.words.now c.loop-place.place c.loop-place.triggers c.loop-place-test.false
