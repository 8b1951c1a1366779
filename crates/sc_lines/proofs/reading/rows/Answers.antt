use Rattle.std.proofs.Common.{◌-◌, sym, ◌∙◌}
use Rattle.std.proofs.lemmas.Bool.{lt-ltb, le-ltb}
use Rattle.sc_lines.proofs.Rows.{pushed, rows_more, rows_end, rows_full}
use Rattle.sc_lines.proofs.reading.rows.Goals as goal

pub returns-then-rest-size : goal.returns-then-rest-size
returns-then-rest-size c =
    sym (rows_end c.args.size (c.args.most - c.loop.counter) c.loop.found.items c.loop.rest.now (lt-ltb _ _ c.if-rest-size.true))
    ∙ c.loop.invariant

pub loop-preserved : goal.loop-preserved
loop-preserved c =
    rows_more c.args.size c.args.most c.loop.counter c.loop.found.items c.push.new.self.items c.split_at.result.0 c.loop.rest.now
    c.split_at.result.1.now c.loop-test.true
    (le-ltb _ _ c.if-rest-size.false) c.split_at.ensures.front c.split_at.ensures.back
    (pushed c.push.result _ _ _ c.push.ensures.items (sym c.if-is_err.ensures.value))
    ∙ c.loop.invariant

pub returns : goal.returns
returns c = sym (rows_full c.args.size c.args.most c.loop.counter c.loop.found.items c.loop.rest.now c.loop-test.false) ∙ c.loop.invariant
