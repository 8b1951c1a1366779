use Rattle.std.proofs.Common.{◌∙◌}
use Rattle.sc_top.specs.Usage.{help, usage_line}
use Rattle.sc_top.proofs.Writing.{piece_sent, piece_failed, pieces_sent}
use Rattle.sc_top.proofs.diagnostics.write_help.Goals as goal

pub loop-verb-preserved : goal.loop-verb-preserved
loop-verb-preserved g c = (
  piece_sent usage_line c.args.verbs.now c.loop-verb.verb-index _ _ _ _ c.loop-verb-test.true c.loop-verb.invariant.0
      c.in-Ok.ensures.written,
  c.in-Ok.ensures.cause.kept ∙ c.loop-verb.invariant.1,
)

pub returns-in-Err-clause-written : goal.returns-in-Err-clause-written
unfolding help
returns-in-Err-clause-written g c =
    piece_failed usage_line c.args.verbs.now c.loop-verb.verb-index _ _ _ _ c.loop-verb-test.true c.loop-verb.invariant.0
    c.in-Err.ensures.written

pub returns-clause-written : goal.returns-clause-written
unfolding help
returns-clause-written g c = pieces_sent usage_line c.args.verbs.now c.loop-verb.verb-index _ _ c.loop-verb-test.false
    c.loop-verb.invariant.0
