use Rattle.std.proofs.Common.{arith}
use Rattle.sec_desc.proofs.Sizes.{size_from, size_of_none}
use Rattle.sec_desc.proofs.writing.size_of_aces.Goals as goal

pub loop-ace-preserved : goal.loop-ace-preserved
loop-ace-preserved c = omega (
  arith,
  c.loop-ace.invariant,
  c.size_of_ace-size.ensures,
  size_from c.args.aces.now c.loop-ace.ace-index c.ace-item.result c.loop-ace-test.true c.ace-item.is,
)

pub returns : goal.returns
returns c = omega (arith, c.loop-ace.invariant, size_of_none c.args.aces.now c.loop-ace.ace-index c.loop-ace-test.false)
