use Rattle.std.proofs.Common.{◌∙◌, arith}
use Rattle.record_journal.specs.Services.{configs_of}
use Rattle.record_journal.proofs.ByName.{all_moved}
use Rattle.record_journal.proofs.configs.take_all.Goals as goal

pub returns : goal.returns
returns c =
    c.from_vec.ensures
    ∙ all_moved c.loop.configs.items (configs_of c.loop.table.services) (configs_of c.args.table.now.services) c.loop.invariant.moved
    (omega (arith, c.loop.invariant.left, c.loop-test.false))
