use Rattle.std.proofs.Common.{arith}
use Rattle.std.proofs.lemmas.Grind.{common_steps}
use Rattle.service_record.proofs.Halves.{unpaired_so, is_unpaired}
use Rattle.service_record.proofs.lines.is_broken.Goals as goal

pub returns-then-not-is_low : goal.returns-then-not-is_low
unfolding is_unpaired
returns-then-not-is_low c = grind (arith, common_steps, unpaired_so c.args.units.now)

pub returns-then-is_low : goal.returns-then-is_low
unfolding is_unpaired
returns-then-is_low c = grind (arith, common_steps, unpaired_so c.args.units.now)

pub returns : goal.returns
unfolding is_unpaired
returns c = grind (arith, common_steps, unpaired_so c.args.units.now)
