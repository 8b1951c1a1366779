use Rattle.std.proofs.Common.{◌≡◌, false, rules}
use Rattle.scm_book.specs.Ringing.{rings_common}
use Rattle.scm_book.proofs.Stirring.{stirs_nobody}
use Rattle.scm_book.proofs.bells.rings_common.Goals as goal

-- src/ringing.rt:51:1
pub returns-in-Joined-clause-quiet : goal.returns-in-Joined-clause-quiet
returns-in-Joined-clause-quiet c = λ _.
    let is : rings_common c.args.step.now ≡ false = search rules in stirs_nobody c.args.step.now is

pub returns-in-Joined-5-clause-quiet : goal.returns-in-Joined-5-clause-quiet
returns-in-Joined-5-clause-quiet c = λ _.
    let is : rings_common c.args.step.now ≡ false = search rules in stirs_nobody c.args.step.now is

pub returns-in-Call-clause-quiet : goal.returns-in-Call-clause-quiet
returns-in-Call-clause-quiet c = λ e.
    let is : rings_common c.args.step.now ≡ false = search rules in stirs_nobody c.args.step.now is
