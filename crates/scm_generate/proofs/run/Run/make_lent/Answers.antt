use Rattle.std.proofs.Common.{refl}
use Rattle.scm_generate.proofs.Along.{makes_one, open_here}
use Rattle.scm_generate.proofs.run.Run.make_lent.Goals as goal

pub act-requires-clause-may : goal.act-requires-clause-may
act-requires-clause-may c =
    let kept = c.in_ok-reserve_for.ensures.ok in
    open_here c.self.inside c.args.self.now c.reserve_for.new.self c.args.step.now c.self.view_is (rw kept refl) (rw kept refl) c.requires

pub returns : goal.returns
returns c =
    let kept = c.in_ok-reserve_for.ensures.ok in
    makes_one c.self.inside c.args.self.now c.reserve_for.new.self c.act.new.manager c.args.step.now c.launch_in.result c.self.view_is
    (rw kept refl) (rw kept refl) (rw kept refl) c.act.ensures.flat c.act.ensures.limits c.act.ensures.text c.launch_in.ensures.value
    c.requires
