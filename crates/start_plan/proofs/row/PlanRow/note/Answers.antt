use Rattle.std.proofs.Common.{arith}
use Rattle.start_plan.proofs.Fronts.{noted}
use Rattle.start_plan.proofs.row.PlanRow.note.Goals as goal

pub overflow_sub-self : goal.overflow_sub-self
overflow_sub-self c = (noted c.self.inside c.args.self.now c.args.service _ c.self.view_is c.self.invariant c.requires.front
    c.requires.fresh c.times_left.ensures).enough

pub push_reserved-requires : goal.push_reserved-requires
push_reserved-requires c =
    let n = noted c.self.inside c.args.self.now c.args.service _ c.self.view_is c.self.invariant c.requires.front c.requires.fresh
    c.times_left.ensures in
    omega (arith, n.once, n.enough, c.self.invariant.room)

pub invariant_of-self : goal.invariant_of-self
invariant_of-self c =
    let n = noted c.self.inside c.args.self.now c.args.service _ c.self.view_is c.self.invariant c.requires.front c.requires.fresh
    c.times_left.ensures in
    record {
      at = c.self.invariant.at;
      left = rw c.push_reserved.ensures.items n.rest;
      room = rw (c.push_reserved.ensures.capacity, c.push_reserved.ensures.len) (omega (arith, n.once, n.enough, c.self.invariant.room));
    }
