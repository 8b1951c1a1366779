use Rattle.std.proofs.Common.{subst, sym}
use Rattle.start_plan.specs.Asleep.{ArePending, IsPending, awaited_by, awaited_in}
use Rattle.start_plan.specs.declared.slot.PlanSlot.{PlanSlot}
use Rattle.start_plan.proofs.Next.{turn_at}
use Rattle.start_plan.proofs.Pending.{pending_settled}
use Rattle.start_plan.proofs.Slots.{each_at, each_set}
use Rattle.start_plan.proofs.settling.settle_at.Goals as goal

pub settle_slot-hosted-requires-clause-pending : goal.settle_slot-hosted-requires-clause-pending
settle_slot-hosted-requires-clause-pending g c =
    let f = g.F.Field.flat c.args.field.now in
    let slots = c.args.slots.now.items in
    let slot = c.index_mut.result.now in
    subst (λ (s : PlanSlot). ArePending f.services (awaited_by s)) (sym c.index_mut.ensures.value)
    (each_at (IsPending f.services) slots c.args.place slot c.requires.place c.requires.pending)

pub returns-clause-turn : goal.returns-clause-turn
returns-clause-turn g c =
    let slots = c.args.slots.now.items in
    let slot = c.index_mut.result.now in
    let turn = c.settle_slot-hosted.ensures in
    turn_at (g.F.Field.limits c.args.field.now) (g.F.Field.flat c.args.field.now) (g.F.Field.flat c.settle_slot-hosted.new.field) slots
    c.args.place slot c.settle_slot-hosted.new.slot c.settle_slot-hosted.result c.requires.place c.index_mut.ensures.value turn.plan
    turn.flat turn.hosted c.decide_hosted.ensures.plans

pub returns-clause-pending : goal.returns-clause-pending
returns-clause-pending g c =
    let flat = g.F.Field.flat in
    let l = g.F.Field.limits c.args.field.now in
    let f = flat c.args.field.now in
    let after = flat c.settle_slot-hosted.new.field in
    let slots = c.args.slots.now.items in
    let slot = c.index_mut.result.now in
    let turn = c.settle_slot-hosted.ensures in
    let others : ArePending after.services (awaited_in slots) = rw turn.flat
    (pending_settled l f slot.row (awaited_in slots) c.requires.pending) in
    rw c.decide_hosted.ensures.awaited (each_set (IsPending after.services) slots c.args.place c.settle_slot-hosted.new.slot others
    turn.pending)
