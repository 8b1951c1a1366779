use Rattle.std.proofs.Common.{arith, refl, subst, sym}
use Rattle.scm_model.specs.declared.flat.Flat.{Flat}
use Rattle.scm_model.specs.declared.flat.Limits.{Limits}
use Rattle.start_plan.specs.Asleep.{ArePending}
use Rattle.part_tests.proofs.Woken.{pending_set}
use Rattle.part_tests.proofs.bench.Bench.put.Goals as goal

pub returns-then-place-len : goal.returns-then-place-len
returns-then-place-len c =
    let rows = c.self.inside.services.items in
    let pending = subst (λ (b : Flat × Limits). ArePending b.0.services c.args.plans.now.awaited) (sym c.self.view_is) c.requires in
    let row = c.index_mut-row.result.now in
    rw c.wake.ensures.awaited (pending_set rows c.args.place row (record row { status = c.status-row.result })
    (omega arith) c.index_mut-row.ensures.value refl c.args.plans.now.awaited pending)
