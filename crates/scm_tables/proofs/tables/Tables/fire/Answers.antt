use Rattle.std.proofs.Common.{refl, subst}
use Rattle.scm_model.specs.declared.flat.DueKind.{DueKind}
use Rattle.start_plan.specs.Decided.{is_numbered}
use Rattle.start_plan.proofs.Pending.{among_pending}
use Rattle.scm_tables.proofs.Fired.{start_left}
use Rattle.scm_tables.proofs.Keeping.{kept_decided, other_plans}
use Rattle.scm_tables.specs.Firing.{CanFireOne, starts_in}
use Rattle.scm_tables.proofs.tables.Tables.fire.Goals as goal

pub invariant_of-self : goal.invariant_of-self
invariant_of-self c =
    let kept = c.self.invariant in
    other_plans kept refl refl refl refl refl refl refl refl refl refl refl
    (rw c.expire.ensures.plans (kept_decided _ (is_numbered c.in-Deadline.plan) 1053 _ kept.plans))
    (among_pending c.self.inside.services.services _ _ kept.pending c.expire.ensures.awaited) kept.dues

pub returns-in-Start-clause-left : goal.returns-in-Start-clause-left
returns-in-Start-clause-left c =
    let after = c.restart.ensures in
    let can = subst (λ (kind : DueKind). CanFireOne kind c.args.self.now) c.in-Start.is c.requires in
    start_left c.in-Start.service c.args.self.now c.restart.new.self after.flat after.limits after.commands
    (after.left (starts_in c.args.self.now.flat.dues) can.starts) can
