use Rattle.std.proofs.Common.{◌≡◌, ◌∙◌, Some, ap, arith, drop, refl}
use Rattle.std.specs.Prelude.{slice_get}
use Rattle.scm_model.specs.declared.flat.Plan.{Plan}
use Rattle.start_plan.proofs.Fronts.{drop_front}
use Rattle.start_plan.proofs.row.PlanRow.pass.Goals as goal

pub overflow_sub-self : goal.overflow_sub-self
overflow_sub-self c =
    let front : slice_get (drop c.self.inside.at c.self.inside.entries.items) 0 ≡ Some c.args.service =
    ap (λ (p : Plan). slice_get p.entries 0) c.self.view_is ∙ c.requires in
    let d = drop_front c.self.inside.tried.items c.self.inside.entries.items c.self.inside.at c.args.service front in
    rw (c.untried_at.ensures, c.as_slice.ensures.value, c.self.invariant.left) (omega (arith, d.left))

pub invariant_of-self : goal.invariant_of-self
invariant_of-self c =
    let front : slice_get (drop c.self.inside.at c.self.inside.entries.items) 0 ≡ Some c.args.service =
    ap (λ (p : Plan). slice_get p.entries 0) c.self.view_is ∙ c.requires in
    let d = drop_front c.self.inside.tried.items c.self.inside.entries.items c.self.inside.at c.args.service front in
    record {
      at = d.at;
      left = rw (c.untried_at.ensures, c.as_slice.ensures.value, c.self.invariant.left) (omega (arith, d.left));
      room = omega (arith, c.self.invariant.room);
    }

pub returns : goal.returns
returns c =
    let front : slice_get (drop c.self.inside.at c.self.inside.entries.items) 0 ≡ Some c.args.service =
    ap (λ (p : Plan). slice_get p.entries 0) c.self.view_is ∙ c.requires in
    let d = drop_front c.self.inside.tried.items c.self.inside.entries.items c.self.inside.at c.args.service front in
    rw (← c.self.view_is, d.drops) refl
