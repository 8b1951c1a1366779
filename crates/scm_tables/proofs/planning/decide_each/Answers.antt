use Rattle.std.proofs.Common.{◌+◌, ◌∙◌, ap, arith, drop, List, refl, sym}
use Rattle.number_pairs.specs.declared.pairs.Pair.{Pair}
use Rattle.std.proofs.lemmas.List.{drop_all, get_or_default}
use Rattle.start_plan.specs.Decided.{aims_among, decided_in}
use Rattle.start_plan.proofs.Pending.{among_pending}
use Rattle.scm_tables.proofs.Deciding.{all_stay_after, next_target, numbers, undecided_all}
use Rattle.scm_tables.proofs.planning.decide_each.Goals as goal

pub loop-target-init : goal.loop-target-init
loop-target-init c = record { plans = refl; stay = c.requires; awaited = λ rows pending. pending; spare = omega arith }

pub loop-target-preserved : goal.loop-target-preserved
loop-target-preserved c =
    let all = c.args.targets.now in
    let code = c.args.code in
    let before = c.loop-target.plans.plans in
    record {
      plans =
          ap (decided_in (aims_among (numbers (drop (c.loop-target.target-index + 1) all))) code) c.failed.ensures.plans
          ∙ next_target all c.loop-target.target-index _ code before (omega arith)
          (get_or_default all c.loop-target.target-index _ _ (omega arith)) c.loop-target.invariant.stay
          ∙ c.loop-target.invariant.plans;
      stay = rw c.failed.ensures.plans (all_stay_after _ code before);
      awaited = λ rows pending. among_pending rows c.loop-target.plans.awaited _ (c.loop-target.invariant.awaited rows pending)
          c.failed.ensures.awaited;
      spare = omega (arith, c.failed.ensures.spare, c.loop-target.invariant.spare);
    }

pub returns : goal.returns
returns c =
    let none = drop_all c.loop-target.target-index c.args.targets.now (omega arith) in
    record {
      plans = sym (undecided_all c.args.code c.loop-target.plans.plans c.loop-target.invariant.stay)
          ∙ sym (ap (λ (ps : List Pair). decided_in (aims_among (numbers ps)) c.args.code c.loop-target.plans.plans) none)
          ∙ c.loop-target.invariant.plans;
      awaited = c.loop-target.invariant.awaited;
      spare = c.loop-target.invariant.spare;
    }
