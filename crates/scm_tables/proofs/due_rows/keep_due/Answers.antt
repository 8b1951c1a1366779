use Rattle.std.proofs.Common.{◌∙◌, rules}
use Rattle.std.specs.List.{list_any}
use Rattle.start_plan.specs.Settle.{is_undecided}
use Rattle.scm_tables.proofs.Placed.{plans_kept}
use Rattle.scm_tables.proofs.due_rows.keep_due.Goals as goal

pub returns : goal.returns
returns c =
    let plans = c.args.plans.now.plans in
    c.keep_plans.ensures (λ n. list_any (is_undecided n) plans) (λ plan answer told. search rules) ∙ plans_kept plans c.args.dues.now
