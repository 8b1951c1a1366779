use Rattle.std.proofs.Common.{◌-◌, ◌^◌, ◌∙◌, ap, arith, min}
use Rattle.scm_rules.specs.Room.{owed_by_due}
use Rattle.start_plan.specs.Owed.{total}
use Rattle.scm_tables.specs.Tabled.{Tabled}
use Rattle.scm_tables.proofs.Permuted.{counted_all}
use Rattle.scm_tables.proofs.tables.Tables.owed_by_dues.Goals as goal

pub returns : goal.returns
returns c =
    let l = c.loop-row in
    let f = c.args.self.now.flat in
    counted_all (owed_by_due f) l.owed l.row-index (2 ^ 64 - 1) c.self.inside.dues.rows c.as_slice-row-items.result.now
    c.as_slice-row-items.ensures (omega arith) l.invariant.most l.invariant.counted
    ∙ ap (λ (t : Tabled). min (total (owed_by_due f) t.flat.dues) (2 ^ 64 - 1)) c.self.view_is
