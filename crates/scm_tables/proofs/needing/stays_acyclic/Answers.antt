use Rattle.std.proofs.Common.{◌≡◌, subst}
use Rattle.scm_model.specs.declared.flat.NeedRow.{NeedRow}
use Rattle.scm_model.specs.Needs.{with_row}
use Rattle.scm_model.specs.Order.{is_cyclic}
use Rattle.scm_rules.specs.Needs.{need_row_of}
use Rattle.scm_tables.proofs.NeedRows.{found_free}
use Rattle.scm_tables.proofs.needing.stays_acyclic.Goals as goal

pub returns-clause-after : goal.returns-clause-after
returns-clause-after c =
    let rows = c.args.index.now.rows in
    found_free c.closes_cycle.result (with_row rows (need_row_of c.args.number c.args.config.now))
    (subst (λ (row : NeedRow). c.closes_cycle.result ≡ is_cyclic (with_row rows row)) c.row_of.ensures c.closes_cycle.ensures)
