use Rattle.std.proofs.Common.{◌∙◌, false, sym, true}
use Rattle.scm_tables.proofs.Currents.{found_with, none_with}
use Rattle.scm_tables.proofs.service_rows.current_with.Goals as goal

pub returns-in_err-row : goal.returns-in_err-row
returns-in_err-row c = rw c.from_residual.ensures
    (sym (none_with c.args.number c.args.process c.args.rows.now.services c.requires (sym c.in_err-row.ensures)))

pub returns-then-is_by : goal.returns-then-is_by
returns-then-is_by c = sym (found_with c.args.number c.args.process c.args.rows.now.services c.in_ok-row.row.now true c.requires
    (sym c.in_ok-row.ensures) (sym c.is_by.ensures ∙ c.if-is_by.true))

pub returns-else-is_by : goal.returns-else-is_by
returns-else-is_by c = sym (found_with c.args.number c.args.process c.args.rows.now.services c.in_ok-row.row.now false c.requires
    (sym c.in_ok-row.ensures) (sym c.is_by.ensures ∙ c.if-is_by.false))
