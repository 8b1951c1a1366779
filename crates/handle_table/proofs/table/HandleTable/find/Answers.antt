use Rattle.std.proofs.Common.{◌∙◌, cond, sym, ap, Some, None}
use Rattle.std.proofs.lemmas.Bool.{eq-eqb, ne_eqb}
use Rattle.handle_table.proofs.Counting.{none_of, found_of}
use Rattle.handle_table.proofs.table.HandleTable.find.Goals as goal

pub returns-in_err-row-clause-row : goal.returns-in_err-row-clause-row
returns-in_err-row-clause-row c = rw (c.from_residual.ensures, ← c.self.view_is)
    (sym (none_of c.args.caller c.args.number c.self.inside.rows.items (sym c.in_err-row.ensures)))

pub returns-then-row-caller-clause-row : goal.returns-then-row-caller-clause-row
returns-then-row-caller-clause-row c =
    rw (← c.self.view_is)
    (sym (found_of c.args.caller c.args.number c.self.inside.rows.items c.in_ok-row.row.now c.len-len.ensures.rising
    (sym c.in_ok-row.ensures)
    ∙ ap (λ b. cond b (Some c.in_ok-row.row.now) None) (eq-eqb c.in_ok-row.row.now.caller c.args.caller c.if-row-caller.true)))

pub returns-else-row-caller-clause-row : goal.returns-else-row-caller-clause-row
returns-else-row-caller-clause-row c =
    rw (← c.self.view_is)
    (sym (found_of c.args.caller c.args.number c.self.inside.rows.items c.in_ok-row.row.now c.len-len.ensures.rising
    (sym c.in_ok-row.ensures)
    ∙ ap (λ b. cond b (Some c.in_ok-row.row.now) None) (ne_eqb c.in_ok-row.row.now.caller c.args.caller c.if-row-caller.false)))
