use Rattle.std.proofs.Common.{◌∙◌, ◌<◌, sym, ap, subst, filter, not, length, List, arith}
use Rattle.scm_model.specs.declared.flat.HandleRow.{HandleRow}
use Rattle.handle_table.specs.Handled.{is_owned_by}
use Rattle.handle_table.proofs.Counting.{held_row, none_his, others_stay, fewer, stays_none}
use Rattle.handle_table.proofs.table.HandleTable.run_down.Goals as goal

pub loop-number-smaller : goal.loop-number-smaller
loop-number-smaller c =
    let rows = c.loop-number.self.rows in
    let his = held_row c.args.caller c.in-Some.number rows c.in-Some.ensures.rising c.in-Some.ensures.some in
    subst (λ (rs : List HandleRow). length rs < length rows) (sym c.remove-row.ensures.rows)
    (fewer rows his.0 c.in-Some.number c.in-Some.ensures.rising his.1)

pub loop-number-preserved : goal.loop-number-preserved
loop-number-preserved c =
    let rows = c.loop-number.self.rows in
    let his = held_row c.args.caller c.in-Some.number rows c.in-Some.ensures.rising c.in-Some.ensures.some in
    record {
      rows = ap (filter (λ (row : HandleRow). not (is_owned_by c.args.caller row))) c.remove-row.ensures.rows
          ∙ others_stay (is_owned_by c.args.caller) rows his.0 c.in-Some.number c.in-Some.ensures.rising his.1 his.2
          ∙ c.loop-number.invariant.rows;
      next = c.remove-row.ensures.next ∙ c.loop-number.invariant.next;
      spare = omega (arith, c.loop-number.invariant.spare, c.remove-row.ensures.spare);
    }

pub returns-clause-rows : goal.returns-clause-rows
returns-clause-rows c = sym (stays_none (is_owned_by c.args.caller) c.loop-number.self.rows
    (none_his c.args.caller c.loop-number.self.rows c.in_default.ensures.none)) ∙ c.loop-number.invariant.rows
