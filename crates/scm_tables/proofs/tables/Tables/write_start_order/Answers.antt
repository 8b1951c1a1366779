use Rattle.std.proofs.Common.{◌≡◌, ◌∙◌, ap, sym, subst, true, length, arith, List}
use Rattle.scm_model.specs.declared.flat.NeedRow.{NeedRow}
use Rattle.scm_model.specs.Needs.{numbers_of}
use Rattle.scm_model.specs.Order.{order_in}
use Rattle.scm_model.specs.Ready.{state_of}
use Rattle.scm_rules.specs.Needs.{need_rows}
use Rattle.scm_tables.specs.Tabled.{Tabled}
use Rattle.scm_tables.proofs.NeedRows.{has_row, same_length}
use Rattle.scm_text.specs.Numbers.{has}
use Rattle.scm_tables.proofs.tables.Tables.write_start_order.Goals as goal

pub order_of-requires-clause-listed : goal.order_of-requires-clause-listed
order_of-requires-clause-listed c =
    let same = c.self.invariant.index ∙ ap (λ (t : Tabled). need_rows t.flat.services) c.self.view_is in
    subst (λ (rows : List NeedRow). has (numbers_of rows) c.args.target ≡ true) (sym same)
    (has_row c.args.self.now.flat.services c.args.target c.requires.listed)

pub order_of-requires-clause-room : goal.order_of-requires-clause-room
order_of-requires-clause-room c = omega (
  arith,
  same_length c.self.inside.index.rows _ c.self.invariant.index,
  ap (λ (t : Tabled). length t.flat.services) c.self.view_is,
  c.requires.room,
)

pub returns-clause-order : goal.returns-clause-order
returns-clause-order c =
    c.order_of.ensures.order
    ∙ ap (λ (rows : List NeedRow). order_in rows (λ number. state_of c.args.self.now.flat number) c.args.target) (c.self.invariant.index
    ∙ ap (λ (t : Tabled). need_rows t.flat.services) c.self.view_is)

pub returns-clause-few : goal.returns-clause-few
returns-clause-few c = omega (
  arith,
  same_length c.self.inside.index.rows _ c.self.invariant.index,
  ap (λ (t : Tabled). length t.flat.services) c.self.view_is,
  c.order_of.ensures.few,
)
