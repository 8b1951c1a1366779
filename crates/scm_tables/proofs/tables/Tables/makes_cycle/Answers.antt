use Rattle.std.proofs.Common.{◌∙◌, List, ap}
use Rattle.scm_model.specs.declared.flat.NeedRow.{NeedRow}
use Rattle.scm_model.specs.Needs.{with_row}
use Rattle.scm_model.specs.Order.{is_cyclic}
use Rattle.scm_rules.specs.Needs.{makes_cycle, need_row_of}
use Rattle.scm_tables.specs.Tabled.{Tabled}
use Rattle.scm_tables.proofs.tables.Tables.makes_cycle.Goals as goal

pub returns-then-self : goal.returns-then-self
returns-then-self c =
    c.closes_cycle.ensures
    ∙ ap (λ (row : NeedRow). is_cyclic (with_row c.self.inside.index.rows row)) c.row_of-new.ensures
    ∙ ap (λ (rows : List NeedRow). is_cyclic (with_row rows (need_row_of c.args.number c.args.config.now))) c.self.invariant.index
    ∙ ap (λ (t : Tabled). makes_cycle t.flat c.args.number c.args.config.now) c.self.view_is

pub returns : goal.returns
returns c =
    c.makes_cycle.ensures
    ∙ ap (λ (row : NeedRow). is_cyclic (with_row c.self.inside.index.rows row)) c.row_of-new.ensures
    ∙ ap (λ (rows : List NeedRow). is_cyclic (with_row rows (need_row_of c.args.number c.args.config.now))) c.self.invariant.index
    ∙ ap (λ (t : Tabled). makes_cycle t.flat c.args.number c.args.config.now) c.self.view_is

pub closes_cycle-requires-clause-acyclic : goal.closes_cycle-requires-clause-acyclic
closes_cycle-requires-clause-acyclic c = rw c.self.invariant.index (c.self.invariant.needs c.if-self.true)
