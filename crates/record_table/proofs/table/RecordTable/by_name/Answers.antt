use Rattle.std.proofs.Common.{◌∙◌, ap, List, ℕ}
use Rattle.std.specs.Prelude.{slice_get}
use Rattle.record_table.specs.Recorded.{is_named, service_at}
use Rattle.record_table.proofs.Finding.{first_is, first_row}
use Rattle.record_table.proofs.table.RecordTable.by_name.Goals as goal

pub returns-clause-number : goal.returns-clause-number
returns-clause-number c =
    rw (← c.self.view_is)
    (c.copied.ensures ∙ c.first.ensures.value ∙ ap (λ (numbers : List ℕ). slice_get numbers 0) (c.at.ensures.items
    ∙ c.self.invariant.texts.names c.args.name.now)
    ∙ first_is (is_named c.args.name.now) c.self.inside.rows.items)

pub returns-clause-row : goal.returns-clause-row
returns-clause-row c =
    rw (← c.self.view_is)
    (ap (service_at c.self.inside.rows.items)
    (c.copied.ensures ∙ c.first.ensures.value ∙ ap (λ (numbers : List ℕ). slice_get numbers 0) (c.at.ensures.items
    ∙ c.self.invariant.texts.names c.args.name.now)
    ∙ first_is (is_named c.args.name.now) c.self.inside.rows.items)
    ∙ first_row (is_named c.args.name.now) c.self.inside.rows.items c.self.invariant.rising)
