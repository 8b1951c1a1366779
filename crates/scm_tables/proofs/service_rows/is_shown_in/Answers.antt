use Rattle.std.proofs.Common.{◌∙◌, is_some, ap}
use Rattle.record_table.specs.Recorded.{is_displayed, is_named}
use Rattle.scm_tables.proofs.Showing.{any_or, or_else, or_then, some_passes}
use Rattle.scm_tables.proofs.service_rows.is_shown_in.Goals as goal

pub returns-then-is_some : goal.returns-then-is_some
returns-then-is_some c =
    let rows = c.args.rows.now.services in
    let text = c.args.text.now in
    or_then _ _ _ _ (c.is_some.ensures ∙ ap is_some c.by_name.ensures.number ∙ some_passes (is_named text) rows) c.if-is_some.true
    (any_or (is_named text) (is_displayed text) rows)

pub returns-else-is_some : goal.returns-else-is_some
returns-else-is_some c =
    let rows = c.args.rows.now.services in
    let text = c.args.text.now in
    or_else _ _ _ _ _ (c.is_some.ensures ∙ ap is_some c.by_name.ensures.number ∙ some_passes (is_named text) rows) c.if-is_some.false
    (c.is_some-else-is_some.ensures ∙ ap is_some c.by_display.ensures.number ∙ some_passes (is_displayed text) rows)
    (any_or (is_named text) (is_displayed text) rows)
