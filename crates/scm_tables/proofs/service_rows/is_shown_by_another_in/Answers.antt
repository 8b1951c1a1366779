use Rattle.std.proofs.Common.{◌∙◌, ◌==◌, not, ap}
use Rattle.std.specs.List.{list_any}
use Rattle.record_table.specs.Recorded.{is_displayed, is_named}
use Rattle.scm_tables.proofs.Showing.{or_else, or_then, other_or}
use Rattle.scm_tables.proofs.service_rows.is_shown_by_another_in.Goals as goal

pub returns-then-has_other : goal.returns-then-has_other
returns-then-has_other c =
    let text = c.args.text.now in
    or_then _ _ _ _ (c.has_other.ensures ∙ ap (list_any (λ other. not (other == c.args.number))) c.named.ensures.numbers)
    c.if-has_other.true
    (other_or c.args.number (is_named text) (is_displayed text) c.args.rows.now.services)

pub returns-else-has_other : goal.returns-else-has_other
returns-else-has_other c =
    let text = c.args.text.now in
    or_else _ _ _ _ _ (c.has_other.ensures ∙ ap (list_any (λ other. not (other == c.args.number))) c.named.ensures.numbers)
    c.if-has_other.false
    (c.has_other-else-has_other.ensures ∙ ap (list_any (λ other. not (other == c.args.number))) c.displayed.ensures.numbers)
    (other_or c.args.number (is_named text) (is_displayed text) c.args.rows.now.services)
