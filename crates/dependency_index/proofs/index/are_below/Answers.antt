use Rattle.std.proofs.Common.{◌∙◌, ap, not, sym, true≢false}
use Rattle.std.specs.Prelude.{is_some}
use Rattle.dependency_index.proofs.Shelves.{all_below, below_fresh, none_above}
use Rattle.dependency_index.proofs.index.are_below.Goals as goal

pub returns-then-not-is_listed-clause-yes : goal.returns-then-not-is_listed-clause-yes
returns-then-not-is_listed-clause-yes c = λ yes. all_below c.args.number c.args.rows.now.items
    (sym c.is_listed.ensures ∙ c.if-not-is_listed.true) (ap is_some (sym c.after.ensures) ∙ c.is_none.ensures ∙ ap not yes)

pub returns-then-not-is_listed-clause-no : goal.returns-then-not-is_listed-clause-no
returns-then-not-is_listed-clause-no c = λ no below. true≢false
    (sym (ap is_some (sym c.after.ensures) ∙ c.is_none.ensures ∙ ap not no) ∙ none_above c.args.number c.args.rows.now.items below)

pub returns-else-not-is_listed-clause-no : goal.returns-else-not-is_listed-clause-no
returns-else-not-is_listed-clause-no c = λ no below. true≢false
    (sym c.if-not-is_listed.false ∙ c.is_listed.ensures ∙ below_fresh c.args.number c.args.rows.now.items below)
