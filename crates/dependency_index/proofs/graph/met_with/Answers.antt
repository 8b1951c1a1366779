use Rattle.std.proofs.Common.{◌∙◌, sym, subst, List, ℕ}
use Rattle.number_lists.specs.Rising.{AreRising}
use Rattle.dependency_index.specs.Needs.{new_need_row}
use Rattle.scm_model.specs.Needs.{is_met}
use Rattle.dependency_index.proofs.Splitting.{added_met, rising_numbers, split_met}
use Rattle.dependency_index.proofs.graph.met_with.Goals as goal

pub below-requires : goal.below-requires
below-requires g c =
    let kept = c.in_ok-numbers.ensures in
    subst (λ (xs : List ℕ). AreRising xs) (sym kept.all) (rising_numbers (is_met c.args.need.now)
    (g.R.NeedRows.rows c.args.rows.now) kept.rising)

pub above-requires : goal.above-requires
above-requires g c =
    let kept = c.in_ok-numbers.ensures in
    subst (λ (xs : List ℕ). AreRising xs) (sym kept.all) (rising_numbers (is_met c.args.need.now)
    (g.R.NeedRows.rows c.args.rows.now) kept.rising)

pub returns-then-is_listed : goal.returns-then-is_listed
returns-then-is_listed g c =
    let kept = c.in_ok-numbers.ensures in
    let had = sym c.is_listed.ensures ∙ c.if-is_listed.true in
    rw (c.below.ensures, c.above.ensures, c.if_met-own.ensures, kept.all)
    (split_met c.args.need.now (g.R.NeedRows.rows c.args.rows.now) (new_need_row c.args.new.now) kept.rising had)

pub returns : goal.returns
returns g c =
    let kept = c.in_ok-numbers.ensures in
    let fresh = sym c.is_listed.ensures ∙ c.if-is_listed.false in
    rw (c.if_met-own.ensures, kept.all) (added_met c.args.need.now (g.R.NeedRows.rows c.args.rows.now) (new_need_row c.args.new.now) fresh)
