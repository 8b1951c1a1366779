use Rattle.std.proofs.Common.{ℕ, ◌≡◌, subst}
use Rattle.std.specs.Prelude.{IfOk}
use Rattle.scm_arms_service.proofs.Judging.{row_goes_on, row_wrong}
use Rattle.scm_arms_service.proofs.changing.unmarked_verdict.Goals as goal

pub returns-then-wrong-ne0 : goal.returns-then-wrong-ne0
returns-then-wrong-ne0 c =
    row_wrong c.args.tables.now.flat c.args.change.now c.args.service.now c.in_ok-wrong.wrong c.requires.unmarked c.in_ok-wrong.ensures
    c.if-wrong-ne0.true

pub returns : goal.returns
returns c =
    subst (λ (verdict : ℕ). IfOk c.clash_verdict.result (λ code. code ≡ verdict))
    (row_goes_on c.args.tables.now.flat c.args.change.now c.args.service.now c.in_ok-wrong.wrong c.requires.unmarked c.in_ok-wrong.ensures
    c.if-wrong-ne0.false)
    c.clash_verdict.ensures
