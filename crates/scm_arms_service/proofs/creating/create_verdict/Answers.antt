use Rattle.std.proofs.Common.{ℕ, ◌≡◌, subst}
use Rattle.std.specs.Prelude.{IfOk}
use Rattle.scm_arms_service.proofs.Judging.{create_denied, create_goes_on, create_wrong}
use Rattle.scm_arms_service.proofs.creating.create_verdict.Goals as goal

pub returns-then-denied-ne0 : goal.returns-then-denied-ne0
returns-then-denied-ne0 c =
    create_denied c.args.limits.now c.args.tables.now.flat c.args.caller c.args.new.now c.right_verdict-denied.result
    c.right_verdict-denied.ensures c.if-denied-ne0.true

pub returns-then-wrong-ne0 : goal.returns-then-wrong-ne0
returns-then-wrong-ne0 c =
    create_wrong c.args.limits.now c.args.tables.now.flat c.args.caller c.args.new.now c.args.config.now c.right_verdict-denied.result
    c.in_ok-wrong.wrong c.requires
    c.right_verdict-denied.ensures c.if-denied-ne0.false c.in_ok-wrong.ensures c.if-wrong-ne0.true

pub returns : goal.returns
returns c =
    subst (λ (verdict : ℕ). IfOk c.place_verdict.result (λ code. code ≡ verdict))
    (create_goes_on c.args.limits.now c.args.tables.now.flat c.args.caller c.args.new.now c.args.config.now c.right_verdict-denied.result
    c.in_ok-wrong.wrong c.requires
    c.right_verdict-denied.ensures c.if-denied-ne0.false c.in_ok-wrong.ensures c.if-wrong-ne0.false)
    c.place_verdict.ensures
