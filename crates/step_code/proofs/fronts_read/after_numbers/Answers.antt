use Rattle.std.proofs.Common.{List, arith, subst, sym, ℕ, ◌∙◌}
use Rattle.step_code.specs.Fronts.{HasFields}
use Rattle.step_code.proofs.Fronts.{plain_has}
use Rattle.step_code.proofs.fronts_read.after_numbers.Goals as goal

pub returns : goal.returns
returns c =
    let few = c.if-bytes-size.false in
    subst (λ (rest : List ℕ). HasFields c.args.opnum c.args.bytes.now rest) (sym c.split_at.ensures.back)
    (plain_has c.args.opnum c.in_ok-size.size c.args.bytes.now (sym c.plain_size.ensures ∙ c.in_ok-size.was) (omega (arith, few)))
