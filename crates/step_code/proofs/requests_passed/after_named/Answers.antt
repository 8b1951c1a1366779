use Rattle.std.proofs.Common.{sym, ◌∙◌}
use Rattle.std.proofs.lemmas.Option.{IfSome_then}
use Rattle.step_code.proofs.Passed.{named_has}
use Rattle.step_code.proofs.requests_passed.after_named.Goals as goal

pub returns : goal.returns
returns c =
    IfSome_then c.after_n4.result c.after_n4.ensures (λ rest has.
    named_has c.args.opnum c.args.bytes.now c.in_ok-name.name.now c.in_ok-number.number.now rest.now c.in_ok-name.ensures
    c.in_ok-number.ensures has (sym c.is_named.ensures ∙ c.if-not-is_named.false))
