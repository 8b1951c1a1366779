use Rattle.std.proofs.Common.{◌∙◌, ap, arith, refl, subst}
use Rattle.std.specs.Str.Parse.{AllDigits, digits_value}
use Rattle.std.proofs.lemmas.Int.Digits.{digits_more, digits_value_more}
use Rattle.std.proofs.lemmas.List.{take_all}
use Rattle.decimal_words.proofs.Numbers.{digit_lost}
use Rattle.decimal_words.proofs.digits_at.Goals as goal

pub loop-digit-init : goal.loop-digit-init
loop-digit-init c = (tt, refl, omega arith)

pub loop-digit-preserved : goal.loop-digit-preserved
loop-digit-preserved c =
    let (all, is, small) = c.loop-digit.invariant in
    let (digit, more, fits) = c.in_ok-number.ensures.some in
    let text = c.args.text.now in
    let i = c.loop-digit.digit-index in (
      digits_more 10 text i c.loop-digit-test.true all digit,
      omega (arith, more, is, digits_value_more 10 text i c.loop-digit-test.true),
      fits,
    )

pub returns-in_err-number-clause-none : goal.returns-in_err-number-clause-none
returns-in_err-number-clause-none c =
    rw c.from_residual.ensures (digit_lost c.args.text.now c.loop-digit.digit-index c.loop-digit.number c.loop-digit-test.true
    c.loop-digit.invariant.1 c.in_err-number.ensures.none)

pub returns-clause-some : goal.returns-clause-some
returns-clause-some c =
    let whole = take_all c.loop-digit.digit-index c.args.text.now c.loop-digit-test.false in
    (subst (AllDigits 10) whole c.loop-digit.invariant.0, c.loop-digit.invariant.1 ∙ ap (digits_value 10) whole, c.loop-digit.invariant.2)
