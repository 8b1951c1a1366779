use Rattle.std.proofs.Common.{◌≡◌, ◌+◌, ◌*◌, take, arith}
use Rattle.std.specs.Str.Parse.{digits_value}
use Rattle.std.proofs.lemmas.Int.Digits.{digits_value_more}
use Rattle.sddl.proofs.Loops.{hex_small}
use Rattle.sddl.proofs.numbers.hex_number.Goals as goal

pub overflow_mul-number : goal.overflow_mul-number
overflow_mul-number c =
    let ds = c.args.digits.now in
    let i = c.loop-digit.digit-index in
    let so_far : c.loop-digit.number ≡ digits_value 16 (take i ds) = c.loop-digit.invariant in
    let more = digits_value_more 16 ds i c.loop-digit-test.true in
    record { fits = omega (arith, hex_small ds (i + 1) c.requires c.if-digits-gt8.false, more, so_far) }

pub overflow_add-number : goal.overflow_add-number
overflow_add-number c =
    let ds = c.args.digits.now in
    let i = c.loop-digit.digit-index in
    let so_far : c.loop-digit.number ≡ digits_value 16 (take i ds) = c.loop-digit.invariant in
    record {
      fits = omega (
        arith,
        hex_small ds (i + 1) c.requires c.if-digits-gt8.false,
        digits_value_more 16 ds i c.loop-digit-test.true,
        so_far,
        c.from.ensures,
        c.digit_value.ensures,
      );
    }

pub loop-digit-preserved : goal.loop-digit-preserved
loop-digit-preserved c =
    let ds = c.args.digits.now in
    let i = c.loop-digit.digit-index in
    let so_far : c.loop-digit.number ≡ digits_value 16 (take i ds) = c.loop-digit.invariant in
    let more : c.loop-digit.number * 16 + c.from.result ≡ digits_value 16 (take (i + 1) ds) =
    omega (arith, digits_value_more 16 ds i c.loop-digit-test.true, so_far, c.from.ensures, c.digit_value.ensures) in
    more
