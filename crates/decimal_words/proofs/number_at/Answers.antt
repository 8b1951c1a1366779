use Rattle.std.proofs.Common.{refl, sym}
use Rattle.decimal_words.proofs.Numbers.{number_begun, number_told}
use Rattle.decimal_words.proofs.number_at.Goals as goal

pub returns-then-begins_well : goal.returns-then-begins_well
returns-then-begins_well c =
    let begun = c.if-begins_well.ensures.yes refl in
    number_told c.args.text.now c.digits_at.result begun.0 begun.1 c.digits_at.ensures.some c.digits_at.ensures.none

pub returns-else-begins_well : goal.returns-else-begins_well
returns-else-begins_well c = sym (number_begun c.args.text.now (c.if-begins_well.ensures.no refl))
