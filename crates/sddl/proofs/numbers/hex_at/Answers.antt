use Rattle.sddl.proofs.Loops.{digits_pass}
use Rattle.sddl.proofs.numbers.hex_at.Goals as goal

pub hex_number-requires : goal.hex_number-requires
hex_number-requires c = rw c.digits_at-digits.ensures.digits (digits_pass 16 c.args.text.now c.args.place)
