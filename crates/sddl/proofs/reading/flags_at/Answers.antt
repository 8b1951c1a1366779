use Rattle.sddl.proofs.Bits.{flags_small}
use Rattle.sddl.proofs.reading.flags_at.Goals as goal

pub overflow_cast-result : goal.overflow_cast-result
overflow_cast-result c = record { fits = rw c.bits_at-flags.ensures.value (flags_small c.args.text.now c.args.place) }
