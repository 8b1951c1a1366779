use Rattle.sddl.proofs.Fitting.{known_short, long_short}
use Rattle.sddl.proofs.sids.sid_at.Goals as goal

pub returns-in_ok-place-clause-short : goal.returns-in_ok-place-clause-short
returns-in_ok-place-clause-short c = long_short c.long_at.result c.args.text.now c.in_ok-place.place c.long_at.ensures.read

pub returns-else-begins-clause-short : goal.returns-else-begins-clause-short
returns-else-begins-clause-short c = known_short c.known_at.result c.args.text.now c.args.place c.known_at.ensures.read
