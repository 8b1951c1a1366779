use Rattle.trail_log.proofs.Fronts.{front_of}
use Rattle.trail_log.proofs.laws.a_log_is_a_front.Goals as goal

pub returns : goal.returns
returns c = front_of
