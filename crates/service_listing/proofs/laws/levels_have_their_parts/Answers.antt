use Rattle.service_listing.proofs.Placing.{levels_placed}
use Rattle.service_listing.proofs.laws.levels_have_their_parts.Goals as goal

pub returns : goal.returns
returns c = levels_placed
