use Rattle.service_listing.proofs.Placing.{levels_sized}
use Rattle.service_listing.proofs.laws.levels_have_their_sizes.Goals as goal

pub returns : goal.returns
returns c = levels_sized
