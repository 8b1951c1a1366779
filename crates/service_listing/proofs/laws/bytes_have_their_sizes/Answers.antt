use Rattle.service_listing.proofs.Lengths.{have_their_sizes}
use Rattle.service_listing.proofs.laws.bytes_have_their_sizes.Goals as goal

pub returns : goal.returns
returns c = have_their_sizes
