use Rattle.service_listing.proofs.Lengths.{is_longest}
use Rattle.service_listing.proofs.laws.pages_are_longest.Goals as goal

pub returns : goal.returns
returns c = is_longest
