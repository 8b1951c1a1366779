use Rattle.std.proofs.Common.{arith, sym}
use Rattle.service_listing.proofs.Measured.{length_behind, size_behind}
use Rattle.service_listing.proofs.sizes.count.Goals as goal

pub overflow_cast-result : goal.overflow_cast-result
overflow_cast-result c =
    let is = size_behind c.args.services.now in
    omega (arith, is, c.requires)

pub returns : goal.returns
returns c = sym (length_behind c.args.services.now)
