use Rattle.std.proofs.Common.{arith}
use Rattle.service_listing.proofs.Measured.{size_behind}
use Rattle.service_listing.proofs.writing.listing.Goals as goal

pub overflow_cast-services : goal.overflow_cast-services
overflow_cast-services c =
    let is = size_behind c.args.services.now in
    omega (arith, is, c.requires)

pub overflow_mul-services : goal.overflow_mul-services
overflow_mul-services c =
    let is = size_behind c.args.services.now in
    omega (arith, is, c.requires)

pub put_records-requires : goal.put_records-requires
put_records-requires c =
    let is = size_behind c.args.services.now in
    omega (arith, is, c.requires)
