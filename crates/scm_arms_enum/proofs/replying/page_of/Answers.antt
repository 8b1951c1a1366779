use Rattle.std.proofs.Common.{arith}
use Rattle.service_listing.proofs.Lengths.{page_fits}
use Rattle.service_listing.proofs.Measured.{behind}
use Rattle.scm_arms_enum.proofs.replying.page_of.Goals as goal

pub page_told-requires : goal.page_told-requires
page_told-requires c =
    let fits = page_fits c.args.size (behind c.args.rows.now) in
    rw c.fitting-given.ensures.page (omega (arith, fits, c.ranges.size.fits))
