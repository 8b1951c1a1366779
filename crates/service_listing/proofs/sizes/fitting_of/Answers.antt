use Rattle.std.proofs.Common.{arith}
use Rattle.service_listing.proofs.Measured.{behind, ends_left, ends_page, goes_left, goes_page, next}
use Rattle.service_listing.proofs.sizes.fitting_of.Goals as goal

pub returns-then-room-size-clause-page : goal.returns-then-room-size-clause-page
returns-then-room-size-clause-page c =
    let at = next c.args.services.now c.loop-i.i c.index-services-i.result (omega arith) c.index-services-i.is in
    ends_page c.args.size c.loop-i.room c.loop-i.i (behind c.args.services.now) c.index-services-i.result.now c.loop-i.invariant.page at
    (omega arith)

pub returns-then-room-size-clause-left : goal.returns-then-room-size-clause-left
returns-then-room-size-clause-left c =
    let at = next c.args.services.now c.loop-i.i c.index-services-i.result (omega arith) c.index-services-i.is in
    ends_left c.args.size c.loop-i.room c.loop-i.i (behind c.args.services.now) c.index-services-i.result.now c.loop-i.invariant.left at
    (omega arith)

pub loop-i-preserved : goal.loop-i-preserved
loop-i-preserved c =
    let rows = behind c.args.services.now in
    let at = next c.args.services.now c.loop-i.i c.index-services-i.result (omega arith) c.index-services-i.is in
    record {
      page = rw c.size_of-size.ensures.size (goes_page c.args.size c.loop-i.room c.loop-i.i rows c.index-services-i.result.now
          c.loop-i.invariant.page at (omega arith));
      left = rw c.size_of-size.ensures.size (goes_left c.args.size c.loop-i.room c.loop-i.i rows c.index-services-i.result.now
          c.loop-i.invariant.left at (omega arith));
    }
