use Rattle.std.proofs.Common.{◌≡◌, ◌+◌, ◌^◌, ◌≤◌, drop, map, min}
use Rattle.service_listing.specs.Layout.{listing_size}
use Rattle.service_listing.proofs.sizes.listing_size.Given as goal

-- with what is left it comes to what all comes to
abbrev pub invariant-loop-service : goal.invariant-loop-service
invariant-loop-service l = record {
  sum : min (2 ^ 32) (l.total + listing_size (map (λ s. s.now) (drop l.service-index l.services))) ≡ min (2 ^ 32)
      (listing_size (map (λ s. s.now) l.services));
  small : l.total ≤ 2 ^ 32;
}
