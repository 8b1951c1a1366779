use Rattle.std.proofs.Common.{◌≡◌, ◌+◌, ◌++◌, drop, map}
use Rattle.service_listing.specs.Layout.{records_bytes}
use Rattle.service_listing.specs.Sizes.{names_sizes}
use Rattle.service_listing.proofs.writing.put_records.Given as goal

-- with the records that are left they are all records, and the names come to the same place
abbrev pub invariant-loop-service : goal.invariant-loop-service
invariant-loop-service l =
    let rows = map (λ s. s.now) l.services in
    let left = map (λ s. s.now) (drop l.service-index l.services) in
    record {
      bytes : l.out ++ records_bytes l.place left ≡ l.initial.out ++ records_bytes l.first rows;
      places : l.place + names_sizes left ≡ l.first + names_sizes rows;
    }
