use Rattle.std.proofs.Common.{◌≡◌, ◌++◌, drop, map}
use Rattle.std.specs.List.{flat_map}
use Rattle.service_listing.specs.Layout.{names_bytes}
use Rattle.service_listing.proofs.writing.put_names.Given as goal

-- with the names that are left they are all names
abbrev pub invariant-loop-service : goal.invariant-loop-service
invariant-loop-service l = l.out ++ flat_map names_bytes (map (λ s. s.now) (drop l.service-index l.services)) ≡ l.initial.out
    ++ flat_map names_bytes (map (λ s. s.now) l.services)
