use Rattle.std.proofs.Common.{◌≡◌, ◌++◌, drop, map, take}
use Rattle.service_listing.specs.Pages.{left_of, page_in}
use Rattle.service_listing.proofs.sizes.fitting_of.Given as goal

-- those before fit, and those that are left have the rest of the room
abbrev pub invariant-loop-i : goal.invariant-loop-i
invariant-loop-i l =
    let rows = map (λ s. s.now) l.services in
    record {
      page : page_in l.initial.size rows ≡ take l.i rows ++ page_in l.room (drop l.i rows);
      left : left_of l.initial.size rows ≡ left_of l.room (drop l.i rows);
    }
