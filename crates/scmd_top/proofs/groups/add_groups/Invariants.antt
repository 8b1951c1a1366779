use Rattle.std.proofs.Common.{◌≡◌, List, ℕ, map}
use Rattle.std.specs.Borrow.{Bor}
use Rattle.std.specs.List.{flat_map}
use Rattle.scmd_top.specs.Groups.{group_named}
use Rattle.scmd_top.proofs.groups.add_groups.Given as goal

-- those of the names so far
abbrev pub invariant-loop-name : goal.invariant-loop-name
invariant-loop-name l = l.groups ≡ flat_map group_named (map (λ (x : Bor (List ℕ)). x.now) l.yielded)
