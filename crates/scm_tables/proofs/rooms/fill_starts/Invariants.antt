use Rattle.std.proofs.Common.{◌-◌, ◌≤◌, length}
use Rattle.std.specs.Prelude.{All}
use Rattle.scm_tables.specs.Rooms.{IsStartRoom}
use Rattle.scm_tables.proofs.rooms.fill_starts.Given as goal

-- all are rooms, and none has gone
abbrev pub invariant-loop-alloc : goal.invariant-loop-alloc
invariant-loop-alloc l = record {
  rooms : All (IsStartRoom l.services) l.rooms.items;
  more : length l.fn.rooms.items ≤ length l.rooms.items;
}

abbrev pub decreases-loop-alloc : goal.decreases-loop-alloc
decreases-loop-alloc l = l.count - length l.rooms.items
