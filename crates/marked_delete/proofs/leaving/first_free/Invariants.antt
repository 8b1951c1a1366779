use Rattle.std.proofs.Common.{◌≡◌, drop, find}
use Rattle.marked_delete.proofs.leaving.first_free.Given as goal

-- the service is among those that are left
abbrev pub invariant-loop-service : goal.invariant-loop-service
invariant-loop-service g l =
    find (g.F.Free.free l.who) l.services ≡ find (g.F.Free.free l.who) (drop l.service-index l.services)
