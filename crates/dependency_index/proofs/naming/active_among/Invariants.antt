use Rattle.std.proofs.Common.{◌≡◌, ◌+◌, ◌-◌, ◌^◌, ◌==◌, not, filter, length, min, take}
use Rattle.dependency_index.proofs.naming.active_among.Given as goal

-- of the services so far
abbrev pub invariant-loop-service : goal.invariant-loop-service
invariant-loop-service g l = record {
  count : l.count ≡ min (length (filter (λ service. not (g.S.StateLook.state_of l.states service == 1)) (take l.service-index l.services)))
      (2 ^ 32 - 1);
  looks : l.steps ≡ l.fn.steps + l.service-index;
}
