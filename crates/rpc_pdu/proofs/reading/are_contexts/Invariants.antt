use Rattle.std.proofs.Common.{◌≡◌, ◌-◌}
use Rattle.rpc_pdu.specs.Contexts.{after_contexts}
use Rattle.rpc_pdu.proofs.reading.are_contexts.Given as goal

-- what stands behind the contexts that are left is what stands behind all of them
abbrev pub invariant-loop : goal.invariant-loop
invariant-loop l = after_contexts (l.count - l.counter) l.rest ≡ after_contexts l.count l.bytes
