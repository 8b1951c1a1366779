use Rattle.std.proofs.Common.{◌≡◌, ◌-◌, length}
use Rattle.rpc_pdu.specs.Contexts.{contexts_of}
use Rattle.rpc_session.specs.Contexts.{known_after, listed, AreBelow}
use Rattle.rpc_session.proofs.known.enter.Given as goal

-- the contexts that are left complete the table, and it has their ids
abbrev pub invariant-loop : goal.invariant-loop
invariant-loop l =
    (known_after (listed l.table.items) (contexts_of (l.count - l.counter) l.rest) ≡ known_after (listed l.fn.table.items)
    (contexts_of l.count l.contexts))
    × AreBelow (length l.table.items) (contexts_of (l.count - l.counter) l.rest)
