use Rattle.std.proofs.Common.{ℕ, ◌≡◌, ◌++◌, ◌-◌, ◌*◌, ◌≤◌, length}
use Rattle.rpc_pdu.specs.Contexts.{contexts_of}
use Rattle.rpc_session.specs.Contexts.{results_of, AreBelow}
use Rattle.rpc_session.proofs.contexts.answer_all.Given as goal

-- the contexts that are left complete the results, and whatever is above their ids and the room is above all ids
abbrev pub invariant-loop : goal.invariant-loop
invariant-loop l =
    (l.results ++ results_of (contexts_of (l.count - l.counter) l.rest) ≡ results_of (contexts_of l.count l.contexts))
    × (length l.results ≤ 24 * l.counter)
    × ((n : ℕ) → l.room ≤ n → AreBelow n (contexts_of (l.count - l.counter) l.rest) → AreBelow n (contexts_of l.count l.contexts))
