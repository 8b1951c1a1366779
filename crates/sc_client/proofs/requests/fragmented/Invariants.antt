use Rattle.std.proofs.Common.{length, ◌++◌, ◌≤◌, ◌-◌, ◌≡◌}
use Rattle.sc_client.specs.Requests.{request_fragments, fragmented}
use Rattle.sc_client.proofs.requests.fragmented.Given as goal

-- the text so far and that of what is left
abbrev pub invariant-loop : goal.invariant-loop
invariant-loop l =
    (l.text ++ request_fragments (length l.fn.body - l.counter) l.fn.call l.fn.opnum l.first l.rest ≡ fragmented l.fn.call l.fn.opnum
    l.fn.body)
    × (length l.rest ≤ length l.fn.body)
