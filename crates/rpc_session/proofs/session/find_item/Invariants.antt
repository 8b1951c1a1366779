use Rattle.std.proofs.Common.{length, ◌≤◌, ◌-◌, ◌≡◌, Some}
use Rattle.std.specs.Prelude.{IfSome}
use Rattle.rpc_session.specs.Items.{TellSame, Seen, front_fault, ahead_by}
use Rattle.rpc_session.specs.Moves.{HasJoined}
use Rattle.rpc_session.specs.Replies.{FitsSize}
use Rattle.rpc_session.proofs.session.find_item.Given as goal

abbrev pub invariant-loop-item : goal.invariant-loop-item
invariant-loop-item l =
    TellSame (ahead_by l.state l.stream l.ahead) (ahead_by l.fn.state l.stream l.fn.ahead)
    × (FitsSize l.fn.state.terms → FitsSize l.state.terms)
    × IfSome l.fn.state.terms (λ terms. l.state.terms ≡ Some terms)
    × (l.fn.ahead ≤ l.ahead)
    × (l.ahead ≤ length l.stream.rest)
    × HasJoined l.fn.state l.state
    × IfSome (front_fault (ahead_by l.fn.state l.stream l.fn.ahead)) (λ _. ◌≡◌ {A = Seen} (ahead_by l.state l.stream l.ahead)
    (ahead_by l.fn.state l.stream l.fn.ahead))

abbrev pub decreases-loop-item : goal.decreases-loop-item
decreases-loop-item l = length l.stream.rest - l.ahead
