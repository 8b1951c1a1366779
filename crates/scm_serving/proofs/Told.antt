-- What listeners tell once they were asked to listen.
use Rattle.std.proofs.Common.{ℕ, ◌≡◌, List, Option, refl}
use Rattle.scm_listener.specs.Connections.{PastConnection, and_last}
use Rattle.scm_listener.specs.declared.listener.Listening.{Listening}
use Rattle.scm_server.specs.Ports.{Told, told}
use Rattle.scm_serving.specs.Listening.{HandsNothing, listening_at}

pub listens : (l l' : Told) (one : Listening) → l'.left ≡ l.left → l'.accepted ≡ l.accepted → l'.noted ≡ l.noted
    → l'.listened ≡ and_last l.listened one → l'.faults ≡ l.faults
    → l' ≡ listening_at l one
listens l l' one left accepted noted listened faults =
    let parts : told l'.left l'.accepted l'.noted l'.listened l'.faults ≡ told l.left l.accepted l.noted
    (and_last l.listened one) l.faults = cc in
    parts
