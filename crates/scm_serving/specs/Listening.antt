-- Two listeners that are to listen.
use Rattle.std.specs.Prelude.{◌≡◌, ◌⊎◌, Result, Ok, Err}
use Rattle.outside.specs.Causes.{Rose}
use Rattle.scm_listener.specs.Connections.{and_last}
use Rattle.scm_listener.specs.declared.listener.Listening.{Listening}
use Rattle.scm_server.specs.Ports.{Told}
pub use Rattle.scm_server.specs.Ports.{told_by}

-- it listened there once, and is else as it was
abbrev pub listening_at : Told → Listening → Told
listening_at l one = record l { listened = and_last l.listened one }

-- whatever it was asked, it handed nothing out
pub record HandsNothing (l l' : Told) : Type 0 where
  pub left : l'.left ≡ l.left
  pub accepted : l'.accepted ≡ l.accepted
  pub noted : l'.noted ≡ l.noted

-- both listen, or one failed
abbrev pub ListenBoth : {E : Type 0} → (admin_at user_at : Listening) → (a a' u u' : Told) → Result (Unit {0}) E → Type 0
ListenBoth admin_at user_at a a' u u' (Ok done) = (a' ≡ listening_at a admin_at) × (u' ≡ listening_at u user_at)
ListenBoth admin_at user_at a a' u u' (Err fault) = HandsNothing a a' × HandsNothing u u'
    × (Rose a.faults a'.faults ⊎ Rose u.faults u'.faults)
