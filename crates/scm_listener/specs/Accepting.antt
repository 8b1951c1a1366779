-- The outcome of an accept.
use Rattle.std.specs.Prelude.{ℕ, ◌≡◌, ◌≢◌, ◌≤◌, List, [], ◌∷◌, Option, None, Some, Bool, true, false, ⊤}
use Rattle.outside.specs.Causes.{Rose}
use Rattle.outside.specs.Written.{IsFresh}
use Rattle.scm_listener.specs.declared.accepted.Accepted.{Accepted}
use Rattle.scm_listener.specs.declared.accepted.Accepted.TheVariants as accept
use Rattle.scm_listener.specs.declared.accepted.Numbered.{Numbered}

-- a fact of both ends, where a connection came
abbrev pub IfConn : {I O : Type 0} → Accepted I O → (Numbered I → Numbered O → Type 0) → Type 0
IfConn (accept.Conn input output) P = P input output
IfConn accept.Closed P = ⊤
IfConn accept.Failed P = ⊤

abbrev pub is_accept_failed : {I O : Type 0} → Accepted I O → Bool
is_accept_failed accept.Failed = true
is_accept_failed accepted = false

-- how many connections came
abbrev pub came : {I O : Type 0} → Accepted I O → ℕ
came (accept.Conn input output) = 1
came accepted = 0

-- the connection that came has the number that is next, and nothing of it was read, written or failed
pub record IsNew (number at_input at_output : ℕ) (given held : Option (List ℕ)) (read_faults write_faults : ℕ) : Type 0 where
  pub input : at_input ≡ number
  pub output : at_output ≡ number
  pub unwritten : IsFresh given held
  pub unread : read_faults ≡ 0
  pub unfailed : write_faults ≡ 0

-- What the peers of the connections to come send, if it is known: the one that came was the first of them; the listener is closed
-- exactly if none is left.
abbrev pub Takes : {I O : Type 0} → (I → Option (List ℕ)) → Accepted I O → (left left_now : Option (List (List ℕ))) → Type 0
Takes sent accepted None now = now ≡ None
Takes sent (accept.Conn input output) (Some left) now =
    (first : List ℕ) × (rest : List (List ℕ)) × (left ≡ first ∷ rest) × (sent input.end ≡ Some first) × (now ≡ Some rest)
Takes sent accept.Closed (Some left) now = (left ≡ []) × (now ≡ Some [])
Takes sent accept.Failed (Some left) now = (left ≢ []) × (now ≡ Some left)

-- the count of faults never falls; it rose where the accept failed, and is the same where it didn't
pub record HasAcceptCause {I O : Type 0} (before now : ℕ) (accepted : Accepted I O) : Type 0 where
  pub grows : before ≤ now
  pub rose : is_accept_failed accepted ≡ true → Rose before now
  pub kept : is_accept_failed accepted ≡ false → now ≡ before
