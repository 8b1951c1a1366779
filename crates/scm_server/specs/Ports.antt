-- The outcome of serving a port.
use Rattle.std.specs.Prelude.{ℕ, ◌≡◌, ◌≢◌, ◌≤◌, ◌<◌, ◌+◌, ◌-◌, ◌++◌, ◌⊎◌, Bool, true, false, List, [], length, map, drop, slice_get, Option}
use Rattle.std.specs.Prelude.{None, Some, IfSome, option_map}
use mathlib.Core.List.{IsPrefix}
use Rattle.outside.specs.Causes.{Rose}
use Rattle.scm_model.specs.declared.flat.Principal.{Principal}
use Rattle.scm_model.specs.Entries.{Entry}
use Rattle.scm_rules.specs.Histories.{Legal}
use Rattle.book_rule.specs.declared.view.Opening.{Opening}
use Rattle.scm_book.specs.Passes.{Known}
use Rattle.scm_listener.specs.Connections.{PastConnection}
use Rattle.scm_listener.specs.declared.listener.Listening.{Listening}
use Rattle.scm_server.specs.declared.ending.ServeEnd.{ServeEnd}
use Rattle.scm_server.specs.declared.ending.ServeEnd.TheVariants.{Ended, ListenFault, OutOfMemory}
use Rattle.scm_server.specs.Handling.{Handed, IsHandled}
use Rattle.scm_server.specs.Pairs.{Each, Pairwise}

-- what is known of a listener
pub record Told : Type 0 where
  -- what the peers of the connections to come send
  pub left : Option (List (List ℕ))
  pub accepted : ℕ
  pub noted : Option (List PastConnection)
  pub listened : Option (List Listening)
  pub faults : ℕ

abbrev pub told : Option (List (List ℕ)) → ℕ → Option (List PastConnection) → Option (List Listening) → ℕ → Told
told left accepted noted listened faults = record { left = left; accepted = accepted; noted = noted; listened = listened; faults = faults }

-- what a listener tells
abbrev pub told_by : {N : Type 0} → (left : N → Option (List (List ℕ))) → (accepted : N → ℕ) → (noted : N → Option (List PastConnection))
    → (listened : N → Option (List Listening))
    → (faults : N → ℕ) → N → Told
told_by left accepted noted listened faults l = told (left l) (accepted l) (noted l) (listened l) (faults l)

-- ## What was handed out

-- the first ones of what was left were handed out, so many
abbrev pub AreHandedOut : ℕ → (left now : Option (List (List ℕ))) → Type 0
AreHandedOut count None now = now ≡ None
AreHandedOut count (Some left) now = (count ≤ length left) × (now ≡ Some (drop count left))

-- this is what the peer at the place of what was left sends
abbrev pub IsSentAt : (left : Option (List (List ℕ))) → (place : ℕ) → (given : Option (List ℕ)) → Type 0
IsSentAt left place given = IfSome left (λ peers. given ≡ slice_get peers place)

-- a connection with this number was handed out between two moments, and its peer sends this
pub record IsHandedOut (l l' : Told) (number : ℕ) (given : Option (List ℕ)) : Type 0 where
  pub from : l.accepted ≤ number
  pub before : number < l'.accepted
  pub sent : IsSentAt l.left (number - l.accepted) given

-- The connections that a listener handed out between two moments were noted, each once, in this order. Where it listened is as it was.
pub record Hands (l l' : Told) (handed : List Handed) : Type 0 where
  pub count : l'.accepted ≡ l.accepted + length handed
  pub left : AreHandedOut (length handed) l.left l'.left
  pub each : Each (λ h. IsHandedOut l l' h.past.number h.given) handed
  pub once : Pairwise (λ g h. g.past.number ≢ h.past.number) handed
  pub noted : l'.noted ≡ option_map (λ ps. ps ++ map (λ (h : Handed). h.past) handed) l.noted
  pub listened : l'.listened ≡ l.listened

-- ## Why it ended

-- none comes any more, and nothing failed
abbrev pub IsClosed : (l l' : Told) → Type 0
IsClosed l l' = IfSome l'.left (λ left. left ≡ []) × (l'.faults ≡ l.faults)

abbrev pub HasFailed : (l l' : Told) → Type 0
HasFailed l l' = Rose l.faults l'.faults

-- it was served until none came any more, or until it failed
abbrev pub IsOver : (l l' : Told) → Type 0
IsOver l l' = IsClosed l l' ⊎ HasFailed l l'

abbrev pub EndsFor : ServeEnd → (l l' : Told) → Type 0
EndsFor Ended l l' = IsClosed l l'
EndsFor ListenFault l l' = HasFailed l l'
EndsFor OutOfMemory l l' = IsOver l l'

abbrev pub was_short : ServeEnd → Bool
was_short OutOfMemory = true
was_short end = false

-- ## Serving it

-- no caller stands for both
abbrev pub Apart : Handed → Handed → Type 0
Apart g h = (caller : ℕ) → g.caller ≡ Some caller → h.caller ≡ Some caller → ⊥

-- a pass has seen more
pub record GoesFar (o : Opening) (by by' : Known) : Type 0 where
  pub same : by' ≡ record by { seen = by'.seen; alone = by'.alone }
  pub longer : IsPrefix by.seen by'.seen
  pub legal : Legal o.limits o.first by.seen → Legal o.limits o.first by'.seen

-- Each connection that was handed out is noted once, and unless memory ran out is one of the two cases in this history; no caller stands
-- for two of them.
pub record ServesPort (tells : ℕ → Type 0) (o : Opening) (principal : Principal) (log : List Entry) (l l' : Told)
    (is_short : Bool) : Type 0 where
  pub handed : List Handed
  pub hands : Hands l l' handed
  pub handled : is_short ≡ false → Each (IsHandled tells o log principal) handed
  pub apart : Pairwise Apart handed
