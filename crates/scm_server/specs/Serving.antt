-- Where an acceptor stands between two of its steps.
use Rattle.std.specs.Prelude.{ℕ, ◌≡◌, ◌≢◌, ◌+◌, ◌++◌, ◌||◌, Bool, true, false, List, length, map, Option, Some, IfSome, option_map}
use Rattle.scm_model.specs.declared.flat.Principal.{Principal}
use Rattle.scm_rules.specs.Histories.{Legal}
use Rattle.scm_rules.specs.Named.{has_made}
use Rattle.scm_rules.specs.Opening.{IsOpening}
use Rattle.book_rule.specs.declared.view.Opening.{Opening}
use Rattle.book_rule.specs.Ways.{Has}
use Rattle.scm_book.specs.Passes.{Known}
use Rattle.scm_server.specs.Handling.{Handed, IsHandled}
use Rattle.scm_server.specs.Pairs.{Each, Pairwise}
use Rattle.scm_server.specs.Ports.{AreHandedOut, GoesFar, IsHandedOut, IsSentAt, Told}
use Rattle.scm_server.specs.Works.{HasJoined, Out}

-- its pass, its listener, the connections at work, and whether there was no memory for one
pub record Stand : Type 0 where
  pub by : Known
  pub told : Told
  pub outs : List Out
  pub is_short : Bool

abbrev pub stand : Known → Told → List Out → Bool → Stand
stand by told outs is_short = record { by = by; told = told; outs = outs; is_short = is_short }

-- what tells a connection from others
pub record Mark : Type 0 where
  pub number : ℕ
  pub caller : Option ℕ

abbrev pub mark_of : Handed → Mark
mark_of h = record { number = h.past.number; caller = h.caller }

abbrev pub mark_at_work : Out → Mark
mark_at_work w = record { number = w.number; caller = Some w.pass.caller }

-- neither their numbers are the same, nor their callers
pub record Differ (a b : Mark) : Type 0 where
  pub numbers : a.number ≢ b.number
  pub callers : (caller : ℕ) → a.caller ≡ Some caller → b.caller ≡ Some caller → ⊥

-- it was handed out since, and the history made its caller
pub record IsKnown (o : Opening) (l : Told) (s : Stand) (mark : Mark) (given : Option (List ℕ)) : Type 0 where
  pub handed : IsHandedOut l s.told mark.number given
  pub made : IfSome mark.caller (λ caller. has_made o.limits o.first caller s.by.seen ≡ true)

-- what was handed out since the beginning: some of it is past and noted, and the rest is at work
pub record Serves (tells : ℕ → Type 0) (o : Opening) (principal : Principal) (by : Known) (l : Told) (s : Stand) : Type 0 where
  pub goes : GoesFar o by s.by
  pub handed : List Handed
  pub count : s.told.accepted ≡ l.accepted + (length handed + length s.outs)
  pub left : AreHandedOut (length handed + length s.outs) l.left s.told.left
  pub noted : s.told.noted ≡ option_map (λ ps. ps ++ map (λ (h : Handed). h.past) handed) l.noted
  pub listened : s.told.listened ≡ l.listened
  pub known : Each (λ h. IsKnown o l s (mark_of h) h.given) handed
  pub known_at_work : Each (λ w. IsKnown o l s (mark_at_work w) w.given) s.outs
  pub differ : Pairwise (λ g h. Differ (mark_of g) (mark_of h)) handed
  pub differ_at_work : Pairwise (λ v w. Differ (mark_at_work v) (mark_at_work w)) s.outs
  pub differ_both : (h : Handed) → Has h handed → (w : Out) → Has w s.outs → Differ (mark_of h) (mark_at_work w)
  pub handled : s.is_short ≡ false → Each (IsHandled tells o s.by.seen principal) handed
  pub joined : Each (HasJoined tells o principal) s.outs
  -- what the pass has seen is legal where it saw one of them join
  pub legal : Each (λ w. Legal o.limits o.first s.by.seen) s.outs

-- whatever came before, it goes on from one stand to the next
abbrev pub GoesOn : (ℕ → Type 0) → Opening → Principal → (s s' : Stand) → Type 0
GoesOn tells o principal s s' = IsOpening o.limits o.first → (by : Known) (l : Told) → Serves tells o principal by l s
    → Serves tells o principal by l s'

-- it goes on, for any principal of its connections; memory is short if it was before, or if there was none for one of these
abbrev pub Continues : (tells : ℕ → Type 0) → Opening → (by : Known) → Told → List Out → (by' : Known) → Told → List Out → (is_short : Bool)
    → Type 0
Continues tells o by told outs by' told' outs' is_short =
    (principal : Principal) (before : Bool) → GoesOn tells o principal (stand by told outs before)
    (stand by' told' outs' (before || is_short))

-- ## Its steps

-- a connection came
pub record HasCome (l l' : Told) (at : ℕ) (given : Option (List ℕ)) : Type 0 where
  pub number : at ≡ l.accepted
  pub accepted : l'.accepted ≡ l.accepted + 1
  pub left : AreHandedOut 1 l.left l'.left
  pub sent : IsSentAt l.left 0 given
  pub noted : l'.noted ≡ l.noted
  pub listened : l'.listened ≡ l.listened

-- nothing changed of a listener but what it noted
pub record OnlyNotes (l l' : Told) : Type 0 where
  pub same : l' ≡ record l { noted = l'.noted }
