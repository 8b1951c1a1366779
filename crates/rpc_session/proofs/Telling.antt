-- What a session will tell, a PDU at a time.
use Rattle.std.proofs.Common.{◌≡◌, ℕ, zero, suc, ◌-◌, ◌+◌, ◌≤◌, List, [], ◌∷◌, ◌++◌, length, drop, refl, sym, ap, ◌∙◌, arith, append_assoc}
use Rattle.std.proofs.Common.{append-nil, subst, length-append, Bool, true, false, cond, Option, Some, None, Result, Ok, Err}
use Rattle.std.specs.Prelude.{is_some, IfSome, not, ◌&&◌, ◌==◌}
use Rattle.std.proofs.lemmas.List.{drop-append-le}
use Rattle.rpc_pdu.specs.declared.pdu.End.{End}
use Rattle.rpc_pdu.specs.declared.pdu.End.TheVariants.{Server}
use Rattle.rpc_pdu.specs.declared.pdu.Pdu.{Pdu}
use Rattle.rpc_pdu.specs.declared.pdu.PduKind.{PduKind}
use Rattle.rpc_pdu.specs.declared.pdu.PduRead.{PduRead}
use Rattle.rpc_pdu.specs.declared.pdu.PduRead.TheVariants.{Whole, Short, Bad}
use Rattle.rpc_pdu.specs.Pdu.{pdu_at, IsSettled}
use Rattle.rpc_session.specs.declared.state.State.{State}
use Rattle.rpc_session.specs.declared.state.Incoming.{Incoming}
use Rattle.rpc_session.specs.declared.state.Refusal.{Refusal}
use Rattle.rpc_session.specs.declared.state.Refusal.TheVariants as refusals
use Rattle.rpc_session.specs.declared.session.SessionFault.{SessionFault}
use Rattle.rpc_session.specs.declared.session.SessionFault.TheVariants as faults
use Rattle.rpc_pdu.specs.declared.pdu.PduKind.TheVariants.{Order}
use Rattle.rpc_pdu.proofs.Settled.{settled}
use Rattle.rpc_session.specs.Moves.{Move, Gives, Joins, OutOfOrder, Passes, session_move, Moved, HasPlace}
use Rattle.rpc_session.specs.Pdus.{Part, BadAt, no_more, onto, by_read, pdus_after, pdus_from}
use Rattle.rpc_session.specs.Items.{Told, StreamEnd, AtRest, Unfinished, BadPdu, TooLong, ends_stream, before, told_after, told_of_pdus}
use Rattle.rpc_session.specs.Items.{told_of, Seen, to_come, IsOpen, TellsEnd, StepComes, fault_by, TellSame, Comes, Gave, Says, given_by}
use Rattle.rpc_session.specs.Items.{items, unbound, open_end, front_fault, fault_of_read, fault_of_move, IsStuck, TellsAgain}
use Rattle.rpc_session.specs.Held.{with_more}

-- the bytes of a PDU are passed
passed : (end : End) (k place : ℕ) (bytes : List ℕ) → k ≤ length bytes →
    pdus_after end k place bytes ≡ pdus_after end 0 (place + k) (drop k bytes)
unfolding pdus_after
passed end zero place bytes h = ap (λ p. pdus_after end 0 p bytes) (omega arith)
passed end (suc k) place [] h = absurd (omega (arith, h))
passed end (suc k) place (b ∷ bytes) h =
    passed end k (place + 1) bytes (omega (arith, h)) ∙ ap (λ p. pdus_after end 0 p (drop k bytes)) (omega arith)

pub whole_first : (end : End) (place : ℕ) (bytes : List ℕ) (pdu : Pdu (List ℕ)) (u : ℕ) → pdu_at end bytes ≡ Whole pdu u → 16 ≤ u
    → u ≤ length bytes → pdus_from end place bytes ≡ onto (place, pdu) (pdus_from end (place + u) (drop u bytes))
unfolding pdus_after
whole_first end place [] pdu u is low high = absurd (omega (arith, low, high))
whole_first end place (b ∷ bytes) pdu zero is low high = absurd (omega (arith, low))
whole_first end place (b ∷ bytes) pdu (suc k) is low high =
    ap (by_read (λ used. pdus_after end (used - 1) (place + 1) bytes) place) is
    ∙ ap (onto (place, pdu)) (ap (λ n. pdus_after end n (place + 1) bytes) (omega arith)
    ∙ passed end k (place + 1) bytes (omega (arith, high))
    ∙ ap (λ p. pdus_after end 0 p (drop k bytes)) (omega arith))

pub bad_first : (end : End) (place : ℕ) (bytes : List ℕ) (kind : PduKind) → pdu_at end bytes ≡ Bad kind
    → pdus_from end place bytes ≡ no_more (BadAt place kind)
unfolding pdus_after pdu_at
bad_first end place [] kind is = absurd (subst IsSettled (sym is) tt)
bad_first end place (b ∷ bytes) kind is = ap (by_read (λ used. pdus_after end (used - 1) (place + 1) bytes) place) is

pub short_first : (end : End) (place b : ℕ) (bytes : List ℕ) (needed : ℕ) → pdu_at end (b ∷ bytes) ≡ Short needed
    → pdus_from end place (b ∷ bytes) ≡ no_more Part
unfolding pdus_after
short_first end place b bytes needed is = ap (by_read (λ used. pdus_after end (used - 1) (place + 1) bytes) place) is

abbrev seen : State → ℕ → List ℕ → Seen
seen s place rest = record { state = s; held = record { place = place; rest = rest } }

-- a whole PDU comes first, whatever follows it
pub came : (s : State) (place : ℕ) (rest : List ℕ) (pdu : Pdu (List ℕ)) (u : ℕ) (more : List ℕ) → pdu_at Server rest ≡ Whole pdu u
    → pdu_at Server (rest ++ more) ≡ pdu_at Server rest → 16 ≤ u → u ≤ length rest
    → to_come (seen s place rest) more ≡ told_after (λ t. to_come (seen t (place + u) (drop u rest)) more) place (session_move s pdu)
unfolding to_come told_of_pdus
came s place rest pdu u more is stays low high =
    let far : u ≤ length (rest ++ more) = omega (arith, high, length-append rest more) in
    let cut = whole_first Server place (rest ++ more) pdu u (stays ∙ is) low far in
    ap (λ c. told_of c s) cut ∙ ap (λ bytes. told_of (onto (place, pdu) (pdus_from Server (place + u) bytes)) s)
    (drop-append-le u rest more high)

-- a whole PDU stands first
module _ (place : ℕ) (rest : List ℕ) (pdu : Pdu (List ℕ)) (u : ℕ) (is : pdu_at Server rest ≡ Whole pdu u) (stays : (more : List ℕ)
    → pdu_at Server (rest ++ more) ≡ pdu_at Server rest) (low : 16 ≤ u) (high : u ≤ length rest) where
  abbrev later : List ℕ → State → Told
  later more t = to_come (seen t (place + u) (drop u rest)) more

  moves : (s : State) (more : List ℕ) (move : Move) → session_move s pdu ≡ move
      → to_come (seen s place rest) more ≡ told_after (later more) place move
  moves s more move m = came s place rest pdu u more is (stays more) low high ∙ ap (told_after (later more) place) m

  pub taken : (s t : State) (item : Option Incoming) → Moved s t (Ok item) (session_move s pdu)
      → StepComes (seen s place rest) (seen t (place + u) (drop u rest)) (Ok (Some item))
  taken s t (Some item) m = λ more. moves s more (Gives item t) m
  taken s t None m = λ more. moves s more (Joins t) m

  pub refused : (s t : State) (refusal : Refusal) → Moved s t (Err refusal) (session_move s pdu)
      → StepComes (seen s place rest) (seen t place rest) (Err (fault_by place refusal))
  refused s t refusals.Order m = (λ more. moves s more OutOfOrder m.0, λ more. ap (λ x. to_come (seen x place rest) more) m.1)
  refused s t (refusals.TooLong length) m = (
    λ more. moves s more (Passes length) m.0,
    λ more. ap (λ x. to_come (seen x place rest) more) m.1,
  )
  refused s t refusals.OutOfMemory m = λ more. ap (λ x. to_come (seen x place rest) more) m.1

nothing_held : (b : Bool) → ends_stream (cond b Unfinished AtRest) ≡ ends_stream (cond (not b) AtRest Unfinished)
nothing_held true = refl
nothing_held false = refl

-- less than a PDU stands first
pub open_at : (s : State) (place : ℕ) (rest : List ℕ) (needed : ℕ) → pdu_at Server rest ≡ Short needed → IsOpen (seen s place rest)
unfolding to_come told_of_pdus pdus_after
open_at s place [] needed is = nothing_held (is_some s.unfinished)
open_at s place (b ∷ rest) needed is =
    let held : (length (b ∷ rest) == 0) ≡ false = grind arith in
    ap (λ c. told_of c s) (ap (pdus_from Server place) (append-nil (b ∷ rest)) ∙ short_first Server place b rest needed is)
    ∙ ap (λ t. ends_stream (cond (t && not (is_some s.unfinished)) AtRest Unfinished)) (sym held)

-- a bad PDU stands first
pub bad_at : (s : State) (place : ℕ) (rest : List ℕ) (kind : PduKind) → pdu_at Server rest ≡ Bad kind
    → ((more : List ℕ) → pdu_at Server (rest ++ more) ≡ pdu_at Server rest) → TellsEnd (seen s place rest) (BadPdu place kind)
unfolding to_come told_of_pdus
bad_at s place rest kind is stays = λ more. ap (λ c. told_of c s) (bad_first Server place (rest ++ more) kind (stays more ∙ is))

-- where the last PDU ends the search for an item, the first session and the last are tied
pub ends_item : (first now new : Seen) (item : Incoming) → TellSame now first → StepComes now new (Ok (Some (Some item)))
    → Comes first new (Ok (Some item))
ends_item first now new item same m = λ more. sym (same more) ∙ m more

pub ends_open : (first now new : Seen) → TellSame now first → StepComes now new (Ok None) → Comes first new (Ok None)
ends_open first now new same m = (m.0, λ more. m.1 more ∙ same more)

pub ends_fault : (first now new : Seen) (fault : SessionFault) → TellSame now first → StepComes now new (Err fault)
    → Comes first new (Err fault)
ends_fault first now new (faults.BadPdu place why) same m = (λ more. sym (same more) ∙ m.0 more, λ more. m.1 more ∙ same more)
ends_fault first now new (faults.TooLong length) same m = (λ more. sym (same more) ∙ m.0 more, λ more. m.1 more ∙ same more)
ends_fault first now new faults.OutOfMemory same m = λ more. m more ∙ same more

pub goes_on : (first now new : Seen) → TellSame now first → StepComes now new (Ok (Some None)) → TellSame new first
goes_on first now new same m = λ more. sym (m more) ∙ same more

pub gave_new : Gave [] [] (seen unbound 0 [])
unfolding to_come items
gave_new = λ more. refl

pub gave_fed : (stream piece : List ℕ) (given : List Incoming) (s : Seen) → Gave stream given s
    → Gave (stream ++ piece) given (record { state = s.state; held = with_more s.held piece })
unfolding to_come
gave_fed stream piece given s g = λ more.
    ap items (append_assoc stream piece more) ∙ g (piece ++ more)
    ∙ ap (λ bytes. before given (told_of (pdus_from Server s.held.place bytes) s.state)) (sym (append_assoc s.held.rest piece more))

before_before : (given : List Incoming) (item : Incoming) (told : Told)
    → before given (before (item ∷ []) told) ≡ before (given ++ item ∷ []) told
before_before given item told = ap (λ items. record { items = items; ending = told.ending })
    (sym (append_assoc given (item ∷ []) told.items))

still : (stream : List ℕ) (given : List Incoming) (old new : Seen) → Gave stream given old → TellSame new old
    → Gave stream (given ++ []) new
still stream given old new g same = λ more. g more ∙ ap (before given) (sym (same more))
    ∙ ap (λ items. before items (to_come new more)) (sym (append-nil given))

pub gave_next : (old new : Seen) (result : Result (Option Incoming) SessionFault) → Comes old new result
    → (stream : List ℕ) (given : List Incoming) → Gave stream given old → Gave stream (given ++ given_by result) new
gave_next old new (Ok (Some item)) m stream given g = λ more. g more ∙ ap (before given) (m more)
    ∙ before_before given item (to_come new more)
gave_next old new (Ok None) m stream given g = still stream given old new g m.1
gave_next old new (Err (faults.BadPdu place why)) m stream given g = still stream given old new g m.1
gave_next old new (Err (faults.TooLong length)) m stream given g = still stream given old new g m.1
gave_next old new (Err faults.OutOfMemory) m stream given g = still stream given old new g m

-- the items of a stream whose items were given, where what is to come is an end alone
ended : (stream : List ℕ) (given : List Incoming) (s : Seen) (more : List ℕ) (ending : StreamEnd) → Gave stream given s
    → to_come s more ≡ ends_stream ending → items (stream ++ more) ≡ record { items = given; ending = ending }
ended stream given s more ending g e = g more ∙ ap (before given) e ∙ ap (λ items. record { items = items; ending = ending })
    (append-nil given)

pub says_next : (old new : Seen) (result : Result (Option Incoming) SessionFault) → Comes old new result
    → (stream : List ℕ) (given : List Incoming) → Gave stream given old → Says stream given new result
says_next old new (Ok (Some item)) m stream given g = tt
says_next old new (Ok None) m stream given g = ap items (sym (append-nil stream))
    ∙ ended stream given old [] (open_end new) g (sym (m.1 []) ∙ m.0)
says_next old new (Err (faults.BadPdu place why)) m stream given g = λ more. ended stream given old more (BadPdu place why) g (m.0 more)
says_next old new (Err (faults.TooLong length)) m stream given g = λ more. ended stream given old more (TooLong length) g (m.0 more)
says_next old new (Err faults.OutOfMemory) m stream given g = tt

-- ---- faults that stand first

-- the fault of what is read at the front
module _ (s : State) (place : ℕ) (rest : List ℕ) (read : PduRead (List ℕ)) (is : pdu_at Server rest ≡ read) where
  pub front_is : front_fault (seen s place rest) ≡ fault_of_read s place read
  unfolding front_fault
  front_is = ap (fault_of_read s place) is

pub none_again : {A : Type 0} (old new : Seen) (result : Result A SessionFault) → front_fault old ≡ None → TellsAgain old new result
none_again old new result none = subst (λ f. IfSome f (λ fault. (result ≡ Err fault) × (new ≡ old))) (sym none) tt

pub some_again : (A : Type 0) (old new : Seen) (fault : SessionFault) → front_fault old ≡ Some fault → new ≡ old
    → TellsAgain {A = A} old new (Err fault)
some_again A old new fault some same = subst (λ f. IfSome f (λ g. (◌≡◌ {A = Result A SessionFault} (Err fault) (Err g)) × (new ≡ old)))
    (sym some) (refl, same)

no_fault_given : (place : ℕ) (s t : State) (item : Option Incoming) (move : Move) → Moved s t (Ok item) move
    → fault_of_move place move ≡ None
no_fault_given place s t (Some item) move m = ap (fault_of_move place) m
no_fault_given place s t None move m = ap (fault_of_move place) m

no_fault_placed : (place : ℕ) (move : Move) → HasPlace move → fault_of_move place move ≡ None
no_fault_placed place (Gives item s) h = refl
no_fault_placed place (Joins s) h = refl
no_fault_placed place OutOfOrder h = absurd h
no_fault_placed place (Passes n) h = absurd h

-- a whole PDU stands first
module _ (place : ℕ) (rest : List ℕ) (pdu : Pdu (List ℕ)) (u : ℕ) (is : pdu_at Server rest ≡ Whole pdu u) (s t : State) where
  pub taken_again : (new : Seen) (item : Option Incoming) → Moved s t (Ok item) (session_move s pdu)
      → TellsAgain (seen s place rest) new (Ok (Some item))
  taken_again new item m = none_again (seen s place rest) new (Ok (Some item)) (front_is s place rest (Whole pdu u) is
      ∙ no_fault_given place s t item (session_move s pdu) m)

  same_seen : t ≡ s → seen t place rest ≡ seen s place rest
  same_seen e = ap (λ x. seen x place rest) e

  moved_front : (move : Move) → session_move s pdu ≡ move → front_fault (seen s place rest) ≡ fault_of_move place move
  moved_front move m = front_is s place rest (Whole pdu u) is ∙ ap (fault_of_move place) m

  pub refused_again : (A : Type 0) (refusal : Refusal) → Moved s t (Err refusal) (session_move s pdu)
      → TellsAgain {A = A} (seen s place rest) (seen t place rest) (Err (fault_by place refusal))
  refused_again A refusals.Order m = some_again A (seen s place rest) (seen t place rest) (faults.BadPdu place Order)
      (moved_front OutOfOrder m.0) (same_seen m.1)
  refused_again A (refusals.TooLong length) m = some_again A (seen s place rest) (seen t place rest) (faults.TooLong length)
      (moved_front (Passes length) m.0) (same_seen m.1)
  refused_again A refusals.OutOfMemory m =
      none_again (seen s place rest) (seen t place rest) (Err faults.OutOfMemory) (front_is s place rest (Whole pdu u) is
      ∙ no_fault_placed place (session_move s pdu) m.0)

  pub refused_stuck : (refusal : Refusal) → Moved s t (Err refusal) (session_move s pdu)
      → IsStuck (seen t place rest) (fault_by place refusal)
  refused_stuck refusals.Order m = ap front_fault (same_seen m.1) ∙ moved_front OutOfOrder m.0
  refused_stuck (refusals.TooLong length) m = ap front_fault (same_seen m.1) ∙ moved_front (Passes length) m.0
  refused_stuck refusals.OutOfMemory m = tt

-- what has a fault stays as it is once more bytes have come
read_stays : (s : State) (place : ℕ) (rest more : List ℕ) (fault : SessionFault) (read : PduRead (List ℕ)) → pdu_at Server rest ≡ read
    → fault_of_read s place read ≡ Some fault → pdu_at Server (rest ++ more) ≡ read
read_stays s place rest more fault (Short needed) is e = absurd cc
read_stays s place rest more fault (Whole pdu used) is e = settled Server rest more (subst IsSettled (sym is) tt) ∙ is
read_stays s place rest more fault (Bad kind) is e = settled Server rest more (subst IsSettled (sym is) tt) ∙ is

front_stays : (s : State) (place : ℕ) (rest more : List ℕ) (fault : SessionFault) → front_fault (seen s place rest) ≡ Some fault
    → front_fault (seen s place (rest ++ more)) ≡ Some fault
unfolding front_fault
front_stays s place rest more fault e = ap (fault_of_read s place) (read_stays s place rest more fault (pdu_at Server rest) refl e) ∙ e

pub stuck_fed : (s : Seen) (piece : List ℕ) (fault : SessionFault) → IsStuck s fault
    → IsStuck (record { state = s.state; held = with_more s.held piece }) fault
stuck_fed s piece (faults.BadPdu place kind) h = front_stays s.state s.held.place s.held.rest piece (faults.BadPdu place kind) h
stuck_fed s piece (faults.TooLong length) h = front_stays s.state s.held.place s.held.rest piece (faults.TooLong length) h
stuck_fed s piece faults.OutOfMemory h = tt
