-- More bytes leave the items of a stream as they are, and may add some.
use Rattle.std.proofs.Common.{ℕ, zero, suc, ◌≡◌, ◌-◌, ◌+◌, List, [], ◌∷◌, ◌++◌, refl, sym, ap, ◌∙◌, subst, append_assoc}
use Rattle.outside.specs.Written.{Begins}
use Rattle.rpc_pdu.specs.declared.pdu.End.TheVariants.{Server}
use Rattle.rpc_pdu.specs.declared.pdu.PduRead.{PduRead}
use Rattle.rpc_pdu.specs.declared.pdu.PduRead.TheVariants.{Whole, Short, Bad}
use Rattle.rpc_pdu.specs.Pdu.{pdu_at, IsSettled}
use Rattle.rpc_pdu.proofs.Settled.{settled}
use Rattle.rpc_session.specs.declared.state.Incoming.{Incoming}
use Rattle.rpc_session.specs.declared.state.State.{State}
use Rattle.rpc_session.specs.Items.{Told, items, told_after, told_of, told_of_pdus, unbound}
use Rattle.rpc_session.specs.Moves.{Move, Gives, Joins, OutOfOrder, Passes, session_move}
use Rattle.rpc_session.specs.Pdus.{Cut, by_read, pdus_after}

-- what is told of one stretch is a front of what is told of another
abbrev IsFrontOf : Told → Told → Type 0
IsFrontOf a b = Begins a.items b.items

all : (xs : List Incoming) → Begins [] xs
all xs = (xs, refl)

-- behind one PDU, whatever it does
after : (place : ℕ) (xs ys : State → Told) → ((s : State) → IsFrontOf (xs s) (ys s)) → (move : Move)
    → IsFrontOf (told_after xs place move) (told_after ys place move)
after place xs ys fronts (Gives item s) = let more = fronts s in (more.0, ap (λ (is : List Incoming). item ∷ is) more.1)
after place xs ys fronts (Joins s) = fronts s
after place xs ys fronts OutOfOrder = all []
after place xs ys fronts (Passes length) = all []

-- behind what was read first
read_first : (place : ℕ) (xs ys : ℕ → Cut) → ((used : ℕ) (s : State) → IsFrontOf (told_of (xs used) s) (told_of (ys used) s))
    → (read now : PduRead (List ℕ)) → (IsSettled read → now ≡ read)
    → (s : State) → IsFrontOf (told_of (by_read xs place read) s) (told_of (by_read ys place now) s)
unfolding told_of_pdus
read_first place xs ys fronts (Short needed) now stays s = all (told_of (by_read ys place now) s).items
read_first place xs ys fronts (Bad _) now stays s = all (told_of (by_read ys place now) s).items
read_first place xs ys fronts (Whole pdu used) now stays s =
    subst (λ (r : PduRead (List ℕ)). IsFrontOf (told_of (by_read xs place (Whole pdu used)) s) (told_of (by_read ys place r) s))
    (sym (stays tt))
    (after place (told_of (xs used)) (told_of (ys used)) (fronts used) (session_move s pdu))

front_behind : (skip place : ℕ) (bytes more : List ℕ) (s : State) → IsFrontOf (told_of (pdus_after Server skip place bytes) s)
    (told_of (pdus_after Server skip place (bytes ++ more)) s)
unfolding told_of_pdus pdus_after
front_behind skip place [] more s = all (told_of (pdus_after Server skip place more) s).items
front_behind (suc skip) place (b ∷ bytes) more s = front_behind skip (place + 1) bytes more s
front_behind zero place (b ∷ bytes) more s =
    read_first place (λ used. pdus_after Server (used - 1) (place + 1) bytes)
    (λ used. pdus_after Server (used - 1) (place + 1) (bytes ++ more))
    (λ used t. front_behind (used - 1) (place + 1) bytes more t) (pdu_at Server (b ∷ bytes)) (pdu_at Server (b ∷ (bytes ++ more)))
    (λ is. settled Server (b ∷ bytes) more is) s

front_of_more : (bytes more : List ℕ) → Begins (items bytes).items (items (bytes ++ more)).items
unfolding items
front_of_more bytes more = front_behind 0 0 bytes more unbound

-- a front of the items of what was read is one of the items of all
pub front_of_all : (read bytes : List ℕ) (given : List Incoming) → Begins read bytes → Begins given (items read).items
    → Begins given (items bytes).items
front_of_all read bytes given begins first =
    let more = front_of_more read begins.0 in (
      first.0 ++ more.0,
      ap (λ (x : Told). x.items) (ap items begins.1) ∙ more.1 ∙ ap (λ (is : List Incoming). is ++ more.0) first.1
          ∙ append_assoc given first.0 more.0,
    )
