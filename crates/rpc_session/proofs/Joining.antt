-- What joining fragments leaves.
use Rattle.std.proofs.Common.{◌≡◌, ℕ, ◌+◌, List, length, drop, refl, sym, ap, ◌∙◌, subst, arith, Bool, true, false, cond, Option, Some}
use Rattle.std.proofs.Common.{None, Ok}
use Rattle.std.specs.Prelude.{is_some, not, ◌||◌, ◌==◌, nat_lt}
use Rattle.std.proofs.lemmas.List.{drop-drop}
use Rattle.rpc_pdu.specs.declared.pdu.Pdu.{Pdu}
use Rattle.rpc_pdu.specs.declared.pdu.Pdu.TheVariants as pdus
use Rattle.rpc_pdu.specs.declared.pdu.Bind.{Bind}
use Rattle.rpc_pdu.specs.declared.pdu.RequestPdu.{RequestPdu}
use Rattle.rpc_session.specs.declared.state.Terms.{Terms}
use Rattle.rpc_session.specs.declared.state.State.{State}
use Rattle.rpc_session.specs.declared.state.Unfinished.{Unfinished}
use Rattle.rpc_session.specs.declared.state.Incoming.{Incoming}
use Rattle.rpc_session.specs.Moves.{Gives, Joins, OutOfOrder, Passes, session_move, limit, move_joined, unfinished_of, continued, continues}
use Rattle.rpc_session.specs.Moves.{fragment_move, alter_by, with_unfinished, item_of, HasGrown, HasJoined, Moved}
use Rattle.rpc_session.specs.Items.{StepJoins}
use Rattle.rpc_session.specs.Held.{Held, further}

pub further_on : (h : Held) (n u : ℕ) → further (further h n) u ≡ further h (n + u)
further_on h n u = ap (λ p. record { place = p; rest = drop u (drop n h.rest) }) (omega arith)
    ∙ ap (λ r. record { place = h.place + (n + u); rest = r }) (drop-drop u n h.rest)

-- a move that joins does so with these fragments
joins_by : (long last : Bool) (n : ℕ) (item : Incoming) (s u t : State)
    → cond long (Passes n) (cond last (Gives item s) (Joins u)) ≡ Joins t → u ≡ t
joins_by true last n item s u t e = absurd cc
joins_by false true n item s u t e = absurd cc
joins_by false false n item s u t e = cc

joins : (s : State) (last : Bool) (u : Unfinished) (t : State) → move_joined s last u ≡ Joins t → with_unfinished s (Some u) ≡ t
joins s last u t e = joins_by (nat_lt limit (length u.body)) last (length u.body) (item_of s u) (with_unfinished s None)
    (with_unfinished s (Some u)) t e

since : (old : Option Unfinished) (s : State) (u : Unfinished) (t : State) → s.unfinished ≡ old → HasGrown old (Some u)
    → with_unfinished s (Some u) ≡ t → HasJoined s t
since old s u t is grown e = subst (HasJoined s) e (record {
  terms = refl;
  known = refl;
  unfinished = subst (λ o. HasGrown o (Some u)) (sym is) grown;
})

by_fragment : (ok : Bool) (old : Option Unfinished) (s : State) (last : Bool) (u : Unfinished) (t : State) → s.unfinished ≡ old
    → HasGrown old (Some u) → cond ok (move_joined s last u) OutOfOrder ≡ Joins t → HasJoined s t
by_fragment true old s last u t is grown e = since old s u t is grown (joins s last u t e)
by_fragment false old s last u t is grown e = absurd cc

fragment_joins : (old : Option Unfinished) (s : State) (r : RequestPdu (List ℕ)) (t : State) → s.unfinished ≡ old
    → fragment_move old s r ≡ Joins t → HasJoined s t
fragment_joins None s r t is e = by_fragment r.first None s r.last (unfinished_of r) t is tt e
fragment_joins (Some u) s r t is e = by_fragment (continues u r) (Some u) s r.last (continued u r) t is (r.stub, refl) e

request_joins : (bound : Bool) (s : State) (r : RequestPdu (List ℕ)) (t : State)
    → cond bound (fragment_move s.unfinished s r) OutOfOrder ≡ Joins t → HasJoined s t
request_joins true s r t e = fragment_joins s.unfinished s r t refl e
request_joins false s r t e = absurd cc

bind_joins : (held plain : Bool) (a b : Incoming) (s u t : State) → cond held OutOfOrder (cond plain (Gives a s) (Gives b u)) ≡ Joins t
    → HasJoined s t
bind_joins true plain a b s u t e = absurd cc
bind_joins false true a b s u t e = absurd cc
bind_joins false false a b s u t e = absurd cc

alter_joins : (terms : Option Terms) (held : Bool) (s : State) (b : Bind (List ℕ)) (t : State) → alter_by terms held s b ≡ Joins t
    → HasJoined s t
alter_joins None held s b t e = absurd cc
alter_joins (Some terms) true s b t e = absurd cc
alter_joins (Some terms) false s b t e = absurd cc

pub move_joins : (s : State) (pdu : Pdu (List ℕ)) (t : State) → session_move s pdu ≡ Joins t → HasJoined s t
unfolding session_move
move_joins s (pdus.Request r) t e = request_joins (is_some s.terms) s r t e
move_joins s (pdus.Bind b) t e = bind_joins (is_some s.terms || is_some s.unfinished) (not (b.auth == 0)) _ _ s _ t e
move_joins s (pdus.Alter b) t e = alter_joins s.terms (is_some s.unfinished) s b t e
move_joins s (pdus.BindAck a) t e = absurd cc
move_joins s (pdus.BindNak a) t e = absurd cc
move_joins s (pdus.AlterAck a) t e = absurd cc
move_joins s (pdus.Response a) t e = absurd cc
move_joins s (pdus.Fault a) t e = absurd cc

pub step_joins : (s t : State) (item : Option Incoming) (pdu : Pdu (List ℕ)) → Moved s t (Ok item) (session_move s pdu)
    → StepJoins s t (Ok (Some item))
step_joins s t (Some item) pdu m = tt
step_joins s t None pdu m = move_joins s pdu t m
