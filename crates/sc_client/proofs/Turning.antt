-- One turn of a client, by what its parts promise.
use Rattle.std.proofs.Common.{◌≡◌, ℕ, ◌+◌, ◌≤◌, Bool, true, false, cond, List, [], ◌∷◌, ◌++◌, length, refl, sym, ap, ◌∙◌, arith}
use Rattle.std.proofs.Common.{append_assoc, append-nil, length-append}
use Rattle.std.specs.Prelude.{Option, None, Some, is_none, option_map, unwrap_or, not, ◌&&◌, ◌==◌, bytes_eq, take, Result, Ok, Err}
use Rattle.std.specs.Io.KnownBytes.{Appends, Consumes}
use Rattle.std.proofs.KnownBytes.{Appends-nil, Consumes-nil}
use Rattle.std.proofs.lemmas.Bool.{true≢false}
use Rattle.rpc_pdu.specs.declared.pdu.End.TheVariants.{Client}
use Rattle.rpc_pdu.specs.declared.pdu.Pdu.{Pdu}
use Rattle.rpc_pdu.specs.declared.pdu.Pdu.TheVariants as pdus
use Rattle.rpc_session.specs.Pdus.{pdus_from}
use Rattle.sc_words.specs.declared.calls.Heard.{Heard}
use Rattle.sc_words.specs.declared.command.Command.{Command}
use Rattle.sc_words.specs.Asks.{asks}
use Rattle.sc_client.specs.declared.fault.ClientFault.{ClientFault}
use Rattle.sc_client.specs.declared.fault.ClientFault.TheVariants as faults
use Rattle.sc_client.specs.declared.held.Held.{Held}
use Rattle.sc_client.specs.declared.talk.Talk.{Talk}
use Rattle.sc_client.specs.Along.{AsksNext, CutOff, ReadsMore, TakesPdu, Turn, Turned, told_with, read_so_far}
use Rattle.sc_client.specs.Talks.{acceptance, due, followed_of, hearing, is_over, is_whole, pdu_move, request_after, response_move}
use Rattle.sc_client.specs.Talks.{fault_move, ack_move}

-- ## A move binds

chosen : {A : Type 0} (b : Bool) (x : Option A) (y : A) → cond b x None ≡ Some y → (b ≡ true) × (x ≡ Some y)
chosen true x y e = (refl, e)
chosen false x y e = cc

first_true : (a b : Bool) → (a && b) ≡ true → a ≡ true
first_true true b e = refl
first_true false b e = e

abbrev bound_in : Bool → Option Talk → Bool
bound_in other o = unwrap_or (option_map (λ (t : Talk). t.bound) o) other

stub_bound : (long last : Bool) (t : Talk) (o : Option Heard) (stub : List ℕ) (next : Talk)
    → cond long None (cond last (option_map (hearing t) o) (Some (record { bound = t.bound; heard = t.heard; part = stub }))) ≡ Some next
    → next.bound ≡ t.bound
stub_bound true last t o stub next e = cc
stub_bound false true t None stub next e = cc
stub_bound false true t (Some x) stub next e = ap (bound_in t.bound) (sym e)
stub_bound false false t o stub next e = ap (bound_in t.bound) (sym e)

-- who took a PDU that has its place is bound
pub moves_bound : (c : Command) (t : Talk) (pdu : Pdu (List ℕ)) (next : Talk) → pdu_move c t pdu ≡ Some next → next.bound ≡ true
unfolding pdu_move response_move fault_move ack_move
moves_bound c t (pdus.Response r) next e =
    let p = chosen _ _ next e in stub_bound _ r.last t _ (t.part ++ r.stub) next p.1 ∙ first_true t.bound _ (first_true _ _ p.0)
moves_bound c t (pdus.Fault f) next e =
    let p = chosen _ _ next e in ap (bound_in t.bound) (sym p.1) ∙ first_true t.bound _ (first_true _ _ p.0)
moves_bound c t (pdus.BindAck a) next e =
    let p = chosen (not t.bound && (a.call == 1 && bytes_eq (take 24 a.results) acceptance))
    (Some (record { bound = true; heard = t.heard; part = t.part })) next e in
    ap (bound_in true) (sym p.1)
moves_bound c t (pdus.Request r) next e = cc
moves_bound c t (pdus.Bind b) next e = cc
moves_bound c t (pdus.Alter b) next e = cc
moves_bound c t (pdus.AlterAck a) next e = cc
moves_bound c t (pdus.BindNak n) next e = cc

-- ## Turns

and_false : (a b : Bool) → b ≡ false → (a && b) ≡ false
and_false true b e = e
and_false false b e = refl

module _ (c : Command) (t u : Talk) (h k : Held) where
  -- what stands first is bad, or there was no memory
  pub turn_refused : (l s : Option (List ℕ)) (fault : ClientFault) → TakesPdu c t u h k (Err fault) → Turn c t u h k l l s s (Err fault)
  turn_refused l s (faults.BadReply place) x = (Consumes-nil l, Appends-nil s, x)
  turn_refused l s faults.OutOfMemory x = (([], Consumes-nil l), Appends-nil s)
  turn_refused l s faults.ReadFault x = absurd x
  turn_refused l s faults.WriteFault x = absurd x
  turn_refused l s faults.Truncated x = absurd x

  -- more bytes are needed, and don't come
  pub turn_unread : (k' : Held) (l l' s : Option (List ℕ)) (fault : ClientFault) → TakesPdu c t u h k (Ok false)
      → ReadsMore l l' k k' (Err fault) → Turn c t u h k' l l' s s (Err fault)
  turn_unread k' l l' s faults.ReadFault x r = (r, Appends-nil s, x.2)
  turn_unread k' l l' s faults.Truncated x r = (r.0, r.1, Appends-nil s, x.2)
  turn_unread k' l l' s faults.OutOfMemory x r = (r, Appends-nil s)
  turn_unread k' l l' s faults.WriteFault x r = absurd r
  turn_unread k' l l' s (faults.BadReply place) x r = absurd r

  -- they come
  pub turn_read : (k' : Held) (l l' s : Option (List ℕ)) → is_over c t ≡ false → TakesPdu c t u h k (Ok false) → ReadsMore l l' k k' (Ok tt)
      → Turn c t u h k' l l' s s (Ok true)
  unfolding told_with
  turn_read k' l l' s goes x r =
      let piece = r.0 in
      let now : k' ≡ record { bytes = h.bytes ++ piece; place = h.place } = r.2
      ∙ ap (λ (y : Held). record { bytes = y.bytes ++ piece; place = y.place }) x.1 in
      let sum : read_so_far k' ≡ h.place + length (h.bytes ++ piece) = ap read_so_far now in (
        record {
          read = piece;
          written = [];
          consumed = r.1;
          appended = Appends-nil s;
          same = λ text more.
              ap (λ bytes. followed_of c (pdus_from Client h.place bytes) t text) (sym (append_assoc h.bytes piece more))
              ∙ ap (λ (y : Held). followed_of c (pdus_from Client y.place (y.bytes ++ more)) t text) (sym now)
              ∙ ap (λ v. followed_of c (pdus_from Client k'.place (k'.bytes ++ more)) v text) (sym x.0)
              ∙ ap (λ w. followed_of c (pdus_from Client k'.place (k'.bytes ++ more)) u w) (sym (append-nil text));
          grown = omega (arith, sum, length-append h.bytes piece, r.3);
        },
        ap (is_over c) x.0 ∙ goes,
      )

  -- a part of a reply came
  pub turn_part : (l s : Option (List ℕ)) → TakesPdu c t u h k (Ok true) → is_whole u ≡ false → Turn c t u h k l l s s (Ok true)
  unfolding is_over
  turn_part l s x e = (
    record {
      read = [];
      written = [];
      consumed = Consumes-nil l;
      appended = Appends-nil s;
      same = λ text more. x.0 text more ∙ ap (λ b. told_with c u k (text ++ cond b (request_after c u.heard) []) more) e;
      grown = omega (arith, x.1);
    },
    and_false u.bound _ (ap (λ b. b && is_none (asks c u.heard)) e),
  )

  answered : (l s s' : Option (List ℕ)) → TakesPdu c t u h k (Ok true) → is_whole u ≡ true → Appends s s' (request_after c u.heard)
      → Turned c t u h k l l s s'
  answered l s s' x e w = record {
    read = [];
    written = request_after c u.heard;
    consumed = Consumes-nil l;
    appended = w;
    same = λ text more. x.0 text more ∙ ap (λ b. told_with c u k (text ++ cond b (request_after c u.heard) []) more) e;
    grown = omega (arith, x.1);
  }

  over_by : TakesPdu c t u h k (Ok true) → is_whole u ≡ true → is_over c u ≡ is_none (asks c u.heard)
  unfolding is_over
  over_by x e = ap (λ b. b && (is_whole u && is_none (asks c u.heard))) x.2 ∙ ap (λ b. b && is_none (asks c u.heard)) e

  -- an answer is whole, and what is then due was written
  pub turn_asked : (l s s' : Option (List ℕ)) (more : Bool) → TakesPdu c t u h k (Ok true) → is_whole u ≡ true → AsksNext c u s s' (Ok more)
      → Turn c t u h k l l s s' (Ok more)
  turn_asked l s s' true x e a = (answered l s s' x e a.0, over_by x e ∙ a.1)
  turn_asked l s s' false x e a = (answered l s s' x e a.0, over_by x e ∙ a.1)

  -- or it wasn't
  pub turn_unasked : (l s s' : Option (List ℕ)) (fault : ClientFault) → TakesPdu c t u h k (Ok true) → is_whole u ≡ true
      → AsksNext c u s s' (Err fault) → Turn c t u h k l l s s' (Err fault)
  turn_unasked l s s' faults.WriteFault x e a = record {
    talk = u;
    rest = k;
    written = request_after c u.heard;
    consumed = Consumes-nil l;
    appended = a;
    same = λ text more. x.0 text more ∙ ap (λ b. told_with c u k (text ++ cond b (request_after c u.heard) []) more) e;
  }
  turn_unasked l s s' faults.OutOfMemory x e a = (([], Consumes-nil l), a)
  turn_unasked l s s' faults.ReadFault x e a = absurd a
  turn_unasked l s s' faults.Truncated x e a = absurd a
  turn_unasked l s s' (faults.BadReply place) x e a = absurd a

  -- whatever came of it
  pub turn_next : (l s s' : Option (List ℕ)) (r : Result Bool ClientFault) → TakesPdu c t u h k (Ok true) → is_whole u ≡ true
      → AsksNext c u s s' r → Turn c t u h k l l s s' r
  turn_next l s s' (Ok more) x e a = turn_asked l s s' more x e a
  turn_next l s s' (Err fault) x e a = turn_unasked l s s' fault x e a
