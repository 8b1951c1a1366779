-- How a connection ends.
use Rattle.std.proofs.Common.{ℕ, ◌≡◌, ◌+◌, ◌<◌, ◌≤◌, ◌^◌, Bool, true, false, cond, List, [], ◌∷◌, ◌++◌, length, Option, Err, refl, sym, ap}
use Rattle.std.proofs.Common.{◌∙◌, subst, append_assoc, append-nil, arith, length-append}
use Rattle.std.specs.Io.KnownBytes.{Consumes, IsAtEnd}
use Rattle.feed_loop.specs.declared.fed.ReadEnd.TheVariants as fed_to
use Rattle.outside.specs.Written.{Begins}
use Rattle.conn_desk.specs.declared.asked.DecodedRequest.{DecodedRequest}
use Rattle.scm_model.specs.declared.calls.Reply.{Reply}
use Rattle.rpc_session.specs.declared.state.Incoming.{Incoming}
use Rattle.rpc_session.specs.Items.{Seen, StreamEnd, AtRest, Unfinished, BadPdu, TooLong, Gave, IsOpen, Told, items, before, open_end}
use Rattle.rpc_session.specs.Items.{is_at_rest, unbound, to_come, told_of_pdus}
use Rattle.rpc_session.specs.Pdus.{pdus_after}
use Rattle.conn_desk.specs.declared.served.Served.{Served}
use Rattle.conn_desk.specs.declared.served.Served.TheVariants as served
use Rattle.conn_desk.specs.declared.serving.Stop.{Stop}
use Rattle.conn_desk.specs.declared.serving.Stop.TheVariants as stop
use Rattle.conn_desk.specs.Bodies.{spoken}
use Rattle.conn_desk.specs.Talks.{AreAnswered}
use Rattle.conn_desk.specs.Along.{Point, FedOn, GoesOn, GoesBad, IsFront}
use Rattle.conn_desk.specs.Connection.{Reached, AllServed, AllBefore, FirstServed, IsAhead, IsOpenEnd, piece_size}
use Rattle.conn_desk.specs.Serves.{Leaves, Serves, fed, served_as}
use Rattle.conn_desk.proofs.Talking.{answers_append, answers_none, cut_both}
use Rattle.conn_desk.proofs.Walking.{front_less}

-- all items of what was read so far are answered
pub record SoFar {D : Type 0} (called : D → D → DecodedRequest → Option Reply → Type 0) (d : D) (held : Option (List ℕ)) (m : Point D)
    (read : List ℕ) : Type 0 where
  pub given : List Incoming
  pub gave : Gave read given m.session
  pub waits : IsOpen m.session
  pub answers : AreAnswered called d m.desk held m.held given

-- the items of what was read, where the session waits for more
open_items : (s : Seen) (read : List ℕ) (given : List Incoming) → Gave read given s → IsOpen s
    → items read ≡ record { items = given; ending = open_end s }
open_items s read given gave waits =
    ap items (sym (append-nil read)) ∙ gave [] ∙ ap (before given) waits
    ∙ ap (λ (x : List Incoming). record { items = x; ending = open_end s }) (append-nil given)

-- one piece was read after what the session was given, all of whose items are answered
ahead_of : (s : Seen) (read more : List ℕ) (given answered : List Incoming) → Gave read given s → IsOpen s → length more ≤ piece_size
    → Begins given answered → IsAhead (read ++ more) answered
ahead_of s read more given answered gave waits short b = record {
  front = read;
  piece = more;
  split = refl;
  short = short;
  all = (b.0, b.1 ∙ ap (λ (t : Told). t.items ++ b.0) (sym (open_items s read given gave waits)));
}

end_if : (b : Bool) → IsOpenEnd (cond b AtRest Unfinished)
end_if true = tt
end_if false = tt

rest_end : (s : Seen) (b : Bool) → is_at_rest s ≡ b → open_end s ≡ cond b AtRest Unfinished
rest_end s b e = ap (λ x. cond x AtRest Unfinished) e

module _ {D : Type 0} (called : D → D → DecodedRequest → Option Reply → Type 0) (rests : D → D → Type 0) (full : D → DecodedRequest
    → Type 0) (d : D) (held : Option (List ℕ)) where
  -- one more read
  pub read_more : (m b : Point D) (read more : List ℕ) → SoFar called d held m read → GoesOn called (fed more) m b
      → SoFar called d held b (read ++ more)
  read_more m b read more on next = record {
    given = on.given ++ next.given;
    gave = next.gave read on.given on.gave;
    waits = next.waits;
    answers = answers_append called d m.desk b.desk held m.held b.held on.given next.given on.answers next.answers;
  }

  -- all items of what was read are served
  serves_all : (left left_now : Option (List ℕ)) (m : Point D) (read : List ℕ) (how : Served) (on : SoFar called d held m read)
      → Consumes left left_now read → length read ≤ 2 ^ 40 → Leaves rests how m.desk m.desk
      → ((told : List (Option Reply)) (written : List ℕ) → AllServed read on.given (open_end m.session) told written
      → Reached full m.desk how read left_now on.given told written)
      → Serves called rests full d m.desk left left_now held m.held how
  serves_all left left_now m read how on consumed most leaves reach = record {
    read = read;
    done = on.given;
    heard = on.answers.talks.heard;
    written = on.answers.text;
    last = m.desk;
    chain = on.answers.talks.chain;
    leaves = leaves;
    consumed = consumed;
    most = most;
    appended = on.answers.written;
    reached = reach on.answers.talks.heard on.answers.text (record {
      all = open_items m.session read on.given on.gave on.waits;
      text = sym on.answers.talks.answered;
    });
  }

  -- enough bytes were read
  pub serves_worn : (left left_now : Option (List ℕ)) (m : Point D) (read : List ℕ)
      → SoFar called d held m read → Consumes left left_now read → length read ≡ 2 ^ 40
      → Serves called rests full d m.desk left left_now held m.held served.Worn
  serves_worn left left_now m read on consumed e =
      serves_all left left_now m read served.Worn on consumed (omega (arith, e)) refl
      (λ told written all. (e, record { ending = open_end m.session; goes_on = end_if (is_at_rest m.session); served = all }))

  -- items more are answered
  serves_more : (left left_now : Option (List ℕ)) (m b : Point D) (read more : List ℕ) (how : Served) (given : List Incoming) (last : D)
      → (on : SoFar called d held m read) → Consumes left left_now (read ++ more) → length read + length more ≤ 2 ^ 40
      → AreAnswered called m.desk last m.held b.held given → Leaves rests how last b.desk
      → ((told : List (Option Reply)) (written : List ℕ) → spoken (on.given ++ given) told ≡ written
      → Reached full b.desk how (read ++ more) left_now (on.given ++ given) told written)
      → Serves called rests full d b.desk left left_now held b.held how
  serves_more left left_now m b read more how given last on p most answers leaves reach =
      let a = answers_append called d m.desk last held m.held b.held on.given given on.answers answers in
      record {
        read = read ++ more;
        done = on.given ++ given;
        heard = a.talks.heard;
        written = a.text;
        last = last;
        chain = a.talks.chain;
        leaves = leaves;
        consumed = p;
        most = omega (arith, most, length-append read more);
        appended = a.written;
        reached = reach a.talks.heard a.text a.talks.answered;
      }

  -- the stream ends badly
  serves_bad : (left left_now : Option (List ℕ)) (m b : Point D) (read more : List ℕ) (how : Served) (ending : StreamEnd)
      → SoFar called d held m read → Consumes left left_now (read ++ more) → length read + length more ≤ 2 ^ 40 → length more ≤ piece_size
      → GoesBad called (fed more) m b ending → Leaves rests how b.desk b.desk
      → ((done : List Incoming) (told : List (Option Reply)) (written : List ℕ) → AllBefore (read ++ more) done ending told written
      → Reached full b.desk how (read ++ more) left_now done told written)
      → Serves called rests full d b.desk left left_now held b.held how
  serves_bad left left_now m b read more how ending on p most short bad leaves reach =
      serves_more left left_now m b read more how bad.given b.desk on p most bad.answers leaves
      (λ told written is. reach (on.given ++ bad.given) told written (record {
        all = bad.ends read on.given on.gave;
        text = sym is;
        ahead = ahead_of m.session read more on.given (on.given ++ bad.given) on.gave on.waits short (bad.given, refl);
      }))

  -- the first items are served
  serves_first : (left left_now : Option (List ℕ)) (m b : Point D) (read more : List ℕ) (how : Served) (given : List Incoming) (last : D)
      → (on : SoFar called d held m read) → Consumes left left_now (read ++ more) → length read + length more ≤ 2 ^ 40
      → length more ≤ piece_size
      → IsFront (fed more) m.session given → AreAnswered called m.desk last m.held b.held given → Leaves rests how last b.desk
      → ((told : List (Option Reply)) (written : List ℕ) → FirstServed (read ++ more) (on.given ++ given) told written
      → Reached full b.desk how (read ++ more) left_now (on.given ++ given) told written)
      → Serves called rests full d b.desk left left_now held b.held how
  serves_first left left_now m b read more how given last on p most short front answers leaves reach =
      serves_more left left_now m b read more how given last on p most answers leaves
      (λ told written is. reach told written (record {
        first = front read on.given on.gave;
        text = sym is;
        ahead = ahead_of m.session read more on.given (on.given ++ given) on.gave on.waits short (given, refl);
      }))

  -- a piece stops it
  pub serves_stopped : (left left_now : Option (List ℕ)) (m b : Point D) (read more : List ℕ) (why : Stop) (rest : Bool)
      → SoFar called d held m read → Consumes left left_now (read ++ more) → length read + length more ≤ 2 ^ 40 → length more ≤ piece_size
      → FedOn {T = Unit {0}} called rests full (fed more) m b (Err why)
      → Serves called rests full d b.desk left left_now held b.held (served_as (fed_to.Stopped why) rest)
  serves_stopped left left_now m b read more (stop.Bad place kind) rest on p most short t =
      serves_bad left left_now m b read more (served.BadPdu place kind) (BadPdu place kind) on p most short t refl
      (λ done told written all. all)
  serves_stopped left left_now m b read more (stop.TooLong length) rest on p most short t =
      serves_bad left left_now m b read more (served.TooLong length) (TooLong length) on p most short t refl (λ done told written all. all)
  serves_stopped left left_now m b read more stop.WriteFault rest on p most short t =
      let both = cut_both called d m.desk b.desk held m.held b.held on.given t.given on.answers t.answers in
      let a = both.0 in
      record {
        read = read ++ more;
        done = on.given ++ t.given;
        heard = a.talks.heard;
        written = a.bytes;
        last = b.desk;
        chain = a.talks.chain;
        leaves = refl;
        consumed = p;
        most = omega (arith, most, length-append read more);
        appended = a.written;
        reached = record {
          first = t.front read on.given on.gave;
          text = subst (λ x. Begins a.bytes x) (sym a.talks.answered) a.front;
          earlier = a.earlier;
          last = a.last;
          order = a.order;
          whole = a.whole;
          ahead = ahead_of m.session read more on.given a.earlier on.gave on.waits short both.1;
        };
      }
  serves_stopped left left_now m b read more stop.Full rest on p most short t =
      let follows = subst (λ x. Begins x (items (read ++ more)).items) (sym (append_assoc on.given t.given (t.next ∷ [])))
      (t.front read on.given on.gave) in
      serves_first left left_now m b read more served.Full t.given t.last on p most short
      (front_less (fed more) m.session t.given (t.next ∷ []) t.front) t.answers t.left
      (λ told written first. (first, record { next = t.next; follows = follows; request = t.request; asks = t.asks; met = t.met }))
  serves_stopped left left_now m b read more stop.OutOfMemory rest on p most short t =
      serves_first left left_now m b read more served.OutOfMemory t.given t.last on p most short t.front t.answers t.left
      (λ told written first. first)

  -- the source ended
  pub serves_ended : (left left_now : Option (List ℕ)) (m : Point D) (read : List ℕ) (rest : Bool)
      → SoFar called d held m read → Consumes left left_now read → IsAtEnd left_now → length read < 2 ^ 40 → is_at_rest m.session ≡ rest
      → Serves called rests full d m.desk left left_now held m.held (served_as fed_to.Ended rest)
  serves_ended left left_now m read true on consumed out lt e =
      serves_all left left_now m read served.Ended on consumed (omega (arith, lt)) refl
      (λ told written all. (out, lt, subst (λ x. AllServed read on.given x told written) (rest_end m.session true e) all))
  serves_ended left left_now m read false on consumed out lt e =
      serves_all left left_now m read served.Truncated on consumed (omega (arith, lt)) refl
      (λ told written all. (out, lt, subst (λ x. AllServed read on.given x told written) (rest_end m.session false e) all))

  -- a read failed
  pub serves_failed : (left left_now : Option (List ℕ)) (m : Point D) (read : List ℕ)
      → SoFar called d held m read → Consumes left left_now read → length read < 2 ^ 40
      → Serves called rests full d m.desk left left_now held m.held served.ReadFault
  serves_failed left left_now m read on consumed lt =
      serves_all left left_now m read served.ReadFault on consumed (omega (arith, lt)) refl
      (λ told written all. (lt, record { ending = open_end m.session; goes_on = end_if (is_at_rest m.session); served = all }))

-- ## The beginning

waits_fresh : (s : Seen) → s ≡ record { state = unbound; held = record { place = 0; rest = [] } } → IsOpen s
unfolding to_come told_of_pdus pdus_after
waits_fresh s e = rw e refl

-- nothing was read
pub begins : {D : Type 0} (called : D → D → DecodedRequest → Option Reply → Type 0) (d : D) (held : Option (List ℕ)) (s : Seen)
    → s ≡ record { state = unbound; held = record { place = 0; rest = [] } } → Gave [] [] s
    → SoFar called d held (record { session = s; desk = d; held = held }) []
begins called d held s e gave = record {
  given = [];
  gave = gave;
  waits = waits_fresh s e;
  answers = answers_none called d held;
}
