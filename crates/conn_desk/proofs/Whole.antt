-- A whole connection, of the pieces that its session ate.
use Rattle.std.proofs.Common.{ℕ, ◌≡◌, ◌≤◌, ◌^◌, Bool, List, [], ◌∷◌, ◌++◌, length, Option, Err, true, false, refl, sym, ap, ◌∙◌, subst}
use Rattle.std.proofs.Common.{append_assoc, append-nil, arith}
use Rattle.feed_loop.specs.declared.fed.ReadEnd.{ReadEnd}
use Rattle.feed_loop.specs.declared.fed.ReadEnd.TheVariants as fed_to
use Rattle.feed_loop.specs.Feeding.{AllEaten, At, FeedChain as EatenChain, Feeds, IsFedFor, bytes_of}
use Rattle.conn_desk.specs.declared.asked.DecodedRequest.{DecodedRequest}
use Rattle.scm_model.specs.declared.calls.Reply.{Reply}
use Rattle.rpc_session.specs.Items.{is_at_rest}
use Rattle.conn_desk.specs.declared.serving.Stop.{Stop}
use Rattle.conn_desk.specs.declared.serving.Stop.TheVariants as stop
use Rattle.conn_desk.specs.declared.serving.ConnectionReader.{ConnectionReader}
use Rattle.conn_desk.specs.Along.{HasStopCause, point_of}
use Rattle.conn_desk.specs.Connection.{IsServedFor}
use Rattle.conn_desk.specs.Serves.{Eaten, Serves, Stopped, served_as}
use Rattle.conn_desk.proofs.Ends.{SoFar, read_more, serves_ended, serves_failed, serves_stopped, serves_worn}

-- why neither or one of the source and the sink failed
served_for : {T : Type 0} (why : Stop) (rest : Bool) (source source_now sink sink_now : ℕ) → source_now ≡ source
    → HasStopCause {T = T} sink sink_now (Err why)
    → IsServedFor (served_as (fed_to.Stopped why) rest) source source_now sink sink_now
served_for (stop.Bad place _) rest source source_now sink sink_now same cause = (same, cause.caused)
served_for (stop.TooLong length) rest source source_now sink sink_now same cause = (same, cause.caused)
served_for stop.WriteFault rest source source_now sink sink_now same cause = (same, cause.caused)
served_for stop.Full rest source source_now sink sink_now same cause = (same, cause.caused)
served_for stop.OutOfMemory rest source source_now sink sink_now same cause = (same, cause.caused)

module _ {D O : Type 0} (called : D → D → DecodedRequest → Option Reply → Type 0) (rests : D → D → Type 0) (full : D → DecodedRequest
    → Type 0) (held : O → Option (List ℕ)) (faults : O → ℕ) where
  abbrev eats : At ConnectionReader D O → At ConnectionReader D O → List ℕ → Type 0
  eats a b piece = Eaten called (point_of held a) (point_of held b) (faults a.output) (faults b.output) piece

  abbrev stops : At ConnectionReader D O → At ConnectionReader D O → List ℕ → Stop → Type 0
  stops a b piece why = Stopped called rests full (point_of held a) (point_of held b) (faults a.output) (faults b.output) piece why

  -- the pieces that were eaten
  walks : (d : D) (before : Option (List ℕ)) (m e : At ConnectionReader D O) (read : List ℕ) (pieces : List (List ℕ))
      → SoFar called d before (point_of held m) read → EatenChain eats m e pieces
      → SoFar called d before (point_of held e) (read ++ bytes_of pieces)
  walks d before m e read [] on chain =
      subst (λ (x : At ConnectionReader D O). SoFar called d before (point_of held x) (read ++ [])) (sym chain)
      (subst (SoFar called d before (point_of held m)) (sym (append-nil read)) on)
  walks d before m e read (piece ∷ pieces) on chain =
      subst (SoFar called d before (point_of held e)) (append_assoc read piece (bytes_of pieces))
      (walks d before chain.0 e (read ++ piece) pieces (read_more called rests full d before (point_of held m)
      (point_of held chain.0) read piece on chain.1.goes) chain.2)

  same_faults : (m e : At ConnectionReader D O) (pieces : List (List ℕ)) → EatenChain eats m e pieces → faults e.output ≡ faults m.output
  same_faults m e [] chain = ap (λ (x : At ConnectionReader D O). faults x.output) chain
  same_faults m e (piece ∷ pieces) chain = same_faults chain.0 e pieces chain.2 ∙ chain.1.unfailed

  module _ (a e : At ConnectionReader D O) (left left_now : Option (List ℕ)) (count : ℕ)
      (on : SoFar called a.place (held a.output) (point_of held a) []) where
    -- where the serving ends after pieces that were all eaten
    all_eaten : (how : ReadEnd Stop) (last : At ConnectionReader D O) (read : List ℕ) → AllEaten last e left left_now 0 count read
        → Serves called rests full a.place last.place left left_now (held a.output) (held last.output)
        (served_as how (is_at_rest last.eater.session))
        → Serves called rests full a.place e.place left left_now (held a.output) (held e.output)
        (served_as how (is_at_rest e.eater.session))
    all_eaten how last read all serves =
        subst (λ (x : At ConnectionReader D O). Serves called rests full a.place x.place left left_now (held a.output) (held x.output)
        (served_as how (is_at_rest x.eater.session))) (sym all.there) serves

    pub serves_fed : (how : ReadEnd Stop) → Feeds eats stops a e left left_now 0 count how → count ≤ 2 ^ 40
        → Serves called rests full a.place e.place left left_now (held a.output) (held e.output)
        (served_as how (is_at_rest e.eater.session))
    serves_fed fed_to.Ended feeds most =
        let read = bytes_of feeds.pieces in
        let all = feeds.ends.0 in
        all_eaten fed_to.Ended feeds.last read all
        (serves_ended called rests full a.place (held a.output) left left_now (point_of held feeds.last) read
        (is_at_rest feeds.last.eater.session)
        (walks a.place (held a.output) a feeds.last [] feeds.pieces on feeds.chain) all.consumed feeds.ends.1
        (omega (arith, all.counted, feeds.ends.2)) refl)
    serves_fed fed_to.ReadFault feeds most =
        let read = bytes_of feeds.pieces in
        let all = feeds.ends.0 in
        all_eaten fed_to.ReadFault feeds.last read all
        (serves_failed called rests full a.place (held a.output) left left_now (point_of held feeds.last) read
        (walks a.place (held a.output) a feeds.last [] feeds.pieces on feeds.chain) all.consumed (omega (arith, all.counted, feeds.ends.1)))
    serves_fed fed_to.Worn feeds most =
        let read = bytes_of feeds.pieces in
        let all = feeds.ends.0 in
        all_eaten fed_to.Worn feeds.last read all
        (serves_worn called rests full a.place (held a.output) left left_now (point_of held feeds.last) read
        (walks a.place (held a.output) a feeds.last [] feeds.pieces on feeds.chain) all.consumed (omega (arith, all.counted, feeds.ends.1)))
    serves_fed (fed_to.Stopped why) feeds most =
        let read = bytes_of feeds.pieces in
        let end = feeds.ends in
        serves_stopped called rests full a.place (held a.output) left left_now (point_of held feeds.last)
        (point_of held e) read end.piece why (is_at_rest e.eater.session)
        (walks a.place (held a.output) a feeds.last [] feeds.pieces on feeds.chain) end.consumed
        (omega (arith, end.counted, most)) end.short end.stopped.stops

  -- which counts of faults rose
  pub grows_fed : (a e : At ConnectionReader D O) (left left_now : Option (List ℕ)) (count : ℕ) (how : ReadEnd Stop)
      → Feeds eats stops a e left left_now 0 count how → faults a.output ≤ faults e.output
  grows_fed a e left left_now count fed_to.Ended feeds = omega (
    arith,
    ap
        (λ (x : At ConnectionReader D O). faults x.output) feeds.ends.0.there,
    same_faults a feeds.last feeds.pieces feeds.chain,
  )
  grows_fed a e left left_now count fed_to.ReadFault feeds = omega (
    arith,
    ap (λ (x : At ConnectionReader D O). faults x.output) feeds.ends.0.there,
    same_faults a feeds.last feeds.pieces feeds.chain,
  )
  grows_fed a e left left_now count fed_to.Worn feeds = omega (
    arith,
    ap
        (λ (x : At ConnectionReader D O). faults x.output) feeds.ends.0.there,
    same_faults a feeds.last feeds.pieces feeds.chain,
  )
  grows_fed a e left left_now count (fed_to.Stopped why) feeds = omega (
    arith,
    feeds.ends.stopped.cause.grows,
    same_faults a feeds.last feeds.pieces feeds.chain,
  )

  pub cause_fed : (a e : At ConnectionReader D O) (left left_now : Option (List ℕ)) (count : ℕ) (how : ReadEnd Stop) (rest : Bool)
      (source source_now : ℕ) → Feeds eats stops a e left left_now 0 count how
      → IsFedFor how source source_now → IsServedFor (served_as how rest) source source_now (faults a.output) (faults e.output)
  cause_fed a e left left_now count fed_to.Ended true source source_now feeds same =
      (same, ap (λ (x : At ConnectionReader D O). faults x.output) feeds.ends.0.there ∙ same_faults a feeds.last feeds.pieces feeds.chain)
  cause_fed a e left left_now count fed_to.Ended false source source_now feeds same =
      (same, ap (λ (x : At ConnectionReader D O). faults x.output) feeds.ends.0.there ∙ same_faults a feeds.last feeds.pieces feeds.chain)
  cause_fed a e left left_now count fed_to.ReadFault rest source source_now feeds rose =
      (rose, ap (λ (x : At ConnectionReader D O). faults x.output) feeds.ends.0.there ∙ same_faults a feeds.last feeds.pieces feeds.chain)
  cause_fed a e left left_now count fed_to.Worn rest source source_now feeds same =
      (same, ap (λ (x : At ConnectionReader D O). faults x.output) feeds.ends.0.there ∙ same_faults a feeds.last feeds.pieces feeds.chain)
  cause_fed a e left left_now count (fed_to.Stopped why) rest source source_now feeds same =
      subst (λ sink. IsServedFor (served_as (fed_to.Stopped why) rest) source source_now sink (faults e.output))
      (same_faults a feeds.last feeds.pieces feeds.chain)
      (served_for why rest source source_now (faults feeds.last.output) (faults e.output) same feeds.ends.stopped.cause)
