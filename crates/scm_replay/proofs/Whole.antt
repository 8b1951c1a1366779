-- A whole input, of the pieces that were eaten.
use Rattle.std.proofs.Common.{ℕ, ◌≡◌, ◌≤◌, ◌==◌, ◌^◌, Bool, true, false, List, [], ◌∷◌, ◌++◌, length, Option, Err, refl, sym, ap, ◌∙◌}
use Rattle.std.proofs.Common.{subst, append_assoc, append-nil, arith}
use Rattle.feed_loop.specs.declared.fed.ReadEnd.{ReadEnd}
use Rattle.feed_loop.specs.declared.fed.ReadEnd.TheVariants as fed
use Rattle.feed_loop.specs.Feeding.{AllEaten, At, FeedChain, Feeds, IsFedFor, bytes_of}
use Rattle.scm_model.specs.declared.flat.Limits.{Limits}
use Rattle.scm_core.specs.Managed.{Managed}
use Rattle.scm_replay.specs.declared.replayer.Replayer.{Replayer}
use Rattle.scm_replay.specs.declared.stop.Stop.{Stop}
use Rattle.scm_replay.specs.declared.stop.Stop.TheVariants as stop
use Rattle.scm_replay.specs.Outcomes.{Standing, standing}
use Rattle.scm_replay.specs.Replay.{IsReplayCaused, IsReplayed}
use Rattle.scm_replay.specs.Along.{GoesOn, HaltsIn, HasStopCause, LinesEaten, LinesHalted, Point, point, replayed_as}
use Rattle.scm_replay.proofs.Ends.{beginning, read_fails, source_ends, stops_so, worn}
use Rattle.scm_replay.proofs.Stretches.{goes_further}

-- which of the source and the sink failed
halted_for : (why : Stop) (rest : Bool) (source source_now sink sink_now : ℕ) → source_now ≡ source
    → HasStopCause {T = Unit {0}} sink sink_now (Err why)
    → IsReplayCaused (replayed_as (fed.Stopped why) rest) source source_now sink sink_now
halted_for stop.BadLine rest source source_now sink sink_now same cause = (same, cause.caused)
halted_for stop.WriteFault rest source source_now sink sink_now same cause = (same, cause.caused)
halted_for stop.OutOfMemory rest source source_now sink sink_now same cause = (same, cause.caused)

module _ {O : Type 0} (held : O → Option (List ℕ)) (faults : O → ℕ) where
  abbrev there : At Replayer Managed O → Point
  there a = point a.place a.eater.reading (held a.output)

  abbrev eats : At Replayer Managed O → At Replayer Managed O → List ℕ → Type 0
  eats a b piece = LinesEaten a.place b.place piece (there a) (there b) (faults a.output) (faults b.output)

  abbrev stops : At Replayer Managed O → At Replayer Managed O → List ℕ → Stop → Type 0
  stops a b piece why = LinesHalted a.place b.place piece (there a) (there b) (faults a.output) (faults b.output) why

  -- the pieces that were eaten
  walks : (l : Limits) (first : Point) (m e : At Replayer Managed O) (read : List ℕ) (pieces : List (List ℕ)) → m.place.limits ≡ l
      → GoesOn l read first (there m) → FeedChain eats m e pieces
      → GoesOn l (read ++ bytes_of pieces) first (there e)
  walks l first m e read [] is on chain =
      subst (λ (x : At Replayer Managed O). GoesOn l (read ++ []) first (there x)) (sym chain)
      (subst (λ (bs : List ℕ). GoesOn l bs first (there m)) (sym (append-nil read)) on)
  walks l first m e read (piece ∷ pieces) is on chain =
      let mid = chain.0 in
      let goes = subst (λ (k : Limits). GoesOn k piece (there m) (there mid)) is chain.1.goes in
      subst (λ (bs : List ℕ). GoesOn l bs first (there e)) (append_assoc read piece (bytes_of pieces))
      (walks l first mid e (read ++ piece) pieces (chain.1.limits ∙ is)
      (goes_further l read piece first (there m) (there mid) on goes) chain.2)

  same_limits : (m e : At Replayer Managed O) (pieces : List (List ℕ)) → FeedChain eats m e pieces → e.place.limits ≡ m.place.limits
  same_limits m e [] chain = ap (λ (x : At Replayer Managed O). x.place.limits) chain
  same_limits m e (piece ∷ pieces) chain = same_limits chain.0 e pieces chain.2 ∙ chain.1.limits

  same_faults : (m e : At Replayer Managed O) (pieces : List (List ℕ)) → FeedChain eats m e pieces → faults e.output ≡ faults m.output
  same_faults m e [] chain = ap (λ (x : At Replayer Managed O). faults x.output) chain
  same_faults m e (piece ∷ pieces) chain = same_faults chain.0 e pieces chain.2 ∙ chain.1.unfailed

  module _ (a e : At Replayer Managed O) (left left_now : Option (List ℕ)) (count : ℕ) where
    abbrev s : Standing
    s = standing a.place

    abbrev l : Limits
    l = a.place.limits

    all_eaten : (how : ReadEnd Stop) (last : At Replayer Managed O) (read : List ℕ) → AllEaten last e left left_now 0 count read
        → IsReplayed l s (standing last.place) left left_now (held a.output) (held last.output)
        (replayed_as how (length last.eater.reading.pending.items == 0))
        → IsReplayed l s (standing e.place) left left_now (held a.output) (held e.output)
        (replayed_as how (length e.eater.reading.pending.items == 0))
    all_eaten how last read all replayed =
        subst (λ (x : At Replayer Managed O). IsReplayed l s (standing x.place) left left_now (held a.output) (held x.output)
        (replayed_as how (length x.eater.reading.pending.items == 0))) (sym all.there) replayed

    pub replays_fed : (how : ReadEnd Stop) → Feeds eats stops a e left left_now 0 count how → count ≤ 2 ^ 40
        → GoesOn l [] (beginning s (held a.output)) (there a)
        → IsReplayed l s (standing e.place) left left_now (held a.output) (held e.output)
        (replayed_as how (length e.eater.reading.pending.items == 0))
    replays_fed fed.Ended feeds most on =
        let read = bytes_of feeds.pieces in
        let all = feeds.ends.0 in
        all_eaten fed.Ended feeds.last read all
        (source_ends l s (held a.output) left left_now read (there feeds.last) (length feeds.last.eater.reading.pending.items == 0)
        (walks l (beginning s (held a.output)) a feeds.last [] feeds.pieces refl on feeds.chain) all.consumed feeds.ends.1
        (omega (arith, all.counted, feeds.ends.2)) refl)
    replays_fed fed.ReadFault feeds most on =
        let read = bytes_of feeds.pieces in
        let all = feeds.ends.0 in
        all_eaten fed.ReadFault feeds.last read all
        (read_fails l s (held a.output) left left_now read (there feeds.last)
        (walks l (beginning s (held a.output)) a feeds.last [] feeds.pieces refl on feeds.chain) all.consumed
        (omega (arith, all.counted, feeds.ends.1)))
    replays_fed fed.Worn feeds most on =
        let read = bytes_of feeds.pieces in
        let all = feeds.ends.0 in
        all_eaten fed.Worn feeds.last read all
        (worn l s (held a.output) left left_now read (there feeds.last)
        (walks l (beginning s (held a.output)) a feeds.last [] feeds.pieces refl on feeds.chain) all.consumed
        (omega (arith, all.counted, feeds.ends.1)))
    replays_fed (fed.Stopped why) feeds most on =
        let read = bytes_of feeds.pieces in
        let end = feeds.ends in
        let halts = subst (λ (k : Limits). HaltsIn k end.piece (there feeds.last) (there e) why)
        (same_limits a feeds.last feeds.pieces feeds.chain) end.stopped.halts in
        stops_so l s (held a.output) left left_now read end.piece (there feeds.last) (there e)
        (walks l (beginning s (held a.output)) a feeds.last [] feeds.pieces refl on feeds.chain)
        end.consumed (omega (arith, end.counted, most)) end.short why (length e.eater.reading.pending.items == 0) halts

    -- what stays
    pub limits_fed : (how : ReadEnd Stop) → Feeds eats stops a e left left_now 0 count how → e.place.limits ≡ a.place.limits
    limits_fed fed.Ended feeds = ap (λ (x : At Replayer Managed O). x.place.limits) feeds.ends.0.there
        ∙ same_limits a feeds.last feeds.pieces feeds.chain
    limits_fed fed.ReadFault feeds = ap (λ (x : At Replayer Managed O). x.place.limits) feeds.ends.0.there
        ∙ same_limits a feeds.last feeds.pieces feeds.chain
    limits_fed fed.Worn feeds = ap (λ (x : At Replayer Managed O). x.place.limits) feeds.ends.0.there
        ∙ same_limits a feeds.last feeds.pieces feeds.chain
    limits_fed (fed.Stopped why) feeds = feeds.ends.stopped.limits ∙ same_limits a feeds.last feeds.pieces feeds.chain

    -- which counts of faults rose
    pub grows_fed : (how : ReadEnd Stop) → Feeds eats stops a e left left_now 0 count how → faults a.output ≤ faults e.output
    grows_fed fed.Ended feeds = omega (
      arith,
      ap (λ (x : At Replayer Managed O). faults x.output) feeds.ends.0.there,
      same_faults a feeds.last feeds.pieces feeds.chain,
    )
    grows_fed fed.ReadFault feeds = omega (
      arith,
      ap (λ (x : At Replayer Managed O). faults x.output) feeds.ends.0.there,
      same_faults a feeds.last feeds.pieces feeds.chain,
    )
    grows_fed fed.Worn feeds = omega (
      arith,
      ap (λ (x : At Replayer Managed O). faults x.output) feeds.ends.0.there,
      same_faults a feeds.last feeds.pieces feeds.chain,
    )
    grows_fed (fed.Stopped why) feeds = omega (arith, feeds.ends.stopped.cause.grows, same_faults a feeds.last feeds.pieces feeds.chain)

    pub cause_fed : (how : ReadEnd Stop) (rest : Bool) (source source_now : ℕ) → Feeds eats stops a e left left_now 0 count how
        → IsFedFor how source source_now
        → IsReplayCaused (replayed_as how rest) source source_now (faults a.output) (faults e.output)
    cause_fed fed.Ended true source source_now feeds same =
        (same, ap (λ (x : At Replayer Managed O). faults x.output) feeds.ends.0.there ∙ same_faults a feeds.last feeds.pieces feeds.chain)
    cause_fed fed.Ended false source source_now feeds same =
        (same, ap (λ (x : At Replayer Managed O). faults x.output) feeds.ends.0.there ∙ same_faults a feeds.last feeds.pieces feeds.chain)
    cause_fed fed.ReadFault rest source source_now feeds rose =
        (rose, ap (λ (x : At Replayer Managed O). faults x.output) feeds.ends.0.there ∙ same_faults a feeds.last feeds.pieces feeds.chain)
    cause_fed fed.Worn rest source source_now feeds same =
        (same, ap (λ (x : At Replayer Managed O). faults x.output) feeds.ends.0.there ∙ same_faults a feeds.last feeds.pieces feeds.chain)
    cause_fed (fed.Stopped why) rest source source_now feeds same =
        subst (λ sink. IsReplayCaused (replayed_as (fed.Stopped why) rest) source source_now sink (faults e.output))
        (same_faults a feeds.last feeds.pieces feeds.chain)
        (halted_for why rest source source_now (faults feeds.last.output) (faults e.output) same feeds.ends.stopped.cause)
