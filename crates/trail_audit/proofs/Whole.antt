-- A whole text, of the pieces that were taken.
use Rattle.std.proofs.Common.{ℕ, ◌≡◌, ◌≤◌, ◌==◌, ◌^◌, Bool, true, false, List, [], ◌∷◌, ◌++◌, length, Option, None, Some, refl, sym, subst}
use Rattle.std.proofs.Common.{append_assoc, append-nil, arith}
use Rattle.std.specs.Prelude.{if◌then◌else◌}
use Rattle.feed_loop.specs.declared.fed.ReadEnd.{ReadEnd}
use Rattle.feed_loop.specs.declared.fed.ReadEnd.TheVariants as fed
use Rattle.feed_loop.specs.Feeding.{At as Fed, AllEaten, FeedChain, Feeds, IsFedFor, bytes_of}
use Rattle.trail_text.specs.Audits.{entries_at}
use Rattle.trail_audit.specs.declared.audited.Audited.{Audited}
use Rattle.trail_audit.specs.declared.auditor.Auditor.{Auditor}
use Rattle.trail_audit.specs.declared.feeding.Reading.{Reading}
use Rattle.trail_audit.specs.declared.stop.Stop.{Stop}
use Rattle.trail_audit.specs.declared.stop.Stop.TheVariants as stop
use Rattle.trail_audit.specs.Along.{GoesOn, Point, StopsIn, audited_as, point}
use Rattle.trail_audit.specs.Audited.{IsAuditCaused, IsAudited}
use Rattle.trail_audit.proofs.Ends.{beginning, read_fails, source_ends, stops_so, worn}
use Rattle.trail_audit.proofs.Stretches.{goes_further}

abbrev pub Standing : Type 0
Standing = Fed Reading Auditor (Unit {0})

abbrev pub there : Standing → Point
there a = point a.place a.eater

abbrev eats : Standing → Standing → List ℕ → Type 0
eats a b piece = GoesOn piece (there a) (there b)

abbrev stops : Standing → Standing → List ℕ → Stop → Type 0
stops a b piece why = StopsIn piece (there a) why

-- the pieces that were taken
walks : (first : Point) (m e : Standing) (read : List ℕ) (pieces : List (List ℕ)) → GoesOn read first (there m) → FeedChain eats m e pieces
    → GoesOn (read ++ bytes_of pieces) first (there e)
walks first m e read [] on chain =
    subst (λ (x : Standing). GoesOn (read ++ []) first (there x)) (sym chain)
    (subst (λ (bs : List ℕ). GoesOn bs first (there m)) (sym (append-nil read)) on)
walks first m e read (piece ∷ pieces) on chain =
    subst (λ (bs : List ℕ). GoesOn bs first (there e)) (append_assoc read piece (bytes_of pieces))
    (walks first chain.0 e (read ++ piece) pieces (goes_further read piece first (there m) (there chain.0) on chain.1) chain.2)

-- how many entries the text has, if it is whole
abbrev whole_in : Point → Option ℕ
whole_in m = if length m.pending == 0 then entries_at m.at else None

module _ (a e : Standing) (left left_now : Option (List ℕ)) (count : ℕ) (on : GoesOn [] beginning (there a)) where
  reaches : (last : Standing) (pieces : List (List ℕ)) → FeedChain eats a last pieces → GoesOn (bytes_of pieces) beginning (there last)
  reaches last pieces chain = walks beginning a last [] pieces on chain

  pub audits_fed : (how : ReadEnd Stop) → Feeds eats stops a e left left_now 0 count how → count ≤ 2 ^ 40
      → IsAudited left left_now (audited_as how (whole_in (there e)))
  audits_fed fed.Ended feeds most =
      let all = feeds.ends.0 in
      subst (λ (x : Standing). IsAudited left left_now (audited_as fed.Ended (whole_in (there x)))) (sym all.there)
      (source_ends left left_now (bytes_of feeds.pieces) all.consumed (there feeds.last)
      (length feeds.last.eater.pending.items == 0) (entries_at (there feeds.last).at)
      (reaches feeds.last feeds.pieces feeds.chain) feeds.ends.1
      (omega (arith, all.counted, feeds.ends.2)) refl refl)
  audits_fed fed.ReadFault feeds most =
      let all = feeds.ends.0 in
      read_fails left left_now (bytes_of feeds.pieces) all.consumed (there feeds.last) (whole_in (there e))
      (reaches feeds.last feeds.pieces feeds.chain) (omega (arith, all.counted, feeds.ends.1))
  audits_fed fed.Worn feeds most =
      let all = feeds.ends.0 in
      worn left left_now (bytes_of feeds.pieces) all.consumed (there feeds.last) (whole_in (there e))
      (reaches feeds.last feeds.pieces feeds.chain) (omega (arith, all.counted, feeds.ends.1))
  audits_fed (fed.Stopped why) feeds most =
      let end = feeds.ends in
      stops_so left left_now (bytes_of feeds.pieces) end.piece (there feeds.last) why (whole_in (there e))
      (reaches feeds.last feeds.pieces feeds.chain) end.consumed (omega (arith, end.counted, most)) end.stopped

-- whether the source failed
pub cause_fed : (how : ReadEnd Stop) (entries : Option ℕ) (faults faults_now : ℕ) → IsFedFor how faults faults_now
    → IsAuditCaused (audited_as how entries) faults faults_now
cause_fed fed.Ended None faults faults_now same = same
cause_fed fed.Ended (Some entries) faults faults_now same = same
cause_fed fed.ReadFault entries faults faults_now rose = rose
cause_fed fed.Worn entries faults faults_now same = same
cause_fed (fed.Stopped (stop.Wrong line)) entries faults faults_now same = same
cause_fed (fed.Stopped stop.OutOfMemory) entries faults faults_now same = same
