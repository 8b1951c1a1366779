-- A child's output, of the pieces that were eaten.
use Rattle.std.proofs.Common.{ℕ, ◌≡◌, ◌∙◌, ◌≤◌, ◌^◌, inl, inr, List, [], ◌∷◌, ◌++◌, Option, refl, sym, ap, subst, append_assoc, append-nil}
use Rattle.std.proofs.Common.{arith}
use Rattle.feed_loop.specs.declared.fed.ReadEnd.{ReadEnd}
use Rattle.feed_loop.specs.declared.fed.ReadEnd.TheVariants as fed
use Rattle.feed_loop.specs.Feeding.{FeedChain as EatenChain, Feeds, IsFedFor, bytes_of}
use Rattle.book_rule.specs.declared.view.Opening.{Opening}
use Rattle.scm_book.specs.declared.fault.MakeFault.{MakeFault}
use Rattle.scm_book.specs.declared.fault.MakeFault.TheVariants as lacks
use Rattle.scm_book.specs.Passes.{Known}
use Rattle.child_runner.specs.Reports.{GoesOn, Stops}
use Rattle.child_runner.specs.Serving.{IsReadFor, MakesReports, ReadsOn, child_served_as}
use Rattle.child_runner.proofs.Coming.{SoFar, all_read, one_piece, read_ends, report_lacks}
use Rattle.child_runner.proofs.Reading.{all_told, has_none}

-- which end has which cause
pub read_for : (how : ReadEnd MakeFault) (faults faults_now : ℕ) → IsFedFor how faults faults_now
    → IsReadFor (child_served_as how) faults faults_now
read_for fed.Ended faults faults_now same = same
read_for fed.ReadFault faults faults_now rose = rose
read_for fed.Worn faults faults_now same = same
read_for (fed.Stopped lacks.Full) faults faults_now same = inl same
read_for (fed.Stopped lacks.OutOfMemory) faults faults_now same = inl same

-- Whatever eats has these parts, which stay, a line that was begun, and a pass.
module _ {E X : Type 0} (parts : E → X) (line : E → List ℕ) (pass : E → Known) (tells : X → ℕ → Type 0) (o : X → Opening) (process : X
    → ℕ) where
  abbrev eats : E → E → List ℕ → Type 0
  eats a b piece = (parts b ≡ parts a) × GoesOn (tells (parts a)) (o (parts a)) (process (parts a)) piece (line a) (line b) (pass a)
      (pass b)

  abbrev stops : E → E → List ℕ → MakeFault → Type 0
  stops a b piece why = (parts b ≡ parts a) × Stops (tells (parts a)) (o (parts a)) (process (parts a)) piece (line a) (line b) (pass a)
      (pass b) why

  stay : (a e : E) (pieces : List (List ℕ)) → EatenChain eats a e pieces → parts e ≡ parts a
  stay a e [] chain = ap parts chain
  stay a e (piece ∷ pieces) chain = stay chain.0 e pieces chain.2 ∙ chain.1.0

  -- the parts stay over the whole
  pub stay_fed : (a e : E) (left left_now : Option (List ℕ)) (count count_now : ℕ) (how : ReadEnd MakeFault)
      → Feeds eats stops a e left left_now count count_now how → parts e ≡ parts a
  stay_fed a e left left_now count count_now fed.Ended feeds = ap parts feeds.ends.0.there ∙ stay a feeds.last feeds.pieces feeds.chain
  stay_fed a e left left_now count count_now fed.ReadFault feeds = ap parts feeds.ends.0.there ∙ stay a feeds.last feeds.pieces feeds.chain
  stay_fed a e left left_now count count_now fed.Worn feeds = ap parts feeds.ends.0.there ∙ stay a feeds.last feeds.pieces feeds.chain
  stay_fed a e left left_now count count_now (fed.Stopped why) feeds = feeds.ends.stopped.0 ∙ stay a feeds.last feeds.pieces feeds.chain

  module _ (x : X) (k : Known) where
    abbrev Far : E → List ℕ → Type 0
    Far a read = SoFar (tells x) (o x) (process x) k (pass a) read (line a)

    walks : (a e : E) (read : List ℕ) (pieces : List (List ℕ)) → parts a ≡ x → Far a read → EatenChain eats a e pieces
        → Far e (read ++ bytes_of pieces)
    walks a e read [] is on chain = subst (λ (y : E). Far y (read ++ [])) (sym chain) (subst (Far a) (sym (append-nil read)) on)
    walks a e read (piece ∷ pieces) is on chain =
        let mid = chain.0 in
        let goes = subst (λ (y : X). GoesOn (tells y) (o y) (process y) piece (line a) (line mid) (pass a) (pass mid)) is chain.1.1 in
        subst (Far e) (append_assoc read piece (bytes_of pieces))
        (walks mid e (read ++ piece) pieces (chain.1.0 ∙ is) (one_piece (tells x) (o x) (process x) k (pass a) (pass mid) read
        (line a) piece (line mid) on goes) chain.2)

  module _ (a e : E) (left left_now : Option (List ℕ)) (before count : ℕ) (zero : before ≡ 0) (none : line a ≡ [])
      (much : count ≤ 2 ^ 40) where
    abbrev x : X
    x = parts a

    far : (last : E) (pieces : List (List ℕ)) → EatenChain eats a last pieces
        → SoFar (tells x) (o x) (process x) (pass a) (pass last) (bytes_of pieces) (line last)
    far last pieces chain =
        walks x (pass a) a last [] pieces refl (subst (SoFar (tells x) (o x) (process x) (pass a) (pass a) []) (sym none)
        (record { done = []; has = has_none; chain = refl })) chain

    pub makes_fed : (how : ReadEnd MakeFault) → Feeds eats stops a e left left_now before count how
        → MakesReports (tells x) (o x) (process x) (pass a) (pass e) left left_now count (child_served_as how)
    makes_fed fed.Ended feeds =
        let read = bytes_of feeds.pieces in
        let last = feeds.last in
        let on = far last feeds.pieces feeds.chain in
        let all = feeds.ends.0 in
        subst (λ (y : E). MakesReports (tells x) (o x) (process x) (pass a) (pass y) left left_now count (child_served_as fed.Ended))
        (sym all.there)
        (read_ends (tells x) (o x) (process x) (pass a) (pass last) left left_now read (line last) on count (child_served_as fed.Ended)
        (pass last) all.consumed (omega (arith, all.counted, zero)) (omega (arith, all.counted, zero, much)) (
          refl,
          all_read (tells x) (o x) (process x) (pass a) (pass last) left left_now read (line last) on all.consumed feeds.ends.1
              (omega (arith, all.counted, zero, feeds.ends.2)),
        ))
    makes_fed fed.ReadFault feeds =
        let read = bytes_of feeds.pieces in
        let last = feeds.last in
        let on = far last feeds.pieces feeds.chain in
        let all = feeds.ends.0 in
        subst (λ (y : E). MakesReports (tells x) (o x) (process x) (pass a) (pass y) left left_now count (child_served_as fed.ReadFault))
        (sym all.there)
        (read_ends (tells x) (o x) (process x) (pass a) (pass last) left left_now read (line last) on count (child_served_as fed.ReadFault)
        (pass last) all.consumed (omega (arith, all.counted, zero)) (omega (arith, all.counted, zero, much))
        (refl, (omega (arith, all.counted, zero, feeds.ends.1), all_told read on.done (line last) on.has)))
    makes_fed fed.Worn feeds =
        let read = bytes_of feeds.pieces in
        let last = feeds.last in
        let on = far last feeds.pieces feeds.chain in
        let all = feeds.ends.0 in
        subst (λ (y : E). MakesReports (tells x) (o x) (process x) (pass a) (pass y) left left_now count (child_served_as fed.Worn))
        (sym all.there)
        (read_ends (tells x) (o x) (process x) (pass a) (pass last) left left_now read (line last) on count (child_served_as fed.Worn)
        (pass last) all.consumed (omega (arith, all.counted, zero)) (omega (arith, all.counted, zero, much))
        (refl, (omega (arith, all.counted, zero, feeds.ends.1), all_told read on.done (line last) on.has)))
    makes_fed (fed.Stopped why) feeds =
        let read = bytes_of feeds.pieces in
        let last = feeds.last in
        let end = feeds.ends in
        let stopped = subst (λ (y : X). Stops (tells y) (o y) (process y) end.piece (line last) (line e) (pass last) (pass e) why)
        (stay a last feeds.pieces feeds.chain) end.stopped.1 in
        report_lacks (tells x) (o x) (process x) (pass a) (pass last) left left_now read (line last)
        (far last feeds.pieces feeds.chain) end.piece (line e) (pass e) count
        end.consumed (omega (arith, end.counted, zero)) much why stopped

-- ## What is left is read

module _ {E S : Type 0} (a e : E) (left left_now : Option (List ℕ)) (count count_now faults faults_now : ℕ)
    (most : count_now ≤ 2 ^ 40) where
  pub reads_on : (how : ReadEnd S) → Feeds {D = E} {S = S} (λ a b piece. Unit {0})
      (λ a b piece why. ⊥) a e left left_now count count_now how → IsFedFor how faults faults_now
      → ReadsOn left left_now count faults faults_now
  reads_on fed.Ended feeds same = record {
    more = bytes_of feeds.pieces;
    consumed = feeds.ends.0.consumed;
    most = omega (arith, feeds.ends.0.counted, most);
    out = inl feeds.ends.1;
    caused = inl same;
  }
  reads_on fed.ReadFault feeds rose = record {
    more = bytes_of feeds.pieces;
    consumed = feeds.ends.0.consumed;
    most = omega (arith, feeds.ends.0.counted, most);
    out = inr (inr rose);
    caused = inr rose;
  }
  reads_on fed.Worn feeds same = record {
    more = bytes_of feeds.pieces;
    consumed = feeds.ends.0.consumed;
    most = omega (arith, feeds.ends.0.counted, most);
    out = inr (inl (omega (arith, feeds.ends.0.counted, feeds.ends.1)));
    caused = inl same;
  }
  reads_on (fed.Stopped why) feeds same = absurd feeds.ends.stopped
