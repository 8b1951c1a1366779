-- One read behind the others.
use Rattle.std.proofs.Common.{ℕ, ◌≡◌, ◌+◌, ◌^◌, List, [], ◌∷◌, ◌++◌, length, Option, Ok, refl, sym, ap, ◌∙◌, subst, append_assoc}
use Rattle.std.proofs.Common.{append-nil, arith, length-append}
use Rattle.std.specs.Io.KnownBytes.{Consumes}
use Rattle.std.proofs.KnownBytes.{Consumes-nil, Consumes-trans}
use Rattle.feed_loop.specs.declared.fed.ReadEnd.{ReadEnd}
use Rattle.feed_loop.specs.declared.fed.ReadEnd.TheVariants as fed
use Rattle.feed_loop.specs.Feeding.{AllEaten, FeedChain, EndsSo, FedOnce, Feeds, bytes_of}

-- all that was read so far was eaten
pub record SoFar {D : Type 0} (eats : D → D → List ℕ → Type 0) (a m : D) (left left_now : Option (List ℕ))
    (count count_now : ℕ) : Type 0 where
  pub pieces : List (List ℕ)
  pub chain : FeedChain eats a m pieces
  pub consumed : Consumes left left_now (bytes_of pieces)
  pub counted : count_now ≡ count + length (bytes_of pieces)

bytes_more : (pieces : List (List ℕ)) (piece : List ℕ) → bytes_of (pieces ++ piece ∷ []) ≡ bytes_of pieces ++ piece
bytes_more [] piece = append-nil piece
bytes_more (first ∷ pieces) piece = ap (λ bytes. first ++ bytes) (bytes_more pieces piece)
    ∙ sym (append_assoc first (bytes_of pieces) piece)

module _ {D : Type 0} (eats : D → D → List ℕ → Type 0) where
  chain_more : (a m b : D) (pieces : List (List ℕ)) (piece : List ℕ) → FeedChain eats a m pieces → eats m b piece
      → FeedChain eats a b (pieces ++ piece ∷ [])
  chain_more a m b [] piece on eaten = (b, subst (λ x. eats x b piece) on eaten, refl)
  chain_more a m b (first ∷ pieces) piece on eaten = (on.0, on.1, chain_more on.0 m b pieces piece on.2 eaten)

  -- nothing was read
  pub begins : (a : D) (left : Option (List ℕ)) (count : ℕ) → SoFar eats a a left left count count
  begins a left count = record { pieces = []; chain = refl; consumed = Consumes-nil left; counted = omega arith }

  -- one piece more was eaten
  pub goes_on : {T S : Type 0} (stops : D → D → List ℕ → S → Type 0) (a m b : D) (left mid left_now : Option (List ℕ))
      (count before now : ℕ) (done : T)
      → SoFar eats a m left mid count before → FedOnce {T = T} eats stops m b mid left_now before now (Ok done)
      → SoFar eats a b left left_now count now
  goes_on stops a m b left mid left_now count before now done on fed = record {
    pieces = on.pieces ++ fed.0 ∷ [];
    chain = chain_more a m b on.pieces fed.0 on.chain fed.4;
    consumed = subst (Consumes left left_now) (sym (bytes_more on.pieces fed.0))
        (Consumes-trans left mid left_now (bytes_of on.pieces) fed.0 on.consumed fed.2);
    counted = omega (arith, fed.3, on.counted, ap length (bytes_more on.pieces fed.0), length-append (bytes_of on.pieces) fed.0);
  }

  all_eaten : (a m b : D) (left mid left_now : Option (List ℕ)) (count before now : ℕ) (on : SoFar eats a m left mid count before)
      → AllEaten m b mid left_now before now [] → AllEaten m b left left_now count now (bytes_of on.pieces)
  all_eaten a m b left mid left_now count before now on all = record {
    there = all.there;
    consumed = subst (Consumes left left_now) (append-nil (bytes_of on.pieces))
        (Consumes-trans left mid left_now (bytes_of on.pieces) [] on.consumed all.consumed);
    counted = omega (arith, all.counted, on.counted);
  }

  module _ {S : Type 0} (stops : D → D → List ℕ → S → Type 0) where
    -- enough was read
    pub worn : (a m : D) (left left_now : Option (List ℕ)) (count now : ℕ) → SoFar eats a m left left_now count now → now ≡ 2 ^ 40
        → Feeds eats stops a m left left_now count now fed.Worn
    worn a m left left_now count now on enough = record {
      pieces = on.pieces;
      last = m;
      chain = on.chain;
      ends = (record { there = refl; consumed = on.consumed; counted = on.counted }, enough);
    }

    ends_behind : (a m b : D) (left mid left_now : Option (List ℕ)) (count before now : ℕ) (how : ReadEnd S)
        (on : SoFar eats a m left mid count before)
        → EndsSo stops m b mid left_now before now [] how → EndsSo stops m b left left_now count now (bytes_of on.pieces) how
    ends_behind a m b left mid left_now count before now fed.Ended on ends =
        (all_eaten a m b left mid left_now count before now on ends.0, ends.1, ends.2)
    ends_behind a m b left mid left_now count before now fed.ReadFault on ends =
        (all_eaten a m b left mid left_now count before now on ends.0, ends.1)
    ends_behind a m b left mid left_now count before now fed.Worn on ends =
        (all_eaten a m b left mid left_now count before now on ends.0, ends.1)
    ends_behind a m b left mid left_now count before now (fed.Stopped why) on ends = record {
      piece = ends.piece;
      some = ends.some;
      short = ends.short;
      consumed = Consumes-trans left mid left_now (bytes_of on.pieces) ends.piece on.consumed ends.consumed;
      counted = omega (arith, ends.counted, on.counted);
      stopped = ends.stopped;
    }

    -- one more read ends it
    pub ends_so : (a m b : D) (left mid left_now : Option (List ℕ)) (count before now : ℕ) (how : ReadEnd S)
        → SoFar eats a m left mid count before → EndsSo stops m b mid left_now before now [] how
        → Feeds eats stops a b left left_now count now how
    ends_so a m b left mid left_now count before now how on ends = record {
      pieces = on.pieces;
      last = m;
      chain = on.chain;
      ends = ends_behind a m b left mid left_now count before now how on ends;
    }
