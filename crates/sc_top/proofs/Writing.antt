-- Pieces that are written in a row.
use Rattle.std.proofs.Common.{◌≡◌, ℕ, ◌+◌, ◌<◌, ◌≤◌, List, [], ◌∷◌, ◌++◌, length, drop, get_or, refl, sym, ap, ◌∙◌, add-one}
use Rattle.std.specs.Prelude.{suc, Option}
use Rattle.std.specs.List.{flat_map}
use Rattle.std.specs.Io.KnownBytes.{Appends}
use Rattle.std.proofs.Math.Seq.{drop-cons}
use Rattle.std.proofs.Math.ListN.{drop_of_length-le}
use Rattle.outside.specs.Written.{AppendsFront}
use Rattle.outside.proofs.Sending.{Sent, sent_more, sent_failed, sent_all}

module _ {A : Type 0} (f : A → List ℕ) (xs : List A) (place : ℕ) (old mid new : Option (List ℕ)) where
  -- the piece at a place, whatever the default is, and those after it
  piece_and : (d : A) → place < length xs → flat_map f (drop place xs) ≡ f (get_or xs place d) ++ flat_map f (drop (place + 1) xs)
  piece_and d h = rw add-one (ap (flat_map f) (drop-cons xs place d h))

  -- one more was written
  pub piece_sent : (d : A) → place < length xs → Sent old mid (flat_map f xs) (flat_map f (drop place xs))
      → Appends mid new (f (get_or xs place d))
      → Sent old new (flat_map f xs) (flat_map f (drop (place + 1) xs))
  piece_sent d h s a = sent_more old mid new (flat_map f xs) (flat_map f (drop place xs)) (f (get_or xs place d))
      (flat_map f (drop (place + 1) xs)) s (piece_and d h) a

  -- or a front of it
  pub piece_failed : (d : A) → place < length xs → Sent old mid (flat_map f xs) (flat_map f (drop place xs))
      → AppendsFront mid new (f (get_or xs place d))
      → AppendsFront old new (flat_map f xs)
  piece_failed d h s a = sent_failed old mid new (flat_map f xs) (flat_map f (drop place xs)) (f (get_or xs place d))
      (flat_map f (drop (place + 1) xs)) s (piece_and d h) a

-- all were
pub pieces_sent : {A : Type 0} (f : A → List ℕ) (xs : List A) (place : ℕ) (old new : Option (List ℕ)) → length xs ≤ place
    → Sent old new (flat_map f xs) (flat_map f (drop place xs)) → Appends old new (flat_map f xs)
pieces_sent f xs place old new h s = sent_all old new (flat_map f xs) (flat_map f (drop place xs)) s
    (ap (λ ys. length (flat_map f ys)) (drop_of_length-le xs h))
