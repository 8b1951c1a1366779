-- What is written to an object that may tell what it holds.
use Rattle.std.specs.Prelude.{ℕ, ◌≡◌, List, [], ◌++◌, Option, None, Some, IfSome, Result, Ok, Err}
use Rattle.std.specs.Io.KnownBytes.{Appends}

-- all begins with front
abbrev pub Begins : {A : Type 0} → List A → List A → Type 0
Begins {A} front all = (rest : List A) × (all ≡ front ++ rest)

-- a front of these bytes was written, where the object tells
pub record AppendsFront (old new : Option (List ℕ)) (bytes : List ℕ) : Type 0 where
  pub front : List ℕ
  pub begins : Begins front bytes
  pub held : Appends old new front

-- just these bytes were written, or at an error a front of them
abbrev pub Writes : {T E : Type 0} → Option (List ℕ) → Option (List ℕ) → Result T E → List ℕ → Type 0
Writes old new (Ok done) bytes = Appends old new bytes
Writes old new (Err fault) bytes = AppendsFront old new bytes

-- Nothing was written yet to a connection whose peer is told to send these bytes. Where it is told what a peer sends, it is told too what
-- it is written.
abbrev pub IsFresh : (given began : Option (List ℕ)) → Type 0
IsFresh None began = IfSome began (λ bytes. bytes ≡ [])
IsFresh (Some peer) began = began ≡ Some []
