-- What becomes of the pieces of a source, whatever eats them.
use Rattle.std.specs.Prelude.{ℕ, ◌≡◌, ◌<◌, ◌≤◌, ◌+◌, ◌^◌, ◌++◌, List, [], ◌∷◌, length, Option, Result, Ok, Err}
use Rattle.std.specs.Io.KnownBytes.{Consumes, IsAtEnd}
use Rattle.outside.specs.Causes.{Rose}
use Rattle.feed_loop.specs.declared.fed.ReadEnd.{ReadEnd}
use Rattle.feed_loop.specs.declared.fed.ReadEnd.TheVariants as fed

-- where a feeding stands: what eats, and the two objects that it works at
pub record At (E P O : Type 0) : Type 0 where
  pub eater : E
  pub place : P
  pub output : O

-- a feeding that stands at these
abbrev pub fed_at : {E P O : Type 0} → E → P → O → At E P O
fed_at eater place output = record { eater = eater; place = place; output = output }

-- the bytes of pieces
abbrev pub bytes_of : List (List ℕ) → List ℕ
bytes_of [] = []
bytes_of (piece ∷ pieces) = piece ++ bytes_of pieces

-- pieces that were eaten, one after another, lead from a to b
abbrev pub FeedChain : {D : Type 0} → (D → D → List ℕ → Type 0) → D → D → List (List ℕ) → Type 0
FeedChain eats a b [] = b ≡ a
FeedChain {D} eats a b (piece ∷ pieces) = (mid : D) × eats a mid piece × FeedChain eats mid b pieces

-- what has no more than so many bytes may be eaten
abbrev pub MayEat : {D : Type 0} → (D → ℕ → Type 0) → D → (piece : List ℕ) → Type 0
MayEat ready a piece = (most : ℕ) × (length piece ≤ most) × ready a most

-- after a piece, as many bytes fewer may be eaten as it has
abbrev pub MayGoOn : {D : Type 0} → (D → ℕ → Type 0) → D → D → (piece : List ℕ) → Type 0
MayGoOn ready a b piece = (most : ℕ) → ready a (length piece + most) → ready b most

-- the last piece was read, and stopped it
pub record StopsIn {D S : Type 0} (stops : D → D → List ℕ → S → Type 0) (last b : D) (left left_now : Option (List ℕ)) (count count_now : ℕ)
    (read : List ℕ) (why : S) : Type 0 where
  pub piece : List ℕ
  pub some : 0 < length piece
  pub short : length piece ≤ 4096
  pub consumed : Consumes left left_now (read ++ piece)
  pub counted : count_now ≡ count + (length read + length piece)
  pub stopped : stops last b piece why

-- all that was read was eaten
pub record AllEaten {D : Type 0} (last b : D) (left left_now : Option (List ℕ)) (count count_now : ℕ) (read : List ℕ) : Type 0 where
  pub there : b ≡ last
  pub consumed : Consumes left left_now read
  pub counted : count_now ≡ count + length read

-- How it ended: the source did, or a read failed, before 2^40 bytes were read; or so many were; or a piece stopped it.
abbrev pub EndsSo : {D S : Type 0} → (D → D → List ℕ → S → Type 0) → (last b : D) → (left left_now : Option (List ℕ))
    → (count count_now : ℕ) → (read : List ℕ) → ReadEnd S → Type 0
EndsSo stops last b left left_now count count_now read fed.Ended = AllEaten last b left left_now count count_now read × IsAtEnd left_now
    × (count_now < 2 ^ 40)
EndsSo stops last b left left_now count count_now read fed.ReadFault = AllEaten last b left left_now count count_now read
    × (count_now < 2 ^ 40)
EndsSo stops last b left left_now count count_now read fed.Worn = AllEaten last b left left_now count count_now read × (count_now ≡ 2 ^ 40)
EndsSo stops last b left left_now count count_now read (fed.Stopped why) = StopsIn stops last b left left_now count count_now read why

-- Pieces were read and eaten, one after another, and led from a to last; there it ended so.
pub record Feeds {D S : Type 0} (eats : D → D → List ℕ → Type 0) (stops : D → D → List ℕ → S → Type 0) (a b : D)
    (left left_now : Option (List ℕ)) (count count_now : ℕ) (how : ReadEnd S) : Type 0 where
  pub pieces : List (List ℕ)
  pub last : D
  pub chain : FeedChain eats a last pieces
  pub ends : EndsSo stops last b left left_now count count_now (bytes_of pieces) how

-- ## One read

-- some bytes were read and eaten, or it ended at them
abbrev pub FedOnce : {D T S : Type 0} → (D → D → List ℕ → Type 0) → (D → D → List ℕ → S → Type 0) → (a b : D)
    → (left left_now : Option (List ℕ)) → (count count_now : ℕ) → Result T (ReadEnd S) → Type 0
FedOnce eats stops a b left left_now count count_now (Ok done) =
    (piece : List ℕ) × (0 < length piece) × Consumes left left_now piece × (count_now ≡ count + length piece) × eats a b piece
FedOnce eats stops a b left left_now count count_now (Err how) = EndsSo stops a b left left_now count count_now [] how

-- ## Causes

-- the source's count of faults rose where a read failed, and is the same elsewhere
abbrev pub IsFedFor : {S : Type 0} → ReadEnd S → (faults faults_now : ℕ) → Type 0
IsFedFor fed.ReadFault faults faults_now = Rose faults faults_now
IsFedFor how faults faults_now = faults_now ≡ faults
