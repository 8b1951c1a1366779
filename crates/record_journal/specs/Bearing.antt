-- What a keeper holds of a journal, where it tells its bytes, and what a crash leaves of it.
use Rattle.std.specs.Prelude.{ℕ, ◌≡◌, ◌⊎◌, ◌+◌, true, false, List, [], ◌∷◌, ◌++◌, fold, length, take, Option, None, Some, Result, Ok, Err}
use Rattle.std.specs.Prelude.{if◌then◌else◌, option_map}
use Rattle.outside.specs.Written.{Begins}
use Rattle.scm_model.specs.declared.steps.Change.{Change}
use Rattle.record_journal.specs.Crashes.{Crashes, EachLeaves}
use Rattle.record_journal.specs.Format.{piece}
use Rattle.scm_model.specs.declared.steps.Form.{Form}
use Rattle.scm_model.specs.declared.steps.Form.TheVariants.{Second}
use Rattle.record_journal.specs.declared.journal.Journal.{Journal}

-- ## What one call does to the bytes

-- after so many bytes more, with nothing else after them; what is appended ends in form 2
abbrev pub journal_grown : Journal → List ℕ → Journal
journal_grown j bytes = record { good = j.good + length bytes; dirty = false; form = Second }

-- a part of a piece may stand after the bytes
abbrev pub broken : Journal → Journal
broken j = record j { dirty = true }

-- the bytes that are kept: if a part may stand after them, as many as the journal says
abbrev pub kept_of : Journal → List ℕ → List ℕ
kept_of j bytes = if j.dirty then take j.good bytes else bytes

-- what is kept is left; at a fault that, or all
abbrev pub Mends : {E : Type 0} → Journal → Option (List ℕ) → Option (List ℕ) → Result (Unit {0}) E → Type 0
Mends j None now result = Unit {0}
Mends j (Some bytes) None result = ⊥
Mends j (Some bytes) (Some now) (Ok done) = now ≡ kept_of j bytes
Mends j (Some bytes) (Some now) (Err fault) = (now ≡ bytes) ⊎ (now ≡ kept_of j bytes)

-- a piece stands after what is kept; at a fault a front of it does, or all is as it was
abbrev pub Puts : {E : Type 0} → List ℕ → Journal → Option (List ℕ) → Option (List ℕ) → Result (Unit {0}) E → Type 0
Puts piece j None now result = Unit {0}
Puts piece j (Some bytes) None result = ⊥
Puts piece j (Some bytes) (Some now) (Ok done) = now ≡ kept_of j bytes ++ piece
Puts piece j (Some bytes) (Some now) (Err fault) = (now ≡ bytes) ⊎ ((front : List ℕ) × Begins front piece
    × (now ≡ kept_of j bytes ++ front))

-- ## What is kept, call by call

-- bytes of a journal, the form in which they end, and the changes whose append failed since the last that was kept
pub record Stood : Type 0 where
  pub bytes : List ℕ
  pub form : Form
  pub lost : List Change

abbrev pub stood : Form → List ℕ → Stood
stood form bytes = record { bytes = bytes; form = form; lost = [] }

-- bytes that end in this form, if they are known
abbrev pub stood_in : Form → Option (List ℕ) → Option Stood
stood_in form told = option_map (stood form) told

-- the piece of a change that is appended to what stands
abbrev pub piece_after : Stood → Change → List ℕ
piece_after s change = piece (length s.bytes) s.form change

abbrev pub IsAmong : Change → List Change → Type 0
IsAmong change [] = ⊥
IsAmong change (first ∷ rest) = (change ≡ first) ⊎ IsAmong change rest

-- a front of the piece of a change whose append failed
pub record PartOf (s : Stood) (tail : List ℕ) : Type 0 where
  pub change : Change
  pub lost : IsAmong change s.lost
  pub begins : Begins tail (piece_after s change)

-- after what is kept stands nothing, or such a front
abbrev pub Tail : Stood → List ℕ → Type 0
Tail s tail = (tail ≡ []) ⊎ PartOf s tail

-- what is kept, and such a tail
pub record IsKept (s : Stood) (now : List ℕ) : Type 0 where
  pub tail : List ℕ
  pub holds : now ≡ s.bytes ++ tail
  pub part : Tail s tail

-- so it is with a journal; where it isn't dirty there is no tail
pub record Borne (s : Stood) (j : Journal) (now : List ℕ) : Type 0 where
  pub kept : IsKept s now
  pub clean : j.dirty ≡ false → kept.tail ≡ []
  pub long : j.good ≡ length s.bytes
  pub form : j.form ≡ s.form

-- a keeper holds this of a journal, where it tells its bytes
abbrev pub Bears : Option Stood → Journal → Option (List ℕ) → Type 0
Bears None j told = Unit {0}
Bears (Some s) j None = ⊥
Bears (Some s) j (Some now) = Borne s j now

-- what is left of a journal when it is closed
abbrev pub KeptIn : Option Stood → Option (List ℕ) → Type 0
KeptIn None told = Unit {0}
KeptIn (Some s) None = ⊥
KeptIn (Some s) (Some now) = IsKept s now

-- a change is kept
abbrev pub with_change : Stood → Change → Stood
with_change s change = record { bytes = s.bytes ++ piece_after s change; form = Second; lost = [] }

-- its append failed
abbrev pub with_lost : Stood → Change → Stood
with_lost s change = record s { lost = change ∷ s.lost }

abbrev pub and_change : Option Stood → Change → Option Stood
and_change None change = None
and_change (Some s) change = Some (with_change s change)

abbrev pub and_changes : Option Stood → List Change → Option Stood
and_changes told changes = fold and_change told changes

-- one change more is kept, whatever was kept before
unfoldable pub BearsMore : Change → Journal → Option (List ℕ) → Journal → Option (List ℕ) → Type 0
BearsMore change j told j' told' = (s : Option Stood) → Bears s j told → Bears (option_map (λ s. with_change s change) s) j' told'

-- what was kept is kept, and the append of one change more failed
unfoldable pub BearsLost : Change → Journal → Option (List ℕ) → Journal → Option (List ℕ) → Type 0
BearsLost change j told j' told' = (s : Option Stood) → Bears s j told → Bears (option_map (λ s. with_lost s change) s) j' told'

-- ## Crashes

-- what a crash now leaves is what is kept, and such a tail
abbrev pub Stands : Stood → Crashes → Type 0
Stands s c = (x : List ℕ) → c.leaves x → IsKept s x

abbrev pub StandsIn : Option Stood → Crashes → Type 0
StandsIn None c = Unit {0}
StandsIn (Some s) c = Stands s c

-- so it is at each moment of the append of a change, whose piece may stand in part or whole
unfoldable pub MovesOn : Change → Journal → Option (List ℕ) → Crashes → Crashes → Type 0
MovesOn change j told old new = (s : Stood) → Bears (Some s) j told → Stands s old → EachLeaves (IsKept (with_lost s change)) old new
