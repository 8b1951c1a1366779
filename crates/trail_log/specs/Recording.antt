-- Codes of a trail that go to a log.
use Rattle.std.specs.Prelude.{ℕ, ◌≡◌, ◌+◌, ◌≤◌, List, ◌++◌, Option, drop, length}
use Rattle.std.specs.List.{flat_map}
use Rattle.std.specs.Io.KnownBytes.{Keeps, append_known}
use mathlib.Core.List.{IsPrefix}
use Rattle.scm_model.specs.Entries.{Entry}
use Rattle.step_code.specs.Codes.{code_of}
use Rattle.scm_trail.specs.Trailed.{Ends, Trailed}
pub use Rattle.scm_trail.specs.Segments.{first_codes}

-- the codes of all that a trail holds
abbrev pub held_codes : List (List Entry) → List ℕ
held_codes parts = flat_map (λ part. flat_map code_of part) parts

-- the codes that the log doesn't have yet, if it has so many bytes of the first part
abbrev pub unlogged : ℕ → List (List Entry) → List ℕ
unlogged at parts = drop at (held_codes parts)

abbrev pub IsWithin : ℕ → List (List Entry) → Type 0
IsWithin at parts = at ≤ length (first_codes parts)

-- nothing but some first entries was let go
pub record LetsFrontGo (old new : Trailed) : Type 0 where
  pub gone : List Entry
  pub entries : old.entries ≡ gone ++ new.entries
  pub past : new.past ≡ old.past + length gone
  pub text : new.text ≡ old.text
  pub room : new.room ≡ old.room
  pub text_room : new.text_room ≡ old.text_room

-- The trail holds the end of a history. The log told what it had before the history, and tells the codes of all entries since but the last
-- bytes, which the trail still holds.
pub record Stands (was : Option (List ℕ)) (log : List Entry) (t : Trailed) (at : ℕ) (held : Option (List ℕ)) : Type 0 where
  pub ends : Ends t log
  pub within : IsWithin at t.parts
  pub fits : at ≤ length (flat_map code_of t.entries)
  pub logged : Keeps (append_known was (flat_map code_of log)) (append_known held (drop at (flat_map code_of t.entries)))

-- The trail holds the end of a history. The log told what it had before the history, and tells a front of the codes since: so it is at each
-- moment, and so it stays of a log that takes nothing more.
pub record HasFront (was : Option (List ℕ)) (log : List Entry) (t : Trailed) (held : Option (List ℕ)) : Type 0 where
  pub ends : Ends t log
  pub front : List ℕ
  pub begins : IsPrefix front (flat_map code_of log)
  pub told : Keeps (append_known was front) held
