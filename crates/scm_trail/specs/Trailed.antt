use Rattle.std.specs.Prelude.{ℕ, ◌≡◌, ◌+◌, ◌≤◌, Bool, true, false, List, [], ◌∷◌, ◌++◌, length}
use Rattle.scm_model.specs.Entries.{Entry, text_in}
use Rattle.scm_model.specs.Texts.{text_of}
use Rattle.scm_trail.specs.Segments.{first_codes}

-- the entries of a history that are held, after so many that were let go, and what there is room for after them
pub record Trailed : Type 0 where
  pub past : ℕ  -- how many entries were let go
  pub entries : List Entry  -- those that are held
  pub text : ℕ  -- how much text both have
  pub room : ℕ  -- how many entries more
  pub text_room : ℕ  -- how much text these may have together
  pub parts : List (List Entry)  -- the entries of each segment

-- no entries, and no room for any
abbrev pub no_entries : Trailed
no_entries = record { past = 0; entries = []; text = 0; room = 0; text_room = 0; parts = [] }

-- the first part was let go, and all else is as it was
pub record LetsGo (old new : Trailed) : Type 0 where
  pub part : List Entry
  pub parts : old.parts ≡ part ∷ new.parts
  pub past : new.past ≡ old.past + length part
  pub entries : old.entries ≡ part ++ new.entries
  pub text : new.text ≡ old.text
  pub room : new.room ≡ old.room
  pub text_room : new.text_room ≡ old.text_room

abbrev pub LetsGoIf : Bool → Trailed → Trailed → Type 0
LetsGoIf true old new = LetsGo old new
LetsGoIf false old new = new ≡ old

-- the entries are as they were, and there may be more room
pub record Stays (old new : Trailed) : Type 0 where
  pub past : new.past ≡ old.past
  pub entries : new.entries ≡ old.entries
  pub text : new.text ≡ old.text
  pub first : length (first_codes old.parts) ≤ length (first_codes new.parts)

-- one entry more is held
pub record Extends (old new : Trailed) (e : Entry) : Type 0 where
  pub past : new.past ≡ old.past
  pub entries : new.entries ≡ old.entries ++ e ∷ []
  pub text : new.text ≡ old.text + text_of e.1
  pub first : length (first_codes old.parts) ≤ length (first_codes new.parts)

-- what is held is the end of a history, and what comes before it was let go
pub record Ends (t : Trailed) (log : List Entry) : Type 0 where
  pub front : List Entry
  pub is : log ≡ front ++ t.entries
  pub past : t.past ≡ length front
  pub text : t.text ≡ text_in log
