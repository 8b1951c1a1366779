-- Which bytes are a body of a shape: a relation on whole bodies. Padding holds anything, a nonzero referent is any,
-- and at most three bytes follow, or any that a level that isn't served leaves open.
use Rattle.std.specs.Prelude.{◌≡◌, ◌<◌, ◌≤◌, ◌⊎◌, ℕ, List, [], ◌∷◌, length, IsTrue, Option, None, Some, Ok}
use Rattle.ndr_body.specs.Spelled.{IsNumber, IsHandle, IsText, IsBytesOf, IsPointed, IsEnded, Stands}
use Rattle.scm_shapes.specs.declared.item.Item.{Item}
use Rattle.scm_shapes.specs.declared.item.Item.TheVariants as item
use Rattle.scm_shapes.specs.declared.item.Value.{Value}
use Rattle.scm_shapes.specs.declared.item.Value.TheVariants as value
use Rattle.scm_shapes.specs.Words.{pointing, words_of, unlisted}
use Rattle.scm_shapes.specs.Ranges.{WithinStands}
use Rattle.scm_shapes.specs.Records.{RecordStands, owners, lock_of, shown_told, shown_from}
use Rattle.scm_shapes.specs.Parts.{Holds}
use Rattle.scm_shapes.specs.Levels.{InfoStands}
use Rattle.scm_shapes.specs.Shapes.{leave_open}

-- ## Bytes with their size, and words

-- bytes, and their length of at most so much after them
pub record SizedArrayStands (most : ℕ) (bytes : List ℕ) (place : ℕ) (held : List ℕ) (after : ℕ) : Type 0 where
  pub in_range : length held ≤ most
  pub after_held : ℕ
  pub held_stands : Stands IsBytesOf bytes place held after_held
  pub size_stands : Stands IsNumber bytes after_held (length held) after

-- a size that follows bytes is their length, or any number if there are none
abbrev pub IsSize : Option (List ℕ) → ℕ → Type 0
IsSize None size = Unit {0}
IsSize (Some held) size = length held ≡ size

-- a unique pointer to bytes, and the size of these
pub record SizedStands (bytes : List ℕ) (place : ℕ) (held : Option (List ℕ)) (after : ℕ) : Type 0 where
  pub after_held : ℕ
  pub held_stands : Stands (IsPointed IsBytesOf) bytes place held after_held
  pub size : ℕ
  pub size_stands : Stands IsNumber bytes after_held size after
  pub is_size : IsSize held size

-- without a list: the words are empty where their count is 0, and else absent
pub record IsUnlisted (argc : ℕ) (bytes : List ℕ) (place : ℕ) (words : Option (List (List ℕ))) (after : ℕ) : Type 0 where
  pub pointer_stands : Stands IsNumber bytes place 0 after
  pub is : words ≡ unlisted argc

-- a pointer that isn't 0, the count again, a pointer per word, and the texts of those that aren't 0
pub record IsListed (argc : ℕ) (bytes : List ℕ) (place : ℕ) (words : Option (List (List ℕ))) (after : ℕ) : Type 0 where
  pub to_list : ℕ
  pub points : 0 < to_list
  pub after_to_list : ℕ
  pub to_list_stands : Stands IsNumber bytes place to_list after_to_list
  pub after_count : ℕ
  pub count_stands : Stands IsNumber bytes after_to_list argc after_count
  pub words_stand : RecordStands argc (λ pointers. Ok (pointing pointers)) words_of bytes after_count words after

-- at most 1,024 words
pub record WordsStand (bytes : List ℕ) (place : ℕ) (words : Option (List (List ℕ))) (after : ℕ) : Type 0 where
  pub argc : ℕ
  pub after_argc : ℕ
  pub argc_stands : Stands IsNumber bytes place argc after_argc
  pub in_range : argc ≤ 1024
  pub argv_stands : IsUnlisted argc bytes after_argc words after ⊎ IsListed argc bytes after_argc words after

-- ## Shapes

-- an item of this kind stands at a place, and holds the value
abbrev pub ItemStands : Item → List ℕ → ℕ → Value → ℕ → Type 0
ItemStands item.Handle = Holds value.Handle (Stands IsHandle)
ItemStands item.Number = Holds value.Number (Stands IsNumber)
ItemStands (item.NumberTo most) = Holds value.Number (WithinStands most)
ItemStands item.Text = Holds value.Text (Stands IsText)
ItemStands item.SomeText = Holds value.SomeText (Stands (IsPointed IsText))
ItemStands item.UnkeptText = Holds (λ text. value.UnkeptText) (Stands (IsPointed IsText))
ItemStands item.SomeNumber = Holds value.SomeNumber (Stands (IsPointed IsNumber))
ItemStands item.SomeBytes = Holds value.SomeBytes SizedStands
ItemStands item.UnkeptBytes = Holds (λ held. value.UnkeptBytes) SizedStands
ItemStands (item.SizedArray most) = Holds value.SizedArray (SizedArrayStands most)
ItemStands item.Bytes = Holds (λ held. value.Bytes (length held) held) (Stands IsBytesOf)
ItemStands item.Words = Holds value.Words WordsStand
ItemStands item.Lock = Holds (λ l. value.Lock l.0 l.1 l.2) (RecordStands 3 owners lock_of)
ItemStands item.Shown = Holds value.Shown (RecordStands 9 shown_told shown_from)
ItemStands item.Info = Holds value.Info InfoStands

-- items of these kinds stand one after the other
abbrev pub ValuesStand : List Item → List ℕ → ℕ → List Value → ℕ → Type 0
ValuesStand [] bytes place [] after = after ≡ place
ValuesStand (kind ∷ kinds) bytes place (v ∷ vs) after = (middle : ℕ) × ItemStands kind bytes place v middle
    × ValuesStand kinds bytes middle vs after
ValuesStand [] bytes place (v ∷ vs) after = ⊥
ValuesStand (kind ∷ kinds) bytes place [] after = ⊥

-- bytes are a body of this shape, and hold the values; any bytes may follow where these leave it open
pub record IsBody (shape : List Item) (bytes : List ℕ) (values : List Value) : Type 0 where
  pub end : ℕ
  pub stand : ValuesStand shape bytes 0 values end
  pub ends : IsTrue (leave_open values) ⊎ IsEnded bytes end
