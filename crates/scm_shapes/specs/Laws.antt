-- Which values have a body of a shape, and what is read of the one that is written.
use Rattle.std.specs.Prelude.{◌<◌, ◌≤◌, ◌^◌, ℕ, List, [], ◌∷◌, length, take, IsTrue, Some, IfSome}
use Rattle.std.specs.List.{AllByRecursion}
use Rattle.scm_model.specs.declared.calls.Info.{Info}
use Rattle.scm_model.specs.declared.calls.Shown.{Shown}
use Rattle.scm_model.specs.Ranges.{info_in_range}
use Rattle.ndr_body.specs.Laws.{IsSent, filled}
use Rattle.scm_shapes.specs.Records.{shown_texts}
use Rattle.scm_shapes.specs.Levels.{IsInfoSent}
use Rattle.scm_shapes.specs.declared.item.Item.{Item}
use Rattle.scm_shapes.specs.declared.item.Item.TheVariants as item
use Rattle.scm_shapes.specs.declared.item.Value.{Value}
use Rattle.scm_shapes.specs.declared.item.Value.TheVariants as value

-- at most 1,024 words that a body can hold
pub record AreSent (words : List (List ℕ)) : Type 0 where
  pub few : length words ≤ 1024
  pub sent : AllByRecursion IsSent words

-- a number of at most so much
pub record IsWithin (most n : ℕ) : Type 0 where
  pub in_range : n ≤ most
  pub small : n < 2 ^ 32

-- a configuration whose numbers and texts a body can hold
pub record IsShown (shown : Shown) : Type 0 where
  pub kind : shown.kind < 2 ^ 32
  pub start : shown.start < 2 ^ 32
  pub error : shown.error < 2 ^ 32
  pub tag : shown.tag < 2 ^ 32
  pub texts : AllByRecursion IsSent (shown_texts (Some shown))

-- what is asked at a level, with its counts in their ranges
pub record IsInfo (asked : Info) : Type 0 where
  pub in_range : IsTrue (info_in_range asked)
  pub sent : IsInfoSent asked

-- a value that an item of this kind can hold
abbrev pub CanHold : Item → Value → Type 0
CanHold item.Handle (value.Handle n) = n < 2 ^ 64
CanHold item.Number (value.Number n) = n < 2 ^ 32
CanHold (item.NumberTo most) (value.Number n) = IsWithin most n
CanHold item.Text (value.Text text) = IsSent text
CanHold item.SomeText (value.SomeText text) = IfSome text IsSent
CanHold item.UnkeptText value.UnkeptText = Unit {0}
CanHold item.SomeNumber (value.SomeNumber n) = IfSome n (λ n. n < 2 ^ 32)
CanHold item.SomeBytes (value.SomeBytes held) = IfSome held (λ held. length held < 2 ^ 32)
CanHold item.UnkeptBytes value.UnkeptBytes = Unit {0}
CanHold (item.SizedArray most) (value.SizedArray held) = IsWithin most (length held)
CanHold item.Bytes (value.Bytes size held) = size < 2 ^ 32
CanHold item.Words (value.Words words) = IfSome words AreSent
CanHold item.Lock (value.Lock held owner seconds) = (held < 2 ^ 32) × (IfSome owner IsSent × (seconds < 2 ^ 32))
CanHold item.Shown (value.Shown shown) = IfSome shown IsShown
CanHold item.Info (value.Info asked) = IsInfo asked
CanHold _ _ = ⊥

-- values that a body of this shape can hold
abbrev pub CanHoldAll : List Item → List Value → Type 0
CanHoldAll [] [] = Unit {0}
CanHoldAll (kind ∷ kinds) (v ∷ vs) = CanHold kind v × CanHoldAll kinds vs
CanHoldAll [] (v ∷ vs) = ⊥
CanHoldAll (kind ∷ kinds) [] = ⊥

-- what is read of a value that is written: bytes come with zeros up to their size
abbrev pub as_read : Value → Value
as_read (value.Bytes size held) = value.Bytes size (filled (take size held) size)
as_read v = v

-- a value that can stand in a body, whatever range its item has there
abbrev pub IsEncodable : Value → Type 0
IsEncodable (value.Handle n) = n < 2 ^ 64
IsEncodable (value.Number n) = n < 2 ^ 32
IsEncodable (value.Text text) = IsSent text
IsEncodable (value.SomeText text) = IfSome text IsSent
IsEncodable value.UnkeptText = Unit {0}
IsEncodable (value.SomeNumber n) = IfSome n (λ n. n < 2 ^ 32)
IsEncodable (value.SomeBytes held) = IfSome held (λ held. length held < 2 ^ 32)
IsEncodable value.UnkeptBytes = Unit {0}
IsEncodable (value.SizedArray held) = length held < 2 ^ 32
IsEncodable (value.Bytes size held) = size < 2 ^ 32
IsEncodable (value.Words words) = IfSome words (λ words. AllByRecursion IsSent words)
IsEncodable (value.Lock held owner seconds) = (held < 2 ^ 32) × (IfSome owner IsSent × (seconds < 2 ^ 32))
IsEncodable (value.Shown shown) = IfSome shown IsShown
IsEncodable (value.Info asked) = IsInfoSent asked
