-- What an item can hold can stand in a body.
use Rattle.std.proofs.Common.{ℕ, List, [], ◌∷◌, Option, Some, None}
use Rattle.std.specs.Prelude.{IfSome}
use Rattle.std.specs.List.{AllByRecursion}
use Rattle.ndr_body.specs.Laws.{IsSent}
use Rattle.scm_shapes.specs.declared.item.Item.{Item}
use Rattle.scm_shapes.specs.declared.item.Item.TheVariants as item
use Rattle.scm_shapes.specs.declared.item.Value.{Value}
use Rattle.scm_shapes.specs.declared.item.Value.TheVariants as value
use Rattle.scm_shapes.specs.Laws.{AreSent, CanHold, CanHoldAll, IsEncodable}

words_carried : (words : Option (List (List ℕ))) → IfSome words AreSent → IfSome words (λ words. AllByRecursion IsSent words)
words_carried None h = tt
words_carried (Some words) h = h.sent

value_carried : (kind : Item) (v : Value) → CanHold kind v → IsEncodable v
value_carried item.Handle (value.Handle n) h = h
value_carried item.Number (value.Number n) h = h
value_carried (item.NumberTo most) (value.Number n) h = h.small
value_carried item.Text (value.Text text) h = h
value_carried item.SomeText (value.SomeText text) h = h
value_carried item.UnkeptText value.UnkeptText h = h
value_carried item.SomeNumber (value.SomeNumber n) h = h
value_carried item.SomeBytes (value.SomeBytes held) h = h
value_carried item.UnkeptBytes value.UnkeptBytes h = h
value_carried (item.SizedArray most) (value.SizedArray held) h = h.small
value_carried item.Bytes (value.Bytes size held) h = h
value_carried item.Words (value.Words words) h = words_carried words h
value_carried item.Lock (value.Lock held owner seconds) h = h
value_carried item.Shown (value.Shown shown) h = h
value_carried item.Info (value.Info asked) h = h.sent
value_carried _ _ h = absurd h

pub all_carried : (shape : List Item) (vs : List Value) → CanHoldAll shape vs → AllByRecursion IsEncodable vs
all_carried [] [] h = tt
all_carried (kind ∷ kinds) (v ∷ vs) h = (value_carried kind v h.0, all_carried kinds vs h.1)
all_carried [] (v ∷ vs) h = absurd h
all_carried (kind ∷ kinds) [] h = absurd h
