-- A body is read exactly where it is one of its shape.
use Rattle.std.proofs.Common.{◌≡◌, ℕ, Bool, true, false, cond, eqb, inl, inr, List, [], ◌∷◌, length, Option, Some, None, Result, Ok, Err}
use Rattle.std.proofs.Common.{refl, sym, subst, arith}
use Rattle.std.specs.Prelude.{◌⊎◌, IfOk, IsTrue}
use Rattle.std.proofs.lemmas.Bool.{eqb-true, eq-eqb}
use Rattle.ndr_body.specs.declared.fault.BodyFault.{BodyFault}
use Rattle.ndr_body.specs.declared.fault.BodyFault.TheVariants.{BadCount}
use Rattle.ndr_body.specs.Reading.{◌>>=◌, Gives, aligned, number_at, handle_at, text_at, some_text_at, some_number_at, some_bytes_at}
use Rattle.ndr_body.specs.Reading.{bytes_at, ended_at}
use Rattle.ndr_body.specs.Spelled.{IsNumber, IsHandle, IsText, IsBytesOf, IsPointed, IsEnded, Stands}
use Rattle.ndr_body.proofs.Spelled.{IsBytes, bind_ok, ok_is, number_spelled, number_read}
use Rattle.ndr_body.proofs.SpelledHandles.{handle_spelled, handle_read}
use Rattle.ndr_body.proofs.SpelledTexts.{text_spelled, text_read}
use Rattle.ndr_body.proofs.SpelledPointers.{bytes_spelled, bytes_read, some_text_spelled, some_text_read, some_number_spelled}
use Rattle.ndr_body.proofs.SpelledPointers.{some_number_read, some_bytes_spelled, some_bytes_read, finished_ended, ended_finished}
use Rattle.scm_shapes.specs.declared.item.Item.{Item}
use Rattle.scm_shapes.specs.declared.item.Item.TheVariants as item
use Rattle.scm_shapes.specs.declared.item.Value.{Value}
use Rattle.scm_shapes.specs.declared.item.Value.TheVariants as value
use Rattle.scm_shapes.specs.Ranges.{within_at, WithinStands}
use Rattle.scm_shapes.specs.Sized.{is_size, sized_array_at, sized_at}
use Rattle.scm_shapes.specs.Words.{words_at}
use Rattle.scm_shapes.specs.Shapes.{item_at, values_at, leave_open, closed_at, body_values, first_as, fitted}
use Rattle.scm_shapes.specs.Bodies.{IsSize, SizedArrayStands, SizedStands, WordsStand, ItemStands, ValuesStand, IsBody}
use Rattle.scm_shapes.specs.Records.{RecordStands, record_at, owners, lock_of, lock_at, shown_told, shown_from, shown_at}
use Rattle.scm_shapes.proofs.Ranges.{guard_true, within_found, within_read}
use Rattle.scm_shapes.proofs.Argv.{words_found, words_read}
use Rattle.scm_shapes.proofs.Recorded.{record_exactly}
use Rattle.scm_shapes.specs.Levels.{info_at, InfoStands}
use Rattle.scm_shapes.proofs.Parts.{Exactly, number_exactly, within_exactly, made_exactly}
use Rattle.scm_shapes.proofs.Asked.{info_exactly}

-- ## Bytes with their size

sized_array_found : (most : ℕ) (body : List ℕ) (place : ℕ) (x : List ℕ × ℕ) → IsBytes body → sized_array_at most body place ≡ Ok x
    → SizedArrayStands most body place x.0 x.1
unfolding sized_array_at
sized_array_found most body place x fits e =
    let a = bind_ok (bytes_at body place) (λ held. within_at most body held.1 >>= λ size. cond (eqb (length held.0) size.0)
    (Ok (held.0, size.1)) (Err (BadCount (aligned held.1)))) x e in
    let b = bind_ok (within_at most body a.0.1) (λ size. cond (eqb (length a.0.0) size.0) (Ok (a.0.0, size.1))
    (Err (BadCount (aligned a.0.1)))) x a.2 in
    let g = guard_true (eqb (length a.0.0) b.0.0) (BadCount (aligned a.0.1)) (a.0.0, b.0.1) x b.2 in
    let same : length a.0.0 ≡ b.0.0 = eqb-true (length a.0.0) b.0.0 g.0 in
    let size = within_found most body a.0.1 b.0 fits b.1 in
    subst (λ (y : List ℕ × ℕ). SizedArrayStands most body place y.0 y.1) g.1 (record {
      in_range = omega (arith, same, size.in_range);
      after_held = a.0.1;
      held_stands = bytes_spelled body (aligned place) (aligned place) a.0 fits a.1;
      size_stands = subst (λ (n : ℕ). Stands IsNumber body a.0.1 n b.0.1) (sym same) size.stands;
    })

sized_array_read : (most : ℕ) (body : List ℕ) (place : ℕ) (held : List ℕ) (after : ℕ) → SizedArrayStands most body place held after
    → sized_array_at most body place ≡ Ok (held, after)
unfolding sized_array_at
sized_array_read most body place held after h =
    rw (
      bytes_read body (aligned place) (aligned place) held h.after_held h.held_stands,
      within_read most body h.after_held (length held) after h.size_stands h.in_range,
      eq-eqb (length held) (length held) refl,
    ) refl

size_is : (held : Option (List ℕ)) (size : ℕ) → is_size held size ≡ true → IsSize held size
size_is None size e = tt
size_is (Some held) size e = eqb-true _ _ e

is_size_of : (held : Option (List ℕ)) (size : ℕ) → IsSize held size → is_size held size ≡ true
is_size_of None size h = refl
is_size_of (Some held) size h = eq-eqb _ _ h

sized_found : (body : List ℕ) (place : ℕ) (x : Option (List ℕ) × ℕ) → IsBytes body → sized_at body place ≡ Ok x
    → SizedStands body place x.0 x.1
unfolding sized_at
sized_found body place x fits e =
    let a = bind_ok (some_bytes_at body place) (λ held. number_at body held.1 >>= λ size. cond (is_size held.0 size.0) (Ok (held.0, size.1))
    (Err (BadCount (aligned held.1)))) x e in
    let b = bind_ok (number_at body a.0.1) (λ size. cond (is_size a.0.0 size.0) (Ok (a.0.0, size.1)) (Err (BadCount (aligned a.0.1)))) x a.2
    in
    let g = guard_true (is_size a.0.0 b.0.0) (BadCount (aligned a.0.1)) (a.0.0, b.0.1) x b.2 in
    subst (λ (y : Option (List ℕ) × ℕ). SizedStands body place y.0 y.1) g.1 (record {
      after_held = a.0.1;
      held_stands = some_bytes_spelled body (aligned place) a.0 fits a.1;
      size = b.0.0;
      size_stands = number_spelled body (aligned a.0.1) (aligned a.0.1) b.0 fits b.1;
      is_size = size_is a.0.0 b.0.0 g.0;
    })

sized_read : (body : List ℕ) (place : ℕ) (held : Option (List ℕ)) (after : ℕ) → SizedStands body place held after
    → sized_at body place ≡ Ok (held, after)
unfolding sized_at
sized_read body place held after h =
    rw (
      some_bytes_read body (aligned place) held h.after_held h.held_stands,
      number_read body (aligned h.after_held) (aligned h.after_held) h.size after h.size_stands,
      is_size_of held h.size h.is_size,
    ) refl

-- ## Items

recorded : {A : Type 0} (count : ℕ) (told : List ℕ → Result ℕ ℕ) (make : List ℕ → List (List ℕ) → A) (body : List ℕ) → IsBytes body
    → Exactly (record_at count told make) (RecordStands count told make) body
recorded count told make body fits = record {
  found = λ place v after e. (record_exactly count told make body fits place v after).0 e;
  read = λ place v after h. (record_exactly count told make body fits place v after).1 h;
}

pub item_exactly : (kind : Item) (body : List ℕ) → IsBytes body → Exactly (item_at kind) (ItemStands kind) body
unfolding item_at lock_at shown_at
item_exactly item.Handle body fits =
    made_exactly value.Handle handle_at (Stands IsHandle) body (record {
      found =
          λ place v after e. handle_spelled body (aligned place) (v, after) fits e;
      read = λ place v after s. handle_read body (aligned place) v after fits s;
    })
item_exactly item.Number body fits =
    made_exactly value.Number number_at (Stands IsNumber) body (number_exactly body fits)
item_exactly (item.NumberTo most) body fits =
    made_exactly value.Number (within_at most) (WithinStands most) body (within_exactly most body fits)
item_exactly item.Text body fits =
    made_exactly value.Text text_at (Stands IsText) body (record {
      found =
          λ place v after e. text_spelled body (aligned place) (aligned place) (v, after) fits e;
      read = λ place v after s. text_read body (aligned place) (aligned place) v after s;
    })
item_exactly item.SomeText body fits =
    made_exactly value.SomeText some_text_at (Stands (IsPointed IsText)) body
    (record {
      found = λ place v after e. some_text_spelled body (aligned place) (v, after) fits e;
      read = λ place v after s. some_text_read body (aligned place) v after s;
    })
item_exactly item.UnkeptText body fits =
    made_exactly (λ text. value.UnkeptText) some_text_at (Stands (IsPointed IsText)) body
    (record {
      found = λ place v after e. some_text_spelled body (aligned place) (v, after) fits e;
      read = λ place v after s. some_text_read body (aligned place) v after s;
    })
item_exactly item.SomeNumber body fits =
    made_exactly value.SomeNumber some_number_at (Stands (IsPointed IsNumber)) body
    (record {
      found = λ place v after e. some_number_spelled body (aligned place) (v, after) fits e;
      read = λ place v after s. some_number_read body (aligned place) v after s;
    })
item_exactly item.SomeBytes body fits =
    made_exactly value.SomeBytes sized_at SizedStands body (record {
      found = λ place v after e. sized_found body place (v, after) fits e;
      read = λ place v after s. sized_read body place v after s;
    })
item_exactly item.UnkeptBytes body fits =
    made_exactly (λ held. value.UnkeptBytes) sized_at SizedStands body (record {
      found =
          λ place v after e. sized_found body place (v, after) fits e;
      read = λ place v after s. sized_read body place v after s;
    })
item_exactly (item.SizedArray most) body fits =
    made_exactly value.SizedArray (sized_array_at most) (SizedArrayStands most) body
    (record {
      found = λ place v after e. sized_array_found most body place (v, after) fits e;
      read = λ place v after s. sized_array_read most body place v after s;
    })
item_exactly item.Bytes body fits =
    made_exactly (λ held. value.Bytes (length held) held) bytes_at (Stands IsBytesOf) body
    (record {
      found = λ place v after e. bytes_spelled body (aligned place) (aligned place) (v, after) fits e;
      read = λ place v after s. bytes_read body (aligned place) (aligned place) v after s;
    })
item_exactly item.Words body fits =
    made_exactly value.Words words_at WordsStand body (record {
      found = λ place v after e. words_found body place (v, after) fits e;
      read = λ place v after s. words_read body place v after fits s;
    })
item_exactly item.Lock body fits = made_exactly (λ (l : ℕ × Option (List ℕ) × ℕ). value.Lock l.0 l.1 l.2) lock_at
    (RecordStands 3 owners lock_of) body (recorded 3 owners lock_of body fits)
item_exactly item.Shown body fits = made_exactly value.Shown shown_at (RecordStands 9 shown_told shown_from) body
    (recorded 9 shown_told shown_from body fits)
item_exactly item.Info body fits = made_exactly value.Info info_at InfoStands body (info_exactly body fits)

-- ## Shapes

values_found : (shape : List Item) (body : List ℕ) (place : ℕ) (x : List Value × ℕ) → IsBytes body → values_at shape body place ≡ Ok x
    → ValuesStand shape body place x.0 x.1
unfolding values_at
values_found [] body place x fits e = subst (λ (y : List Value × ℕ). ValuesStand [] body place y.0 y.1) (ok_is ([], place) x e) refl
values_found (kind ∷ kinds) body place x fits e =
    let a = bind_ok (item_at kind body place) (λ first. values_at kinds body first.1 >>= λ others. Ok (first.0 ∷ others.0, others.1)) x e in
    let b = bind_ok (values_at kinds body a.0.1) (λ others. Ok (a.0.0 ∷ others.0, others.1)) x a.2 in
    let made : List Value × ℕ = (a.0.0 ∷ b.0.0, b.0.1) in
    subst (λ (y : List Value × ℕ). ValuesStand (kind ∷ kinds) body place y.0 y.1) (ok_is made x b.2)
    (a.0.1, (item_exactly kind body fits).found place a.0.0 a.0.1 a.1, values_found kinds body a.0.1 b.0 fits b.1)

values_read : (shape : List Item) (body : List ℕ) (place : ℕ) (vs : List Value) (after : ℕ) → IsBytes body
    → ValuesStand shape body place vs after → values_at shape body place ≡ Ok (vs, after)
unfolding values_at
values_read [] body place [] after fits h = rw h refl
values_read (kind ∷ kinds) body place (v ∷ vs) after fits h = rw (
  (item_exactly kind body fits).read place v h.0 h.1,
  values_read kinds body h.0 vs after fits h.2,
) refl
values_read [] body place (v ∷ vs) after fits h = absurd h
values_read (kind ∷ kinds) body place [] after fits h = absurd h

closed_ends : (b : Bool) (body : List ℕ) (place : ℕ) → cond b (Ok tt) (ended_at body place) ≡ Ok tt → IsTrue b ⊎ IsEnded body place
closed_ends true body place e = inl refl
closed_ends false body place e = inr (finished_ended body place e)

ends_closed : (b : Bool) (body : List ℕ) (place : ℕ) → IsTrue b ⊎ IsEnded body place → cond b (Ok tt) (ended_at body place) ≡ Ok tt
ends_closed true body place h = refl
ends_closed false body place (inl h) = absurd cc
ends_closed false body place (inr h) = ended_finished body place h

pub body_found : (shape : List Item) (body : List ℕ) (vs : List Value) → IsBytes body → body_values shape body ≡ Ok vs
    → IsBody shape body vs
unfolding body_values closed_at
body_found shape body vs fits e =
    let a = bind_ok (values_at shape body 0) (λ values. closed_at values.0 body values.1 >>= λ closed. Ok values.0) vs e in
    let b = bind_ok (closed_at a.0.0 body a.0.1) (λ closed. Ok a.0.0) vs a.2 in
    subst (IsBody shape body) (ok_is a.0.0 vs b.2) (record {
      end = a.0.1;
      stand = values_found shape body 0 a.0 fits a.1;
      ends = closed_ends (leave_open a.0.0) body a.0.1 b.1;
    })

pub body_read : (shape : List Item) (body : List ℕ) (vs : List Value) → IsBytes body → IsBody shape body vs → body_values shape body ≡ Ok vs
unfolding body_values closed_at
body_read shape body vs fits h = rw (
  values_read shape body 0 vs h.end fits h.stand,
  ends_closed (leave_open vs) body h.end h.ends,
) refl

-- ## Values of a shape are of its kinds

first_fits : (kind : Item) (body : List ℕ) (place : ℕ) (v : Value) (vs : List Value) (after : ℕ) → ItemStands kind body place v after
    → first_as kind (v ∷ vs) ≡ v
first_fits item.Handle body place v vs after h = rw h.is refl
first_fits item.Number body place v vs after h = rw h.is refl
first_fits (item.NumberTo most) body place v vs after h = rw h.is refl
first_fits item.Text body place v vs after h = rw h.is refl
first_fits item.SomeText body place v vs after h = rw h.is refl
first_fits item.UnkeptText body place v vs after h = rw h.is refl
first_fits item.SomeNumber body place v vs after h = rw h.is refl
first_fits item.SomeBytes body place v vs after h = rw h.is refl
first_fits item.UnkeptBytes body place v vs after h = rw h.is refl
first_fits (item.SizedArray most) body place v vs after h = rw h.is refl
first_fits item.Bytes body place v vs after h = rw h.is refl
first_fits item.Words body place v vs after h = rw h.is refl
first_fits item.Lock body place v vs after h = rw h.is refl
first_fits item.Shown body place v vs after h = rw h.is refl
first_fits item.Info body place v vs after h = rw h.is refl

values_fit : (shape : List Item) (body : List ℕ) (place : ℕ) (vs : List Value) (after : ℕ) → ValuesStand shape body place vs after
    → fitted shape vs ≡ vs
values_fit [] body place [] after h = refl
values_fit (kind ∷ kinds) body place (v ∷ vs) after h = rw (
  first_fits kind body place v vs h.0 h.1,
  values_fit kinds body h.0 vs after h.2,
) refl
values_fit [] body place (v ∷ vs) after h = absurd h
values_fit (kind ∷ kinds) body place [] after h = absurd h

pub body_fits : (shape : List Item) (body : List ℕ) (vs : List Value) → IsBody shape body vs → fitted shape vs ≡ vs
body_fits shape body vs h = values_fit shape body 0 vs h.end h.stand

pub found_if : (shape : List Item) (body : List ℕ) (result : Result (List Value) BodyFault) → IsBytes body
    → Gives (λ v. v) result (body_values shape body) → IfOk result (λ vs. IsBody shape body vs)
found_if shape body (Ok vs) fits gives = body_found shape body vs fits gives
found_if shape body (Err e) fits gives = tt
