-- A body that is written is read back.
use Rattle.std.proofs.Common.{◌≡◌, ℕ, ◌^◌, ◌<◌, ◌≤◌, Bool, true, false, cond, List, [], ◌∷◌, length, take, map, Option, Some, None, Result}
use Rattle.std.proofs.Common.{Ok, Err, refl, sym, arith, subst, length-append, replicate, ◌-◌}
use Rattle.std.specs.Prelude.{IfSome, IfOk}
use Rattle.std.proofs.lemmas.Bool.{eq-eqb}
use Rattle.std.proofs.lemmas.List.{append-nil, length-take, length-replicate}
use Rattle.std.proofs.Math.Seq.{take-length}
use Rattle.ndr_body.specs.declared.fault.BodyFault.{BodyFault}
use Rattle.ndr_body.specs.Reading.{◌>>=◌, Gives, number_at, handle_at, text_at, some_text_at, some_number_at, some_bytes_at, bytes_at}
use Rattle.ndr_body.specs.Reading.{ended_at}
use Rattle.ndr_body.specs.Writing.{Draft, blank, put_number, put_handle, put_text, put_bytes, put_some_text, put_some_number, put_referent}
use Rattle.ndr_body.specs.Laws.{IsPutAs, filled}
use Rattle.ndr_body.proofs.Written.{number_put, handle_put, text_put, bytes_put, any_text_put, any_number_put, no_text_put, no_bytes_put}
use Rattle.ndr_body.proofs.Written.{some_bytes_put}
use Rattle.ndr_body.proofs.Chains.{read_there, blank_referent, ends_there, handle_small, text_sent, pointed_sent, pointed_small}
use Rattle.ndr_body.proofs.Chains.{pointed_short}
use Rattle.ndr_body.proofs.Spelled.{IsBytes}
use Rattle.scm_shapes.specs.declared.item.Item.{Item}
use Rattle.scm_shapes.specs.declared.item.Item.TheVariants as item
use Rattle.scm_shapes.specs.declared.item.Value.{Value}
use Rattle.scm_shapes.specs.declared.item.Value.TheVariants as value
use Rattle.scm_shapes.specs.Ranges.{within_at}
use Rattle.scm_shapes.specs.Sized.{sized_array_at, put_sized_array, sized_at, put_sized}
use Rattle.scm_shapes.specs.Words.{words_at, put_words}
use Rattle.scm_shapes.specs.Shapes.{item_at, values_at, leave_open, closed_at, body_values, put_value, put_values, body_bytes}
use Rattle.scm_shapes.specs.Bodies.{ItemStands, ValuesStand, IsBody}
use Rattle.scm_shapes.specs.Laws.{CanHold, CanHoldAll, as_read}
use Rattle.scm_shapes.specs.Records.{lock_at, lock_of, lock_marks, lock_texts, owners, shown_at, shown_from, shown_told, shown_marks}
use Rattle.scm_shapes.specs.Records.{shown_texts, put_record}
use Rattle.scm_shapes.specs.Levels.{info_at, put_info}
use Rattle.scm_shapes.specs.Parts.{made}
use Rattle.scm_shapes.proofs.Parts.{joined_put, made_put, within_put}
use Rattle.scm_shapes.proofs.Asked.{info_put, info_ranged}
use Rattle.scm_shapes.proofs.Argv.{words_put, words_sent}
use Rattle.scm_shapes.proofs.Recorded.{lock_put, lock_ranged, shown_put, shown_ranged, record_small}
use Rattle.scm_shapes.proofs.Exact.{body_found}

-- ## Two items

-- what is put as two items is read as they are joined
both_put : {A B C : Type 0} (first_at : List ℕ → ℕ → Result (A × ℕ) BodyFault) (second_at : List ℕ → ℕ → Result (B × ℕ) BodyFault)
    (finish : A × ℕ → B × ℕ → Result (C × ℕ) BodyFault) (p q : Draft → Draft) (a : A) (b : B) (c : C)
    → IsPutAs first_at p a → IsPutAs second_at q b → ((m n : ℕ) → finish (a, m) (b, n) ≡ Ok (c, n))
    → IsPutAs (λ body place. first_at body place >>= λ x. second_at body x.1 >>= λ y. finish x y) (λ d. q (p d)) c
both_put {A = A} first_at second_at finish p q a b c law1 law2 join = joined_put first_at
    (λ (x : A). second_at) finish p q a b c law1 law2 join

filled_whole : (held : List ℕ) → filled held (length held) ≡ held
filled_whole held =
    let none : length held - length held ≡ 0 = omega arith in
    rw none (append-nil held)

sized_array_put : (most : ℕ) (held : List ℕ) → length held ≤ most → length held < 2 ^ 32
    → IsPutAs (sized_array_at most) (put_sized_array held) held
unfolding sized_array_at
sized_array_put most held le lt =
    let bytes : IsPutAs bytes_at (put_bytes held (length held)) held =
    subst (IsPutAs bytes_at (put_bytes held (length held))) (filled_whole held) (bytes_put held (length held) (omega arith) lt) in
    both_put bytes_at (within_at most) _ (put_bytes held (length held)) (put_number (length held)) held (length held) held bytes
    (within_put most (length held) le lt) (λ m n. rw (eq-eqb (length held) (length held) refl) refl)

no_sized_put : IsPutAs sized_at (put_sized None) None
unfolding sized_at put_sized
no_sized_put = both_put some_bytes_at number_at _ (put_number 0) (put_number 0) None 0 None no_bytes_put (number_put 0 (omega arith))
    (λ m n. refl)

some_sized_put : (held : List ℕ) → length held < 2 ^ 32 → IsPutAs sized_at (put_sized (Some held)) (Some held)
unfolding sized_at put_sized
some_sized_put held lt = both_put some_bytes_at number_at _ (λ (d : Draft). put_bytes held (length held) (put_referent d))
    (put_number (length held)) (Some held) (length held) (Some held) (some_bytes_put held lt) (number_put (length held) lt)
    (λ m n. rw (eq-eqb (length held) (length held) refl) refl)

sized_put : (held : Option (List ℕ)) → IfSome held (λ held. length held < 2 ^ 32) → IsPutAs sized_at (put_sized held) held
sized_put None lt = no_sized_put
sized_put (Some held) lt = some_sized_put held lt

-- ## Items

-- bytes come back with zeros up to their size
bytes_item_put : (size : ℕ) (held : List ℕ) → size < 2 ^ 32 → IsPutAs (item_at item.Bytes) (put_value (value.Bytes size held))
    (as_read (value.Bytes size held))
unfolding item_at put_value
bytes_item_put size held lt =
    let kept : length (take size held) ≤ size = omega (arith, length-take size held) in
    let all : List ℕ = filled (take size held) size in
    let counted : length all ≡ size = omega (
      arith,
      length-append (take size held) (replicate (size - length (take size held)) 0),
      length-replicate {A = ℕ} (size - length (take size held)) 0,
      kept,
    ) in
    let law = made_put (λ (held : List ℕ). value.Bytes (length held) held) bytes_at (put_bytes (take size held) size) all
    (bytes_put (take size held) size kept lt) in
    subst (λ (n : ℕ). IsPutAs (λ body place. made (λ (held : List ℕ). value.Bytes (length held) held) (bytes_at body place))
    (put_bytes (take size held) size) (value.Bytes n all)) counted law

item_put : (kind : Item) (v : Value) → CanHold kind v → IsPutAs (item_at kind) (put_value v) (as_read v)
unfolding item_at put_value lock_at shown_at
item_put item.Handle (value.Handle n) h = made_put value.Handle handle_at (put_handle n) n (handle_put n h)
item_put item.Number (value.Number n) h = made_put value.Number number_at (put_number n) n (number_put n h)
item_put (item.NumberTo most) (value.Number n) h = made_put value.Number (within_at most) (put_number n) n
    (within_put most n h.in_range h.small)
item_put item.Text (value.Text text) h = made_put value.Text text_at (put_text text) text (text_put text h)
item_put item.SomeText (value.SomeText text) h = made_put value.SomeText some_text_at (put_some_text text) text (any_text_put text h)
item_put item.UnkeptText value.UnkeptText h = made_put (λ text. value.UnkeptText) some_text_at (put_some_text None) None no_text_put
item_put item.SomeNumber (value.SomeNumber n) h = made_put value.SomeNumber some_number_at (put_some_number n) n (any_number_put n h)
item_put item.SomeBytes (value.SomeBytes held) h = made_put value.SomeBytes sized_at (put_sized held) held (sized_put held h)
item_put item.UnkeptBytes value.UnkeptBytes h = made_put (λ held. value.UnkeptBytes) sized_at (put_sized None) None no_sized_put
item_put (item.SizedArray most) (value.SizedArray held) h = made_put value.SizedArray (sized_array_at most) (put_sized_array held) held
    (sized_array_put most held h.in_range h.small)
item_put item.Bytes (value.Bytes size held) h = bytes_item_put size held h
item_put item.Words (value.Words words) h = made_put value.Words words_at (put_words words) words (words_put words h)
item_put item.Lock (value.Lock held owner seconds) h =
    made_put (λ (l : ℕ × Option (List ℕ) × ℕ). value.Lock l.0 l.1 l.2) lock_at
    (put_record (lock_marks held owner seconds) (lock_texts owner)) (held, owner, seconds) (lock_put held owner seconds h.0 h.1.0 h.1.1)
item_put item.Info (value.Info asked) h = made_put value.Info info_at (put_info asked) asked (info_put asked h)
item_put item.Shown (value.Shown shown) h = made_put value.Shown shown_at (put_record (shown_marks shown) (shown_texts shown)) shown
    (shown_put shown h)
item_put _ _ h = absurd h

-- ## Shapes

values_put : (shape : List Item) (vs : List Value) → CanHoldAll shape vs → IsPutAs (values_at shape) (put_values vs) (map as_read vs)
unfolding values_at put_values
values_put [] [] h = record { read = λ d rest referent. refl; extends = λ d. ([], sym (append-nil d.bytes)); next = λ d referent. referent }
values_put (kind ∷ kinds) (v ∷ vs) h = both_put (item_at kind) (values_at kinds) _ (put_value v) (put_values vs) (as_read v)
    (map as_read vs) (as_read v ∷ map as_read vs) (item_put kind v h.0) (values_put kinds vs h.1) (λ m n. refl)
values_put [] (v ∷ vs) h = absurd h
values_put (kind ∷ kinds) [] h = absurd h

closes_there : (b : Bool) (d : Draft) → cond b (Ok tt) (ended_at d.bytes (length d.bytes)) ≡ Ok tt
closes_there true d = refl
closes_there false d = ends_there d

-- the body of values that a shape can hold is read as they are
pub body_again : (shape : List Item) (vs : List Value) → CanHoldAll shape vs → body_values shape (body_bytes vs) ≡ Ok (map as_read vs)
unfolding body_values closed_at body_bytes
body_again shape vs h =
    let d = put_values vs blank in
    let law = values_put shape vs h in
    rw (
      read_there (values_at shape) (put_values vs) (map as_read vs) d.bytes blank law blank_referent ([], sym (append-nil d.bytes)),
      closes_there (leave_open (map as_read vs)) d,
    ) refl

-- ## What a body holds can be written

item_ranged : (kind : Item) (body : List ℕ) (place : ℕ) (v : Value) (after : ℕ) → ItemStands kind body place v after → CanHold kind v
item_ranged item.Handle body place v after h = rw h.is (handle_small h.there.item h.content h.there.is)
item_ranged item.Number body place v after h = rw h.is h.there.is.small
item_ranged (item.NumberTo most) body place v after h = rw h.is (record { in_range = h.there.in_range; small = h.there.stands.is.small })
item_ranged item.Text body place v after h = rw h.is (text_sent h.there.item h.content h.there.is)
item_ranged item.SomeText body place v after h = rw h.is (pointed_sent h.there.item h.content h.there.is)
item_ranged item.UnkeptText body place v after h = rw h.is tt
item_ranged item.SomeNumber body place v after h = rw h.is (pointed_small h.there.item h.content h.there.is)
item_ranged item.SomeBytes body place v after h = rw h.is (pointed_short h.there.held_stands.item h.content h.there.held_stands.is)
item_ranged item.UnkeptBytes body place v after h = rw h.is tt
item_ranged (item.SizedArray most) body place v after h =
    rw h.is (record { in_range = h.there.in_range; small = h.there.held_stands.is.small })
item_ranged item.Bytes body place v after h = rw h.is h.there.is.small
item_ranged item.Words body place v after h = rw h.is (words_sent body place h.content after h.there)
item_ranged item.Lock body place v after h =
    let t = h.there in
    let r = record_small 3 owners lock_of body place h.content after t in
    rw (h.is, t.is) (lock_ranged t.numbers t.texts r.0 r.1)
item_ranged item.Info body place v after h = rw h.is (info_ranged body place h.content after h.there)
item_ranged item.Shown body place v after h =
    let t = h.there in
    let r = record_small 9 shown_told shown_from body place h.content after t in
    rw (h.is, t.is) (shown_ranged t.numbers t.texts r.0 r.1)

values_ranged : (shape : List Item) (body : List ℕ) (place : ℕ) (vs : List Value) (after : ℕ) → ValuesStand shape body place vs after
    → CanHoldAll shape vs
values_ranged [] body place [] after h = tt
values_ranged (kind ∷ kinds) body place (v ∷ vs) after h = (
  item_ranged kind body place v h.0 h.1,
  values_ranged kinds body h.0 vs after h.2,
)
values_ranged [] body place (v ∷ vs) after h = absurd h
values_ranged (kind ∷ kinds) body place [] after h = absurd h

pub body_ranged : (shape : List Item) (body : List ℕ) (vs : List Value) → IsBody shape body vs → CanHoldAll shape vs
body_ranged shape body vs h = values_ranged shape body 0 vs h.end h.stand

pub ranged_if : (shape : List Item) (body : List ℕ) (result : Result (List Value) BodyFault) → IsBytes body
    → Gives (λ v. v) result (body_values shape body) → IfOk result (λ vs. CanHoldAll shape vs)
ranged_if shape body (Ok vs) fits gives = body_ranged shape body vs (body_found shape body vs fits gives)
ranged_if shape body (Err e) fits gives = tt

-- ## What a body holds is read back unchanged

filled_same : (held : List ℕ) → filled (take (length held) held) (length held) ≡ held
filled_same held = rw (take-length held) (filled_whole held)

item_same : (kind : Item) (body : List ℕ) (place : ℕ) (v : Value) (after : ℕ) → ItemStands kind body place v after → as_read v ≡ v
item_same item.Bytes body place v after h = rw (h.is, filled_same h.content) refl
item_same item.Handle body place v after h = rw h.is refl
item_same _ body place v after h = rw h.is refl

values_same : (shape : List Item) (body : List ℕ) (place : ℕ) (vs : List Value) (after : ℕ) → ValuesStand shape body place vs after
    → map as_read vs ≡ vs
values_same [] body place [] after h = refl
values_same (kind ∷ kinds) body place (v ∷ vs) after h = rw (
  item_same kind body place v h.0 h.1,
  values_same kinds body h.0 vs after h.2,
) refl
values_same [] body place (v ∷ vs) after h = absurd h
values_same (kind ∷ kinds) body place [] after h = absurd h

pub body_same : (shape : List Item) (body : List ℕ) (vs : List Value) → IsBody shape body vs → map as_read vs ≡ vs
body_same shape body vs h = values_same shape body 0 vs h.end h.stand
