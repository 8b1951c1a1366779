-- How many bytes the body of some values has.
use Rattle.std.proofs.Common.{◌≡◌, ◌≤◌, ℕ, suc, ◌+◌, ◌*◌, eqb, false, List, [], ◌∷◌, length, take, map, replicate, Option, Some, None, refl}
use Rattle.std.proofs.Common.{ap, ◌∙◌, arith}
use Rattle.std.proofs.lemmas.List.{length-take, length-replicate}
use Rattle.std.proofs.lemmas.Bool.{ne_eqb}
use Rattle.ndr_body.specs.Reading.{aligned}
use Rattle.ndr_body.specs.Writing.{Draft, blank, put_number, put_text, put_bytes, put_referent}
use Rattle.ndr_body.proofs.Lengths.{length_put_number, length_put_handle, length_put_text, length_put_bytes, length_put_referent}
use Rattle.ndr_body.proofs.Lengths.{length_no_text, length_some_text, length_no_number, length_some_number}
use Rattle.scm_shapes.specs.declared.item.Value.{Value}
use Rattle.scm_shapes.specs.declared.item.Value.TheVariants as value
use Rattle.scm_shapes.specs.Sized.{put_sized_array, put_sized}
use Rattle.scm_shapes.specs.Each.{put_each}
use Rattle.scm_shapes.specs.Words.{put_referents, put_list, put_words}
use Rattle.scm_shapes.specs.Records.{put_mark, put_marks, put_record, shown_texts}
use Rattle.scm_shapes.specs.Shapes.{put_value, put_values, body_bytes}
use Rattle.scm_shapes.proofs.Grown.{length_info}
use Rattle.scm_shapes.specs.Widths.{text_width, end_of, record_width, width_of}

length_sized_array : (held : List ℕ) (d : Draft) → length (put_sized_array held d).bytes ≡ aligned (length d.bytes)
    + width_of (value.SizedArray held)
length_sized_array held d = omega (
  arith,
  length_put_bytes held (length held) d (omega arith),
  length_put_number (length held) (put_bytes held (length held) d),
)

length_sized : (held : Option (List ℕ)) (d : Draft) → length (put_sized held d).bytes ≡ aligned (length d.bytes)
    + width_of (value.SomeBytes held)
unfolding put_sized
length_sized None d = omega (arith, length_put_number 0 d, length_put_number 0 (put_number 0 d))
length_sized (Some held) d = omega (arith, length_put_referent d, length_sized_array held (put_referent d))

-- texts after a place that 4 divides
length_each : (texts : List (List ℕ)) (d : Draft) (base k : ℕ) → length d.bytes ≡ aligned base + k
    → length (put_each texts d).bytes ≡ aligned base + end_of (map text_width texts) k
length_each [] d base k e = e
length_each (text ∷ texts) d base k e = length_each texts (put_text text d) base (aligned k + text_width text)
    (omega (arith, length_put_text text d, e))

length_mark : (mark : Option ℕ) (d : Draft) → length (put_mark mark d).bytes ≡ aligned (length d.bytes) + 4
length_mark None d = length_put_referent d
length_mark (Some n) d = length_put_number n d

length_marks : (mark : Option ℕ) (marks : List (Option ℕ)) (d : Draft) →
    length (put_marks (mark ∷ marks) d).bytes ≡ aligned (length d.bytes) + 4 * length (mark ∷ marks)
length_marks mark [] d = omega (arith, length_mark mark d)
length_marks mark (next ∷ marks) d = omega (arith, length_mark mark d, length_marks next marks (put_mark mark d))

length_record : (mark : Option ℕ) (marks : List (Option ℕ)) (texts : List (List ℕ)) (d : Draft)
    → length (put_record (mark ∷ marks) texts d).bytes ≡ aligned (length d.bytes) + record_width (mark ∷ marks) texts
unfolding put_record
length_record mark marks texts d = length_each texts (put_marks (mark ∷ marks) d) (length d.bytes) (4 * length (mark ∷ marks))
    (length_marks mark marks d)

length_referents : (n : ℕ) (d : Draft) → length (put_referents (suc n) d).bytes ≡ aligned (length d.bytes) + 4 * suc n
length_referents n d = omega (arith, length_marks None (replicate n None) d, length-replicate {A = Option ℕ} n None)

length_list : (word : List ℕ) (words : List (List ℕ)) (d : Draft) → length (put_list (word ∷ words) d).bytes ≡ aligned (length d.bytes)
    + width_of (value.Words (Some (word ∷ words)))
unfolding put_list
length_list word words d =
    let n = length (word ∷ words) in
    let d1 = put_number n d in
    let d2 = put_referent d1 in
    let d3 = put_number n d2 in
    let d4 = put_referents n d3 in
    length_each (word ∷ words) d4 (length d.bytes) (12 + 4 * n) (omega (
      arith,
      length_put_number n d,
      length_put_referent d1,
      length_put_number n d2,
      length_referents (length words) d3,
    ))

length_words : (words : Option (List (List ℕ))) (d : Draft) → length (put_words words d).bytes ≡ aligned (length d.bytes)
    + width_of (value.Words words)
unfolding put_words
length_words None d = omega (arith, length_put_number 1 d, length_put_number 0 (put_number 1 d))
length_words (Some []) d = omega (arith, length_put_number 0 d, length_put_number 0 (put_number 0 d))
length_words (Some (word ∷ words)) d =
    let listed : eqb (length (word ∷ words)) 0 ≡ false = ne_eqb (length (word ∷ words)) 0 (λ e. omega (arith, e)) in
    rw listed (length_list word words d)

length_value : (v : Value) (d : Draft) → length (put_value v d).bytes ≡ aligned (length d.bytes) + width_of v
unfolding put_value
length_value (value.Handle handle) d = length_put_handle handle d
length_value (value.Number number) d = length_put_number number d
length_value (value.Text text) d = length_put_text text d
length_value (value.SomeText None) d = length_no_text d
length_value (value.SomeText (Some text)) d = length_some_text text d
length_value value.UnkeptText d = length_no_text d
length_value (value.SomeNumber None) d = length_no_number d
length_value (value.SomeNumber (Some number)) d = length_some_number number d
length_value (value.SomeBytes held) d = length_sized held d
length_value value.UnkeptBytes d = length_sized None d
length_value (value.SizedArray held) d = length_sized_array held d
length_value (value.Bytes size held) d = length_put_bytes (take size held) size d (omega (arith, length-take size held))
length_value (value.Words words) d = length_words words d
length_value (value.Info asked) d = length_info asked d
length_value (value.Lock held None seconds) d = length_record (Some held) (Some 0 ∷ Some seconds ∷ []) [] d
length_value (value.Lock held (Some owner) seconds) d = length_record (Some held) (None ∷ Some seconds ∷ []) (owner ∷ []) d
length_value (value.Shown None) d = length_record (Some 0) (Some 0 ∷ Some 0 ∷ Some 0 ∷ Some 0 ∷ Some 0 ∷ Some 0 ∷ Some 0 ∷ Some 0 ∷ []) [] d
length_value (value.Shown (Some s)) d = length_record (Some s.kind) (Some s.start ∷ Some s.error ∷ None ∷ None ∷ Some s.tag ∷ None ∷ None ∷
    None ∷ []) (shown_texts (Some s)) d

pub length_values : (vs : List Value) (d : Draft) → length (put_values vs d).bytes ≡ end_of (map width_of vs) (length d.bytes)
unfolding put_values
length_values [] d = refl
length_values (v ∷ vs) d = length_values vs (put_value v d) ∙ ap (end_of (map width_of vs)) (length_value v d)

pub length_body : (vs : List Value) → length (body_bytes vs) ≡ end_of (map width_of vs) 0
unfolding body_bytes
length_body vs = length_values vs blank

-- ## Drafts only grow

pub grows_number : (n : ℕ) (d : Draft) → length d.bytes ≤ length (put_number n d).bytes
grows_number n d = omega (arith, length_put_number n d)

pub grows_text : (text : List ℕ) (d : Draft) → length d.bytes ≤ length (put_text text d).bytes
grows_text text d = omega (arith, length_put_text text d)

pub grows_referent : (d : Draft) → length d.bytes ≤ length (put_referent d).bytes
grows_referent d = omega (arith, length_put_referent d)

pub grows_mark : (mark : Option ℕ) (d : Draft) → length d.bytes ≤ length (put_mark mark d).bytes
grows_mark mark d = omega (arith, length_mark mark d)

pub grows_marks : (marks : List (Option ℕ)) (d : Draft) → length d.bytes ≤ length (put_marks marks d).bytes
grows_marks [] d = omega arith
grows_marks (mark ∷ marks) d = omega (arith, length_marks mark marks d)

pub grows_referents : (n : ℕ) (d : Draft) → length d.bytes ≤ length (put_referents n d).bytes
grows_referents n d = grows_marks (replicate n None) d

pub grows_each : (texts : List (List ℕ)) (d : Draft) → length d.bytes ≤ length (put_each texts d).bytes
grows_each [] d = omega arith
grows_each (text ∷ texts) d = omega (arith, grows_text text d, grows_each texts (put_text text d))

pub grows_counted : (held : List ℕ) (d : Draft) → length d.bytes ≤ length (put_bytes held (length held) d).bytes
grows_counted held d = omega (arith, length_put_bytes held (length held) d (omega arith))

pub grows_sized_array : (held : List ℕ) (d : Draft) → length d.bytes ≤ length (put_sized_array held d).bytes
grows_sized_array held d = omega (arith, length_sized_array held d)

pub grows_sized : (held : Option (List ℕ)) (d : Draft) → length d.bytes ≤ length (put_sized held d).bytes
grows_sized held d = omega (arith, length_sized held d)

pub grows_words : (words : Option (List (List ℕ))) (d : Draft) → length d.bytes ≤ length (put_words words d).bytes
grows_words words d = omega (arith, length_words words d)

pub grows_value : (v : Value) (d : Draft) → length d.bytes ≤ length (put_value v d).bytes
grows_value v d = omega (arith, length_value v d)

pub grows_values : (vs : List Value) (d : Draft) → length d.bytes ≤ length (put_values vs d).bytes
unfolding put_values
grows_values [] d = omega arith
grows_values (v ∷ vs) d = omega (arith, grows_value v d, grows_values vs (put_value v d))

pub ruleset grows = (
  grows_number,
  grows_text,
  grows_referent,
  grows_referents,
  grows_marks,
  grows_each,
  grows_value,
  grows_values,
  grows_words,
  grows_sized_array,
  grows_sized,
  grows_counted,
)
