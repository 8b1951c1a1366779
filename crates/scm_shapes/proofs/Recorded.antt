-- Numbers and the texts after them are read exactly where they stand, and those that are written are read back.
use Rattle.std.proofs.Common.{◌≡◌, ℕ, ◌^◌, ◌<◌, List, [], ◌∷◌, ◌++◌, length, Option, None, Some, Result, Ok, Err, refl, subst, arith}
use Rattle.std.specs.Prelude.{◌↔◌, IfSome}
use Rattle.std.specs.List.{AllByRecursion}
use Rattle.scm_model.specs.declared.calls.Shown.{Shown}
use Rattle.ndr_body.specs.Reading.{◌>>=◌, aligned, number_at, text_at}
use Rattle.ndr_body.specs.Writing.{Draft, put_number, put_referent}
use Rattle.ndr_body.specs.Spelled.{IsNumber, IsText, Stands}
use Rattle.ndr_body.specs.Laws.{IsReferent, IsPutAs, IsSent}
use Rattle.ndr_body.proofs.Spelled.{IsBytes, bind_ok, ok_is, number_spelled, number_read}
use Rattle.ndr_body.proofs.SpelledTexts.{text_spelled, text_read}
use Rattle.ndr_body.proofs.Written.{number_put}
use Rattle.ndr_body.proofs.Chains.{Holds, read_there}
use Rattle.scm_shapes.specs.Each.{each_at, put_each, EachStands}
use Rattle.scm_shapes.specs.Records.{texts_at, record_at, RecordStands, put_mark, put_marks, put_record, owners, lock_of, lock_marks}
use Rattle.scm_shapes.specs.Records.{lock_texts, shown_told, shown_from, shown_marks, shown_texts}
use Rattle.scm_shapes.specs.Laws.{IsShown}
use Rattle.scm_shapes.proofs.Referents.{no_null, referent_next, referent_read}
use Rattle.scm_shapes.proofs.Each.{Behind, behind_both, behind_nothing, behind_number, behind_referent, behind_each, each_found, each_read}
use Rattle.scm_shapes.proofs.Each.{each_sent, held_back, texts_next, texts_there}

-- ## Reading

texts_found : (told : Result ℕ ℕ) (start : ℕ) (body : List ℕ) (place : ℕ) (x : List (List ℕ) × ℕ) → IsBytes body
    → texts_at told start body place ≡ Ok x → EachStands (Stands IsText) body place x.0 x.1 × (told ≡ Ok (length x.0))
texts_found (Ok count) start body place x fits e =
    let t = each_found text_at (Stands IsText) body count place x (λ at y. text_spelled body (aligned at) (aligned at) y fits) e in
    (t.0, rw t.1 refl)
texts_found (Err far) start body place x fits e = absurd cc

module _ {A : Type 0} (count : ℕ) (told : List ℕ → Result ℕ ℕ) (make : List ℕ → List (List ℕ) → A) (body : List ℕ) where
  record_found : (place : ℕ) (x : A × ℕ) → IsBytes body → record_at count told make body place ≡ Ok x
      → RecordStands count told make body place x.0 x.1
  unfolding record_at
  record_found place x fits e =
      let a = bind_ok (each_at number_at count body place) (λ numbers. texts_at (told numbers.0) place body numbers.1 >>= λ texts. Ok
      (make numbers.0 texts.0, texts.1)) x e in
      let b = bind_ok (texts_at (told a.0.0) place body a.0.1) (λ texts. Ok (make a.0.0 texts.0, texts.1)) x a.2 in
      let n = each_found number_at (Stands IsNumber) body count place a.0
      (λ at y. number_spelled body (aligned at) (aligned at) y fits) a.1 in
      let t = texts_found (told a.0.0) place body a.0.1 b.0 fits b.1 in
      let pair : A × ℕ = (make a.0.0 b.0.0, b.0.1) in
      let found : RecordStands count told make body place pair.0 pair.1 = record {
        numbers = a.0.0;
        counted = n.1;
        middle = a.0.1;
        numbers_stand = n.0;
        texts = b.0.0;
        told_of = t.1;
        texts_stand = t.0;
        is = refl;
      } in
      subst (λ (y : A × ℕ). RecordStands count told make body place y.0 y.1) (ok_is pair x b.2) found

  record_read : (place : ℕ) (value : A) (after : ℕ) → RecordStands count told make body place value after
      → record_at count told make body place ≡ Ok (value, after)
  unfolding record_at
  record_read place value after h =
      let numbers : each_at number_at count body place ≡ Ok (h.numbers, h.middle) =
      subst (λ (n : ℕ). each_at number_at n body place ≡ Ok (h.numbers, h.middle)) h.counted
      (each_read number_at (Stands IsNumber) body h.numbers place h.middle
      (λ at y end s. number_read body (aligned at) (aligned at) y end s) h.numbers_stand) in
      let texts = each_read text_at (Stands IsText) body h.texts h.middle after
      (λ at y end s. text_read body (aligned at) (aligned at) y end s) h.texts_stand in
      rw (numbers, h.told_of, texts, h.is) refl

  pub record_exactly : IsBytes body → (place : ℕ) (value : A) (after : ℕ)
      → (record_at count told make body place ≡ Ok (value, after)) ↔ RecordStands count told make body place value after
  record_exactly fits place value after = (λ e. record_found place (value, after) fits e, λ h. record_read place value after h)

-- ## Marks that are written are read as numbers

abbrev pub AreSmall : List (Option ℕ) → Type 0
AreSmall marks = AllByRecursion (λ (mark : Option ℕ). IfSome mark (λ n. n < 2 ^ 32)) marks

-- what stands for marks after a draft
abbrev pub marked : List (Option ℕ) → Draft → List ℕ
marked [] d = []
marked (None ∷ marks) d = d.next ∷ marked marks (put_referent d)
marked (Some n ∷ marks) d = n ∷ marked marks (put_number n d)

mark_next : (mark : Option ℕ) (d : Draft) → IfSome mark (λ n. n < 2 ^ 32) → IsReferent d.next → IsReferent (put_mark mark d).next
mark_next None d lt referent = referent_next d referent
mark_next (Some n) d lt referent = (number_put n lt).next d referent

mark_behind : (mark : Option ℕ) → Behind (put_mark mark)
mark_behind None = behind_referent
mark_behind (Some n) = behind_number n

pub marks_next : (marks : List (Option ℕ)) (d : Draft) → AreSmall marks → IsReferent d.next → IsReferent (put_marks marks d).next
marks_next [] d small referent = referent
marks_next (mark ∷ marks) d small referent = marks_next marks (put_mark mark d) small.1 (mark_next mark d small.0 referent)

marks_behind : (marks : List (Option ℕ)) → Behind (put_marks marks)
marks_behind [] = behind_nothing
marks_behind (mark ∷ marks) = behind_both (put_mark mark) (put_marks marks) (mark_behind mark) (marks_behind marks)

marks_there : (marks : List (Option ℕ)) (body : List ℕ) (d : Draft) → AreSmall marks → IsReferent d.next → Holds body (put_marks marks d)
    → each_at number_at (length marks) body (length d.bytes) ≡ Ok (marked marks d, length (put_marks marks d).bytes)
unfolding each_at
marks_there [] body d small referent held = refl
marks_there (None ∷ marks) body d small referent held =
    rw (
      referent_read body d referent (held_back (put_marks marks) (marks_behind marks) body (put_referent d) held),
      marks_there marks body (put_referent d) small.1 (referent_next d referent) held,
    ) refl
marks_there (Some n ∷ marks) body d small referent held =
    let law = number_put n small.0 in
    rw (
      read_there number_at (put_number n) n body d law referent (held_back (put_marks marks) (marks_behind marks) body
          (put_number n d) held),
      marks_there marks body (put_number n d) small.1 (law.next d referent) held,
    ) refl

-- what is written is read back where its numbers tell of its texts
pub record_put : {A : Type 0} (told : List ℕ → Result ℕ ℕ) (make : List ℕ → List (List ℕ) → A) (marks : List (Option ℕ))
    (texts : List (List ℕ)) (value : A)
    → AreSmall marks → AllByRecursion IsSent texts → ((d : Draft) → IsReferent d.next → told (marked marks d) ≡ Ok (length texts))
    → ((d : Draft) → IsReferent d.next → make (marked marks d) texts ≡ value)
    → IsPutAs (record_at (length marks) told make) (put_record marks texts) value
unfolding record_at put_record
record_put told make marks texts value small sent tells makes = record {
  read = λ d rest referent.
      let d1 = put_marks marks d in
      let body = (put_each texts d1).bytes ++ rest in
      let held2 : Holds body (put_each texts d1) = (rest, refl) in
      let held1 = held_back (put_each texts) (behind_each texts) body d1 held2 in
      rw (
        marks_there marks body d small referent held1,
        tells d referent,
        texts_there texts body d1 sent (marks_next marks d small referent) held2,
        makes d referent,
      ) refl;
  extends = behind_both (put_marks marks) (put_each texts) (marks_behind marks) (behind_each texts);
  next = λ d referent. texts_next texts (put_marks marks d) sent (marks_next marks d small referent);
}

-- ## What is read can be written

each_small : (bytes : List ℕ) (place : ℕ) (ns : List ℕ) (after : ℕ) → EachStands (Stands IsNumber) bytes place ns after
    → AllByRecursion (λ n. n < 2 ^ 32) ns
each_small bytes place [] after h = tt
each_small bytes place (n ∷ ns) after h = (h.1.is.small, each_small bytes h.0 ns after h.2)

pub record_small : {A : Type 0} (count : ℕ) (told : List ℕ → Result ℕ ℕ) (make : List ℕ → List (List ℕ) → A) (bytes : List ℕ) (place : ℕ)
    (value : A) (after : ℕ)
    → (h : RecordStands count told make bytes place value after) → AllByRecursion (λ n. n < 2 ^ 32) h.numbers
    × AllByRecursion IsSent h.texts
record_small count told make bytes place value after h = (
  each_small bytes place h.numbers h.middle h.numbers_stand,
  each_sent bytes h.middle h.texts after h.texts_stand,
)

-- ## The state of a lock

pub lock_put : (held : ℕ) (owner : Option (List ℕ)) (seconds : ℕ) → held < 2 ^ 32 → IfSome owner IsSent → seconds < 2 ^ 32
    → IsPutAs (record_at 3 owners lock_of) (put_record (lock_marks held owner seconds) (lock_texts owner)) (held, owner, seconds)
lock_put held None seconds small sent lt =
    record_put owners lock_of (lock_marks held None seconds) [] (held, None, seconds) (small, (omega arith, (lt, tt))) tt
    (λ d referent. refl) (λ d referent. refl)
lock_put held (Some owner) seconds small sent lt =
    record_put owners lock_of (lock_marks held (Some owner) seconds) (owner ∷ []) (held, Some owner, seconds) (small, (tt, (lt, tt)))
    (sent, tt)
    (λ d referent. rw (no_null (put_number held d).next ((number_put held small).next d referent)) refl) (λ d referent. refl)

pub lock_ranged : (ns : List ℕ) (texts : List (List ℕ)) → AllByRecursion (λ n. n < 2 ^ 32) ns → AllByRecursion IsSent texts
    → ((lock_of ns texts).0 < 2 ^ 32) × (IfSome (lock_of ns texts).1 IsSent × ((lock_of ns texts).2 < 2 ^ 32))
lock_ranged (held ∷ pointer ∷ seconds ∷ ns) (owner ∷ texts) small sent = (small.0, (sent.0, small.1.1.0))
lock_ranged (held ∷ pointer ∷ seconds ∷ ns) [] small sent = (small.0, (tt, small.1.1.0))
lock_ranged ns texts small sent = (omega arith, (tt, omega arith))

-- ## A configuration

shown_put_some : (s : Shown) → IsShown s → IsPutAs (record_at 9 shown_told shown_from)
    (put_record (shown_marks (Some s)) (shown_texts (Some s))) (Some s)
shown_put_some s h =
    record_put shown_told shown_from (shown_marks (Some s)) (shown_texts (Some s)) (Some s)
    (h.kind, (h.start, (h.error, (tt, (tt, (h.tag, (tt, (tt, (tt, tt))))))))) h.texts
    (λ d referent.
    let d1 = put_number s.kind d in
    let d2 = put_number s.start d1 in
    let d3 = put_number s.error d2 in
    let d4 = put_referent d3 in
    let d5 = put_referent d4 in
    let d6 = put_number s.tag d5 in
    let d7 = put_referent d6 in
    let r3 = (number_put s.error h.error).next d2 ((number_put s.start h.start).next d1 ((number_put s.kind h.kind).next d referent)) in
    let r4 = referent_next d3 r3 in
    let r6 = (number_put s.tag h.tag).next d5 (referent_next d4 r4) in
    let r7 = referent_next d6 r6 in
    let r8 = referent_next d7 r7 in
    rw (no_null d3.next r3, no_null d4.next r4, no_null d6.next r6, no_null d7.next r7, no_null (put_referent d7).next r8) refl)
    (λ d referent. refl)

pub shown_put : (shown : Option Shown) → IfSome shown IsShown → IsPutAs (record_at 9 shown_told shown_from)
    (put_record (shown_marks shown) (shown_texts shown)) shown
shown_put None h =
    let lt : 0 < 2 ^ 32 = omega arith in
    record_put shown_told shown_from (shown_marks None) [] None (lt, (lt, (lt, (lt, (lt, (lt, (lt, (lt, (lt, tt))))))))) tt
    (λ d referent. refl) (λ d referent. refl)
shown_put (Some s) h = shown_put_some s h

-- no text of none
pub decides : (body : List ℕ) (place : ℕ) → each_at text_at 0 body place ≡ Ok ([], place)
unfolding each_at
decides body place = refl

pub shown_ranged : (ns : List ℕ) (texts : List (List ℕ)) → AllByRecursion (λ n. n < 2 ^ 32) ns → AllByRecursion IsSent texts
    → IfSome (shown_from ns texts) IsShown
shown_ranged (kind ∷ start ∷ error ∷ to_path ∷ to_group ∷ tag ∷ ns) (path ∷ group ∷ needs ∷ account ∷ display ∷ []) small sent =
    record { kind = small.0; start = small.1.0; error = small.1.1.0; tag = small.1.1.1.1.1.0; texts = sent }
shown_ranged ns texts small sent = tt
