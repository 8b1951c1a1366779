-- Words are read exactly where they stand, and those that are written are read back.
use Rattle.std.proofs.Common.{◌≡◌, ℕ, zero, suc, ◌≤◌, ◌<◌, Bool, true, false, not, cond, eqb, filter, replicate, List, [], ◌∷◌, length}
use Rattle.std.proofs.Common.{Option, Some, None, Result, Ok, Err, refl, ap, ◌++◌, subst, arith, inl, inr}
use Rattle.std.specs.Prelude.{◌⊎◌, IfSome}
use Rattle.std.specs.List.{list_any}
use Rattle.std.proofs.lemmas.Bool.{eqb-true, eqb-false, eq-eqb, ne_eqb, le-leb}
use Rattle.std.proofs.lemmas.List.{length-replicate}
use Rattle.ndr_body.specs.declared.fault.BodyFault.{BodyFault}
use Rattle.ndr_body.specs.declared.fault.BodyFault.TheVariants.{BadCount}
use Rattle.ndr_body.specs.Reading.{aligned, number_at}
use Rattle.ndr_body.specs.Writing.{Draft, put_number, put_referent}
use Rattle.ndr_body.specs.Spelled.{IsNumber, Stands}
use Rattle.ndr_body.specs.Laws.{IsReferent, IsPutAs}
use Rattle.ndr_body.proofs.Spelled.{IsBytes, bind_ok, ok_is, number_spelled, number_read}
use Rattle.ndr_body.proofs.Written.{number_put}
use Rattle.ndr_body.proofs.Chains.{Holds, held_before, read_there}
use Rattle.scm_shapes.specs.Ranges.{within_at}
use Rattle.scm_shapes.specs.Records.{record_at, put_record}
use Rattle.scm_shapes.specs.Words.{pointing, words_of, pointed_at, listed_at, unlisted, argv_at, words_at, put_list, put_words}
use Rattle.scm_shapes.specs.Laws.{AreSent}
use Rattle.scm_shapes.specs.Bodies.{IsUnlisted, IsListed, WordsStand}
use Rattle.scm_shapes.proofs.Ranges.{within_found, within_read}
use Rattle.scm_shapes.proofs.Referents.{no_null, referent_next, referent_read}
use Rattle.scm_shapes.proofs.Each.{behind_both, behind_referent, held_back}
use Rattle.scm_shapes.proofs.Recorded.{AreSmall, marked, record_exactly, record_put, record_small}

-- ## What is read are words

guard_pass : {A : Type 0} (b : Bool) (d : BodyFault) (r : Result A BodyFault) (y : A) → cond b r (Err d) ≡ Ok y → (b ≡ true) × (r ≡ Ok y)
guard_pass true d r y e = (refl, e)
guard_pass false d r y e = absurd cc

listed_found : (argc : ℕ) (body : List ℕ) (place : ℕ) (pointer : ℕ × ℕ) (x : Option (List (List ℕ)) × ℕ) → IsBytes body → 0 < pointer.0
    → Stands IsNumber body place pointer.0 pointer.1 → listed_at argc body pointer.1 ≡ Ok x → IsListed argc body place x.0 x.1
unfolding listed_at pointed_at
listed_found argc body place pointer x fits points stands e =
    let a = bind_ok (number_at body pointer.1) (λ count. cond (eqb count.0 argc) (pointed_at argc body count.1)
    (Err (BadCount (aligned pointer.1)))) x e in
    let g = guard_pass (eqb a.0.0 argc) (BadCount (aligned pointer.1)) (pointed_at argc body a.0.1) x a.2 in
    record {
      to_list = pointer.0;
      points = points;
      after_to_list = pointer.1;
      to_list_stands = stands;
      after_count = a.0.1;
      count_stands = subst (λ (n : ℕ). Stands IsNumber body pointer.1 n a.0.1) (eqb-true a.0.0 argc g.0)
          (number_spelled body (aligned pointer.1) (aligned pointer.1) a.0 fits a.1);
      words_stand = (record_exactly argc (λ pointers. Ok (pointing pointers)) words_of body fits a.0.1 x.0 x.1).0 g.1;
    }

argv_by : (argc : ℕ) (body : List ℕ) (place : ℕ) (pointer : ℕ × ℕ) (b : Bool) (x : Option (List (List ℕ)) × ℕ) → IsBytes body
    → Stands IsNumber body place pointer.0 pointer.1 → eqb pointer.0 0 ≡ b
    → cond b (Ok (unlisted argc, pointer.1)) (listed_at argc body pointer.1) ≡ Ok x → IsUnlisted argc body place x.0 x.1
    ⊎ IsListed argc body place x.0 x.1
argv_by argc body place pointer true x fits stands null e =
    let made : Option (List (List ℕ)) × ℕ = (unlisted argc, pointer.1) in
    let found : IsUnlisted argc body place made.0 made.1 = record {
      pointer_stands =
          subst (λ (n : ℕ). Stands IsNumber body place n pointer.1) (eqb-true pointer.0 0 null) stands;
      is = refl;
    } in
    inl (subst (λ (y : Option (List (List ℕ)) × ℕ). IsUnlisted argc body place y.0 y.1) (ok_is made x e) found)
argv_by argc body place pointer false x fits stands points e =
    let positive : 0 < pointer.0 = let ne : pointer.0 ≡ 0 → ⊥ = eqb-false pointer.0 0 points in omega (arith, ne) in
    inr (listed_found argc body place pointer x fits positive stands e)

pub words_found : (body : List ℕ) (place : ℕ) (x : Option (List (List ℕ)) × ℕ) → IsBytes body → words_at body place ≡ Ok x
    → WordsStand body place x.0 x.1
unfolding words_at argv_at
words_found body place x fits e =
    let a = bind_ok (within_at 1024 body place) (λ argc. argv_at argc.0 body argc.1) x e in
    let b = bind_ok (number_at body a.0.1) (λ pointer. cond (eqb pointer.0 0) (Ok (unlisted a.0.0, pointer.1))
    (listed_at a.0.0 body pointer.1)) x a.2 in
    let w = within_found 1024 body place a.0 fits a.1 in
    record {
      argc = a.0.0;
      after_argc = a.0.1;
      argc_stands = w.stands;
      in_range = w.in_range;
      argv_stands = argv_by a.0.0 body a.0.1 b.0 (eqb b.0.0 0) x fits (number_spelled body (aligned a.0.1) (aligned a.0.1) b.0 fits b.1)
          refl b.2;
    }

-- ## Words are read

listed_read : (argc : ℕ) (body : List ℕ) (place : ℕ) (words : Option (List (List ℕ))) (after : ℕ) → IsBytes body
    → IsListed argc body place words after → argv_at argc body place ≡ Ok (words, after)
unfolding argv_at listed_at pointed_at
listed_read argc body place words after fits h =
    rw (
      number_read body (aligned place) (aligned place) h.to_list h.after_to_list h.to_list_stands,
      ne_eqb h.to_list 0 (λ e. omega (arith, h.points, e)),
      number_read body (aligned h.after_to_list) (aligned h.after_to_list) argc h.after_count h.count_stands,
      eq-eqb argc argc refl,
      (record_exactly argc (λ pointers. Ok (pointing pointers)) words_of body fits h.after_count words after).1 h.words_stand,
    ) refl

unlisted_read : (argc : ℕ) (body : List ℕ) (place : ℕ) (words : Option (List (List ℕ))) (after : ℕ) → IsUnlisted argc body place words after
    → argv_at argc body place ≡ Ok (words, after)
unfolding argv_at
unlisted_read argc body place words after h = rw (number_read body (aligned place) (aligned place) 0 after h.pointer_stands, h.is) refl

pub words_read : (body : List ℕ) (place : ℕ) (words : Option (List (List ℕ))) (after : ℕ) → IsBytes body → WordsStand body place words after
    → words_at body place ≡ Ok (words, after)
unfolding words_at
words_read body place words after fits h =
    elim h.argv_stands [
      | inl u ↦ rw (within_read 1024 body place h.argc h.after_argc h.argc_stands h.in_range)
          (unlisted_read h.argc body h.after_argc words after u)
      | inr l ↦ rw (within_read 1024 body place h.argc h.after_argc h.argc_stands h.in_range)
          (listed_read h.argc body h.after_argc words after fits l)
    ]

-- ## Ranges

one_most : (ps : List ℕ) (p : ℕ) (b : Bool) → pointing ps ≤ length ps →
    length (cond (not b) (p ∷ filter (λ pointer. not (eqb pointer 0)) ps) (filter (λ pointer. not (eqb pointer 0)) ps)) ≤ length (p ∷ ps)
one_most ps p true le = omega (arith, le)
one_most ps p false le = omega (arith, le)

pointing_most : (pointers : List ℕ) → pointing pointers ≤ length pointers
pointing_most [] = omega arith
pointing_most (p ∷ ps) = one_most ps p (eqb p 0) (pointing_most ps)

told_sent : (b : Bool) (texts : List (List ℕ)) → AreSent texts → IfSome (cond b None (Some texts)) AreSent
told_sent true texts h = tt
told_sent false texts h = h

empty_sent : (b : Bool) → IfSome (cond b (Some []) None) AreSent
empty_sent true = record { few = omega arith; sent = tt }
empty_sent false = tt

abbrev count_of : Result ℕ ℕ → ℕ
count_of (Ok count) = count
count_of (Err far) = far

-- words that stand in a body are in the range
pub words_sent : (bytes : List ℕ) (place : ℕ) (words : Option (List (List ℕ))) (after : ℕ) → WordsStand bytes place words after
    → IfSome words AreSent
words_sent bytes place words after h =
    elim h.argv_stands [
      | inl u ↦ rw u.is (empty_sent (eqb h.argc 0))
      | inr l ↦
          let w = l.words_stand in
          let same : pointing w.numbers ≡ length w.texts = ap count_of w.told_of in
          let few : length w.texts ≤ 1024 = omega (arith, same, w.counted, h.in_range, pointing_most w.numbers) in
          rw w.is (told_sent (list_any (λ pointer. eqb pointer 0) w.numbers) w.texts
          (record {
            few = few;
            sent = (record_small h.argc (λ pointers. Ok (pointing pointers)) words_of bytes l.after_count words
                after w).1;
          }))
    ]

-- ## Words that are written are read back

all_small : (n : ℕ) → AreSmall (replicate n None)
all_small zero = tt
all_small (suc n) = (tt, all_small n)

all_point : (n : ℕ) (d : Draft) → IsReferent d.next → (pointing (marked (replicate n None) d) ≡ n)
    × (list_any (λ pointer. eqb pointer 0) (marked (replicate n None) d) ≡ false)
all_point zero d referent = (refl, refl)
all_point (suc n) d referent =
    let more = all_point n (put_referent d) (referent_next d referent) in
    rw (no_null d.next referent) (omega (arith, more.0), more.1)

pointed_put : (words : List (List ℕ)) → AreSent words → IsPutAs (pointed_at (length words))
    (put_record (replicate (length words) None) words) (Some words)
unfolding pointed_at
pointed_put words h =
    let n = length words in
    subst (λ (k : ℕ). IsPutAs (record_at k (λ pointers. Ok (pointing pointers)) words_of) (put_record (replicate n None) words)
    (Some words)) (length-replicate {A = Option ℕ} n None)
    (record_put (λ pointers. Ok (pointing pointers)) words_of (replicate n None) words (Some words) (all_small n) h.sent
    (λ d referent. rw (all_point n d referent).0 refl) (λ d referent. rw (all_point n d referent).1 refl))

-- a list that isn't empty
list_put : (words : List (List ℕ)) → AreSent words → IsPutAs words_at (put_list words) (Some words)
unfolding words_at within_at argv_at listed_at put_list put_record
list_put words h =
    let n = length words in
    let law = number_put n (omega (arith, h.few)) in
    let pointed = pointed_put words h in
    let two = behind_both (put_number n) put_referent law.extends behind_referent in
    let three = behind_both (λ (d : Draft). put_referent (put_number n d)) (put_number n) two law.extends in
    record {
      read = λ d rest referent.
          let d1 = put_number n d in
          let d2 = put_referent d1 in
          let d3 = put_number n d2 in
          let body = (put_record (replicate n None) words d3).bytes ++ rest in
          let held4 : Holds body (put_record (replicate n None) words d3) = (rest, refl) in
          let held3 = held_back (put_record (replicate n None) words) pointed.extends body d3 held4 in
          let held2 = held_before number_at (put_number n) n body d2 law held3 in
          let next1 = law.next d referent in
          let next2 = referent_next d1 next1 in
          rw (
            read_there number_at (put_number n) n body d law referent (held_back put_referent behind_referent body d1 held2),
            le-leb n 1024 h.few,
            referent_read body d1 next1 held2,
            no_null d1.next next1,
            read_there number_at (put_number n) n body d2 law next2 held3,
            eq-eqb n n refl,
            read_there (pointed_at n) (put_record (replicate n None) words) (Some words) body d3 pointed (law.next d2 next2) held4,
          ) refl;
      extends = behind_both (λ (d : Draft). put_number n (put_referent (put_number n d)))
          (put_record (replicate n None) words) three pointed.extends;
      next = λ d referent. pointed.next _ (law.next _ (referent_next _ (law.next d referent)));
    }

-- a count, and a pointer that is 0
short_put : (n : ℕ) → n ≤ 1 → IsPutAs words_at (λ d. put_number 0 (put_number n d)) (unlisted n)
unfolding words_at within_at argv_at
short_put n le =
    let law = number_put n (omega (arith, le)) in
    let none = number_put 0 (omega arith) in
    record {
      read = λ d rest referent.
          let d1 = put_number n d in
          let body = (put_number 0 d1).bytes ++ rest in
          let held1 = held_before number_at (put_number 0) 0 body d1 none (rest, refl) in
          rw (
            read_there number_at (put_number n) n body d law referent held1,
            le-leb n 1024 (omega (arith, le)),
            read_there number_at (put_number 0) 0 body d1 none (law.next d referent) (rest, refl),
          ) refl;
      extends = behind_both (put_number n) (put_number 0) law.extends none.extends;
      next = λ d referent. none.next (put_number n d) (law.next d referent);
    }

pub words_put : (words : Option (List (List ℕ))) → IfSome words AreSent → IsPutAs words_at (put_words words) words
unfolding put_words
words_put None h = let law = short_put 1 (omega arith) in record {
  read = λ d rest referent. law.read d rest referent;
  extends = λ d. law.extends d;
  next = λ d referent. law.next d referent;
}
words_put (Some []) h = let law = short_put 0 (omega arith) in record {
  read = λ d rest referent. law.read d rest referent;
  extends = λ d. law.extends d;
  next = λ d referent. law.next d referent;
}
words_put (Some (word ∷ words)) h =
    let listed : eqb (length (word ∷ words)) 0 ≡ false = ne_eqb (length (word ∷ words)) 0 (λ e. omega (arith, e)) in
    let law = list_put (word ∷ words) h in
    record {
      read = λ d rest referent. rw listed (law.read d rest referent);
      extends = λ d. rw listed (law.extends d);
      next = λ d referent. rw listed (law.next d referent);
    }
