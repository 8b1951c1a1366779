-- Parts one after the other are read exactly where they stand, and those that are written are read back.
use Rattle.std.proofs.Common.{◌≡◌, ℕ, zero, suc, ◌<◌, ◌≤◌, ◌^◌, Bool, true, false, cond, eqb, List, [], ◌∷◌, ◌++◌, length, map, Option}
use Rattle.std.proofs.Common.{Some, None, Result, Ok, Err, refl, sym, ap, subst, arith}
use Rattle.std.specs.Prelude.{is_some, IfSome}
use Rattle.std.specs.List.{AllByRecursion}
use Rattle.std.proofs.lemmas.Bool.{eq-eqb, le-leb}
use Rattle.std.proofs.lemmas.List.{append-nil}
use Rattle.ndr_body.specs.declared.fault.BodyFault.{BodyFault}
use Rattle.ndr_body.specs.declared.fault.BodyFault.TheVariants.{BadCount}
use Rattle.ndr_body.specs.Reading.{◌>>=◌, aligned, number_at}
use Rattle.ndr_body.specs.Writing.{Draft, put_number, put_referent}
use Rattle.ndr_body.specs.Spelled.{IsNumber, Stands}
use Rattle.ndr_body.specs.Laws.{IsPutAs}
use Rattle.ndr_body.proofs.Spelled.{IsBytes, bind_ok, ok_is, number_spelled, number_read}
use Rattle.ndr_body.proofs.Written.{number_put}
use Rattle.ndr_body.proofs.Chains.{Holds as Held, held_before, read_there}
use Rattle.scm_shapes.specs.Ranges.{within_at, WithinStands}
use Rattle.scm_shapes.specs.Each.{each_at, CountedStand}
use Rattle.scm_shapes.specs.Parts.{Reads, then_at, both_at, made_at, checked_at, if_at, for_each_at, same_at, nonzero, nonzero_at}
use Rattle.scm_shapes.specs.Parts.{ThenStands, BothStand, Holds, CheckedStands, IfStands, ForEachStands, SameStands, NonzeroStands}
use Rattle.scm_shapes.specs.Parts.{put_pointer, put_flag, put_if, put_all}
use Rattle.scm_shapes.proofs.Ranges.{guard_true, within_found, within_read}
use Rattle.scm_shapes.proofs.Referents.{no_null, referent_next, referent_read}
use Rattle.scm_shapes.proofs.Each.{behind_both, behind_referent, each_found, each_read}

-- ## Reading

-- what is read at a place stands there, and what stands there is read
pub record Exactly {A : Type 0} (read_at : List ℕ → ℕ → Result (A × ℕ) BodyFault) (There : List ℕ → ℕ → A → ℕ → Type 0)
    (body : List ℕ) : Type 0 where
  pub found : (place : ℕ) (value : A) (after : ℕ) → read_at body place ≡ Ok (value, after) → There body place value after
  pub read : (place : ℕ) (value : A) (after : ℕ) → There body place value after → read_at body place ≡ Ok (value, after)

pub number_exactly : (body : List ℕ) → IsBytes body → Exactly number_at (Stands IsNumber) body
number_exactly body fits = record {
  found = λ place v after e. number_spelled body (aligned place) (aligned place) (v, after) fits e;
  read = λ place v after s. number_read body (aligned place) (aligned place) v after s;
}

pub within_exactly : (most : ℕ) (body : List ℕ) → IsBytes body → Exactly (within_at most) (WithinStands most) body
within_exactly most body fits = record {
  found = λ place v after e. within_found most body place (v, after) fits e;
  read = λ place v after s. within_read most body place v after s.stands s.in_range;
}

-- a value that is made of what is read
pub made_exactly : {A B : Type 0} (make : A → B) (read_at : List ℕ → ℕ → Result (A × ℕ) BodyFault) (There : List ℕ → ℕ → A → ℕ → Type 0)
    (body : List ℕ)
    → Exactly read_at There body → Exactly (made_at make read_at) (Holds make There) body
made_exactly {A = A} {B = B} make read_at There body law = record {
  found = λ place v after e.
      let a = bind_ok (read_at body place) (λ x. Ok (make x.0, x.1)) (v, after) e in
      let pair : B × ℕ = (make a.0.0, a.0.1) in
      let same : pair ≡ (v, after) = ok_is pair (v, after) a.2 in
      let ends : a.0.1 ≡ after = ap (λ (p : B × ℕ). p.1) same in
      record {
        content = a.0.0;
        is = sym (ap (λ (p : B × ℕ). p.0) same);
        there = subst (λ (n : ℕ). There body place a.0.0 n) ends (law.found place a.0.0 a.0.1 a.1);
      };
  read = λ place v after h. rw (law.read place h.content after h.there, h.is) refl;
}

pub then_exactly : {A B : Type 0} (first_at : Reads A) (First : List ℕ → ℕ → A → ℕ → Type 0) (second_at : A → Reads B) (Second : A → List ℕ
    → ℕ → B → ℕ → Type 0) (body : List ℕ)
    → Exactly first_at First body → ((a : A) → Exactly (second_at a) (Second a) body)
    → Exactly (then_at first_at second_at) (ThenStands First Second) body
then_exactly {A = A} {B = B} first_at First second_at Second body law1 law2 = record {
  found = λ place v after e.
      let a = bind_ok (first_at body place) (λ first. second_at first.0 body first.1 >>= λ second. Ok ((first.0, second.0), second.1))
      (v, after) e in
      let b = bind_ok (second_at a.0.0 body a.0.1) (λ second. Ok ((a.0.0, second.0), second.1)) (v, after) a.2 in
      let pair : (A × B) × ℕ = ((a.0.0, b.0.0), b.0.1) in
      let stands : ThenStands First Second body place (a.0.0, b.0.0) b.0.1 =
      record { middle = a.0.1; first = law1.found place a.0.0 a.0.1 a.1; second = (law2 a.0.0).found a.0.1 b.0.0 b.0.1 b.1 } in
      subst (λ (y : (A × B) × ℕ). ThenStands First Second body place y.0 y.1) {x = pair} (ok_is pair (v, after) b.2) stands;
  read = λ place v after h. rw (law1.read place v.0 h.middle h.first, (law2 v.0).read h.middle v.1 after h.second) refl;
}

pub both_exactly : {A B : Type 0} (first_at : Reads A) (First : List ℕ → ℕ → A → ℕ → Type 0) (second_at : Reads B) (Second : List ℕ → ℕ → B
    → ℕ → Type 0) (body : List ℕ)
    → Exactly first_at First body → Exactly second_at Second body → Exactly (both_at first_at second_at) (BothStand First Second) body
both_exactly {A = A} first_at First second_at Second body law1 law2 = then_exactly first_at First (λ (a : A). second_at)
    (λ (a : A). Second) body law1 (λ a. law2)

pub checked_exactly : {A : Type 0} (test : A → Bool) (read_at : Reads A) (There : List ℕ → ℕ → A → ℕ → Type 0) (body : List ℕ)
    → Exactly read_at There body → Exactly (checked_at test read_at) (CheckedStands test There) body
checked_exactly {A = A} test read_at There body law = record {
  found = λ place v after e.
      let a = bind_ok (read_at body place) (λ x. cond (test x.0) (Ok x) (Err (BadCount (aligned place)))) (v, after) e in
      let g = guard_true (test a.0.0) (BadCount (aligned place)) a.0 (v, after) a.2 in
      let stands : CheckedStands test There body place a.0.0 a.0.1 = record { passes = g.0; there = law.found place a.0.0 a.0.1 a.1 } in
      subst (λ (y : A × ℕ). CheckedStands test There body place y.0 y.1) {x = a.0} g.1 stands;
  read = λ place v after h. rw (law.read place v after h.there, h.passes) refl;
}

pub same_exactly : (n : ℕ) (body : List ℕ) → IsBytes body → Exactly (same_at n) (SameStands n) body
same_exactly n body fits = checked_exactly (λ (m : ℕ). eqb m n) number_at (Stands IsNumber) body (number_exactly body fits)

pub nonzero_exactly : (body : List ℕ) → IsBytes body → Exactly nonzero_at NonzeroStands body
nonzero_exactly body fits = made_exactly nonzero number_at (Stands IsNumber) body (number_exactly body fits)

some_of : {A : Type 0} → A × ℕ → Option A × ℕ
some_of x = (Some x.0, x.1)

some_in : {A : Type 0} (x y : A) → Some x ≡ Some y → x ≡ y
some_in x y e = cc

if_found : {A : Type 0} (b : Bool) (read_at : Reads A) (There : List ℕ → ℕ → A → ℕ → Type 0) (body : List ℕ) (place : ℕ) (o : Option A)
    (after : ℕ) → Exactly read_at There body → if_at b read_at body place ≡ Ok (o, after) → IfStands b There body place o after
unfolding some_of
if_found {A = A} true read_at There body place (Some v) after law e =
    let a = bind_ok (read_at body place) (λ x. Ok (some_of x)) (Some v, after) e in
    let same : some_of a.0 ≡ (Some v, after) = ok_is (some_of a.0) (Some v, after) a.2 in
    let value : a.0.0 ≡ v = some_in a.0.0 v (ap (λ (p : Option A × ℕ). p.0) same) in
    let ends : a.0.1 ≡ after = ap (λ (p : Option A × ℕ). p.1) same in
    subst (λ (n : ℕ). There body place v n) ends (subst (λ (w : A). There body place w a.0.1) value (law.found place a.0.0 a.0.1 a.1))
if_found {A = A} true read_at There body place None after law e =
    let a = bind_ok (read_at body place) (λ x. Ok (some_of x)) (None, after) e in
    let same : some_of a.0 ≡ (None, after) = ok_is (some_of a.0) (None, after) a.2 in
    let none : Some a.0.0 ≡ None = ap (λ (p : Option A × ℕ). p.0) same in
    absurd cc
if_found {A = A} false read_at There body place (Some v) after law e =
    let pair : Option A × ℕ = (None, place) in
    let none : None ≡ Some v = ap (λ (p : Option A × ℕ). p.0) (ok_is pair (Some v, after) e) in
    absurd cc
if_found {A = A} false read_at There body place None after law e =
    let pair : Option A × ℕ = (None, place) in
    sym (ap (λ (p : Option A × ℕ). p.1) (ok_is pair (None, after) e))

if_read : {A : Type 0} (b : Bool) (read_at : Reads A) (There : List ℕ → ℕ → A → ℕ → Type 0) (body : List ℕ) (place : ℕ) (o : Option A)
    (after : ℕ) → Exactly read_at There body → IfStands b There body place o after → if_at b read_at body place ≡ Ok (o, after)
if_read true read_at There body place (Some v) after law h = rw (law.read place v after h) refl
if_read true read_at There body place None after law h = absurd h
if_read false read_at There body place (Some v) after law h = absurd h
if_read false read_at There body place None after law h = rw h refl

pub if_exactly : {A : Type 0} (b : Bool) (read_at : Reads A) (There : List ℕ → ℕ → A → ℕ → Type 0) (body : List ℕ)
    → Exactly read_at There body → Exactly (if_at b read_at) (IfStands b There) body
if_exactly b read_at There body law = record {
  found = λ place o after e. if_found b read_at There body place o after law e;
  read = λ place o after h. if_read b read_at There body place o after law h;
}

for_found : {A B : Type 0} (read_at : A → Reads B) (Stand : A → List ℕ → ℕ → B → ℕ → Type 0) (body : List ℕ) (xs : List A) (place : ℕ)
    (y : List B × ℕ)
    → ((x : A) → Exactly (read_at x) (Stand x) body) → for_each_at read_at xs body place ≡ Ok y → ForEachStands Stand xs body place y.0 y.1
unfolding for_each_at
for_found {A = A} {B = B} read_at Stand body [] place y laws e = subst (λ (z : List B × ℕ). ForEachStands Stand [] body place z.0 z.1)
    (ok_is ([], place) y e) refl
for_found {A = A} {B = B} read_at Stand body (x ∷ xs) place y laws e =
    let a = bind_ok (read_at x body place) (λ first. for_each_at read_at xs body first.1 >>= λ others. Ok (first.0 ∷ others.0, others.1)) y
    e in
    let b = bind_ok (for_each_at read_at xs body a.0.1) (λ others. Ok (a.0.0 ∷ others.0, others.1)) y a.2 in
    let made : List B × ℕ = (a.0.0 ∷ b.0.0, b.0.1) in
    subst (λ (z : List B × ℕ). ForEachStands Stand (x ∷ xs) body place z.0 z.1) (ok_is made y b.2)
    (a.0.1, (laws x).found place a.0.0 a.0.1 a.1, for_found read_at Stand body xs a.0.1 b.0 laws b.1)

for_read : {A B : Type 0} (read_at : A → Reads B) (Stand : A → List ℕ → ℕ → B → ℕ → Type 0) (body : List ℕ) (xs : List A) (place : ℕ)
    (vs : List B) (after : ℕ)
    → ((x : A) → Exactly (read_at x) (Stand x) body) → ForEachStands Stand xs body place vs after
    → for_each_at read_at xs body place ≡ Ok (vs, after)
unfolding for_each_at
for_read read_at Stand body [] place [] after laws h = rw h refl
for_read read_at Stand body (x ∷ xs) place (v ∷ vs) after laws h = rw (
  (laws x).read place v h.0 h.1,
  for_read read_at Stand body xs h.0 vs after laws h.2,
) refl
for_read read_at Stand body [] place (v ∷ vs) after laws h = absurd h
for_read read_at Stand body (x ∷ xs) place [] after laws h = absurd h

pub for_each_exactly : {A B : Type 0} (read_at : A → Reads B) (Stand : A → List ℕ → ℕ → B → ℕ → Type 0) (xs : List A) (body : List ℕ)
    → ((x : A) → Exactly (read_at x) (Stand x) body) → Exactly (for_each_at read_at xs) (ForEachStands Stand xs) body
for_each_exactly read_at Stand xs body laws = record {
  found = λ place vs after e. for_found read_at Stand body xs place (vs, after) laws e;
  read = λ place vs after h. for_read read_at Stand body xs place vs after laws h;
}

pub counted_exactly : {A : Type 0} (item_at : Reads A) (There : List ℕ → ℕ → A → ℕ → Type 0) (count : ℕ) (body : List ℕ)
    → Exactly item_at There body → Exactly (each_at item_at count) (CountedStand count There) body
counted_exactly {A = A} item_at There count body law = record {
  found = λ place vs after e. let f = each_found item_at There body count place (vs, after) (λ at y e. law.found at y.0 y.1 e) e in
      record { counted = f.1; stand = f.0 };
  read = λ place vs after h. subst (λ (n : ℕ). each_at item_at n body place ≡ Ok (vs, after)) h.counted
      (each_read item_at There body vs place after (λ at y end s. law.read at y end s) h.stand);
}

-- ## Writing

pub made_put : {A B : Type 0} (make : A → B) (read_at : Reads A) (put : Draft → Draft) (content : A) → IsPutAs read_at put content
    → IsPutAs (made_at make read_at) put (make content)
made_put make read_at put content law = record {
  read = λ d rest referent. rw (law.read d rest referent) refl;
  extends = law.extends;
  next = law.next;
}

-- what is put as two parts, of which the first may tell of the second, is read as they are joined
pub joined_put : {A B C : Type 0} (first_at : Reads A) (second_at : A → Reads B) (finish : A × ℕ → B × ℕ → Result (C × ℕ) BodyFault)
    (p q : Draft → Draft) (a : A) (b : B) (c : C)
    → IsPutAs first_at p a → IsPutAs (second_at a) q b → ((m n : ℕ) → finish (a, m) (b, n) ≡ Ok (c, n))
    → IsPutAs (λ body place. first_at body place >>= λ x. second_at x.0 body x.1 >>= λ y. finish x y) (λ d. q (p d)) c
joined_put first_at second_at finish p q a b c law1 law2 join = record {
  read = λ d rest referent.
      let d1 = p d in
      let body = (q d1).bytes ++ rest in
      let held2 : Held body (q d1) = (rest, refl) in
      let held1 = held_before (second_at a) q b body d1 law2 held2 in
      rw (
        read_there first_at p a body d law1 referent held1,
        read_there (second_at a) q b body d1 law2 (law1.next d referent) held2,
        join (length d1.bytes) (length (q d1).bytes),
      ) refl;
  extends = behind_both p q law1.extends law2.extends;
  next = λ d referent. law2.next (p d) (law1.next d referent);
}

pub then_put : {A B : Type 0} (first_at : Reads A) (second_at : A → Reads B) (p q : Draft → Draft) (a : A) (b : B) → IsPutAs first_at p a
    → IsPutAs (second_at a) q b → IsPutAs (then_at first_at second_at) (λ d. q (p d)) (a, b)
then_put {A = A} {B = B} first_at second_at p q a b law1 law2 = joined_put first_at second_at
    (λ (x : A × ℕ) (y : B × ℕ). Ok ((x.0, y.0), y.1)) p q a b (a, b) law1 law2 (λ m n. refl)

pub both_put : {A B : Type 0} (first_at : Reads A) (second_at : Reads B) (p q : Draft → Draft) (a : A) (b : B) → IsPutAs first_at p a
    → IsPutAs second_at q b → IsPutAs (both_at first_at second_at) (λ d. q (p d)) (a, b)
both_put {A = A} first_at second_at p q a b law1 law2 = then_put first_at (λ (a : A). second_at) p q a b law1 law2

pub checked_put : {A : Type 0} (test : A → Bool) (read_at : Reads A) (put : Draft → Draft) (v : A) → test v ≡ true → IsPutAs read_at put v
    → IsPutAs (checked_at test read_at) put v
checked_put test read_at put v passes law = record {
  read = λ d rest referent. rw (law.read d rest referent, passes) refl;
  extends = law.extends;
  next = law.next;
}

pub same_put : (n : ℕ) → n < 2 ^ 32 → IsPutAs (same_at n) (put_number n) n
same_put n lt = checked_put (λ (m : ℕ). eqb m n) number_at (put_number n) n (eq-eqb n n refl) (number_put n lt)

pub within_put : (most n : ℕ) → n ≤ most → n < 2 ^ 32 → IsPutAs (within_at most) (put_number n) n
unfolding within_at
within_put most n le lt =
    let law = number_put n lt in
    record { read = λ d rest referent. rw (law.read d rest referent, le-leb n most le) refl; extends = law.extends; next = law.next }

pub pointer_put : (b : Bool) → IsPutAs nonzero_at (put_pointer b) b
unfolding put_pointer
pointer_put true = record {
  read = λ d rest referent. rw (referent_read ((put_referent d).bytes ++ rest) d referent (rest, refl), no_null d.next referent) refl;
  extends = behind_referent;
  next = referent_next;
}
pointer_put false = made_put nonzero number_at (put_number 0) 0 (number_put 0 (omega arith))

pub flag_put : (b : Bool) → IsPutAs nonzero_at (put_flag b) b
unfolding put_flag
flag_put true = made_put nonzero number_at (put_number 1) 1 (number_put 1 (omega arith))
flag_put false = made_put nonzero number_at (put_number 0) 0 (number_put 0 (omega arith))

-- nothing is put, and nothing read
pub nothing_put : {A : Type 0} (read_at : Reads A) (v : A) → ((body : List ℕ) (place : ℕ) → read_at body place ≡ Ok (v, place))
    → IsPutAs read_at (λ d. d) v
nothing_put read_at v law = record {
  read = λ d rest referent. law (d.bytes ++ rest) (length d.bytes);
  extends = λ d. ([], sym (append-nil d.bytes));
  next = λ d referent. referent;
}

pub if_put : {A : Type 0} (read_at : Reads A) (put : A → Draft → Draft) (o : Option A) → IfSome o (λ v. IsPutAs read_at (put v) v)
    → IsPutAs (if_at (is_some o) read_at) (put_if put o) o
if_put read_at put None law = nothing_put (if_at false read_at) None (λ body place. refl)
if_put {A = A} read_at put (Some v) law = made_put (λ (v : A). Some v) read_at (put v) v law

pub each_put : {A B : Type 0} (item_at : Reads B) (put : A → Draft → Draft) (view : A → B) (vs : List A)
    → AllByRecursion (λ v. IsPutAs item_at (put v) (view v)) vs → IsPutAs (each_at item_at (length vs)) (put_all put vs) (map view vs)
unfolding each_at put_all
each_put item_at put view [] laws = nothing_put (each_at item_at 0) [] (λ body place. refl)
each_put {B = B} item_at put view (v ∷ vs) laws =
    joined_put item_at (λ (x : B). each_at item_at (length vs)) (λ (x : B × ℕ) (y : List B × ℕ). Ok (x.0 ∷ y.0, y.1)) (put v)
    (put_all put vs) (view v) (map view vs) (view v ∷ map view vs) laws.0 (each_put item_at put view vs laws.1) (λ m n. refl)

pub for_each_put : {A B : Type 0} (read_at : B → Reads A) (put : A → Draft → Draft) (view : A → B) (vs : List A)
    → AllByRecursion (λ v. IsPutAs (read_at (view v)) (put v) v) vs → IsPutAs (for_each_at read_at (map view vs)) (put_all put vs) vs
unfolding for_each_at put_all
for_each_put read_at put view [] laws = nothing_put (for_each_at read_at []) [] (λ body place. refl)
for_each_put {A = A} {B = B} read_at put view (v ∷ vs) laws =
    joined_put (read_at (view v)) (λ (x : A). for_each_at read_at (map view vs)) (λ (x : A × ℕ) (y : List A × ℕ). Ok (x.0 ∷ y.0, y.1))
    (put v) (put_all put vs) v vs (v ∷ vs) laws.0 (for_each_put read_at put view vs laws.1) (λ m n. refl)
