-- A name that is all of some bytes.
use Rattle.std.proofs.Common.{ℕ, ◌≡◌, ◌≢◌, ◌∙◌, ◌<◌, ◌≤◌, ◌*◌, ◌==◌, ◌||◌, not, Bool, true, false, cond, List, drop, length, Option, None}
use Rattle.std.proofs.Common.{Some, Ok, Err, refl, sym, ap, subst, arith, nat_lt, lt-ltb, ne_eqb, eq-eqb, ltb-false, le-ltb}
use Rattle.std.specs.Prelude.{Result, is_ok}
use Rattle.std.specs.List.{list_any}
use Rattle.std.proofs.lemmas.List.{length-drop}
use Rattle.ndr_body.specs.Units.{le_units}
use Rattle.service_record.specs.Reading.{◌>>=◌, take_number, take_text}
use Rattle.record_journal.specs.Entries.{if_read, name_of}

abbrev whole_name : Result (List ℕ × List ℕ) ℕ → Option (List ℕ)
whole_name read = if_read (read >>= λ name. cond (length name.1 == 0) (Ok name.0) (Err (length name.1)))

abbrev text_read : ℕ → Bool → Bool → List ℕ → List ℕ → Result (List ℕ × List ℕ) ℕ
text_read left short zero units end = cond (short || zero) (Err left) (Ok (units, end))

-- what is made of a count of units and what stands behind it
abbrev named : ℕ → Result (ℕ × List ℕ) ℕ → Option (List ℕ)
named left read = whole_name (read >>= λ n. text_read left (nat_lt (length n.1) (2 * n.0)) (list_any (λ u. u == 0) (le_units n.0 n.1))
    (le_units n.0 n.1) (drop (2 * n.0) n.1))

named_is : (bytes : List ℕ) → named (length bytes) (take_number bytes) ≡ if_read (name_of bytes)
unfolding take_text
named_is bytes = refl

read_is : {A : Type 0} (x : A) (read : Result A ℕ) → Some x ≡ if_read read → read ≡ Ok x
read_is x (Ok y) is = cc
read_is x (Err left) is = absurd cc

none_is : {A : Type 0} (read : Result A ℕ) → None ≡ if_read read → (left : ℕ) × (read ≡ Err left)
none_is (Ok y) is = absurd cc
none_is (Err left) is = (left, refl)

pub no_number : (bytes : List ℕ) → None ≡ if_read (take_number bytes) → None ≡ if_read (name_of bytes)
no_number bytes is =
    let p = none_is (take_number bytes) is in
    subst (λ (o : Option (List ℕ)). None ≡ o) (named_is bytes) (subst (λ (r : Result (ℕ × List ℕ) ℕ). None ≡ named (length bytes) r)
    (sym p.1) refl)

pub other_length : (bytes rest : List ℕ) (n : ℕ) → Some (n, rest) ≡ if_read (take_number bytes) → length rest ≢ 2 * n
    → None ≡ if_read (name_of bytes)
other_length bytes rest n is other =
    subst (λ (o : Option (List ℕ)). None ≡ o) (named_is bytes)
    (subst (λ (r : Result (ℕ × List ℕ) ℕ). None ≡ named (length bytes) r) (sym (read_is (n, rest) (take_number bytes) is))
    (elim (nat_lt (length rest) (2 * n)) as (λ b. nat_lt (length rest) (2 * n) ≡ b
    → None ≡ whole_name (text_read (length bytes) b (list_any (λ u. u == 0) (le_units n rest)) (le_units n rest) (drop (2 * n) rest))) [
      | true ↦ λ e. refl
      | false ↦ λ e. elim (list_any (λ u. u == 0) (le_units n rest)) as (λ z. None ≡ whole_name
          (text_read (length bytes) false z (le_units n rest) (drop (2 * n) rest))) [
            | true ↦ refl
            | false ↦
                let long = length-drop (2 * n) rest in
                let some : (length (drop (2 * n) rest) == 0) ≡ false = ne_eqb (length (drop (2 * n) rest)) 0
                (λ q. let le = ltb-false (length rest) (2 * n) e in other (omega (arith, long, q, le))) in
                rw some refl
          ]
    ] refl))

pub has_a_zero : (bytes rest : List ℕ) (n : ℕ) → Some (n, rest) ≡ if_read (take_number bytes)
    → list_any (λ u. u == 0) (le_units n rest) ≡ true → None ≡ if_read (name_of bytes)
has_a_zero bytes rest n is zero =
    subst (λ (o : Option (List ℕ)). None ≡ o) (named_is bytes)
    (subst (λ (r : Result (ℕ × List ℕ) ℕ). None ≡ named (length bytes) r) (sym (read_is (n, rest) (take_number bytes) is))
    (elim (nat_lt (length rest) (2 * n)) as (λ b. None ≡ whole_name (text_read (length bytes) b (list_any (λ u. u == 0) (le_units n rest))
    (le_units n rest) (drop (2 * n) rest))) [
      | true ↦ refl
      | false ↦ rw zero refl
    ]))

pub is_name : (bytes rest : List ℕ) (n : ℕ) → Some (n, rest) ≡ if_read (take_number bytes) → length rest ≡ 2 * n
    → list_any (λ u. u == 0) (le_units n rest) ≡ false → Some (le_units n rest) ≡ if_read (name_of bytes)
is_name bytes rest n is long none =
    subst (λ (o : Option (List ℕ)). Some (le_units n rest) ≡ o) (named_is bytes)
    (subst (λ (r : Result (ℕ × List ℕ) ℕ). Some (le_units n rest) ≡ named (length bytes) r) (sym (read_is (n, rest) (take_number bytes) is))
    (let end : (length (drop (2 * n) rest) == 0) ≡ true = eq-eqb (length (drop (2 * n) rest)) 0
    (let l = length-drop (2 * n) rest in omega (arith, l, long)) in
    rw (le-ltb (length rest) (2 * n) (omega (arith, long)), none, end) refl))

-- ## A name at the front of some bytes

text_is : (bytes : List ℕ) → take_text bytes ≡ (take_number bytes >>= λ n. text_read (length bytes) (nat_lt (length n.1) (2 * n.0))
    (list_any (λ u. u == 0) (le_units n.0 n.1)) (le_units n.0 n.1) (drop (2 * n.0) n.1))
unfolding take_text
text_is bytes = refl

guarded : (left : ℕ) (short zero : Bool) (units end : List ℕ) → is_ok (text_read left short zero units end) ≡ not (short || zero)
guarded left true zero units end = refl
guarded left false true units end = refl
guarded left false false units end = refl

pub no_text : (bytes : List ℕ) → None ≡ if_read (take_number bytes) → false ≡ is_ok (take_text bytes)
no_text bytes is =
    let p = none_is (take_number bytes) is in
    sym (ap is_ok (text_is bytes ∙ ap (λ (r : Result (ℕ × List ℕ) ℕ). r >>= λ n. text_read (length bytes) (nat_lt (length n.1) (2 * n.0))
    (list_any (λ u. u == 0) (le_units n.0 n.1)) (le_units n.0 n.1) (drop (2 * n.0) n.1)) p.1))

text_at : (bytes rest : List ℕ) (n : ℕ) → Some (n, rest) ≡ if_read (take_number bytes)
    → is_ok (take_text bytes) ≡ not (nat_lt (length rest) (2 * n) || list_any (λ u. u == 0) (le_units n rest))
text_at bytes rest n is =
    ap is_ok (text_is bytes ∙ ap (λ (r : Result (ℕ × List ℕ) ℕ). r >>= λ n. text_read (length bytes) (nat_lt (length n.1) (2 * n.0))
    (list_any (λ u. u == 0) (le_units n.0 n.1)) (le_units n.0 n.1) (drop (2 * n.0) n.1))
    (read_is (n, rest) (take_number bytes) is))
    ∙ guarded (length bytes) (nat_lt (length rest) (2 * n)) (list_any (λ u. u == 0) (le_units n rest)) (le_units n rest) (drop (2 * n) rest)

pub short_text : (bytes rest : List ℕ) (n : ℕ) → Some (n, rest) ≡ if_read (take_number bytes) → length rest < 2 * n
    → false ≡ is_ok (take_text bytes)
short_text bytes rest n is less = sym (text_at bytes rest n is ∙ rw (lt-ltb (length rest) (2 * n) less) refl)

pub long_text : (bytes rest : List ℕ) (n : ℕ) (zero : Bool) → Some (n, rest) ≡ if_read (take_number bytes) → 2 * n ≤ length rest
    → zero ≡ list_any (λ u. u == 0) (le_units n rest) → not zero ≡ is_ok (take_text bytes)
long_text bytes rest n zero is long has = ap not has ∙ sym (text_at bytes rest n is ∙ rw (le-ltb (length rest) (2 * n) long) refl)
