-- The names of the services of the list, their configurations, and what they need.
use Rattle.std.proofs.Common.{ℕ, zero, suc, ◌≡◌, ◌∙◌, ◌+◌, ◌*◌, ◌/◌, ◌%◌, ◌<◌, ◌≤◌, ◌^◌, ◌==◌, ◌||◌, Bool, true, false, cond, List, [], ◌∷◌}
use Rattle.std.proofs.Common.{◌++◌, None, Some, Ok, length, ap, sym, refl, arith, eqb-true, ne_eqb, eq-eqb}
use Rattle.std.specs.Prelude.{codes, decimal, option_map, option_and_then, unwrap_or, is_none}
use Rattle.std.specs.List.{list_any}
use Rattle.std.specs.Char.Utf16.{utf16_chars}
use Rattle.std.proofs.lemmas.Bool.{and_parts, or_from, eqb-false, le-ltb, lt-leb}
use Rattle.std.proofs.lemmas.Fmt.{decimal_by_steps, decimal_injective, length-decimal-le}
use Rattle.scm_text.specs.Fold.{fold_unit, same_text}
use Rattle.scm_text.specs.Multi.{pieces, names_from, names_of, with_front, is_mark}
use Rattle.scm_model.specs.declared.flat.Config.{Config}
use Rattle.scm_model.specs.declared.flat.Need.{Need}
use Rattle.scm_model.specs.declared.flat.Need.TheVariants as needs
use Rattle.scm_rules.specs.Needs.{are_unreadable, needs_in_bytes, needs_or, needs_read, units_in_bytes}
use Rattle.service_record.specs.Checks.{check_new, is_bad_name, is_bad_line, is_longer, has_bad_names, has_bad_texts, has_bad_lists}
use Rattle.service_record.specs.Words.{first_word, word_from}
use Rattle.scm_generate.specs.Listed.{alone, nth_name, nth_need, wide_bytes}

-- ## Digits

abbrev pub AreDigits : List ℕ → Type 0
AreDigits [] = Unit {0}
AreDigits (d ∷ ds) = ((48 ≤ d) × (d < 58)) × AreDigits ds

digits_push : (ds : List ℕ) (d : ℕ) → AreDigits ds → d < 10 → AreDigits (ds ++ (48 + d) ∷ [])
digits_push [] d all lt = ((omega arith, omega (arith, lt)), tt)
digits_push (x ∷ xs) d all lt = (all.0, digits_push xs d all.1 lt)

pub decimal_digits : (n : ℕ) → n < 2 ^ 64 → AreDigits (decimal n)
decimal_digits = decimal_by_steps (λ n ds. AreDigits ds)
    (λ n lt. ((omega arith, omega (arith, lt)), tt))
    (λ n ds some all. digits_push ds (n % 10) all (omega arith))

folded : (d : ℕ) → d < 58 → fold_unit d ≡ d
folded d lt = rw (lt-leb 65 d (omega (arith, lt))) refl

-- two texts of digits that are the same when folded are the same
same_digits : (xs ys : List ℕ) → AreDigits xs → AreDigits ys → same_text xs ys ≡ true → xs ≡ ys
same_digits [] [] a b e = refl
same_digits [] (y ∷ ys) a b e = absurd cc
same_digits (x ∷ xs) [] a b e = absurd cc
same_digits (x ∷ xs) (y ∷ ys) a b e =
    let both = and_parts (fold_unit x == fold_unit y) (same_text xs ys) e in
    let heads : x ≡ y = sym (folded x a.0.1) ∙ eqb-true (fold_unit x) (fold_unit y) both.0 ∙ folded y b.0.1 in
    let tails = same_digits xs ys a.1 b.1 both.1 in
    ap (λ z. z ∷ xs) heads ∙ ap (λ zs. y ∷ zs) tails

same_digits_self : (xs : List ℕ) → same_text xs xs ≡ true
same_digits_self [] = refl
same_digits_self (x ∷ xs) = rw (eq-eqb (fold_unit x) (fold_unit x) refl) (same_digits_self xs)

by_cases : (b : Bool) → (b ≡ true → ⊥) → b ≡ false
by_cases true h = absurd (h refl)
by_cases false h = refl

pub other_names : (i j : ℕ) → i < 2 ^ 64 → j < 2 ^ 64 → (i == j) ≡ false → same_text (nth_name i) (nth_name j) ≡ false
other_names i j a b other =
    by_cases (same_text (nth_name i) (nth_name j))
    (λ e. eqb-false i j other (decimal_injective i j a b (same_digits (decimal i) (decimal j) (decimal_digits i a) (decimal_digits j b) e)))

pub same_name : (i : ℕ) → same_text (nth_name i) (nth_name i) ≡ true
same_name i = same_digits_self (nth_name i)

-- ## What a service needs

-- the needs of the service that needs this number
abbrev pub needs_at : ℕ → List Need
needs_at j = cond (j == 0) [] (needs.Service (nth_name j) ∷ [])

unit_again : (u : ℕ) → u % 256 + 256 * (u / 256) ≡ u
unit_again u = omega arith

units_again : (units : List ℕ) → units_in_bytes (wide_bytes units ++ 0 ∷ 0 ∷ 0 ∷ 0 ∷ []) ≡ Some (units ++ 0 ∷ 0 ∷ [])
units_again [] = refl
units_again (u ∷ units) =
    ap (option_map (λ more. (u % 256 + 256 * (u / 256)) ∷ more)) (units_again units)
    ∙ ap (λ n. Some (n ∷ units ++ 0 ∷ 0 ∷ [])) (unit_again u)

abbrev AreUnits : List ℕ → Type 0
AreUnits [] = Unit {0}
AreUnits (d ∷ ds) = (0 < d) × AreUnits ds

digits_units : (ds : List ℕ) → AreDigits ds → AreUnits ds
digits_units [] h = tt
digits_units (d ∷ ds) h = (omega (arith, h.0.0), digits_units ds h.1)

one_piece : (units rest : List ℕ) → AreUnits units → pieces (units ++ 0 ∷ rest) ≡ units ∷ pieces rest
unfolding pieces
one_piece [] rest h = refl
one_piece (zero ∷ units) rest h = absurd (omega (arith, h.0))
one_piece (suc u ∷ units) rest h = ap (with_front (suc u)) (one_piece units rest h.1)

last_piece : pieces (0 ∷ []) ≡ [] ∷ []
unfolding pieces
last_piece = refl

one_name : (u : ℕ) (name : List ℕ) → is_mark (u ∷ name) ≡ false → names_from 0 ((u ∷ name) ∷ [] ∷ []) ≡ Ok ((u ∷ name) ∷ [])
unfolding names_from
one_name u name mark = rw mark refl

name_read : (ds : List ℕ) → AreDigits ds → names_of (83 ∷ ds ++ 0 ∷ 0 ∷ []) ≡ Ok ((83 ∷ ds) ∷ [])
name_read ds h =
    ap (names_from 0) (one_piece (83 ∷ ds) (0 ∷ []) (omega arith, digits_units ds h) ∙ ap (λ ps. (83 ∷ ds) ∷ ps) last_piece)
    ∙ one_name 83 ds refl

pub need_read : (j : ℕ) → j < 2 ^ 64 → needs_in_bytes (alone (nth_name j)) ≡ Some (needs.Service (nth_name j) ∷ [])
need_read j small =
    ap (option_and_then (λ units. needs_read (names_of units))) (units_again (nth_name j))
    ∙ ap needs_read (name_read (decimal j) (decimal_digits j small))

pub needs_are : (j : ℕ) → j < 2 ^ 64 → needs_or [] (nth_need j) ≡ needs_at j
needs_are j small = elim (j == 0) as (λ b. needs_or [] (cond b None (Some (alone (nth_name j)))) ≡ cond b []
    (needs.Service (nth_name j) ∷ []))
    [ true ↦ refl | false ↦ ap (λ o. unwrap_or o []) (need_read j small) ]

pub needs_readable : (j : ℕ) → j < 2 ^ 64 → are_unreadable (nth_need j) ≡ false
needs_readable j small = elim (j == 0) as (λ b. are_unreadable (cond b None (Some (alone (nth_name j)))) ≡ false)
    [ true ↦ refl | false ↦ ap is_none (need_read j small) ]

-- ## The configurations

abbrev pub config_at : ℕ → Config
config_at i = record {
  name = nth_name i;
  display = nth_name i;
  kind = 0x10;
  start = 3;
  error = 1;
  path = codes "/bin/true";
  group = [];
  tag = 0;
  needs = needs_at (i / 2);
  description = [];
  reset = 0;
  actions = [];
  command = [];
  on_exit = false;
  delayed = false;
  triggers = [];
}

name_short : (i : ℕ) → i < 2 ^ 64 → length (nth_name i) ≤ 65
name_short i small = let n = length-decimal-le 64 i (omega arith) (omega (arith, small)) small in omega (arith, n)

name_not_long : (i : ℕ) → i < 2 ^ 64 → is_longer 256 (nth_name i) ≡ false
name_not_long i small = le-ltb 256 (length (nth_name i)) (let n = name_short i small in omega (arith, n))

no_slash : (ds : List ℕ) → AreDigits ds → list_any (λ u. u == 47 || u == 92) ds ≡ false
no_slash [] h = refl
no_slash (d ∷ ds) h = rw (ne_eqb d 47 (λ e. omega (arith, e, h.0.0)), ne_eqb d 92 (λ e. omega (arith, e, h.0.1))) (no_slash ds h.1)

names_good : (i : ℕ) → i < 2 ^ 64 → has_bad_names (config_at i) ≡ false
names_good i small =
    let empty : (length (nth_name i) == 0) ≡ false = ne_eqb (length (nth_name i)) 0 (λ e. omega (arith, e)) in
    or_from (is_bad_name (nth_name i)) (is_longer 256 (nth_name i))
    (or_from (length (nth_name i) == 0 || is_longer 256 (nth_name i)) (list_any (λ u. u == 47 || u == 92) (nth_name i))
    (or_from (length (nth_name i) == 0) (is_longer 256 (nth_name i)) empty (name_not_long i small))
    (no_slash (decimal i) (decimal_digits i small)))
    (name_not_long i small)

line_good : is_bad_line (codes "/bin/true") ≡ false
unfolding first_word word_from utf16_chars
line_good = refl

texts_good : (i : ℕ) → has_bad_texts (config_at i) ≡ false
texts_good i = rw line_good refl

lists_good : (i : ℕ) → i < 2 ^ 64 → has_bad_lists (config_at i) ≡ false
lists_good i small =
    let j = i / 2 in
    let less : j < 2 ^ 64 = omega (arith, small) in
    elim (j == 0) as (λ b. has_bad_lists (record (config_at i) { needs = cond b [] (needs.Service (nth_name j) ∷ []) }) ≡ false)
    [ true ↦ refl | false ↦ rw (name_not_long j less) refl ]

pub config_good : (i : ℕ) → i < 2 ^ 64 → check_new (config_at i) None ≡ 0
unfolding check_new
config_good i small = rw (names_good i small, texts_good i, lists_good i small) refl
