-- Sums over rows.
use Rattle.std.proofs.Common.{ℕ, zero, suc, ◌≡◌, ◌+◌, ◌*◌, ◌≤◌, Bool, true, false, cond, List, [], ◌∷◌, filter, length, refl, arith}
use Rattle.std.specs.Prelude.{All}
use Rattle.std.proofs.Math.Nat.{mul-suc}
use Rattle.std.proofs.lemmas.List.Elements.{All-cons, All-nil, All-weaker}
use Rattle.start_plan.specs.Owed.{total}

-- fewer rows count for no more
pub fewer_count : {A : Type 0} (count : A → ℕ) (p : A → Bool) (rows : List A) → total count (filter p rows) ≤ total count rows
fewer_count count p [] = omega arith
fewer_count count p (row ∷ rows) =
    let rest = fewer_count count p rows in
    elim (p row) as (λ b. total count (cond b (row ∷ filter p rows) (filter p rows)) ≤ count row + total count rows)
    [ true ↦ omega (arith, rest) | false ↦ omega (arith, rest) ]

-- a row that leaves counts no more
abbrev pub Leaves : {A : Type 0} → (A → ℕ) → (A → Bool) → List A → A → Type 0
Leaves count p rows row = p row ≡ false → total count (filter p rows) + count row ≤ total count rows

later_leaves : {A : Type 0} (count : A → ℕ) (p : A → Bool) (first : A) (rows : List A) (row : A) → Leaves count p rows row
    → Leaves count p (first ∷ rows) row
later_leaves count p first rows row leaves out =
    let less = leaves out in
    elim (p first) as (λ b. total count (cond b (first ∷ filter p rows) (filter p rows)) + count row ≤ count first + total count rows)
    [ true ↦ omega (arith, less) | false ↦ omega (arith, less) ]

pub all_leave : {A : Type 0} (count : A → ℕ) (p : A → Bool) (rows : List A) → All (Leaves count p rows) rows
all_leave count p [] = All-nil (Leaves count p [])
all_leave count p (row ∷ rows) =
    All-cons (Leaves count p (row ∷ rows)) row rows
    (λ out. let fewer = fewer_count count p rows in rw out (omega (arith, fewer)))
    (All-weaker (Leaves count p rows) (Leaves count p (row ∷ rows)) (λ later leaves. later_leaves count p row rows later leaves) rows
    (all_leave count p rows))

-- ## Two sums

pub total_plus : {A : Type 0} (f g : A → ℕ) (rows : List A) → total (λ row. f row + g row) rows ≡ total f rows + total g rows
total_plus f g [] = refl
total_plus f g (row ∷ rows) = let rest = total_plus f g rows in omega (arith, rest)

pub total_least : {A : Type 0} (f g : A → ℕ) → ((row : A) → f row ≤ g row) → (rows : List A) → total f rows ≤ total g rows
total_least f g less [] = omega arith
total_least f g less (row ∷ rows) = let one = less row in let rest = total_least f g less rows in omega (arith, one, rest)

pub total_zero : {A : Type 0} (rows : List A) → total (λ row. 0) rows ≡ 0
total_zero [] = refl
total_zero (row ∷ rows) = let rest = total_zero rows in omega (arith, rest)

-- ## One number for each row that passes a test

abbrev pub each_passing : {A : Type 0} → ℕ → (A → Bool) → A → ℕ
each_passing unit p row = cond (p row) unit 0

pub passing_total : {A : Type 0} (unit : ℕ) (p : A → Bool) (rows : List A)
    → total (each_passing unit p) rows ≡ unit * length (filter p rows)
passing_total unit p [] = omega arith
passing_total unit p (row ∷ rows) =
    let rest = passing_total unit p rows in
    let more = mul-suc unit (length (filter p rows)) in
    elim (p row) as (λ b. cond b unit 0 + total (each_passing unit p) rows ≡ unit * length (cond b (row ∷ filter p rows) (filter p rows)))
    [ true ↦ omega (arith, rest, more) | false ↦ omega (arith, rest) ]

-- at most one row passes
pub once_total : {A : Type 0} (unit : ℕ) (p : A → Bool) (rows : List A) → length (filter p rows) ≤ 1
    → total (each_passing unit p) rows ≤ unit
once_total unit p rows once =
    let all = passing_total unit p rows in
    by_count (length (filter p rows)) once all
  where
    by_count : (n : ℕ) → n ≤ 1 → total (each_passing unit p) rows ≡ unit * n → total (each_passing unit p) rows ≤ unit
    by_count zero few e = omega (arith, e)
    by_count (suc zero) few e = omega (arith, e)
    by_count (suc (suc n)) few e = absurd (omega (arith, few))
