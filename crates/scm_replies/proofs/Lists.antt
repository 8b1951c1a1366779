-- Lists of plans with one more at the end, whose number none before has.
use Rattle.std.proofs.Common.{ℕ, ◌≡◌, ◌∙◌, ◌<◌, ◌==◌, ◌||◌, ◌&&◌, ◌++◌, Bool, true, false, not, cond, List, [], ◌∷◌, Some, filter, ap, refl}
use Rattle.std.proofs.Common.{arith, ne_eqb, append-nil}
use Rattle.std.specs.Prelude.{All, is_none, is_some}
use Rattle.std.specs.List.{list_any}
use Rattle.std.proofs.lemmas.List.Elements.{All-head, All-tail, All-weaker, filter-append}
use Rattle.scm_model.specs.declared.flat.Due.{Due}
use Rattle.scm_model.specs.declared.flat.DueKind.{DueKind}
use Rattle.scm_model.specs.declared.flat.DueKind.TheVariants as dues
use Rattle.scm_model.specs.declared.flat.Plan.{Plan}
use Rattle.start_plan.specs.Decided.{is_numbered, plan_of, without_plan}
use Rattle.start_plan.specs.Settle.{is_due_still, is_undecided, stays}

-- none of these plans has this number
abbrev pub NoneHas : ℕ → List Plan → Type 0
NoneHas n plans = All (λ (plan : Plan). is_numbered n plan ≡ false) plans

pub none_has : (n : ℕ) (plans : List Plan) → All (λ (plan : Plan). plan.number < n) plans → NoneHas n plans
none_has n plans below = All-weaker (λ (plan : Plan). plan.number < n) (λ (plan : Plan). is_numbered n plan ≡ false)
    (λ plan less. ne_eqb plan.number n (λ e. absurd (omega (arith, e, less)))) plans below

-- the last one is found
pub found_last : (n : ℕ) (plans : List Plan) (plan : Plan) → NoneHas n plans → is_numbered n plan ≡ true
    → plan_of (plans ++ plan ∷ []) n ≡ Some plan
found_last n [] plan none is = rw is refl
found_last n (other ∷ plans) plan none is =
    rw (All-head (λ (plan : Plan). is_numbered n plan ≡ false) other plans none)
    (found_last n plans plan (All-tail (λ (plan : Plan). is_numbered n plan ≡ false) other plans none) is)

-- the last one leaves
pub without_last : (n : ℕ) (plans : List Plan) (plan : Plan) → NoneHas n plans → is_numbered n plan ≡ true
    → without_plan (plans ++ plan ∷ []) n ≡ plans
without_last n [] plan none is = rw is refl
without_last n (other ∷ plans) plan none is =
    rw (All-head (λ (plan : Plan). is_numbered n plan ≡ false) other plans none)
    (ap (λ ys. other ∷ ys) (without_last n plans plan (All-tail (λ (plan : Plan). is_numbered n plan ≡ false) other plans none) is))

-- the last one is undecided
pub undecided_last : (n : ℕ) (plans : List Plan) (plan : Plan) → is_numbered n plan ≡ true → is_none plan.code ≡ true
    → list_any (is_undecided n) (plans ++ plan ∷ []) ≡ true
undecided_last n [] plan is none = rw (is, none) refl
undecided_last n (other ∷ plans) plan is none =
    elim (is_undecided n other) as (λ b. (b || list_any (is_undecided n) (plans ++ plan ∷ [])) ≡ true) [
      | true ↦ refl
      | false ↦ undecided_last n plans plan is none
    ]

none_undecided : (n : ℕ) (plans : List Plan) → NoneHas n plans → list_any (is_undecided n) plans ≡ false
none_undecided n [] none = refl
none_undecided n (other ∷ plans) none =
    rw (All-head (λ (plan : Plan). is_numbered n plan ≡ false) other plans none)
    (none_undecided n plans (All-tail (λ (plan : Plan). is_numbered n plan ≡ false) other plans none))

-- ## What is due

neither : (b : Bool) → ((b && false) || false) ≡ false
neither true = refl
neither false = refl

any_before : (number : ℕ) (plans : List Plan) (plan : Plan) (code : ℕ) → plan.code ≡ Some code
    → list_any (is_undecided number) (plans ++ plan ∷ []) ≡ list_any (is_undecided number) plans
any_before number [] plan code decided = rw decided (neither (plan.number == number))
any_before number (other ∷ plans) plan code decided = ap (λ b. is_undecided number other || b) (any_before number plans plan code decided)

-- a decided plan at the end leaves what is due as it is
still_before : (plans : List Plan) (plan : Plan) (code : ℕ) (kind : DueKind) → plan.code ≡ Some code
    → is_due_still (plans ++ plan ∷ []) kind ≡ is_due_still plans kind
still_before plans plan code (dues.Deadline number) decided = any_before number plans plan code decided
still_before plans plan code kind decided = refl

filter_like : {X : Type 0} (p q : X → Bool) → ((x : X) → p x ≡ q x) → (xs : List X) → filter p xs ≡ filter q xs
filter_like p q same [] = refl
filter_like p q same (x ∷ xs) =
    rw (same x) (elim (q x) as (λ b. cond b (x ∷ filter p xs) (filter p xs) ≡ cond b (x ∷ filter q xs) (filter q xs))
    [ true ↦ ap (λ ys. x ∷ ys) (filter_like p q same xs) | false ↦ filter_like p q same xs ])

-- and its own deadline leaves
pub dues_before : (n : ℕ) (plans : List Plan) (plan : Plan) (code : ℕ) (rows : List Due) (due : Due) → NoneHas n plans
    → plan.code ≡ Some code → due.kind ≡ dues.Deadline n
    → filter (λ (row : Due). is_due_still plans row.kind) rows ≡ rows
    → filter (λ (row : Due). is_due_still (plans ++ plan ∷ []) row.kind) (rows ++ due ∷ []) ≡ rows
dues_before n plans plan code rows due none decided deadline stay =
    let test = λ (row : Due). is_due_still plans row.kind in
    let last : is_due_still plans due.kind ≡ false = ap (is_due_still plans) deadline ∙ none_undecided n plans none in
    filter_like (λ (row : Due). is_due_still (plans ++ plan ∷ []) row.kind) test (λ row. still_before plans plan code row.kind decided)
    (rows ++ due ∷ [])
    ∙ filter-append test rows (due ∷ [])
    ∙ ap (λ b. filter test rows ++ cond b (due ∷ []) []) last
    ∙ append-nil (filter test rows)
    ∙ stay

-- ## Who stays

pub stays_by : (plan : Plan) → (plan.caller == 0) ≡ false → stays plan ≡ true
stays_by plan somebody = elim (is_some plan.code) as (λ b. not (b && plan.caller == 0) ≡ true) [ true ↦ rw somebody refl | false ↦ refl ]
