-- Each undecided plan has one deadline.
use Rattle.std.proofs.Common.{ℕ, ◌≡◌, ◌∙◌, ◌+◌, ◌<◌, ◌==◌, ◌&&◌, Bool, true, false, not, cond, List, [], ◌∷◌, ◌++◌, Option, None, Some}
use Rattle.std.proofs.Common.{filter, find, length, map, get_or, ap, sym, refl, subst, arith, eq-eqb, eqb-true, ne_eqb}
use Rattle.std.specs.Prelude.{All, AllPairs, is_none, option_and_then}
use Rattle.std.specs.List.{AllByRecursion, list_any}
use Rattle.std.proofs.lemmas.List.{append-nil}
use Rattle.std.proofs.lemmas.List.Elements.{All-weaker, filter-append, recursion_from_All}
use Rattle.scm_model.specs.declared.flat.Due.{Due}
use Rattle.scm_model.specs.declared.flat.DueKind.{DueKind}
use Rattle.scm_model.specs.declared.flat.DueKind.TheVariants as dues
use Rattle.scm_model.specs.declared.flat.Flat.{Flat}
use Rattle.scm_model.specs.declared.flat.Limits.{Limits}
use Rattle.scm_model.specs.declared.flat.Plan.{Plan}
use Rattle.start_plan.specs.Decided.{aims_among, decided_if, decided_in, is_numbered, without_plan}
use Rattle.start_plan.specs.Settle.{is_due_still, is_undecided, settle_all, stays}
use Rattle.start_plan.proofs.Keeps.{Keeps, all_filter, keeps_all}
use Rattle.scm_rules.specs.Valid.{HasDeadline, is_deadline_of}
use Rattle.scm_runs.proofs.Lists.{any_at, any_filter, found_only}
use Rattle.scm_runs.proofs.Plans.{all_more, all_weaker}
use Rattle.scm_rules.specs.Due.{beside, is_due_of}
use Rattle.scm_runs.proofs.Unasked.{expired}

-- ## Facts of undecided plans

-- a fact of the number of a plan, as long as it is undecided
abbrev pub Undecided : (ℕ → Type 0) → Plan → Type 0
Undecided F plan = is_none plan.code ≡ true → F plan.number

one_decided : (F : ℕ → Type 0) (test : Plan → Bool) (code : ℕ) (plan : Plan) → Undecided F plan → Undecided F (decided_if test code plan)
one_decided F test code plan fact =
    elim (test plan && is_none plan.code) as (λ b. is_none (cond b (Some code) plan.code) ≡ true → F plan.number) [
      | true ↦ λ h. absurd cc
      | false ↦ fact
    ]

all_decided : (F : ℕ → Type 0) (test : Plan → Bool) (code : ℕ) (plans : List Plan) → AllByRecursion (Undecided F) plans
    → AllByRecursion (Undecided F) (map (decided_if test code) plans)
all_decided F test code [] all = tt
all_decided F test code (plan ∷ plans) all = (one_decided F test code plan all.0, all_decided F test code plans all.1)

pub decided : (F : ℕ → Type 0) (test : Plan → Bool) (code : ℕ) (plans : List Plan) → AllByRecursion (Undecided F) plans
    → AllByRecursion (Undecided F) (decided_in test code plans)
decided F test code plans all = all_filter (Undecided F) stays (map (decided_if test code) plans) (all_decided F test code plans all)

has_expired : (F : ℕ → Type 0) (plans : List Plan) (kind : DueKind) → AllByRecursion (Undecided F) plans
    → AllByRecursion (Undecided F) (expired plans kind)
has_expired F plans (dues.Deadline plan) all = decided F (is_numbered plan) 1053 plans all
has_expired F plans kind all = all

-- settling decides, and never takes a decision back
lasts : (l : Limits) (F : ℕ → Type 0) → Keeps l (λ f. Unit {0}) (Undecided F)
lasts l F = record {
  enters = λ f plan service words entry p. tt;
  tries = λ f plan service entry fact. fact;
  drops = λ plan service rest code fact.
      elim (plan.target == service) as (λ b. is_none (cond b (Some code) plan.code) ≡ true → F plan.number) [
        | true ↦ λ h. absurd cc
        | false ↦ fact
      ];
  meets = λ plan services fact. one_decided F (aims_among services) 0 plan fact;
}

pub settled : (l : Limits) (F : ℕ → Type 0) (f : Flat) (plans : List Plan) → AllByRecursion (Undecided F) plans
    → AllByRecursion (Undecided F) (filter stays (settle_all l f plans).plans)
settled l F f plans all = all_filter (Undecided F) stays (settle_all l f plans).plans
    (keeps_all l (λ f. Unit {0}) (Undecided F) (lasts l F) f plans tt all).plans

-- ## Deadlines

abbrev count : ℕ → List Due → ℕ
count plan rows = length (filter (λ (due : Due). is_deadline_of plan due.kind) rows)

-- a deadline is of a plan below the next one
abbrev pub IsBelow : ℕ → DueKind → Type 0
IsBelow next (dues.Deadline plan) = plan < next
IsBelow next kind = Unit {0}

-- undecided plans have one deadline each, and no deadline is of a plan still to come
pub record AreDeadlines (next : ℕ) (plans : List Plan) (rows : List Due) : Type 0 where
  pub below : AllByRecursion (λ (due : Due). IsBelow next due.kind) rows
  pub each : AllByRecursion (HasDeadline rows) plans

-- before any plan begins
pub no_plans_yet : (rows : List Due) → AllByRecursion (λ (due : Due). IsBelow 1 due.kind) rows → AreDeadlines 1 [] rows
no_plans_yet rows below = record { below = below; each = tt }

pub plans_fewer : (next : ℕ) (p : Plan → Bool) (plans : List Plan) (rows : List Due) → AreDeadlines next plans rows
    → AreDeadlines next (filter p plans) rows
plans_fewer next p plans rows s = record { below = s.below; each = all_filter (HasDeadline rows) p plans s.each }

pub plans_decided : (next : ℕ) (test : Plan → Bool) (code : ℕ) (plans : List Plan) (rows : List Due) → AreDeadlines next plans rows
    → AreDeadlines next (decided_in test code plans) rows
plans_decided next test code plans rows s = record { below = s.below; each = decided (λ n. count n rows ≡ 1) test code plans s.each }

-- ## A plan more

below_next : (next : ℕ) (kind : DueKind) → IsBelow next kind → IsBelow (next + 1) kind
below_next next (dues.Deadline plan) below = omega (arith, below)
below_next next kind below = tt

all_below_next : (next : ℕ) (rows : List Due) (new : Due) → IsBelow (next + 1) new.kind
    → AllByRecursion (λ (due : Due). IsBelow next due.kind) rows → AllByRecursion (λ (due : Due). IsBelow (next + 1) due.kind) (rows
    ++ new ∷ [])
all_below_next next [] new here all = (here, tt)
all_below_next next (due ∷ rows) new here all = (below_next next due.kind all.0, all_below_next next rows new here all.1)

not_yet : (next : ℕ) (kind : DueKind) → IsBelow next kind → is_deadline_of next kind ≡ false
not_yet next (dues.Deadline plan) below = ne_eqb plan next (λ e. absurd (omega (arith, e, below)))
not_yet next kind below = refl

none_yet : (next : ℕ) (rows : List Due) → AllByRecursion (λ (due : Due). IsBelow next due.kind) rows
    → filter (λ (due : Due). is_deadline_of next due.kind) rows ≡ []
none_yet next [] all = refl
none_yet next (due ∷ rows) all = rw (not_yet next due.kind all.0) (none_yet next rows all.1)

count_other : (next : ℕ) (rows : List Due) (new : Due) (plan : ℕ) → new.kind ≡ dues.Deadline next → plan < next
    → count plan (rows ++ new ∷ []) ≡ count plan rows
count_other next rows new plan kind below =
    ap length (filter-append (λ (due : Due). is_deadline_of plan due.kind) rows (new ∷ []))
    ∙ ap (λ (k : DueKind). length (filter (λ (due : Due). is_deadline_of plan due.kind) rows ++ cond (is_deadline_of plan k) (new ∷ []) []))
    kind
    ∙ ap (λ (b : Bool). length (filter (λ (due : Due). is_deadline_of plan due.kind) rows ++ cond b (new ∷ []) []))
    (ne_eqb next plan (λ e. absurd (omega (arith, e, below))))
    ∙ ap length (append-nil (filter (λ (due : Due). is_deadline_of plan due.kind) rows))

count_new : (next : ℕ) (rows : List Due) (new : Due) → new.kind ≡ dues.Deadline next
    → AllByRecursion (λ (due : Due). IsBelow next due.kind) rows → count next (rows ++ new ∷ []) ≡ 1
count_new next rows new kind all =
    ap length (filter-append (λ (due : Due). is_deadline_of next due.kind) rows (new ∷ []))
    ∙ ap (λ (xs : List Due). length (xs ++ filter (λ (due : Due). is_deadline_of next due.kind) (new ∷ []))) (none_yet next rows all)
    ∙ ap (λ (k : DueKind). length (cond (is_deadline_of next k) (new ∷ []) [])) kind
    ∙ ap (λ (b : Bool). length (cond b (new ∷ []) [])) (eq-eqb next next refl)

all_counted : (next : ℕ) (plans : List Plan) (rows : List Due) (new : Due) → new.kind ≡ dues.Deadline next
    → AllByRecursion (λ (plan : Plan). plan.number < next) plans → AllByRecursion (HasDeadline rows) plans
    → AllByRecursion (HasDeadline (rows ++ new ∷ [])) plans
all_counted next [] rows new kind below all = tt
all_counted next (plan ∷ plans) rows new kind below all = (
  (λ undecided. count_other next rows new plan.number kind below.0 ∙ all.0 undecided),
  all_counted next plans rows new kind below.1 all.1,
)

pub plan_more : (next : ℕ) (plans : List Plan) (rows : List Due) (plan : Plan) (new : Due) → plan.number ≡ next
    → new.kind ≡ dues.Deadline next → AllByRecursion (λ (row : Plan). row.number < next) plans
    → AreDeadlines next plans rows → AreDeadlines (next + 1) (plans ++ plan ∷ []) (rows ++ new ∷ [])
plan_more next plans rows plan new number kind below s = record {
  below = all_below_next next rows new (subst (IsBelow (next + 1)) (sym kind) (omega arith)) s.below;
  each = all_more (HasDeadline (rows ++ new ∷ [])) plans plan (all_counted next plans rows new kind below s.each)
      (λ undecided. subst (λ n. count n (rows ++ new ∷ []) ≡ 1) (sym number) (count_new next rows new kind s.below));
}

-- ## Rows that leave

filter_both : {X : Type 0} (p q : X → Bool) (xs : List X) → AllByRecursion (λ x. p x ≡ true → q x ≡ true) xs
    → filter p (filter q xs) ≡ filter p xs
filter_both p q [] all = refl
filter_both p q (x ∷ xs) all =
    elim (p x) as (λ b. p x ≡ b → filter p (cond (q x) (x ∷ filter q xs) (filter q xs)) ≡ cond b (x ∷ filter p xs) (filter p xs)) [
      | true ↦ λ e. rw (all.0 e, e) (ap (λ ys. x ∷ ys) (filter_both p q xs all.1))
      | false ↦ λ e. elim (q x) as (λ b. filter p (cond b (x ∷ filter q xs) (filter q xs)) ≡ filter p xs)
          [ true ↦ rw e (filter_both p q xs all.1) | false ↦ filter_both p q xs all.1 ]
    ] refl

below_filter : (next : ℕ) (q : Due → Bool) (rows : List Due) → AllByRecursion (λ (due : Due). IsBelow next due.kind) rows
    → AllByRecursion (λ (due : Due). IsBelow next due.kind) (filter q rows)
below_filter next q [] all = tt
below_filter next q (due ∷ rows) all =
    elim (q due) as (λ b. AllByRecursion (λ (due : Due). IsBelow next due.kind) (cond b (due ∷ filter q rows) (filter q rows)))
    [ true ↦ (all.0, below_filter next q rows all.1) | false ↦ below_filter next q rows all.1 ]

-- the deadlines of a plan stay
abbrev Spares : (Due → Bool) → List Due → ℕ → Type 0
Spares q rows plan = AllByRecursion (λ (due : Due). is_deadline_of plan due.kind ≡ true → q due ≡ true) rows

all_spared : (q : Due → Bool) (plans : List Plan) (rows : List Due) → AllByRecursion (Undecided (Spares q rows)) plans
    → AllByRecursion (HasDeadline rows) plans → AllByRecursion (HasDeadline (filter q rows)) plans
all_spared q [] rows spared all = tt
all_spared q (plan ∷ plans) rows spared all = (
  (λ undecided. ap length (filter_both (λ (due : Due). is_deadline_of plan.number due.kind) q rows (spared.0 undecided))
      ∙ all.0 undecided),
  all_spared q plans rows spared.1 all.1,
)

pub rows_fewer : (next : ℕ) (q : Due → Bool) (plans : List Plan) (rows : List Due) → AllByRecursion (Undecided (Spares q rows)) plans
    → AreDeadlines next plans rows → AreDeadlines next plans (filter q rows)
rows_fewer next q plans rows spared s = record { below = below_filter next q rows s.below; each = all_spared q plans rows spared s.each }

-- ## Ticks

spent_plan : (F : ℕ → Type 0) (number : ℕ) (plan : Plan) → ((n : ℕ) → (number == n) ≡ false → F n)
    → Undecided F (decided_if (is_numbered number) 1053 plan)
spent_plan F number plan other =
    elim (plan.number == number) as (λ c. (plan.number == number) ≡ c → is_none (cond (c && is_none plan.code) (Some 1053) plan.code) ≡ true
    → F plan.number) [
      | true ↦ λ g. elim (is_none plan.code) as (λ b. is_none plan.code ≡ b → is_none (cond b (Some 1053) plan.code) ≡ true → F plan.number)
          [ true ↦ λ e h. absurd cc | false ↦ λ e h. absurd cc ] refl
      | false ↦ λ g h. other plan.number
          (ne_eqb number plan.number (λ same. absurd (let t = eq-eqb plan.number number (sym same) in cc)))
    ] refl

spent_plans : (F : ℕ → Type 0) (number : ℕ) (plans : List Plan) → ((n : ℕ) → (number == n) ≡ false → F n)
    → AllByRecursion (Undecided F) (map (decided_if (is_numbered number) 1053) plans)
spent_plans F number [] other = tt
spent_plans F number (plan ∷ plans) other = (spent_plan F number plan other, spent_plans F number plans other)

not_both : (F : Type 0) (b : Bool) → b ≡ false → b ≡ true → F
not_both F b x y = absurd cc

spent : (kind : DueKind) (G : Type 0) (plans : List Plan) → AllByRecursion (Undecided (λ n. is_deadline_of n kind ≡ true → G))
    (expired plans kind)
spent (dues.Deadline number) G plans =
    all_filter (Undecided (λ n. (number == n) ≡ true → G)) stays (map (decided_if (is_numbered number) 1053) plans)
    (spent_plans (λ n. (number == n) ≡ true → G) number plans (λ n other same. not_both G (number == n) other same))
spent kind G plans = all_free kind plans
  where
    all_free : (kind : DueKind) (plans : List Plan) → AllByRecursion (Undecided (λ n. false ≡ true → G)) plans
    all_free kind [] = tt
    all_free kind (plan ∷ plans) = ((λ undecided is. absurd cc), all_free kind plans)

-- another row than that with the number, which is no deadline of a plan
spares_others : (row : Due) (plan : ℕ) (rows : List Due) → (is_deadline_of plan row.kind ≡ true → ⊥)
    → AllByRecursion (λ (due : Due). (due.number == row.number) ≡ true → due ≡ row) rows
    → Spares (λ (due : Due). not (due.number == row.number)) rows plan
spares_others row plan [] none only = tt
spares_others row plan (due ∷ rows) none only = (
  (λ is. elim (due.number == row.number) as (λ b. (due.number == row.number) ≡ b → not b ≡ true) [
    | true ↦ λ e. absurd (none (subst (λ (d : Due). is_deadline_of plan d.kind ≡ true) (only.0 e) is))
    | false ↦ λ e. refl
  ] refl),
  spares_others row plan rows none only.1,
)

-- a row that is due leaves, and the plan whose deadline it is is decided
pub fired : (next : ℕ) (plans : List Plan) (rows : List Due) (row : Due)
    → AllByRecursion (λ (due : Due). (due.number == row.number) ≡ true → due ≡ row) rows → AreDeadlines next plans rows
    → AreDeadlines next (expired plans row.kind) (filter (λ (due : Due). not (due.number == row.number)) rows)
fired next plans rows row only s =
    rows_fewer next (λ (due : Due). not (due.number == row.number)) (expired plans row.kind) rows
    (all_weaker (Undecided (λ n. is_deadline_of n row.kind ≡ true → ⊥))
    (Undecided (Spares (λ (due : Due). not (due.number == row.number)) rows))
    (λ plan none undecided. spares_others row plan.number rows (none undecided) only) (expired plans row.kind) (spent row.kind ⊥ plans))
    (record { below = s.below; each = has_expired (λ n. count n rows ≡ 1) plans row.kind s.each })

-- ## A row more of a service

each_free : (F : ℕ → Type 0) → ((n : ℕ) → F n) → (plans : List Plan) → AllByRecursion (Undecided F) plans
each_free F each [] = tt
each_free F each (plan ∷ plans) = ((λ undecided. each plan.number), each_free F each plans)

no_service : (service plan : ℕ) (kind : DueKind) → is_deadline_of plan kind ≡ true → not (is_due_of service kind) ≡ true
no_service service plan (dues.Deadline number) is = refl
no_service service plan (dues.Start number) is = absurd cc
no_service service plan (dues.Command number) is = absurd cc
no_service service plan (dues.Reboot number) is = absurd cc

spares_deadlines : (service plan : ℕ) (rows : List Due) → Spares (λ (due : Due). not (is_due_of service due.kind)) rows plan
spares_deadlines service plan [] = tt
spares_deadlines service plan (due ∷ rows) = ((λ is. no_service service plan due.kind is), spares_deadlines service plan rows)

others_stay : (next service : ℕ) (plans : List Plan) (rows : List Due) → AreDeadlines next plans rows
    → AreDeadlines next plans (filter (λ (due : Due). not (is_due_of service due.kind)) rows)
others_stay next service plans rows s =
    rows_fewer next (λ (due : Due). not (is_due_of service due.kind)) plans rows
    (each_free (Spares (λ (due : Due). not (is_due_of service due.kind)) rows) (λ plan. spares_deadlines service plan rows) plans) s

beside_stay : (next : ℕ) (kind : DueKind) (plans : List Plan) (rows : List Due) → AreDeadlines next plans rows
    → AreDeadlines next plans (beside kind rows)
beside_stay next (dues.Deadline plan) plans rows s = s
beside_stay next (dues.Start service) plans rows s = others_stay next service plans rows s
beside_stay next (dues.Command service) plans rows s = others_stay next service plans rows s
beside_stay next (dues.Reboot service) plans rows s = others_stay next service plans rows s

not_deadline : (service plan : ℕ) (kind : DueKind) → is_due_of service kind ≡ true → is_deadline_of plan kind ≡ false
not_deadline service plan (dues.Deadline number) is = absurd cc
not_deadline service plan (dues.Start number) is = refl
not_deadline service plan (dues.Command number) is = refl
not_deadline service plan (dues.Reboot number) is = refl

any_below : (next service : ℕ) (kind : DueKind) → is_due_of service kind ≡ true → IsBelow next kind
any_below next service (dues.Deadline number) is = absurd cc
any_below next service (dues.Start number) is = tt
any_below next service (dues.Command number) is = tt
any_below next service (dues.Reboot number) is = tt

below_push : (next : ℕ) (rows : List Due) (new : Due) → IsBelow next new.kind → AllByRecursion (λ (due : Due). IsBelow next due.kind) rows
    → AllByRecursion (λ (due : Due). IsBelow next due.kind) (rows ++ new ∷ [])
below_push next [] new here all = (here, tt)
below_push next (due ∷ rows) new here all = (all.0, below_push next rows new here all.1)

all_as_many : (plans : List Plan) (rows : List Due) (new : Due) → ((plan : ℕ) → is_deadline_of plan new.kind ≡ false)
    → AllByRecursion (HasDeadline rows) plans → AllByRecursion (HasDeadline (rows ++ new ∷ [])) plans
all_as_many [] rows new none all = tt
all_as_many (plan ∷ plans) rows new none all = (
  (λ undecided.
      ap length (filter-append (λ (due : Due). is_deadline_of plan.number due.kind) rows (new ∷ []))
      ∙ ap (λ (b : Bool). length (filter (λ (due : Due). is_deadline_of plan.number due.kind) rows ++ cond b (new ∷ []) []))
      (none plan.number)
      ∙ ap length (append-nil (filter (λ (due : Due). is_deadline_of plan.number due.kind) rows)) ∙ all.0 undecided),
  all_as_many plans rows new none all.1,
)

-- a row of a service takes the place of an earlier one
pub service_more : (next service : ℕ) (plans : List Plan) (rows : List Due) (new : Due) → is_due_of service new.kind ≡ true
    → AreDeadlines next plans rows → AreDeadlines next plans (beside new.kind rows ++ new ∷ [])
service_more next service plans rows new is s =
    let others = beside_stay next new.kind plans rows s in
    record {
      below = below_push next (beside new.kind rows) new (any_below next service new.kind is) others.below;
      each = all_as_many plans (beside new.kind rows) new (λ plan. not_deadline service plan new.kind is) others.each;
    }

-- ## Settling

-- an undecided plan is among the plans
abbrev IsAmong : List Plan → ℕ → Type 0
IsAmong plans number = list_any (is_undecided number) plans ≡ true

among : (plans : List Plan) → AllByRecursion (Undecided (IsAmong plans)) plans
among plans =
    recursion_from_All (Undecided (IsAmong plans)) plans
    (λ k d lt undecided. any_at (is_undecided (get_or plans k d).number) plans k d lt
    (rw (eq-eqb (get_or plans k d).number (get_or plans k d).number refl, undecided) refl))

spares_one : (plans : List Plan) (number : ℕ) (kind : DueKind) → IsAmong plans number → is_deadline_of number kind ≡ true
    → is_due_still plans kind ≡ true
spares_one plans number (dues.Deadline plan) there is = subst (IsAmong plans) (sym (eqb-true plan number is)) there
spares_one plans number kind there is = refl

spares_all : (plans : List Plan) (number : ℕ) (rows : List Due) → IsAmong plans number
    → Spares (λ (due : Due). is_due_still plans due.kind) rows number
spares_all plans number [] there = tt
spares_all plans number (due ∷ rows) there = ((λ is. spares_one plans number due.kind there is), spares_all plans number rows there)

pub settled_deadlines : (l : Limits) (f : Flat) (next : ℕ) (plans : List Plan) (rows : List Due) → AreDeadlines next plans rows
    → AreDeadlines next (filter stays (settle_all l f plans).plans) (filter
    (λ (due : Due). is_due_still (filter stays (settle_all l f plans).plans) due.kind) rows)
settled_deadlines l f next plans rows s =
    let ends = filter stays (settle_all l f plans).plans in
    rows_fewer next (λ (due : Due). is_due_still ends due.kind) ends rows
    (all_weaker (Undecided (IsAmong ends)) (Undecided (Spares (λ (due : Due). is_due_still ends due.kind) rows))
    (λ plan there undecided. spares_all ends plan.number rows (there undecided)) ends (among ends))
    (record { below = s.below; each = settled l (λ n. count n rows ≡ 1) f plans s.each })

-- ## A decided plan that leaves

abbrev pub AreStill : List Plan → List Due → Type 0
AreStill plans rows = All (λ (due : Due). is_due_still plans due.kind ≡ true) rows

not_that : (number other : ℕ) (plan : Plan) (code : ℕ) → plan.code ≡ Some code → (row : Plan) → (is_numbered number row ≡ true → row ≡ plan)
    → is_undecided other row ≡ true → not (is_numbered number row) ≡ true
not_that number other plan code decided row only undecided =
    elim (is_numbered number row) as (λ b. is_numbered number row ≡ b → not b ≡ true) [
      | true ↦ λ e. absurd (
          let same = only e in
          let none : is_none row.code ≡ false = ap (λ (r : Plan). is_none r.code) same ∙ ap is_none decided in
          let is : is_none row.code ≡ true = second (row.number == other) (is_none row.code) undecided in
          cc)
      | false ↦ λ e. refl
    ] refl
  where
    second : (a b : Bool) → (a && b) ≡ true → b ≡ true
    second true b h = h
    second false b h = absurd cc

still_due : (plans : List Plan) (number : ℕ) (plan : Plan) (code : ℕ) → AllPairs (λ (a b : Plan). a.number < b.number) plans
    → find (is_numbered number) plans ≡ Some plan → plan.code ≡ Some code
    → (kind : DueKind) → is_due_still plans kind ≡ true → is_due_still (without_plan plans number) kind ≡ true
still_due plans number plan code rising found decided (dues.Deadline other) is =
    let only = found_only (λ (row : Plan). row.number) number plan plans rising found in
    any_filter (is_undecided other) (λ (row : Plan). not (is_numbered number row)) plans
    (λ k d lt undecided. not_that number other plan code decided (get_or plans k d) (only k d lt) undecided) is
still_due plans number plan code rising found decided kind is = is

-- a plan that is decided leaves with no deadline
pub ended_still : (plans : List Plan) (number code : ℕ) (found : Option Plan) (rows : List Due)
    → AllPairs (λ (a b : Plan). a.number < b.number) plans → find (is_numbered number) plans ≡ found
    → option_and_then (λ (plan : Plan). plan.code) found ≡ Some code → AreStill plans rows → AreStill (without_plan plans number) rows
ended_still plans number code None rows rising e decided still = absurd cc
ended_still plans number code (Some plan) rows rising e decided still =
    All-weaker (λ (due : Due). is_due_still plans due.kind ≡ true) (λ (due : Due). is_due_still (without_plan plans number) due.kind ≡ true)
    (λ due is. still_due plans number plan code rising e decided due.kind is) rows still
