-- Plans with whether they sleep.
use Rattle.std.proofs.Common.{ℕ, ◌≡◌, ◌∙◌, ◌==◌, ◌||◌, ◌&&◌, ◌<◌, ◌+◌, Bool, true, false, cond, suc, zero, not, List, [], ◌∷◌, ◌++◌, refl}
use Rattle.std.proofs.Common.{sym, ap, subst, eqb, filter, length, map, get_or, set, take, drop, arith}
use Rattle.std.specs.Prelude.{IsTrue, Some, is_none, position}
use Rattle.std.specs.List.{AllByRecursion, position_or_len}
use Rattle.std.proofs.lemmas.Bool.{eq-eqb}
use Rattle.std.proofs.lemmas.List.{length-map}
use Rattle.std.proofs.lemmas.List.Elements.{filter-append}
use Rattle.scm_model.specs.declared.flat.Plan.{Plan}
use Rattle.start_plan.specs.Asleep.{all_but, AreAmong, awaited_by, awaited_in, runnable, decided_slot, is_front, plans_in, woken}
use Rattle.start_plan.specs.Decided.{aims_at, decided_if, is_numbered}
use Rattle.start_plan.specs.Settle.{stays, succeeded}
use Rattle.start_plan.specs.declared.slot.PlanSlot.{PlanSlot}
use Rattle.scm_text.specs.Numbers.{has}

-- ## The plans

pub plans_filter : (p : Plan → Bool) (slots : List PlanSlot) → plans_in (filter (λ (slot : PlanSlot). p slot.row) slots) ≡ filter p
    (plans_in slots)
plans_filter p [] = refl
plans_filter p (slot ∷ slots) =
    elim (p slot.row) as (λ b. plans_in (cond b (slot ∷ filter (λ (s : PlanSlot). p s.row) slots)
    (filter (λ (s : PlanSlot). p s.row) slots)) ≡ cond b (slot.row ∷ filter p (plans_in slots)) (filter p (plans_in slots))) [
      | true ↦ ap (λ (plans : List Plan). slot.row ∷ plans) (plans_filter p slots)
      | false ↦ plans_filter p slots
    ]

pub plans_decided : (test : Plan → Bool) (code : ℕ) (slots : List PlanSlot)
    → plans_in (map (decided_slot test code) slots) ≡ map (decided_if test code) (plans_in slots)
plans_decided test code [] = refl
plans_decided test code (slot ∷ slots) = ap (λ (plans : List Plan). decided_if test code slot.row ∷ plans) (plans_decided test code slots)

-- those that aim at one service
pub plans_succeeded : (service : ℕ) (slots : List PlanSlot)
    → plans_in (map (decided_slot (aims_at service) 0) slots) ≡ map (succeeded (service ∷ [])) (plans_in slots)
plans_succeeded service [] = refl
plans_succeeded service (slot ∷ slots) =
    let rest = map (succeeded (service ∷ [])) (plans_in slots) in
    let one : decided_if (aims_at service) 0 slot.row ≡ succeeded (service ∷ []) slot.row =
    elim (slot.row.target == service) as (λ b. record slot.row { code = cond (b && is_none slot.row.code) (Some 0) slot.row.code }
    ≡ record slot.row { code = cond ((b || false) && is_none slot.row.code) (Some 0) slot.row.code }) [ true ↦ refl | false ↦ refl ] in
    ap (λ (plans : List Plan). decided_if (aims_at service) 0 slot.row ∷ plans) (plans_succeeded service slots)
    ∙ ap (λ (plan : Plan). plan ∷ rest) one

pub plans_woken : (service : ℕ) (slots : List PlanSlot) → plans_in (map (woken service) slots) ≡ plans_in slots
plans_woken service [] = refl
plans_woken service (slot ∷ slots) = ap (λ (plans : List Plan). slot.row ∷ plans) (plans_woken service slots)

pub plans_awake : (slots : List PlanSlot) → plans_in (map runnable slots) ≡ plans_in slots
plans_awake [] = refl
plans_awake (slot ∷ slots) = ap (λ (plans : List Plan). slot.row ∷ plans) (plans_awake slots)

position_in : (n : ℕ) (slots : List PlanSlot) → position_or_len (λ (slot : PlanSlot). is_numbered n slot.row) slots ≡ position_or_len
    (is_numbered n) (plans_in slots)
position_in n [] = refl
position_in n (slot ∷ slots) = ap (λ i. cond (not (is_numbered n slot.row)) (1 + i) 0) (position_in n slots)

-- where a plan is
pub place_in : (n : ℕ) (slots : List PlanSlot) → position (is_numbered n) (plans_in slots) ≡ position
    (λ (slot : PlanSlot). is_numbered n slot.row) slots
place_in n slots = rw (← position_in n slots, length-map slots (λ (slot : PlanSlot). slot.row)) refl

-- ## Whom they sleep for

pub awaited_decided : (test : Plan → Bool) (code : ℕ) (slots : List PlanSlot)
    → awaited_in (map (decided_slot test code) slots) ≡ awaited_in slots
awaited_decided test code [] = refl
awaited_decided test code (slot ∷ slots) = ap (λ ns. awaited_by slot ++ ns) (awaited_decided test code slots)

woken_by : (service : ℕ) (is_blocked : Bool) (entries : List ℕ) → cond (is_blocked && not (is_front service entries)) (take 1 entries)
    [] ≡ all_but service (cond is_blocked (take 1 entries) [])
woken_by service false entries = refl
woken_by service true [] = refl
woken_by service true (entry ∷ entries) = elim (entry == service) as (λ b. cond (not b) (entry ∷ []) [] ≡ cond (not b) (entry ∷ []) [])
    [ true ↦ refl | false ↦ refl ]

pub awaited_woken : (service : ℕ) (slots : List PlanSlot) → awaited_in (map (woken service) slots) ≡ all_but service (awaited_in slots)
awaited_woken service [] = refl
awaited_woken service (slot ∷ slots) =
    ap (λ ns. awaited_by (woken service slot) ++ ns) (awaited_woken service slots)
    ∙ ap (λ ns. ns ++ all_but service (awaited_in slots)) (woken_by service slot.is_blocked slot.row.entries)
    ∙ sym (filter-append (λ n. not (n == service)) (awaited_by slot) (awaited_in slots))

pub awaited_awake : (slots : List PlanSlot) → awaited_in (map runnable slots) ≡ []
awaited_awake [] = refl
awaited_awake (slot ∷ slots) = awaited_awake slots

pub awaited_push : (slots : List PlanSlot) (slot : PlanSlot) → awaited_by slot ≡ [] → awaited_in (slots ++ slot ∷ []) ≡ awaited_in slots
awaited_push [] slot none = rw none refl
awaited_push (first ∷ slots) slot none = ap (λ ns. awaited_by first ++ ns) (awaited_push slots slot none)

-- ## A fact of each number

abbrev Each : (ℕ → Type 0) → List ℕ → Type 0
Each P ns = AllByRecursion P ns

pub each_append : (P : ℕ → Type 0) (xs ys : List ℕ) → Each P xs → Each P ys → Each P (xs ++ ys)
each_append P [] ys a b = b
each_append P (x ∷ xs) ys a b = (a.0, each_append P xs ys a.1 b)

each_left : (P : ℕ → Type 0) (xs ys : List ℕ) → Each P (xs ++ ys) → Each P xs
each_left P [] ys a = tt
each_left P (x ∷ xs) ys a = (a.0, each_left P xs ys a.1)

each_right : (P : ℕ → Type 0) (xs ys : List ℕ) → Each P (xs ++ ys) → Each P ys
each_right P [] ys a = a
each_right P (x ∷ xs) ys a = each_right P xs ys a.1

-- of those that one plan sleeps for
pub each_at : (P : ℕ → Type 0) (slots : List PlanSlot) (i : ℕ) (d : PlanSlot) → i < length slots → Each P (awaited_in slots)
    → Each P (awaited_by (get_or slots i d))
each_at P [] i d lt all = absurd (omega arith)
each_at P (slot ∷ slots) zero d lt all = each_left P (awaited_by slot) (awaited_in slots) all
each_at P (slot ∷ slots) (suc i) d lt all = each_at P slots i d (omega arith) (each_right P (awaited_by slot) (awaited_in slots) all)

-- where one plan is another
pub each_set : (P : ℕ → Type 0) (slots : List PlanSlot) (i : ℕ) (new : PlanSlot) → Each P (awaited_in slots) → Each P (awaited_by new)
    → Each P (awaited_in (set slots i new))
each_set P [] i new all one = tt
each_set P (slot ∷ slots) zero new all one = each_append P (awaited_by new) (awaited_in slots) one
    (each_right P (awaited_by slot) (awaited_in slots) all)
each_set P (slot ∷ slots) (suc i) new all one =
    each_append P (awaited_by slot) (awaited_in (set slots i new)) (each_left P (awaited_by slot) (awaited_in slots) all)
    (each_set P slots i new (each_right P (awaited_by slot) (awaited_in slots) all) one)

-- where some plans are left
pub each_filter : (P : ℕ → Type 0) (p : PlanSlot → Bool) (slots : List PlanSlot) → Each P (awaited_in slots)
    → Each P (awaited_in (filter p slots))
each_filter P p [] all = tt
each_filter P p (slot ∷ slots) all =
    let first = each_left P (awaited_by slot) (awaited_in slots) all in
    let rest = each_filter P p slots (each_right P (awaited_by slot) (awaited_in slots) all) in
    elim (p slot) as (λ b. Each P (awaited_in (cond b (slot ∷ filter p slots) (filter p slots))))
    [ true ↦ each_append P (awaited_by slot) (awaited_in (filter p slots)) first rest | false ↦ rest ]

-- where one plan is taken out
pub each_out : (P : ℕ → Type 0) (slots : List PlanSlot) (i : ℕ) → Each P (awaited_in slots)
    → Each P (awaited_in (take i slots ++ drop (suc i) slots))
each_out P [] zero all = tt
each_out P [] (suc i) all = tt
each_out P (slot ∷ slots) zero all = each_right P (awaited_by slot) (awaited_in slots) all
each_out P (slot ∷ slots) (suc i) all =
    each_append P (awaited_by slot) (awaited_in (take i slots ++ drop (suc i) slots)) (each_left P (awaited_by slot) (awaited_in slots) all)
    (each_out P slots i (each_right P (awaited_by slot) (awaited_in slots) all))

-- ## Numbers among others

among_more : (other : ℕ) (others ns : List ℕ) → AreAmong others ns → AreAmong (other ∷ others) ns
among_more other others [] all = tt
among_more other others (n ∷ ns) all = (
  elim (eqb n other) as (λ b. (b || has others n) ≡ true) [ true ↦ refl | false ↦ all.0 ],
  among_more other others ns all.1,
)

pub among_self : (ns : List ℕ) → AreAmong ns ns
among_self [] = tt
among_self (n ∷ ns) = (rw (eq-eqb n n refl) refl, among_more n ns ns (among_self ns))

pub among_filter : (p : PlanSlot → Bool) (slots : List PlanSlot) → AreAmong (awaited_in slots) (awaited_in (filter p slots))
among_filter p slots = each_filter (λ n. IsTrue (has (awaited_in slots) n)) p slots (among_self (awaited_in slots))

pub among_decided : (test : Plan → Bool) (code : ℕ) (slots : List PlanSlot)
    → AreAmong (awaited_in slots) (awaited_in (filter (λ (slot : PlanSlot). stays slot.row) (map (decided_slot test code) slots)))
among_decided test code slots =
    subst (λ ns. AreAmong ns (awaited_in (filter (λ (slot : PlanSlot). stays slot.row) (map (decided_slot test code) slots))))
    (awaited_decided test code slots)
    (among_filter (λ (slot : PlanSlot). stays slot.row) (map (decided_slot test code) slots))

pub among_out : (slots : List PlanSlot) (i : ℕ) → AreAmong (awaited_in slots) (awaited_in (take i slots ++ drop (suc i) slots))
among_out slots i = each_out (λ n. IsTrue (has (awaited_in slots) n)) slots i (among_self (awaited_in slots))
