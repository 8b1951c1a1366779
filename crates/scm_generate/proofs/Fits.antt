-- The limits have room for the whole list.
use Rattle.std.proofs.Common.{ℕ, zero, suc, ◌≡◌, ◌+◌, ◌*◌, ◌/◌, ◌≤◌, ◌^◌, ◌==◌, ◌⊎◌, inl, inr, true, false, not, cond, IsTrue, List, []}
use Rattle.std.proofs.Common.{◌∷◌, ◌++◌, None, Some, length, length-append, map, ap, refl, arith}
use Rattle.std.proofs.lemmas.List.{length-map}
use Rattle.std.proofs.Math.Nat.{suc-mul}
use Rattle.std.proofs.lemmas.Nat.{mul-le}
use Rattle.std.proofs.lemmas.Bool.{and_from, le-leb}
use Rattle.std.proofs.lemmas.Fmt.{length-decimal-le}
use Rattle.std.proofs.lemmas.Int.Digits.{length-digits_of-le}
use Rattle.scm_model.specs.declared.flat.Flat.{Flat}
use Rattle.scm_model.specs.declared.flat.Limits.{Limits}
use Rattle.scm_model.specs.declared.flat.Service.{Service}
use Rattle.scm_model.specs.declared.calls.Request.{Request}
use Rattle.scm_model.specs.declared.calls.Request.TheVariants as request
use Rattle.scm_model.specs.declared.steps.Answer.{Answer}
use Rattle.scm_model.specs.declared.steps.Step.{Step}
use Rattle.scm_model.specs.declared.steps.Step.TheVariants.{Call, EndStart, Tick, Raised, Gone}
use Rattle.scm_model.specs.Entries.{Entry, text_in}
use Rattle.scm_model.specs.Purge.{leaves}
use Rattle.scm_model.specs.Texts.{some_bytes, text_of}
use Rattle.scm_rules.specs.Histories.{Legal}
use Rattle.scm_rules.specs.Opening.{IsOpening, opening}
use Rattle.scm_rules.specs.Owed.{owed}
use Rattle.scm_rules.specs.Room.{debt, has_room, is_owed, need, need_of_call, need_with}
use Rattle.scm_rules.specs.Runs.{EachStep, IsLegal}
use Rattle.scm_rules.specs.Steps.{step_of}
use Rattle.scm_runs.specs.Leaving.{LawOfLeaving, before_leaving, created, succeeds}
use Rattle.scm_runs.proofs.Along.{along}
use Rattle.scm_runs.proofs.Calls.{keeps}
use Rattle.scm_runs.proofs.Clear.{Clear, clear_begun, clear_keeps}
use Rattle.scm_runs.proofs.Leaving.{gives as gives_leaving}
use Rattle.scm_runs.proofs.Lists.{filter_short}
use Rattle.scm_runs.proofs.Sound.{Sound}
use Rattle.scm_owed.specs.Paying.{FoundRoom, LawOfOwed}
use Rattle.scm_owed.proofs.Histories.{found_legal}
use Rattle.scm_owed.proofs.Whole.{gives as gives_owed, opened_owes}
use Rattle.scm_generate.specs.Ample.{IsAmple}
use Rattle.scm_generate.specs.Listed.{alone, asked_start, at_once, creation_of, creations, depth_of, down, downs, generated, nth_name}
use Rattle.scm_generate.specs.Listed.{nth_need, opening_calls, run_of, all_runs, up, ups, wide_bytes}

-- ## How many services a run can have

abbrev creations_at : Step → ℕ
creations_at (Call caller (request.Create new) append) = 1
creations_at step = 0

few_created : (f : Flat) (step : Step) (told : Answer) → length (created f step told) ≤ creations_at step
few_created f (Call caller (request.Create new) append) told = elim (succeeds told) as (λ b. length (cond b (f.next.service ∷ []) []) ≤ 1)
    [ true ↦ omega arith | false ↦ omega arith ]
few_created f step told = omega arith

-- a step adds no more services than it creates
few_more : (l : Limits) (f : Flat) (e : Entry) (told : Answer) (after : Flat) → LawOfLeaving l f e told after
    → length after.services ≤ length f.services + creations_at e.1
few_more l f e told after law =
    let stood = ap length law.stood in
    let before = length-map (before_leaving l f e).services (λ (row : Service). row.number) in
    let now = length-map f.services (λ (row : Service). row.number) in
    let both = length-append (map (λ (row : Service). row.number) f.services) (created f e.1 told) in
    let new = few_created f e.1 told in
    let left = ap length law.left in
    let short = filter_short (λ (row : Service). not (leaves (before_leaving l f e).handles row)) (before_leaving l f e).services in
    omega (arith, stood, before, now, both, new, left, short)

-- ## What a step costs at most, with so many services

call_more : (m n : ℕ) (asked : Request) → m ≤ n → need_of_call m asked ≤ need_of_call n asked
call_more m n (request.Start handle words) le = omega (arith, le)
call_more m n asked le = omega arith

need_more : (m n : ℕ) (step : Step) → m ≤ n → need_with m step ≤ need_with n step
need_more m n (Call caller asked append) le = call_more m n asked le
need_more m n Tick le = let product = mul-le (3 * m + 1) m (3 * n + 1) n (omega (arith, le)) le in omega (arith, product)
need_more m n (Raised caller subtype) le = let product = mul-le (3 * m + 1) m (3 * n + 1) n (omega (arith, le)) le in omega (arith, product)
need_more m n step le = omega arith

owed_debt : (f : Flat) (step : Step) → is_owed step ≡ true → debt f step ≡ 0
owed_debt f Tick h = absurd cc
owed_debt f (Raised caller subtype) h = absurd cc
owed_debt f step h = ap (λ b. cond b 0 (need f step)) h

abbrev cost_at : Step → ℕ
cost_at step = cond (is_owed step) 0 (need_with 512 step)

abbrev sum_of : (Step → ℕ) → List Entry → ℕ
sum_of m [] = 0
sum_of m (e ∷ es) = m e.1 + sum_of m es

-- each entry finds room where there is room for what all cost
fills : (l : Limits) (f : Flat) (es : List Entry) (steps text : ℕ) → EachStep (LawOfLeaving l) l f es → EachStep LawOfOwed l f es
    → length f.services + sum_of creations_at es ≤ 512
    → steps + owed f + sum_of cost_at es ≤ l.steps → text + sum_of text_of es ≤ l.text → FoundRoom l f steps text es
fills l f [] steps text leaving owing few fits short = tt
fills l f (e ∷ es) steps text leaving owing few fits short =
    let after = (step_of l f e.0 e.1).flat in
    let told = (step_of l f e.0 e.1).answer in
    let more : length after.services ≤ length f.services + creations_at e.1 = few_more l f e told after leaving.0 in
    let few_then : length after.services + sum_of creations_at es ≤ 512 = omega (arith, few, more) in
    let short_then : text + text_of e.1 + sum_of text_of es ≤ l.text = omega (arith, short) in
    let pays : owed after + 1 ≤ owed f + debt f e.1 = owing.0.pays in
    elim (is_owed e.1) as (λ b. is_owed e.1 ≡ b → ((is_owed e.1 ≡ true) ⊎ IsTrue (has_room l f steps text e.1))
    × FoundRoom l after (steps + 1) (text + text_of e.1) es) [
      | true ↦ λ is.
          let none = owed_debt f e.1 is in
          let costs : cost_at e.1 ≡ 0 = ap (λ b. cond b 0 (need_with 512 e.1)) is in (
            inl is,
            fills l after es (steps + 1) (text + text_of e.1) leaving.1 owing.1 few_then
                (omega (arith, fits, pays, none, costs)) short_then,
          )
      | false ↦ λ is.
          let costs : cost_at e.1 ≡ need_with 512 e.1 = ap (λ b. cond b 0 (need_with 512 e.1)) is in
          let needs : need f e.1 ≤ need_with 512 e.1 = need_more (length f.services) 512 e.1 (omega (arith, few)) in
          let debts = owing.0.fits is in (
            inr (and_from _ _ (le-leb (steps + owed f + need f e.1) l.steps (omega (arith, fits, costs, needs)))
                (le-leb (text + text_of e.1) l.text (omega (arith, short)))),
            fills l after es (steps + 1) (text + text_of e.1) leaving.1 owing.1 few_then
                (omega (arith, fits, pays, debts, costs, needs)) short_then,
          )
    ] refl

-- ## What the list costs

sum_both : (m : Step → ℕ) (xs ys : List Entry) → sum_of m (xs ++ ys) ≡ sum_of m xs + sum_of m ys
sum_both m [] ys = omega arith
sum_both m (x ∷ xs) ys = let rest = sum_both m xs ys in omega (arith, rest)

text_sum : (es : List Entry) → text_in es ≡ sum_of text_of es
text_sum [] = refl
text_sum (e ∷ es) = ap (λ n. text_of e.1 + n) (text_sum es)

-- what the entries of the list count for at most
record IsBounded (m : Step → ℕ) (create start report : ℕ) : Type 0 where
  creates : (i : ℕ) → i ≤ 512 → m (creation_of i).1 ≤ create
  starts : (i : ℕ) → m (asked_start i).1 ≤ start
  up : (process : ℕ) → sum_of m (up process) ≤ report
  down : (process : ℕ) → sum_of m (down process) ≤ report
  ends : (plan : ℕ) → m (EndStart 1 plan) ≡ 0
  gone : m (Gone 1) ≡ 0

module _ (m : Step → ℕ) (create start report : ℕ) (bounded : IsBounded m create start report) where
  sum_creations : (n : ℕ) → n ≤ 512 → sum_of m (creations n) ≤ n * create
  sum_creations zero few = omega arith
  sum_creations (suc n) few =
      let both = sum_both m (creations n) (creation_of (suc n) ∷ []) in
      let rest = sum_creations n (omega (arith, few)) in
      let one = bounded.creates (suc n) few in
      let product = suc-mul n create in
      omega (arith, both, rest, one, product)

  sum_ups : (first k : ℕ) → sum_of m (ups first k) ≤ k * report
  sum_ups first zero = omega arith
  sum_ups first (suc k) =
      let both = sum_both m (ups first k) (up (first + k)) in
      let rest = sum_ups first k in
      let one = bounded.up (first + k) in
      let product = suc-mul k report in
      omega (arith, both, rest, one, product)

  sum_downs : (first k : ℕ) → sum_of m (downs first k) ≤ k * report
  sum_downs first zero = omega arith
  sum_downs first (suc k) =
      let both = sum_both m (down (first + k)) (downs first k) in
      let rest = sum_downs first k in
      let one = bounded.down (first + k) in
      let product = suc-mul k report in
      omega (arith, both, rest, one, product)

  sum_start : (i process plan : ℕ) → i ≤ 512 → sum_of m (run_of i process plan) ≤ start + 20 * report
  sum_start i process plan few =
      let d = depth_of i in
      let short : d ≤ 10 = length-digits_of-le 2 10 i (omega arith) (omega (arith, few)) in
      let both = sum_both m (ups process d) (at_once (EndStart 1 plan) ∷ downs process d) in
      let first = bounded.starts i in
      let upward = sum_ups process d in
      let downward = sum_downs process d in
      let none = bounded.ends plan in
      let product = mul-le d report 10 report short (omega arith) in
      omega (arith, both, first, upward, downward, none, product)

  sum_starts : (i process plan : ℕ) → i ≤ 512 → sum_of m (all_runs i process plan) ≤ i * (start + 20 * report)
  sum_starts zero process plan few = omega arith
  sum_starts (suc i) process plan few =
      let both = sum_both m (run_of (suc i) process plan) (all_runs i (process + depth_of (suc i)) (plan + 1)) in
      let one = sum_start (suc i) process plan few in
      let rest = sum_starts i (process + depth_of (suc i)) (plan + 1) (omega (arith, few)) in
      let product = suc-mul i (start + 20 * report) in
      omega (arith, both, one, rest, product)

  sum_all : (n : ℕ) → n ≤ 512 → sum_of m (generated n) ≤ sum_of m opening_calls + (n * create + n * (start + 20 * report))
  unfolding generated
  sum_all n few =
      let ends = at_once (Gone 1) ∷ [] in
      let begin = sum_both m opening_calls (creations n ++ (all_runs n 1 1 ++ ends)) in
      let both = sum_both m (creations n) (all_runs n 1 1 ++ ends) in
      let last = sum_both m (all_runs n 1 1) ends in
      let made = sum_creations n few in
      let run = sum_starts n 1 1 few in
      let none = bounded.gone in
      omega (arith, begin, both, last, made, run, none)

sum_creates : (n : ℕ) → n ≤ 512 → sum_of creations_at (generated n) ≤ 512
sum_creates n few =
    let all = sum_all creations_at 1 0 0 (record {
      creates = λ i le. omega arith;
      starts = λ i. omega arith;
      up = λ process. omega arith;
      down = λ process. omega arith;
      ends = λ plan. refl;
      gone = refl;
    }) n few in
    omega (arith, all, few)

sum_costs : (n : ℕ) → n ≤ 512 → sum_of cost_at (generated n) ≤ 2 ^ 20
sum_costs n few =
    let all = sum_all cost_at 1 1538 1 (record {
      creates = λ i le. omega arith;
      starts = λ i. omega arith;
      up = λ process. omega arith;
      down = λ process. omega arith;
      ends = λ plan. refl;
      gone = refl;
    }) n few in
    omega (arith, all, few)

long_bytes : (units : List ℕ) → length (wide_bytes units) ≡ 2 * length units
long_bytes [] = refl
long_bytes (u ∷ units) = let rest = long_bytes units in omega (arith, rest)

short_name : (i : ℕ) → i ≤ 512 → length (nth_name i) ≤ 4
short_name i few = let n = length-decimal-le 3 i (omega arith) (omega (arith, few)) (omega (arith, few)) in omega (arith, n)

short_need : (j : ℕ) → j ≤ 512 → some_bytes (nth_need j) ≤ 12
short_need j few =
    let long = length-append (wide_bytes (nth_name j)) (0 ∷ 0 ∷ 0 ∷ 0 ∷ []) in
    let twice = long_bytes (nth_name j) in
    let name = short_name j few in
    elim (j == 0) as (λ b. some_bytes (cond b None (Some (alone (nth_name j)))) ≤ 12) [
      | true ↦ omega arith
      | false ↦ omega (arith, long, twice, name)
    ]

short_creation : (i : ℕ) → i ≤ 512 → text_of (creation_of i).1 ≤ 38
short_creation i few =
    let name = short_name i few in
    let need = short_need (i / 2) (omega (arith, few)) in
    omega (arith, name, need)

sum_texts : (n : ℕ) → n ≤ 512 → sum_of text_of (generated n) ≤ 2 ^ 18
sum_texts n few =
    let all = sum_all text_of 38 0 0 (record {
      creates = short_creation;
      starts = λ i. omega arith;
      up = λ process. omega arith;
      down = λ process. omega arith;
      ends = λ plan. refl;
      gone = refl;
    }) n few in
    omega (arith, all, few)

pub short_text : (n : ℕ) → n ≤ 512 → text_in (generated n) ≤ 2 ^ 18
short_text n few = let same = text_sum (generated n) in let short = sum_texts n few in omega (arith, same, short)

pub all_fits : (l : Limits) (n : ℕ) → IsAmple l → n ≤ 512 → IsLegal l (opening l [] [] 0) (generated n) → IsOpening l (opening l [] [] 0)
    → Legal l (opening l [] [] 0) (generated n)
all_fits l n ample few legal opens =
    let f = opening l [] [] 0 in
    let clear = clear_begun l f opens in
    let none = opened_owes l f opens in
    let creates = sum_creates n few in
    let costs = sum_costs n few in
    let texts = sum_texts n few in
    let steps = ample.steps in
    let text = ample.text in
    found_legal l f (generated n) clear (omega (arith, none)) legal
    (fills l f (generated n) 0 0 (along Sound (LawOfLeaving l) l (keeps l) (gives_leaving l) f (generated n) clear.sound legal)
    (along (Clear l) LawOfOwed l (clear_keeps l) (gives_owed l) f (generated n) clear legal)
    (omega (arith, creates)) (omega (arith, costs, none, steps)) (omega (arith, texts, text)))
