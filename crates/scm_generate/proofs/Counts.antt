-- How long the list is, and how many launches it has.
use Rattle.std.proofs.Common.{ℕ, zero, suc, ◌≡◌, ◌+◌, ◌*◌, List, [], ◌∷◌, ◌++◌, length, length-append, refl, ◌∙◌, arith}
use Rattle.scm_model.specs.Entries.{Entry}
use Rattle.scm_model.specs.declared.steps.Step.TheVariants.{EndStart, Gone}
use Rattle.scm_generate.specs.Listed.{at_once, opening_calls, creation_of, creations, downs, generated, depth_of, lines_to, run_of}
use Rattle.scm_generate.specs.Listed.{all_runs, up, ups}
use Rattle.scm_generate.specs.Summary.{launches}

launches_both : (xs ys : List Entry) → launches (xs ++ ys) ≡ launches xs + launches ys
launches_both [] ys = omega arith
launches_both (x ∷ xs) ys = let rest = launches_both xs ys in omega (arith, rest)

-- ## Steps

long_creations : (n : ℕ) → length (creations n) ≡ n
long_creations zero = refl
long_creations (suc n) = length-append (creations n) (creation_of (suc n) ∷ []) ∙ (let rest = long_creations n in omega (arith, rest))

long_ups : (first k : ℕ) → length (ups first k) ≡ 3 * k
long_ups first zero = refl
long_ups first (suc k) = length-append (ups first k) (up (first + k)) ∙ (let rest = long_ups first k in omega (arith, rest))

long_downs : (first k : ℕ) → length (downs first k) ≡ 2 * k
long_downs first zero = refl
long_downs first (suc k) = let rest = long_downs first k in omega (arith, rest)

long_started : (i process plan : ℕ) → length (run_of i process plan) ≡ 2 + 5 * depth_of i
long_started i process plan =
    let d = depth_of i in
    let both = length-append (ups process d) (at_once (EndStart 1 plan) ∷ downs process d) in
    let upward = long_ups process d in
    let downward = long_downs process d in
    omega (arith, both, upward, downward)

long_starts : (n process plan : ℕ) → length (all_runs n process plan) ≡ 2 * n + 5 * lines_to n
long_starts zero process plan = refl
long_starts (suc n) process plan =
    let both = length-append (run_of (suc n) process plan) (all_runs n (process + depth_of (suc n)) (plan + 1)) in
    let one = long_started (suc n) process plan in
    let rest = long_starts n (process + depth_of (suc n)) (plan + 1) in
    omega (arith, both, one, rest)

pub all_steps : (n : ℕ) → length (generated n) ≡ 3 + 3 * n + 5 * lines_to n
unfolding generated
all_steps n =
    let end = at_once (Gone 1) ∷ [] in
    let begin = length-append opening_calls (creations n ++ (all_runs n 1 1 ++ end)) in
    let both = length-append (creations n) (all_runs n 1 1 ++ end) in
    let last = length-append (all_runs n 1 1) end in
    let made = long_creations n in
    let run = long_starts n 1 1 in
    omega (arith, begin, both, last, made, run)

-- ## Launches

launched_creations : (n : ℕ) → launches (creations n) ≡ 0
launched_creations zero = refl
launched_creations (suc n) = launches_both (creations n) (creation_of (suc n) ∷ [])
    ∙ (let rest = launched_creations n in omega (arith, rest))

launched_ups : (first k : ℕ) → launches (ups first k) ≡ k
launched_ups first zero = refl
launched_ups first (suc k) = launches_both (ups first k) (up (first + k)) ∙ (let rest = launched_ups first k in omega (arith, rest))

launched_downs : (first k : ℕ) → launches (downs first k) ≡ 0
launched_downs first zero = refl
launched_downs first (suc k) = let rest = launched_downs first k in omega (arith, rest)

launched_started : (i process plan : ℕ) → launches (run_of i process plan) ≡ depth_of i
launched_started i process plan =
    let d = depth_of i in
    let both = launches_both (ups process d) (at_once (EndStart 1 plan) ∷ downs process d) in
    let upward = launched_ups process d in
    let downward = launched_downs process d in
    omega (arith, both, upward, downward)

launched_starts : (n process plan : ℕ) → launches (all_runs n process plan) ≡ lines_to n
launched_starts zero process plan = refl
launched_starts (suc n) process plan =
    let both = launches_both (run_of (suc n) process plan) (all_runs n (process + depth_of (suc n)) (plan + 1)) in
    let one = launched_started (suc n) process plan in
    let rest = launched_starts n (process + depth_of (suc n)) (plan + 1) in
    omega (arith, both, one, rest)

pub all_launches : (n : ℕ) → launches (generated n) ≡ lines_to n
unfolding generated
all_launches n =
    let end = at_once (Gone 1) ∷ [] in
    let begin = launches_both opening_calls (creations n ++ (all_runs n 1 1 ++ end)) in
    let both = launches_both (creations n) (all_runs n 1 1 ++ end) in
    let last = launches_both (all_runs n 1 1) end in
    let made = launched_creations n in
    let run = launched_starts n 1 1 in
    omega (arith, begin, both, last, made, run)
