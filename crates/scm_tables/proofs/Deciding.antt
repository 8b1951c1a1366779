-- Plans that are decided by one target after another.
use Rattle.std.proofs.Common.{ℕ, ◌≡◌, ◌<◌, ◌+◌, ◌∙◌, ◌==◌, ◌&&◌, ◌||◌, Bool, true, false, cond, List, [], ◌∷◌, Some, filter, map, ap, sym}
use Rattle.std.proofs.Common.{refl, drop, get_or, inl, inr, length}
use Rattle.std.specs.Prelude.{is_none}
use Rattle.std.specs.List.{AllByRecursion}
use Rattle.std.proofs.lemmas.Bool.{cases_Bool}
use Rattle.std.proofs.lemmas.List.{drop_more}
use Rattle.number_pairs.specs.declared.pairs.Pair.{Pair}
use Rattle.scm_model.specs.declared.flat.Plan.{Plan}
use Rattle.scm_text.specs.Numbers.{has}
use Rattle.start_plan.specs.Decided.{aims_among, aims_at, decided_if, decided_in}
use Rattle.start_plan.specs.Settle.{stays}

abbrev pub AllStay : List Plan → Type 0
AllStay plans = AllByRecursion (λ (plan : Plan). stays plan ≡ true) plans

pub all_stay_after : (test : Plan → Bool) (code : ℕ) (plans : List Plan) → AllStay (decided_in test code plans)
all_stay_after test code plans = passing (map (decided_if test code) plans)
  where
    passing : (ps : List Plan) → AllStay (filter stays ps)
    passing [] = tt
    passing (p ∷ ps) =
        elim (stays p) as (λ b. stays p ≡ b → AllStay (cond b (p ∷ filter stays ps) (filter stays ps))) [
          | true ↦ λ is. (is, passing ps)
          | false ↦ λ out. passing ps
        ] refl

-- ## Without a target

pub undecided_all : (code : ℕ) (plans : List Plan) → AllStay plans → decided_in (aims_among []) code plans ≡ plans
undecided_all code [] all = refl
undecided_all code (plan ∷ plans) all =
    let rest = decided_in (aims_among []) code plans in
    ap (λ b. cond b (plan ∷ rest) rest) all.0
    ∙ ap (λ (ps : List Plan). plan ∷ ps) (undecided_all code plans all.1)

-- ## One more target

out_anyway : (b : Bool) → (b && false) ≡ false
out_anyway true = refl
out_anyway false = refl

in_either : (a b c : Bool) → (a && c) ≡ true → ((a || b) && c) ≡ true
in_either true b c is = is
in_either false b c is = absurd (cc is)

by_other : (a b c : Bool) → (a && c) ≡ false → ((a || b) && c) ≡ (b && c)
by_other true b true out = absurd (cc out)
by_other true b false out = sym (out_anyway b)
by_other false b c out = refl

-- plans that are decided by a target and then by others are decided by all
pub then_others : (target : ℕ) (targets : List ℕ) (code : ℕ) (plans : List Plan) → AllStay plans
    → decided_in (aims_among targets) code (decided_in (aims_at target) code plans) ≡ decided_in (aims_among (target ∷ targets)) code plans
then_others target targets code [] all = refl
then_others target targets code (plan ∷ plans) all =
    let before = decided_in (aims_at target) code plans in
    let by_two = decided_in (aims_among targets) code before in
    let by_all = decided_in (aims_among (target ∷ targets)) code plans in
    let rest : by_two ≡ by_all = then_others target targets code plans all.1 in
    let coded = λ (b : Bool). record plan { code = cond b (Some code) plan.code } in
    elim (cases_Bool (plan.target == target && is_none plan.code)) [
      | inl is ↦
          let decided = coded true in
          let twice : decided_if (aims_among targets) code decided ≡ decided =
          ap (λ (b : Bool). record plan { code = cond b (Some code) (Some code) }) (out_anyway (has targets plan.target)) in
          ap (λ (p : Plan). decided_in (aims_among targets) code (cond (stays p) (p ∷ before) before)) (ap coded is)
          ∙ (elim (stays decided) as (λ b. stays decided ≡ b
          → decided_in (aims_among targets) code (cond b (decided ∷ before) before) ≡ cond b (decided ∷ by_all) by_all) [
            | true ↦ λ e. ap (λ (p : Plan). cond (stays p) (p ∷ by_two) by_two) twice
                ∙ ap (λ b. cond b (decided ∷ by_two) by_two) e ∙ ap (λ (ps : List Plan). decided ∷ ps) rest
            | false ↦ λ e. rest
          ] refl)
          ∙ sym (ap (λ (p : Plan). cond (stays p) (p ∷ by_all) by_all)
          (ap coded (in_either (plan.target == target) (has targets plan.target) (is_none plan.code) is)))
      | inr out ↦
          let second = decided_if (aims_among targets) code plan in
          ap (λ (p : Plan). decided_in (aims_among targets) code (cond (stays p) (p ∷ before) before)) (ap coded out)
          ∙ ap (λ b. decided_in (aims_among targets) code (cond b (plan ∷ before) before)) all.0
          ∙ ap (λ (ps : List Plan). cond (stays second) (second ∷ ps) ps) rest
          ∙ sym (ap (λ (p : Plan). cond (stays p) (p ∷ by_all) by_all)
          (ap coded (by_other (plan.target == target) (has targets plan.target) (is_none plan.code) out)))
    ]

-- ## Targets in order

abbrev pub numbers : List Pair → List ℕ
numbers pairs = map (λ (pair : Pair). pair.number) pairs

-- the next target, and then those after it
pub next_target : (pairs : List Pair) (i : ℕ) (pair : Pair) (code : ℕ) (plans : List Plan) → i < length pairs → pair ≡ get_or pairs i pair
    → AllStay plans → decided_in (aims_among (numbers (drop (i + 1) pairs))) code (decided_in (aims_at pair.number) code plans)
    ≡ decided_in (aims_among (numbers (drop i pairs))) code plans
next_target pairs i pair code plans within is all =
    then_others pair.number (numbers (drop (i + 1) pairs)) code plans all
    ∙ ap (λ (p : Pair). decided_in (aims_among (p.number ∷ numbers (drop (i + 1) pairs))) code plans) is
    ∙ sym (ap (λ (ps : List Pair). decided_in (aims_among (numbers ps)) code plans) (drop_more pairs i pair within))
