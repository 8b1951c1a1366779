-- Turn by turn: once a plan was settled, all that aim at what it entered into a launched host are decided, before it and after it.
use Rattle.std.proofs.Common.{ℕ, ◌≡◌, ◌∙◌, ◌==◌, ◌&&◌, ◌||◌, ◌++◌, Bool, true, false, cond, List, [], ◌∷◌, Option, None, Some, refl, sym}
use Rattle.std.proofs.Common.{ap}
use Rattle.std.proofs.Common.{eqb, map, append_assoc, append-nil}
use Rattle.std.specs.List.{AllByRecursion}
use Rattle.std.specs.Option.{option_to_list}
use Rattle.std.specs.Prelude.{is_none, is_some}
use Rattle.std.proofs.lemmas.List.{map-append}
use Rattle.std.proofs.lemmas.List.Folds.{list_any-append}
use Rattle.scm_model.specs.declared.flat.Flat.{Flat}
use Rattle.scm_model.specs.declared.flat.Limits.{Limits}
use Rattle.scm_model.specs.declared.flat.Plan.{Plan}
use Rattle.scm_text.specs.Numbers.{has}
use Rattle.start_plan.specs.Hosting.{IsDecidedAmong, after_those, settle_rest}
use Rattle.start_plan.specs.Settle.{Turns, all_succeeded, settle_all, settle_from, settle_plan, succeeded}
use Rattle.start_plan.proofs.Keeps.{Keeps, keeps_from}
use Rattle.start_plan.proofs.Plain.{after_plan, turned}
use Rattle.start_plan.proofs.Rests.{still_decided}

-- ## What aims at the hosted is decided

decided_at : (b : Bool) (code : Option ℕ) → b ≡ true → is_some (cond (b && is_none code) (Some 0) code) ≡ true
decided_at true None e = refl
decided_at true (Some c) e = refl
decided_at false code e = absurd cc

all_decided : (services : List ℕ) (plans : List Plan) → AllByRecursion (IsDecidedAmong services) (map (succeeded services) plans)
all_decided services [] = tt
all_decided services (plan ∷ plans) = (decided_at (has services plan.target) plan.code, all_decided services plans)

pub decides_the_hosted : (l : Limits) (f : Flat) (plans : List Plan)
    → AllByRecursion (IsDecidedAmong (settle_all l f plans).hosted) (settle_all l f plans).plans
decides_the_hosted l f plans = let end = settle_from l f [] plans in all_decided end.hosted end.plans

-- ## Decided by some, and then by others

code_after : (a b : Bool) (code : Option ℕ) → cond ((a || b) && is_none code) (Some 0) code
    ≡ cond (b && is_none (cond (a && is_none code) (Some 0) code)) (Some 0) (cond (a && is_none code) (Some 0) code)
code_after true true None = refl
code_after true false None = refl
code_after false b None = refl
code_after true true (Some c) = refl
code_after true false (Some c) = refl
code_after false true (Some c) = refl
code_after false false (Some c) = refl

one_append : (a b : List ℕ) (plan : Plan) → succeeded (a ++ b) plan ≡ succeeded b (succeeded a plan)
one_append a b plan =
    ap (λ (t : Bool). record plan { code = cond (t && is_none plan.code) (Some 0) plan.code }) (list_any-append (eqb plan.target) a b)
    ∙ ap (λ (code : Option ℕ). record plan { code = code }) (code_after (has a plan.target) (has b plan.target) plan.code)

all_append : (a b : List ℕ) (plans : List Plan) → map (succeeded (a ++ b)) plans ≡ map (succeeded b) (map (succeeded a) plans)
all_append a b [] = refl
all_append a b (plan ∷ plans) =
    ap (λ p. p ∷ map (succeeded (a ++ b)) plans) (one_append a b plan)
    ∙ ap (λ ps. succeeded b (succeeded a plan) ∷ ps) (all_append a b plans)

-- what was hosted before may as well have decided the plans before
split : (l : Limits) (f : Flat) (a b : List ℕ) (plans : List Plan)
    → settle_from l f (a ++ b) plans ≡ after_those a (settle_from l f b (map (succeeded a) plans))
split l f a b [] = refl
split l f a b (plan ∷ plans) =
    let first = settle_plan l f (succeeded b (succeeded a plan)) in
    let hosted = option_to_list first.hosted in
    ap (λ (p : Plan). turned l (a ++ b) plans (settle_plan l f p)) (one_append a b plan)
    ∙ ap (λ (before : List ℕ). after_plan first.plan (settle_from l first.flat before plans)) (append_assoc a b hosted)
    ∙ ap (after_plan first.plan) (split l first.flat a (b ++ hosted) plans)

-- ## What is decided stays so

keeps_decided : (l : Limits) (services : List ℕ) → Keeps l (λ f. Unit {0}) (IsDecidedAmong services)
keeps_decided l services = record {
  enters = λ f plan service words entry p. tt;
  tries = λ f plan service entry is. is;
  drops = λ plan service rest code is there. elim (plan.target == service) as (λ b. is_some (cond b (Some code) plan.code) ≡ true)
      [ true ↦ refl | false ↦ is there ];
  meets = λ plan others is there. still_decided (has others plan.target) plan.code (is there);
}

same_code : (plan : Plan) (b : Bool) (code : Option ℕ) → (b ≡ true → is_some code ≡ true)
    → record plan { code = cond (b && is_none code) (Some 0) code } ≡ record plan { code = code }
same_code plan true None is = absurd (let yes = is refl in cc)
same_code plan true (Some c) is = refl
same_code plan false code is = refl

all_once : (services : List ℕ) (plans : List Plan) → AllByRecursion (IsDecidedAmong services) plans → map (succeeded services) plans ≡ plans
all_once services [] all = refl
all_once services (plan ∷ plans) all =
    ap (λ p. p ∷ map (succeeded services) plans) (same_code plan (has services plan.target) plan.code all.0)
    ∙ ap (λ ps. plan ∷ ps) (all_once services plans all.1)

-- ## A turn

abbrev finished_by : List Plan → Turns → Turns
finished_by done end = all_succeeded (record { flat = end.flat; plans = done ++ end.plans; hosted = end.hosted })

abbrev with_those : Turns → List ℕ → List Plan → Turns
with_those end hosted plans = record { flat = end.flat; plans = plans; hosted = hosted }

pub decides_at_once : (l : Limits) (f : Flat) (done : List Plan) (plan : Plan) (plans : List Plan) →
    let turn = settle_plan l f plan in
    let hosted = option_to_list turn.hosted in
    settle_rest l f done (plan ∷ plans) ≡ after_those hosted
    (settle_rest l turn.flat (map (succeeded hosted) (done ++ turn.plan ∷ [])) (map (succeeded hosted) plans))
decides_at_once l f done plan plans =
    let turn = settle_plan l f plan in
    let hosted = option_to_list turn.hosted in
    let end = settle_from l turn.flat [] (map (succeeded hosted) plans) in
    let rest : settle_from l turn.flat hosted plans ≡ after_those hosted end =
    ap (λ (before : List ℕ). settle_from l turn.flat before plans) (sym (append-nil hosted)) ∙ split l turn.flat hosted [] plans in
    let once : map (succeeded hosted) end.plans ≡ end.plans = all_once hosted end.plans
    (keeps_from l (λ g. Unit {0}) (IsDecidedAmong hosted) (keeps_decided l hosted) turn.flat [] (map (succeeded hosted) plans) tt
    (all_decided hosted plans)).plans in
    ap (λ (e : Turns). finished_by done (after_plan turn.plan e)) rest
    ∙ ap (with_those end (hosted ++ end.hosted)) (all_append hosted end.hosted (done ++ turn.plan ∷ end.plans)
    ∙ ap (map (succeeded end.hosted)) (ap (map (succeeded hosted)) (sym (append_assoc done (turn.plan ∷ []) end.plans))
    ∙ map-append (succeeded hosted) (done ++ turn.plan ∷ []) end.plans
    ∙ ap (λ (ps : List Plan). map (succeeded hosted) (done ++ turn.plan ∷ []) ++ ps) once))
