-- No plan enters a service twice: a service is entered where a plan tries it that hadn't.
use Rattle.std.proofs.Common.{ℕ, zero, suc, ◌≡◌, ◌∙◌, ◌⊎◌, ◌==◌, ◌&&◌, not, Bool, true, false, cond, eqb, List, [], ◌∷◌}
use Rattle.std.proofs.Common.{◌++◌, Option, None, Some, map, ap, sym, refl, subst, arith, eqb-true, eq-eqb, inl, inr}
use Rattle.std.specs.Prelude.{All, IfSome, is_none, is_some}
use Rattle.std.specs.List.{AllZip, Any}
use Rattle.std.specs.Option.{option_to_list}
use Rattle.std.proofs.lemmas.Bool.{and_parts, or_parts, or_right}
use Rattle.std.proofs.lemmas.List.Elements.{All-cons, All-filter, All-from_recursion, All-head, All-nil, All-tail, All-weaker}
use Rattle.std.proofs.lemmas.List.Folds.{list_any-append}
use Rattle.scm_model.specs.Entries.{Entry}
use Rattle.scm_model.specs.declared.flat.Flat.{Flat}
use Rattle.scm_model.specs.declared.flat.Limits.{Limits}
use Rattle.scm_model.specs.declared.flat.Plan.{Plan}
use Rattle.scm_model.specs.declared.flat.Service.{Service}
use Rattle.scm_model.specs.declared.steps.Step.{Step}
use Rattle.scm_model.specs.Purge.{leaves}
use Rattle.start_plan.specs.Entered.{process_for, starting_in, started_if, with_entered}
use Rattle.start_plan.specs.Hosts.{host}
use Rattle.start_plan.specs.Moves.{move_of}
use Rattle.start_plan.specs.Settle.{Turn, move_code, dropped, moved, settle_all, settle_entries, settle_from, settle_plan, settled}
use Rattle.start_plan.specs.Settle.{succeeded}
use Rattle.start_plan.specs.Settle.{unmoved, words_for}
use Rattle.start_plan.specs.declared.settling.Move.TheVariants as moves
use Rattle.start_plan.proofs.Keeps.{is_entry}
use Rattle.scm_rules.specs.Steps.{at_moment, effect_of, finished_step}
use Rattle.scm_runs.specs.Entering.{IsTriedAnew, LawOfEntering, TriesAnew}
use Rattle.scm_runs.specs.Plans.{GoesOn}
use Rattle.scm_runs.specs.Starts.{is_entered}
use Rattle.scm_runs.proofs.Along.{Gives}
use Rattle.scm_runs.proofs.Frames.{finished_keeps}
use Rattle.scm_runs.proofs.Going.{AllWent, Went, coded, of_effect as plans_of_effect}
use Rattle.scm_runs.proofs.Sound.{Sound}
use Rattle.scm_runs.proofs.Starts.{IsOld, not_entered, old_effect}
use Rattle.scm_text.specs.Numbers.{has}

-- ## Some element

some_here : {X : Type 0} (P : X → Type 0) (x : X) (xs : List X) → P x → Any P (x ∷ xs)
some_here P x xs p = (0, x, omega arith, refl, p)

some_later : {X : Type 0} (P : X → Type 0) (x : X) (xs : List X) → Any P xs → Any P (x ∷ xs)
some_later P x xs some = (suc some.0, some.1, (let lt = some.2 in omega (arith, lt)), some.3, some.4)

-- it is some of what each becomes
some_map : {X : Type 0} (P : X → Type 0) (g : X → X) (xs : List X) → ((x : X) → P x → P (g x)) → Any P xs → Any P (map g xs)
some_map P g [] keeps some = absurd (let lt = some.2 in omega (arith, lt))
some_map P g (x ∷ xs) keeps (zero, y, lt, at, held) = some_here P (g x) (map g xs) (keeps x (subst P (sym at) held))
some_map P g (x ∷ xs) keeps (suc k, y, lt, at, held) =
    some_later P (g x) (map g xs) (some_map P g xs keeps (k, y, omega (arith, lt), at, held))

-- ## One plan

-- a plan enters a service that it hadn't tried, and waits
record Enters (f : Flat) (plan : Plan) (end : Turn) : Type 0 where
  service : ℕ
  words : List (List ℕ)
  flat : end.flat ≡ with_entered f service words
  number : end.plan.number ≡ plan.number
  code : end.plan.code ≡ None
  tried : end.plan.tried ≡ plan.tried ++ service ∷ []
  fresh : has plan.tried service ≡ false

-- or it leaves the state as it is
abbrev ComesTo : Flat → Plan → Turn → Type 0
ComesTo f plan end = (end.flat ≡ f) ⊎ Enters f plan end

undecided : (code : Option ℕ) → is_some code ≡ false → code ≡ None
undecided None e = refl
undecided (Some n) e = absurd cc

-- after an entry that is dropped
from_dropped : (f : Flat) (plan : Plan) (service : ℕ) (rest : List ℕ) (code : ℕ) (end : Turn)
    → ComesTo f (dropped plan service rest code) end → ComesTo f plan end
from_dropped f plan service rest code end (inl same) = inl same
from_dropped f plan service rest code end (inr is) =
    inr (record {
      service = is.service;
      words = is.words;
      flat = is.flat;
      number = is.number;
      code = is.code;
      tried = is.tried;
      fresh = is.fresh;
    })

entries_come : (l : Limits) (f : Flat) (plan : Plan) (entries : List ℕ) → ComesTo f plan (settle_entries l f plan entries)
entries_come l f plan [] = inl refl
entries_come l f plan (s ∷ rest) =
    elim (is_some plan.code) as (λ b. is_some plan.code ≡ b
    → ComesTo f plan (cond b (unmoved f plan) (moved f plan s (settle_entries l f
    (dropped plan s rest (move_code (move_of l f plan.tried s))) rest) (move_of l f plan.tried s)))) [
      | true ↦ λ decided. inl refl
      | false ↦ λ waits. elim (move_of l f plan.tried s) as (λ m. move_of l f plan.tried s ≡ m
          → ComesTo f plan (moved f plan s (settle_entries l f (dropped plan s rest (move_code m)) rest) m)) [
            | moves.Passes ↦ λ e. from_dropped f plan s rest 0 _ (entries_come l f (dropped plan s rest 0) rest)
            | moves.Waits ↦ λ e. inl refl
            | moves.Enters ↦ λ e. inr (record {
              service = s;
              words = words_for plan s;
              flat = refl;
              number = refl;
              code = undecided plan.code waits;
              tried = refl;
              fresh = (is_entry l f plan.tried s e).fresh;
            })
            | moves.Fails code ↦ λ e. from_dropped f plan s rest code _ (entries_come l f (dropped plan s rest code) rest)
          ] refl
    ] refl

-- ## All plans

-- what was tried last has been tried
has_last : (tried : List ℕ) (service : ℕ) → has (tried ++ service ∷ []) service ≡ true
has_last tried service = list_any-append (eqb service) tried (service ∷ [])
    ∙ rw (eq-eqb service service refl) (or_right (has tried service) true refl)

-- so nothing that it had tried before was this
not_before : (plan before : Plan) (service : ℕ) → GoesOn before plan → has plan.tried service ≡ false → has before.tried service ≡ false
not_before plan before service on fresh =
    (or_parts (has before.tried service) (has on.since service) (sym (list_any-append (eqb service) before.tried on.since)
    ∙ ap (λ tried. has tried service) (sym on.tried) ∙ fresh)).0

tries : (befores : List Plan) (f : Flat) (plan : Plan) (end : Turn) → Went befores plan → (is : Enters f plan end)
    → TriesAnew befores is.service end.plan
tries befores f plan end went is = record {
  code = subst (λ (code : Option ℕ). IfSome code (λ n. n ≡ 0)) (sym is.code) tt;
  tried = ap (λ ns. has ns is.service) is.tried ∙ has_last plan.tried is.service;
  new = All-weaker (λ (before : Plan). before.number ≡ plan.number → GoesOn before plan) (λ (before : Plan). before.number ≡ end.plan.number
      → has before.tried is.service ≡ false)
      (λ before on same. not_before plan before is.service (on (same ∙ is.number)) is.fresh) befores
      (All-from_recursion (λ (before : Plan). before.number ≡ plan.number → GoesOn before plan) befores went);
}

-- a service is as it was, or was tried anew
abbrev IsKept : List Plan → List Plan → Service → Service → Type 0
IsKept befores plans old new = (new ≡ old) ⊎ Any (TriesAnew befores new.number) plans

abbrev AreKept : List Plan → List Plan → List Service → List Service → Type 0
AreKept befores plans olds news = AllZip (IsKept befores plans) olds news

all_kept : (befores plans : List Plan) (rows : List Service) → AreKept befores plans rows rows
all_kept befores plans [] = tt
all_kept befores plans (row ∷ rows) = (inl refl, all_kept befores plans rows)

one_more : (befores plans : List Plan) (plan : Plan) (old new : Service) → IsKept befores plans old new
    → IsKept befores (plan ∷ plans) old new
one_more befores plans plan old new (inl same) = inl same
one_more befores plans plan old new (inr some) = inr (some_later (TriesAnew befores new.number) plan plans some)

kept_more : (befores plans : List Plan) (plan : Plan) (olds news : List Service) → AreKept befores plans olds news
    → AreKept befores (plan ∷ plans) olds news
kept_more befores plans plan [] [] each = tt
kept_more befores plans plan [] (new ∷ news) each = absurd each
kept_more befores plans plan (old ∷ olds) [] each = absurd each
kept_more befores plans plan (old ∷ olds) (new ∷ news) each = (
  one_more befores plans plan old new each.0,
  kept_more befores plans plan olds news each.1,
)

-- a row that this plan started, and what later ones made of it
one_entered : (befores plans : List Plan) (plan : Plan) (service process : ℕ) (old new : Service) → TriesAnew befores service plan
    → IsKept befores plans (started_if service process old) new
    → IsKept befores (plan ∷ plans) old new
one_entered befores plans plan service process old new anew (inr some) = inr (some_later (TriesAnew befores new.number) plan plans some)
one_entered befores plans plan service process old new anew (inl same) =
    elim (old.number == service && old.status.state == 1) as (λ b. (old.number == service && old.status.state == 1) ≡ b
    → new ≡ cond b (starting_in process old) old → IsKept befores (plan ∷ plans) old new) [
      | true ↦ λ e is. inr (some_here (TriesAnew befores new.number) plan plans
          (subst (λ n. TriesAnew befores n plan) (sym (ap (λ (row : Service). row.number) is
          ∙ eqb-true old.number service (and_parts (old.number == service) (old.status.state == 1) e).0)) anew))
      | false ↦ λ e is. inl is
    ] refl same

kept_entered : (befores plans : List Plan) (plan : Plan) (service process : ℕ) (olds news : List Service) → TriesAnew befores service plan
    → AreKept befores plans (map (started_if service process) olds) news
    → AreKept befores (plan ∷ plans) olds news
kept_entered befores plans plan service process [] [] anew each = tt
kept_entered befores plans plan service process [] (new ∷ news) anew each = absurd each
kept_entered befores plans plan service process (old ∷ olds) [] anew each = absurd each
kept_entered befores plans plan service process (old ∷ olds) (new ∷ news) anew each = (
  one_entered befores plans plan service process old new anew each.0,
  kept_entered befores plans plan service process olds news anew each.1,
)

plan_kept : (befores plans : List Plan) (f : Flat) (plan : Plan) (end : Turn) (news : List Service) → Went befores plan
    → ComesTo f plan end → AreKept befores plans end.flat.services news
    → AreKept befores (end.plan ∷ plans) f.services news
plan_kept befores plans f plan end news went (inl same) each = kept_more befores plans end.plan f.services news
    (subst (λ (g : Flat). AreKept befores plans g.services news) same each)
plan_kept befores plans f plan end news went (inr is) each =
    kept_entered befores plans end.plan is.service (process_for f (host f is.service)) f.services news (tries befores f plan end went is)
    (subst (λ (g : Flat). AreKept befores plans g.services news) is.flat each)

plans_kept : (l : Limits) (befores : List Plan) (f : Flat) (hosted : List ℕ) (plans : List Plan) → AllWent befores plans
    → AreKept befores (settle_from l f hosted plans).plans f.services (settle_from l f hosted plans).flat.services
plans_kept l befores f hosted [] went = all_kept befores [] f.services
plans_kept l befores f hosted (plan ∷ plans) went =
    let met = succeeded hosted plan in
    let turn = settle_plan l f met in
    let after = hosted ++ option_to_list turn.hosted in
    let rest = settle_from l turn.flat after plans in
    plan_kept befores rest.plans f met turn rest.flat.services (coded befores plan met.code went.0) (entries_come l f met met.entries)
    (plans_kept l befores turn.flat after plans went.1)

-- ## Plans that succeed

code_met : (b : Bool) (code : Option ℕ) → IfSome code (λ n. n ≡ 0) → IfSome (cond (b && is_none code) (Some 0) code) (λ n. n ≡ 0)
code_met true None is = refl
code_met true (Some code) is = is
code_met false code is = is

met_anew : (befores : List Plan) (service : ℕ) (services : List ℕ) (plan : Plan) → TriesAnew befores service plan
    → TriesAnew befores service (succeeded services plan)
met_anew befores service services plan is = record {
  code = code_met (has services plan.target) plan.code is.code;
  tried = is.tried;
  new = is.new;
}

one_met : (befores plans : List Plan) (services : List ℕ) (old new : Service) → IsKept befores plans old new
    → IsKept befores (map (succeeded services) plans) old new
one_met befores plans services old new (inl same) = inl same
one_met befores plans services old new (inr some) =
    inr (some_map (TriesAnew befores new.number) (succeeded services) plans (met_anew befores new.number services) some)

kept_met : (befores plans : List Plan) (services : List ℕ) (olds news : List Service) → AreKept befores plans olds news
    → AreKept befores (map (succeeded services) plans) olds news
kept_met befores plans services [] [] each = tt
kept_met befores plans services [] (new ∷ news) each = absurd each
kept_met befores plans services (old ∷ olds) [] each = absurd each
kept_met befores plans services (old ∷ olds) (new ∷ news) each = (
  one_met befores plans services old new each.0,
  kept_met befores plans services olds news each.1,
)

all_plans_kept : (l : Limits) (befores : List Plan) (f : Flat) (plans : List Plan) → AllWent befores plans
    → AreKept befores (settle_all l f plans).plans f.services (settle_all l f plans).flat.services
all_plans_kept l befores f plans went =
    let end = settle_from l f [] plans in
    kept_met befores end.plans end.hosted f.services end.flat.services (plans_kept l befores f [] plans went)

-- ## Steps

-- who is entered was tried anew
row_tried : (before : Flat) (step : Step) (plans : List Plan) (old new : Service) → IsOld before step old
    → IsKept before.plans plans old new → is_entered before step new ≡ true → Any (TriesAnew before.plans new.number) plans
row_tried before step plans old new stood (inl same) entered =
    let no = not_entered before step old stood in
    let yes : is_entered before step old ≡ true = subst (λ (row : Service). is_entered before step row ≡ true) same entered in
    absurd cc
row_tried before step plans old new stood (inr some) entered = some

rows_tried : (before : Flat) (step : Step) (plans : List Plan) (olds news : List Service) → All (IsOld before step) olds
    → AreKept before.plans plans olds news
    → All (λ (row : Service). is_entered before step row ≡ true → Any (TriesAnew before.plans row.number) plans) news
rows_tried before step plans [] [] stood each =
    All-nil (λ (row : Service). is_entered before step row ≡ true → Any (TriesAnew before.plans row.number) plans)
rows_tried before step plans [] (new ∷ news) stood each = absurd each
rows_tried before step plans (old ∷ olds) [] stood each = absurd each
rows_tried before step plans (old ∷ olds) (new ∷ news) stood each =
    All-cons (λ (row : Service). is_entered before step row ≡ true → Any (TriesAnew before.plans row.number) plans) new news
    (row_tried before step plans old new (All-head (IsOld before step) old olds stood) each.0)
    (rows_tried before step plans olds news (All-tail (IsOld before step) old olds stood) each.1)

step_tried : (l : Limits) (f : Flat) (e : Entry) → Sound f → All (IsTriedAnew l f e) (finished_step l f e.0 e.1).flat.services
step_tried l f e s =
    let done = effect_of l (at_moment f e.0 e.1) e.1 in
    let end = settle_all l done.flat done.flat.plans in
    finished_keeps (λ (g : Flat). All (IsTriedAnew l f e) g.services) (λ g plans all. all) (settled l done.flat) done.answer
    (rows_tried f e.1 end.plans done.flat.services end.flat.services (old_effect l f e.0 e.1)
    (all_plans_kept l f.plans done.flat done.flat.plans (plans_of_effect l f e.0 e.1 s)))

pub gives : (l : Limits) → Gives Sound (LawOfEntering l) l
gives l f e s ok =
    let before = (finished_step l f e.0 e.1).flat in
    All-filter (λ (row : Service). not (leaves before.handles row)) (IsTriedAnew l f e) before.services (step_tried l f e s)
