-- What becomes of the plan of a start that is under way.
use Rattle.std.proofs.Common.{ℕ, ◌≡◌, ◌∙◌, ◌+◌, ◌/◌, ◌<◌, ◌≤◌, ◌^◌, ◌==◌, ◌||◌, ◌&&◌, Bool, true, false, not, cond, List, [], ◌∷◌, ◌++◌}
use Rattle.std.proofs.Common.{Option, None, Some, find, length, map, ap, sym, refl, subst, arith, eq-eqb, eqb-true}
use Rattle.std.specs.Prelude.{is_some}
use Rattle.std.specs.List.{list_all}
use Rattle.std.specs.Option.{option_to_list}
use Rattle.std.proofs.lemmas.Bool.{lt-leb, and_right, eqb-false}
use Rattle.scm_text.specs.Fold.{same_text}
use Rattle.scm_text.specs.Numbers.{has}
use Rattle.scm_model.specs.declared.flat.Due.{Due}
use Rattle.scm_model.specs.declared.flat.DueKind.TheVariants as dues
use Rattle.scm_model.specs.declared.flat.Flat.{Flat}
use Rattle.scm_model.specs.declared.flat.Limits.{Limits}
use Rattle.scm_model.specs.declared.flat.Need.TheVariants as needs
use Rattle.scm_model.specs.declared.flat.Plan.{Plan}
use Rattle.scm_model.specs.declared.flat.Process.{Process}
use Rattle.scm_model.specs.declared.flat.Service.{Service}
use Rattle.scm_model.specs.declared.flat.Wanted.{Wanted}
use Rattle.scm_model.specs.Ready.{is_ready, is_fulfilled, is_up, state_in, state_of}
use Rattle.scm_model.specs.Refused.{first_refusal}
use Rattle.scm_model.specs.Rows.{service_of}
use Rattle.start_plan.specs.declared.settling.Move.TheVariants as moves
use Rattle.start_plan.specs.Entered.{entered_at, is_shared_by, notified_of_start, started_if, starting, starting_in, wanted_process, wanted_row}
use Rattle.start_plan.specs.Entered.{with_entered}
use Rattle.start_plan.specs.Hosts.{host, host_at, is_launched_at}
use Rattle.start_plan.specs.Moves.{cause_at, cause_of, entering_at, is_full, is_pending, move_by, move_of}
use Rattle.start_plan.specs.Settle.{Turn, dropped, hosted_at, move_code, moved, settle_all, settle_entries, settle_plan, settled, tidied}
use Rattle.start_plan.specs.Settle.{succeeded, unmoved, with_tried, words_for}
use Rattle.scm_generate.specs.Listed.{nth_name, told}
use Rattle.scm_generate.proofs.Built.{Each, find_built, map_built}
use Rattle.scm_generate.proofs.Graph.{half_within, positive}
use Rattle.scm_generate.proofs.Names.{other_names, same_name}
use Rattle.scm_generate.proofs.Shape.{Live, row_at, rows, standing}
use Rattle.scm_generate.proofs.Untold.{start_untold}

-- ## Look-ups

pub found_service : (look : ℕ → Live) (n i : ℕ) → 0 < i → i ≤ n → find (λ (row : Service). row.number == i) (rows look n) ≡ Some
    (row_at i (look i))
found_service look n i some lt = find_built (λ (row : Service). row.number == i) [] (λ k. row_at k (look k)) i n some lt refl
    (eq-eqb i i refl) (λ k s le other. other)

pub found_named : (look : ℕ → Live) (n i : ℕ) → n < 2 ^ 64 → 0 < i → i ≤ n
    → find (λ (row : Service). same_text row.config.name (nth_name i)) (rows look n) ≡ Some (row_at i (look i))
found_named look n i small some lt =
    find_built (λ (row : Service). same_text row.config.name (nth_name i)) [] (λ k. row_at k (look k)) i n some lt refl (same_name i)
    (λ k s le other. other_names k i (omega (arith, le, small)) (omega (arith, lt, small)) other)

-- ## A start that is under way

abbrev pub plan_with : (plan target : ℕ) (entries tried : List ℕ) (code : Option ℕ) → Plan
plan_with plan target entries tried code = record {
  number = plan;
  caller = 1;
  target = target;
  entries = entries;
  tried = tried;
  words = [];
  code = code;
}

abbrev pub deadline : (plan due : ℕ) → Due
deadline plan due = record { moment = 120000; number = due; kind = dues.Deadline plan }

-- it isn't decided
abbrev pub under_way : (n : ℕ) (look : ℕ → Live) (processes : List Process) (wanted : List Wanted) (plan target : ℕ)
    (entries tried : List ℕ) (process due : ℕ) → Flat
under_way n look processes wanted plan target entries tried process due =
    standing n look processes wanted (plan_with plan target entries tried None ∷ []) (deadline plan due ∷ []) process (plan + 1) (due + 1)

-- it has succeeded, and is to be answered
abbrev pub decided : (n : ℕ) (look : ℕ → Live) (processes : List Process) (plan target : ℕ) (entries tried : List ℕ) (process due : ℕ)
    → Flat
decided n look processes plan target entries tried process due =
    standing n look processes [] (plan_with plan target entries tried (Some 0) ∷ []) [] process (plan + 1) (due + 1)

-- how a service stands that is being started, and one that runs
abbrev pub pending : ℕ → Live
pending process = record {
  status = record { kind = 0x10; state = 2; accepted = 0; win32 = 0; specific = 0; checkpoint = 0; hint = 0 };
  process = process;
}

abbrev pub runs : ℕ → Live
runs process = record { status = told 4 1; process = process }

-- one stands otherwise
abbrev pub at_one : (ℕ → Live) → ℕ → Live → (ℕ → Live)
at_one look s live k = cond (k == s) live (look k)

pub record IsAtRest (live : Live) : Type 0 where
  pub state : live.status.state ≡ 1
  pub kind : live.status.kind ≡ 0x10
  pub process : live.process ≡ 0

-- ## What settles

settles_one : (l : Limits) (f : Flat) (plan : Plan) (to : Flat) (left : Plan) → f.plans ≡ plan ∷ []
    → settle_plan l f plan ≡ unmoved to left → settled l f ≡ tidied to (left ∷ [])
settles_one l f plan to left is e =
    ap (λ plans. tidied (settle_all l f plans).flat (settle_all l f plans).plans) is
    ∙ ap (λ (r : Turn). tidied r.flat (succeeded (option_to_list r.hosted) r.plan ∷ [])) e

tidy : (n : ℕ) (look : ℕ → Live) (processes : List Process) (wanted : List Wanted) (plans : List Plan) (plan target : ℕ)
    (entries tried : List ℕ) (process due : ℕ)
    → tidied (standing n look processes wanted plans (deadline plan due ∷ []) process (plan + 1) (due + 1))
    (plan_with plan target entries tried None ∷ [])
    ≡ under_way n look processes wanted plan target entries tried process due
tidy n look processes wanted plans plan target entries tried process due =
    ap (λ b. standing n look processes wanted (plan_with plan target entries tried None ∷ [])
    (cond ((b && true) || false) (deadline plan due ∷ []) []) process (plan + 1) (due + 1)) (eq-eqb plan plan refl)

-- a plan waits whose front is about to move
pub waits : (l : Limits) (n : ℕ) (look : ℕ → Live) (processes : List Process) (wanted : List Wanted) (plan target s : ℕ)
    (rest tried : List ℕ) (process due : ℕ)
    → 0 < s → s ≤ n → (look s).status.state ≡ 2
    → settled l (under_way n look processes wanted plan target (s ∷ rest) tried process due) ≡ under_way n look processes wanted plan target
    (s ∷ rest) tried process due
waits l n look processes wanted plan target s rest tried process due some lt state =
    let f = under_way n look processes wanted plan target (s ∷ rest) tried process due in
    let p = plan_with plan target (s ∷ rest) tried None in
    let stands : state_of f s ≡ 2 = ap state_in (found_service look n s some lt) ∙ state in
    let move : move_of l f tried s ≡ moves.Waits =
    ap (λ v. cond (v == 4) moves.Passes (cond (is_pending v) moves.Waits
    (move_by (entering_at (cause_of l f (has tried s) s) (is_some f.lock))))) stands in
    let settles : settle_plan l f p ≡ unmoved f p =
    ap (λ m. moved f p s (settle_entries l f (dropped p s rest (move_code m)) rest) m) move in
    settles_one l f p f p refl settles ∙ tidy n look processes wanted (p ∷ []) plan target (s ∷ rest) tried process due

-- a plan that is decided loses its deadline
pub decides : (l : Limits) (n : ℕ) (look : ℕ → Live) (processes : List Process) (plan target s : ℕ) (rest tried : List ℕ) (process due : ℕ)
    → settled l (standing n look processes [] (plan_with plan target (s ∷ rest) tried (Some 0) ∷ []) (deadline plan due ∷ []) process (plan
    + 1) (due + 1))
    ≡ decided n look processes plan target (s ∷ rest) tried process due
decides l n look processes plan target s rest tried process due =
    ap (λ b. standing n look processes [] (plan_with plan target (s ∷ rest) tried (Some 0) ∷ [])
    (cond (b || false) (deadline plan due ∷ []) []) process (plan + 1) (due + 1))
    (and_right (plan == plan) false refl)

-- ## A service is entered

abbrev NoWords : List (List ℕ) → Type 0
NoWords words = words ≡ []

no_words : (b : Bool) → NoWords (cond b [] [])
no_words true = refl
no_words false = refl

-- what one needs is up
abbrev pub HasUp : (look : ℕ → Live) → ℕ → Type 0
HasUp look t = (t / 2 == 0) ≡ false → (look (t / 2)).status.state ≡ 4

module _ (l : Limits) (n : ℕ) (look : ℕ → Live) (processes : List Process) (held : List Plan) (plan target t : ℕ) (rest tried : List ℕ)
    (process due : ℕ)
    (small : n < 2 ^ 64) (some : 0 < t) (lt : t ≤ n) (still : IsAtRest (look t)) (up : HasUp look t) (untried : has tried t ≡ false)
    (space : length processes < l.processes) where
  abbrev before : Flat
  before = standing n look processes [] held (deadline plan due ∷ []) process (plan + 1) (due + 1)

  abbrev at_front : Plan
  at_front = plan_with plan target (t ∷ rest) tried None

  ready : is_ready before (row_at t (look t)) ≡ true
  ready = elim (t / 2 == 0) as (λ b. (t / 2 == 0) ≡ b → list_all (is_fulfilled before)
      (cond b [] (needs.Service (nth_name (t / 2)) ∷ [])) ≡ true) [
        | true ↦ λ e. refl
        | false ↦ λ e.
            let there = found_named look n (t / 2) small (positive (t / 2) (eqb-false (t / 2) 0 e)) (half_within t n lt) in
            ap (λ o. is_up o && true) there ∙ ap (λ v. (v == 4) && true) (up e)
      ] refl

  -- it is of a type that has a process of its own
  alone : host before t ≡ None
  alone = ap (host_at before) (found_service look n t some lt)

  cause : cause_of l before (has tried t) t ≡ 0
  cause =
      ap (cause_at l before (has tried t)) (found_service look n t some lt)
      ∙ ap (λ b. first_refusal ((false, 1072) ∷ (false, 1058) ∷ (not b || not ((look t).status.state == 1) || has tried t, 1068) ∷
      (is_full l before && true, 1054) ∷ [])) ready
      ∙ ap (λ v. first_refusal ((false, 1072) ∷ (false, 1058) ∷ (not (v == 1) || has tried t, 1068) ∷ (is_full l before && true, 1054)
      ∷ [])) still.state
      ∙ ap (λ b. first_refusal ((false, 1072) ∷ (false, 1058) ∷ (b, 1068) ∷ (is_full l before && true, 1054) ∷ [])) untried
      ∙ ap (λ b. first_refusal ((false, 1072) ∷ (false, 1058) ∷ (false, 1068) ∷ (b && true, 1054) ∷ []))
      (lt-leb l.processes (length processes) space)

  move : move_of l before tried t ≡ moves.Enters
  move =
      ap (λ v. cond (v == 4) moves.Passes (cond (is_pending v) moves.Waits
      (move_by (entering_at (cause_of l before (has tried t) t) false)))) (ap state_in (found_service look n t some lt) ∙ still.state)
      ∙ ap (λ c. move_by (entering_at c false)) cause

  starts_row : Each (λ k. started_if t process (row_at k (look k)) ≡ row_at k (at_one look t (pending process) k)) n
  starts_row k s le =
      elim (k == t) as (λ b. (k == t) ≡ b → started_if t process (row_at k (look k)) ≡ row_at k (cond b (pending process) (look k))) [
        | true ↦ λ e.
            let row = row_at k (look k) in
            let same : k ≡ t = eqb-true k t e in
            let state : (look k).status.state ≡ 1 = subst (λ m. (look m).status.state ≡ 1) (sym same) still.state in
            let kind : (look k).status.kind ≡ 0x10 = subst (λ m. (look m).status.kind ≡ 0x10) (sym same) still.kind in
            ap (λ b. cond (b && (look k).status.state == 1) (starting_in process row) row) e
            ∙ ap (λ v. cond (v == 1) (starting_in process row) row) state
            ∙ ap (λ v. row_at k (record { status = starting (record (look k).status { kind = v }); process = process })) kind
        | false ↦ λ e. ap (λ b. cond (b && (look k).status.state == 1) (starting_in process (row_at k (look k))) (row_at k (look k))) e
      ] refl

  abbrev after : Flat
  after =
      standing n (at_one look t (pending process)) (processes ++ wanted_process process t false ∷ []) (wanted_row process [] ∷ []) held
      (deadline plan due ∷ []) (process + 1) (plan + 1) (due + 1)

  entered : with_entered before t (words_for at_front t) ≡ after
  entered =
      ap (entered_at before t (words_for at_front t)) alone
      ∙ ap (λ shared. record after {
        services = map (started_if t process) (rows look n);
        registrations = notified_of_start t process 0 (service_of before t) [];
        processes = processes ++ wanted_process process t shared ∷ [];
        wanted = wanted_row process (cond (target == t) [] []) ∷ [];
      }) (ap is_shared_by (found_service look n t some lt))
      ∙ ap (λ heard. record after {
        services = map (started_if t process) (rows look n);
        registrations = heard;
        wanted = wanted_row process (cond (target == t) [] []) ∷ [];
      }) (start_untold t process 0 (service_of before t))
      ∙ ap (λ all. record after { services = all; wanted = wanted_row process (cond (target == t) [] []) ∷ [] })
      (map_built (started_if t process) [] (λ k. row_at k (look k)) [] (λ k. row_at k (at_one look t (pending process) k)) n refl
      starts_row)
      ∙ ap (λ words. record after { wanted = wanted_row process words ∷ [] }) (no_words (target == t))

  abbrev now_tried : Plan
  now_tried = plan_with plan target (t ∷ rest) (tried ++ t ∷ []) None

  pub enters : settle_entries l before at_front (t ∷ rest) ≡ unmoved after now_tried
  enters =
      ap (λ m. moved before at_front t (settle_entries l before (dropped at_front t rest (move_code m)) rest) m) move
      ∙ ap (λ (f : Flat). record { flat = f; plan = with_tried at_front t; hosted = hosted_at before t }) entered
      ∙ ap (λ o. record { flat = after; plan = with_tried at_front t; hosted = cond (is_launched_at before o) (Some t) None }) alone
      ∙ ap (λ words. unmoved after (record now_tried { words = words })) (no_words (target == t))

-- the first service of a start is entered
pub enters_first : (l : Limits) (n : ℕ) (look : ℕ → Live) (processes : List Process) (plan target t : ℕ) (rest tried : List ℕ)
    (process due : ℕ)
    → n < 2 ^ 64 → 0 < t → t ≤ n → IsAtRest (look t) → HasUp look t → has tried t ≡ false → length processes < l.processes
    → settled l (under_way n look processes [] plan target (t ∷ rest) tried process due)
    ≡ under_way n (at_one look t (pending process)) (processes ++ wanted_process process t false ∷ [])
    (wanted_row process [] ∷ []) plan target
    (t ∷ rest) (tried ++ t ∷ []) (process + 1) due
enters_first l n look processes plan target t rest tried process due small some lt still up untried space =
    let held = plan_with plan target (t ∷ rest) tried None ∷ [] in
    settles_one l (under_way n look processes [] plan target (t ∷ rest) tried process due)
    (plan_with plan target (t ∷ rest) tried None) _ _ refl
    (enters l n look processes held plan target t rest tried process due small some lt still up untried space)
    ∙ tidy n (at_one look t (pending process)) (processes ++ wanted_process process t false ∷ [])
    (wanted_row process [] ∷ []) held plan target
    (t ∷ rest) (tried ++ t ∷ []) (process + 1) due

-- the next one is, once the one before it runs
pub enters_next : (l : Limits) (n : ℕ) (look : ℕ → Live) (processes : List Process) (plan target s t : ℕ) (rest tried : List ℕ)
    (process due : ℕ)
    → n < 2 ^ 64 → 0 < s → s ≤ n → (look s).status.state ≡ 4 → (target == s) ≡ false
    → 0 < t → t ≤ n → IsAtRest (look t) → HasUp look t → has tried t ≡ false → length processes < l.processes
    → settled l (under_way n look processes [] plan target (s ∷ t ∷ rest) tried process due)
    ≡ under_way n (at_one look t (pending process)) (processes ++ wanted_process process t false ∷ [])
    (wanted_row process [] ∷ []) plan target
    (t ∷ rest) (tried ++ t ∷ []) (process + 1) due
enters_next l n look processes plan target s t rest tried process due small some lt running passed first within still up untried space =
    let p = plan_with plan target (s ∷ t ∷ rest) tried None in
    let f = under_way n look processes [] plan target (s ∷ t ∷ rest) tried process due in
    let stands : state_of f s ≡ 4 = ap state_in (found_service look n s some lt) ∙ running in
    let move : move_of l f tried s ≡ moves.Passes =
    ap (λ v. cond (v == 4) moves.Passes (cond (is_pending v) moves.Waits
    (move_by (entering_at (cause_of l f (has tried s) s) (is_some f.lock))))) stands in
    let passes : settle_plan l f p ≡ settle_entries l f (dropped p s (t ∷ rest) 0) (t ∷ rest) =
    ap (λ m. moved f p s (settle_entries l f (dropped p s (t ∷ rest) (move_code m)) (t ∷ rest)) m) move in
    let drops : dropped p s (t ∷ rest) 0 ≡ plan_with plan target (t ∷ rest) tried None =
    ap (λ b. record p { entries = t ∷ rest; code = cond b (Some 0) None }) passed in
    settles_one l f p _ _ refl
    (passes ∙ ap (λ (q : Plan). settle_entries l f q (t ∷ rest)) drops
    ∙ enters l n look processes (p ∷ []) plan target t rest tried process due small first within still up untried space)
    ∙ tidy n (at_one look t (pending process)) (processes ++ wanted_process process t false ∷ []) (wanted_row process [] ∷ [])
    (p ∷ []) plan target (t ∷ rest) (tried ++ t ∷ []) (process + 1) due
