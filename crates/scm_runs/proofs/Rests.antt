-- What is settled stays settled when a start is answered and when services leave.
use Rattle.std.proofs.Common.{ℕ, ◌≡◌, ◌⊎◌, ◌∙◌, ◌==◌, ◌||◌, ◌&&◌, Bool, true, false, not, cond, List, [], ◌∷◌, Option, None, Some, filter}
use Rattle.std.proofs.Common.{find, ap, refl, subst, eqb-true, inl, inr}
use Rattle.std.specs.Prelude.{All, is_none, is_some, option_map}
use Rattle.std.specs.List.{AllByRecursion}
use Rattle.std.proofs.lemmas.List.Elements.{All-from_recursion, All-head, All-tail}
use Rattle.scm_model.specs.declared.flat.Due.{Due}
use Rattle.scm_model.specs.declared.flat.Flat.{Flat}
use Rattle.scm_model.specs.declared.flat.Limits.{Limits}
use Rattle.scm_model.specs.declared.flat.Plan.{Plan}
use Rattle.scm_model.specs.declared.flat.Service.{Service}
use Rattle.scm_model.specs.declared.steps.Answer.{Answer}
use Rattle.scm_model.specs.declared.steps.Answer.TheVariants as answer
use Rattle.scm_model.specs.Processes.{is_shared, process_of}
use Rattle.scm_model.specs.Purge.{leaves, purged}
use Rattle.scm_model.specs.Rows.{service_of}
use Rattle.start_plan.specs.Decided.{code_of, is_numbered}
use Rattle.start_plan.specs.Hosting.{HaveNone}
use Rattle.start_plan.specs.Hosts.{host_at, is_sharing, offers}
use Rattle.start_plan.specs.Moves.{entering_at, is_full, is_pending, move_by, move_of}
use Rattle.scm_model.specs.Ready.{is_ready}
use Rattle.start_plan.specs.Settle.{Turns, is_due_still, settled, stays, tidied}
use Rattle.start_plan.specs.declared.settling.Move.{Move}
use Rattle.start_plan.specs.declared.settling.Move.TheVariants as moves
use Rattle.start_plan.proofs.Keeps.{all_filter}
pub use Rattle.start_plan.proofs.Rests.{all_still, settled_rest}
pub use Rattle.start_plan.specs.Resting.{Rests, RestsAt}
use Rattle.scm_rules.specs.Steps.{finished, left_by}
use Rattle.scm_runs.proofs.Deadlines.{AreStill}
use Rattle.scm_runs.proofs.Hosted.{last_true, lives_stays}
use Rattle.scm_runs.proofs.Plans.{all_weaker}
use Rattle.scm_runs.proofs.Starts.{all_fulfilled}
use Rattle.scm_runs.proofs.Lists.{found_has, found_passes}
use Rattle.scm_text.specs.Numbers.{has}

-- ## When a start is answered

rests_beside : (l : Limits) (g : Flat) (plans : List Plan) (plan : Plan) (entries : List ℕ) → RestsAt l g plan entries
    → RestsAt l (record g { plans = plans }) plan entries
rests_beside l g plans plan [] rests = tt
rests_beside l g plans plan (x ∷ xs) rests = rests

one_beside : (l : Limits) (g : Flat) (plans : List Plan) (plan : Plan) → Rests l g plan → Rests l (record g { plans = plans }) plan
one_beside l g plans plan (inl decided) = inl decided
one_beside l g plans plan (inr rests) = inr (rests_beside l g plans plan plan.entries rests)

left_rest : (l : Limits) (g : Flat) (plan : ℕ) (code : Option ℕ) → AllByRecursion (Rests l g) g.plans
    → AllByRecursion (Rests l (left_by g plan code)) (left_by g plan code).plans
left_rest l g plan None rests = rests
left_rest l g plan (Some code) rests =
    let fewer = filter (λ (row : Plan). not (is_numbered plan row)) g.plans in
    all_weaker (Rests l g) (Rests l (record g { plans = fewer })) (one_beside l g fewer) fewer
    (all_filter (Rests l g) (λ (row : Plan). not (is_numbered plan row)) g.plans rests)

pub finished_rest : (l : Limits) (g : Flat) (told : Answer) → AllByRecursion (Rests l g) g.plans
    → AllByRecursion (Rests l (finished g told).flat) (finished g told).flat.plans
finished_rest l g (answer.Begun plan) rests = left_rest l g plan (code_of g.plans plan) rests
finished_rest l g told rests = rests

-- ## When services leave

-- a move by what is in the way
abbrev MoveBy : Bool → Bool → Bool → Bool → Bool → Bool → Bool → Bool → Bool → Move
MoveBy running pending marked disabled ready stopped tried crowded locked =
    cond running moves.Passes
    (cond pending moves.Waits (move_by (entering_at (cond marked 1072 (cond disabled 1058
    (cond (not ready || not stopped || tried) 1068 (cond crowded 1054 0)))) locked)))

-- who waits waits still where it is ready still, and needs no new process, or there is room for one still
still_waits : (a b m d r r' s t p p' k : Bool) → (r ≡ true → r' ≡ true) → (p ≡ false → p' ≡ false)
    → MoveBy a b m d r s t p k ≡ moves.Waits → MoveBy a b m d r' s t p' k ≡ moves.Waits
still_waits true b m d r r' s t p p' k keeps room h = absurd cc
still_waits false true m d r r' s t p p' k keeps room h = refl
still_waits false false true d r r' s t p p' k keeps room h = absurd cc
still_waits false false false true r r' s t p p' k keeps room h = absurd cc
still_waits false false false false false r' s t p p' k keeps room h = absurd cc
still_waits false false false false true r' false t p p' k keeps room h = absurd cc
still_waits false false false false true r' true true p p' k keeps room h = absurd cc
still_waits false false false false true r' true false true p' k keeps room h = absurd cc
still_waits false false false false true r' true false false p' k keeps room h = rw (keeps refl, room refl) h

-- who waits is pending, or isn't marked
waits_by : (a b m d r s t p k : Bool) → MoveBy a b m d r s t p k ≡ moves.Waits → (b ≡ true) ⊎ (m ≡ false)
waits_by true b m d r s t p k h = absurd cc
waits_by false true m d r s t p k h = inl refl
waits_by false false true d r s t p k h = absurd cc
waits_by false false false d r s t p k h = inr refl

stays_by : (m h : Bool) (state : ℕ) → (is_pending state ≡ true) ⊎ (m ≡ false) → not (m && state == 1 && h) ≡ true
stays_by true h state (inr unmarked) = absurd cc
stays_by true h state (inl pending) =
    elim (state == 1) as (λ b. (state == 1) ≡ b → not (true && b && h) ≡ true) [
      | true ↦ λ e. absurd (let yes : is_pending 1 ≡ true = subst (λ n. is_pending n ≡ true) (eqb-true state 1 e) pending in cc)
      | false ↦ λ e. refl
    ] refl
stays_by false h state by = refl

found_stays : {X : Type 0} (p q : X → Bool) (x : X) (xs : List X) → find p xs ≡ Some x → q x ≡ true → find p (filter q xs) ≡ Some x
found_stays p q x [] found stay = absurd cc
found_stays p q x (y ∷ ys) found stay =
    elim (p y) as (λ b. p y ≡ b → cond b (Some y) (find p ys) ≡ Some x → find p (cond (q y) (y ∷ filter q ys) (filter q ys)) ≡ Some x) [
      | true ↦ λ e h. (let same : y ≡ x = cc in let stay_y : q y ≡ true = ap q same ∙ stay in rw (stay_y, e) h)
      | false ↦ λ e h. elim (q y) as (λ b. find p (cond b (y ∷ filter q ys) (filter q ys)) ≡ Some x)
          [ true ↦ rw e (found_stays p q x ys h stay) | false ↦ found_stays p q x ys h stay ]
    ] refl found

-- ## Hosts stay

-- what offers a process isn't STOPPED, so it stays
offer_stays : (g : Flat) (path : List ℕ) (rows : List Service) (other : Service) → process_of g 0 ≡ None
    → All (λ (row : Service). row.status.state ≡ 1 → row.process ≡ 0) rows → find (offers g path) rows ≡ Some other
    → not (leaves g.handles other) ≡ true
offer_stays g path rows other zero none found =
    lives_stays g other zero (found_has (λ (row : Service). row.status.state ≡ 1 → row.process ≡ 0) (offers g path) other rows none found)
    (last_true (is_sharing other) _ (is_shared (process_of g other.process)) (found_passes (offers g path) other rows found))

host_stays : (g : Flat) (row : Service) → HaveNone g → is_none (host_at g (Some row)) ≡ false
    → is_none (host_at (purged g) (Some row)) ≡ false
host_stays g row none is =
    let process = λ (other : Service). other.process in
    let offering = offers g row.config.path in
    let kept = filter (λ (r : Service). not (leaves g.handles r)) g.services in
    elim (is_sharing row) as (λ b. is_none (cond b (option_map process (find offering g.services)) None) ≡ false
    → is_none (cond b (option_map process (find offering kept)) None) ≡ false) [
      | true ↦ λ there. found_some (find offering g.services) refl there
      | false ↦ λ there. absurd cc
    ] is
  where
    found_some : (found : Option Service) → find (offers g row.config.path) g.services ≡ found
        → is_none (option_map (λ (other : Service). other.process) found) ≡ false
        → is_none (option_map (λ (other : Service). other.process) (find (offers g row.config.path)
        (filter (λ (r : Service). not (leaves g.handles r)) g.services))) ≡ false
    found_some None e there = absurd cc
    found_some (Some other) e there =
        rw (found_stays (offers g row.config.path) (λ (r : Service). not (leaves g.handles r)) other g.services e
        (offer_stays g row.config.path g.services other none.zero
        (All-from_recursion (λ (r : Service). r.status.state ≡ 1 → r.process ≡ 0) g.services none.stopped) e)) refl

-- there is a host, or room for a process, still
room_stays : (full none none' : Bool) → (none ≡ false → none' ≡ false) → (full && none) ≡ false → (full && none') ≡ false
room_stays true none none' keeps room = keeps room
room_stays false none none' keeps room = refl

waits_found : (l : Limits) (g : Flat) (tried : List ℕ) (x : ℕ) (found : Option Service) → HaveNone g → service_of g x ≡ found
    → move_of l g tried x ≡ moves.Waits → move_of l (purged g) tried x ≡ moves.Waits
waits_found l g tried x None none e waits =
    absurd (let no : move_by (entering_at 1072 (is_some g.lock)) ≡ moves.Waits = rw e at waits in cc)
waits_found l g tried x (Some row) none e waits =
    let crowded = is_full l g && is_none (host_at g (Some row)) in
    let here : MoveBy (row.status.state == 4) (is_pending row.status.state) row.marked (row.config.start == 4) (is_ready g row)
    (row.status.state == 1) (has tried x) crowded (is_some g.lock) ≡ moves.Waits = rw e at waits in
    let by = waits_by (row.status.state == 4) (is_pending row.status.state) row.marked (row.config.start == 4) (is_ready g row)
    (row.status.state == 1) (has tried x) crowded (is_some g.lock) here in
    let there : service_of (purged g) x ≡ Some row =
    found_stays (λ (r : Service). r.number == x) (λ (r : Service). not (leaves g.handles r)) row g.services e
    (stays_by row.marked _ row.status.state by) in
    rw there (still_waits (row.status.state == 4) (is_pending row.status.state) row.marked (row.config.start == 4) (is_ready g row)
    (is_ready (purged g) row) (row.status.state == 1) (has tried x) crowded (is_full l g && is_none (host_at (purged g) (Some row)))
    (is_some g.lock) (all_fulfilled g row.config.needs)
    (room_stays (is_full l g) (is_none (host_at g (Some row))) (is_none (host_at (purged g) (Some row))) (host_stays g row none)) here)

rests_purged : (l : Limits) (g : Flat) (plan : Plan) (entries : List ℕ) → HaveNone g → RestsAt l g plan entries
    → RestsAt l (purged g) plan entries
rests_purged l g plan [] none rests = tt
rests_purged l g plan (x ∷ xs) none rests = waits_found l g plan.tried x (service_of g x) none refl rests

one_purged : (l : Limits) (g : Flat) → HaveNone g → (plan : Plan) → Rests l g plan → Rests l (purged g) plan
one_purged l g none plan (inl decided) = inl decided
one_purged l g none plan (inr rests) = inr (rests_purged l g plan plan.entries none rests)

pub purged_rest : (l : Limits) (g : Flat) → HaveNone g → AllByRecursion (Rests l g) g.plans
    → AllByRecursion (Rests l (purged g)) (purged g).plans
purged_rest l g none rests = all_weaker (Rests l g) (Rests l (purged g)) (one_purged l g none) g.plans rests

-- ## A state in which all rests

filter_all : {X : Type 0} (p : X → Bool) (xs : List X) → All (λ x. p x ≡ true) xs → filter p xs ≡ xs
filter_all p [] all = refl
filter_all p (x ∷ xs) all = rw (All-head (λ y. p y ≡ true) x xs all) (ap (λ ys. x ∷ ys)
    (filter_all p xs (All-tail (λ y. p y ≡ true) x xs all)))

pub is_settled : (l : Limits) (g : Flat) → AllByRecursion (Rests l g) g.plans → AreStill g.plans g.dues
    → All (λ (plan : Plan). stays plan ≡ true) g.plans → settled l g ≡ g
is_settled l g rests still stay =
    ap (λ (end : Turns). tidied end.flat end.plans) (all_still l g g.plans rests)
    ∙ ap (λ (plans : List Plan). record g { plans = plans; dues = filter (λ (due : Due). is_due_still plans due.kind) g.dues })
    (filter_all stays g.plans stay)
    ∙ ap (λ (dues : List Due). record g { dues = dues }) (filter_all (λ (due : Due). is_due_still g.plans due.kind) g.dues still)
