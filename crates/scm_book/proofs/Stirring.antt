-- A step that doesn't ring the common bell leaves those that wait at it waiting, and what they wait for as it is if it takes nothing.
use Rattle.std.proofs.Common.{ℕ, ◌≡◌, ◌∙◌, ◌==◌, ◌||◌, ◌&&◌, Bool, true, false, not, cond, List, [], ◌∷◌, Option, None, Some, filter, find}
use Rattle.std.proofs.Common.{ap, sym, refl, subst, inl, inr, eqb-true, length, map}
use Rattle.std.proofs.lemmas.Bool.{not-true}
use Rattle.std.proofs.lemmas.List.{length-map}
use Rattle.std.specs.Prelude.{is_none, is_some, nat_le, option_and_then, option_map}
use Rattle.std.specs.List.{AllByRecursion, list_all, list_any}
use Rattle.std.specs.Cmp.Lexicographic.{pointwise}
use Rattle.scm_text.specs.Fold.{same_text}
use Rattle.scm_text.specs.Numbers.{has}
use Rattle.scm_model.specs.declared.calls.Request.{Request}
use Rattle.scm_model.specs.declared.calls.Request.TheVariants as request
use Rattle.scm_model.specs.declared.codes.TheConstants.{ERROR_SERVICE_DEPENDENCY_FAIL, ERROR_SERVICE_DISABLED}
use Rattle.scm_model.specs.declared.codes.TheConstants.{ERROR_SERVICE_MARKED_FOR_DELETE, ERROR_SERVICE_NO_THREAD, SERVICE_DISABLED}
use Rattle.scm_model.specs.declared.codes.TheConstants.{SERVICE_RUNNING, SERVICE_STOPPED}
use Rattle.scm_model.specs.declared.flat.Flat.{Flat}
use Rattle.scm_model.specs.declared.flat.Limits.{Limits}
use Rattle.scm_model.specs.declared.flat.Need.{Need}
use Rattle.scm_model.specs.declared.flat.Need.TheVariants as needs
use Rattle.scm_model.specs.declared.flat.Order.{Order}
use Rattle.scm_model.specs.declared.flat.Phase.TheVariants as phases
use Rattle.scm_model.specs.declared.flat.Plan.{Plan}
use Rattle.scm_model.specs.declared.flat.Process.{Process}
use Rattle.scm_model.specs.declared.flat.Service.{Service}
use Rattle.scm_model.specs.declared.flat.Wanted.{Wanted}
use Rattle.scm_model.specs.declared.steps.Kept.{Kept}
use Rattle.scm_model.specs.declared.steps.Step.{Step}
use Rattle.scm_model.specs.declared.steps.Step.TheVariants.{Joined, Call, ControlTaken, EndStart, LaunchTaken, NoMemory}
use Rattle.scm_model.specs.Changes.{with_moment}
use Rattle.scm_model.specs.Entries.{Entry, with_kept}
use Rattle.scm_model.specs.Found.{if_found}
use Rattle.scm_model.specs.Processes.{is_shared, process_of}
use Rattle.scm_model.specs.Ready.{is_fulfilled, is_ready, is_running, is_up, state_in}
use Rattle.scm_model.specs.Refused.{first_refusal}
use Rattle.scm_model.specs.Rows.{named, service_of}
use Rattle.start_plan.specs.Decided.{code_of, is_numbered, without_plan}
use Rattle.start_plan.specs.Moves.{cause_at, entering_at, is_pending, move_by, move_of}
use Rattle.start_plan.specs.Hosts.{host_at, is_sharing, offers}
use Rattle.start_plan.specs.Settle.{Turns, settle_all, settled, stays}
use Rattle.start_plan.specs.declared.settling.Move.{Move}
use Rattle.start_plan.specs.declared.settling.Move.TheVariants as moves
use Rattle.start_plan.proofs.Keeps.{all_filter}
use Rattle.scm_rules.specs.Controls.{control_sent, dequeued_if, dequeued_in, first_asked, next_order, unasked_if, unasked_in}
use Rattle.scm_rules.specs.Histories.{state}
use Rattle.scm_rules.specs.Launches.{first_wanted, launch_told, taken_if, wanted_of_others}
use Rattle.scm_rules.specs.Steps.{at_moment, call_answer, effect_of, finished, finished_step, step_of, tells_plan, wants_launch}
use Rattle.scm_rules.specs.Verdicts.{call_of, done_of, told_refused, verdict}
use Rattle.scm_runs.proofs.Along.{at_end}
use Rattle.scm_runs.proofs.Calls.{by_verdict}
use Rattle.scm_runs.proofs.Clear.{Clear, clear_begun, clear_keeps}
use Rattle.scm_runs.proofs.Founds.{opened_keeps}
use Rattle.scm_runs.proofs.Histories.{legal_made, state_is}
use Rattle.scm_runs.proofs.Lists.{filter_twice, find_filter}
use Rattle.scm_runs.proofs.Plans.{all_weaker}
use Rattle.scm_runs.proofs.Processes.{shared_map}
use Rattle.scm_runs.proofs.Rests.{Rests, RestsAt, all_still, settled_rest}
use Rattle.scm_runs.proofs.Rows.{unasked_or}
use Rattle.scm_runs.proofs.Sound.{controls_fewer}
use Rattle.scm_history.proofs.Finds.{found_map}
use Rattle.scm_history.proofs.Processes.{takes}
use Rattle.book_rule.specs.declared.view.Opening.{Opening}
use Rattle.scm_book.specs.Holds.{Runs}
use Rattle.scm_book.specs.Ringing.{IsAwaitedSo, StirsNobody, WaitsOn, is_quiet, rings_common, takes_nothing}

-- ## What plans look at

-- other processes, but as many, and services that differ in what is asked
abbrev beside : Flat → List Service → List Process → Flat
beside f services processes = record f { services = services; processes = processes }

-- a plan's move by the service that was found
abbrev move_at : Limits → Flat → List ℕ → ℕ → Option Service → Move
move_at l f tried service found =
    cond (state_in found == SERVICE_RUNNING) moves.Passes
    (cond (is_pending (state_in found)) moves.Waits (move_by (entering_at (cause_at l f (has tried service) found) (is_some f.lock))))

-- by what is ready, how many processes are listed, and what the host is
abbrev cause_by : Limits → Service → Bool → Bool → ℕ → Option ℕ → ℕ
cause_by l row is_tried ready count host = first_refusal (
    (row.marked, ERROR_SERVICE_MARKED_FOR_DELETE)
    ∷ (row.config.start == SERVICE_DISABLED, ERROR_SERVICE_DISABLED)
    ∷ (not ready || not (row.status.state == SERVICE_STOPPED) || is_tried, ERROR_SERVICE_DEPENDENCY_FAIL)
    ∷ (nat_le l.processes count && is_none host, ERROR_SERVICE_NO_THREAD)
    ∷ [])

module _ (l : Limits) (f : Flat) (services : List Service) (processes : List Process) (many : length processes ≡ length f.processes)
    (ready : (row : Service) → is_ready (beside f services processes) row ≡ is_ready f row)
    (hosts : (row : Service) → host_at (beside f services processes) (Some row) ≡ host_at f (Some row)) where
  cause_same : (is_tried : Bool) (found : Option Service)
      → cause_at l (beside f services processes) is_tried found ≡ cause_at l f is_tried found
  cause_same is_tried None = refl
  cause_same is_tried (Some row) =
      let host = host_at (beside f services processes) (Some row) in
      ap (λ (is : Bool). cause_by l row is_tried is (length processes) host) (ready row)
      ∙ ap (λ (count : ℕ). cause_by l row is_tried (is_ready f row) count host) many
      ∙ ap (cause_by l row is_tried (is_ready f row) (length f.processes)) (hosts row)

  move_same : (tried : List ℕ) (service : ℕ) (found : Option Service)
      → move_at l (beside f services processes) tried service found ≡ move_at l f tried service found
  move_same tried service found =
      ap (λ (cause : ℕ). cond (state_in found == SERVICE_RUNNING) moves.Passes
      (cond (is_pending (state_in found)) moves.Waits (move_by (entering_at cause (is_some f.lock)))))
      (cause_same (has tried service) found)

-- ## Processes that are shared as they were

module _ (f : Flat) (processes : List Process) (shared : (n : ℕ)
    → is_shared (find (λ (row : Process). row.number == n) processes) ≡ is_shared (process_of f n)) where
  offers_same : (path : List ℕ) (row : Service) → offers (beside f f.services processes) path row ≡ offers f path row
  offers_same path row = ap (λ (b : Bool). is_sharing row && pointwise ◌==◌ row.config.path path && b) (shared row.process)

  first_same : (path : List ℕ) (rows : List Service)
      → find (offers (beside f f.services processes) path) rows ≡ find (offers f path) rows
  first_same path [] = refl
  first_same path (row ∷ rows) =
      ap (λ (b : Bool). cond b (Some row) (find (offers (beside f f.services processes) path) rows)) (offers_same path row)
      ∙ ap (cond (offers f path row) (Some row)) (first_same path rows)

  -- so hosts are as they were
  hosts_same : (row : Service) → host_at (beside f f.services processes) (Some row) ≡ host_at f (Some row)
  hosts_same row =
      ap (λ (found : Option Service). cond (is_sharing row) (option_map (λ (other : Service). other.process) found) None)
      (first_same row.config.path f.services)

shared_taken : (found : Option ℕ) (n : ℕ) (rows : List Process)
    → is_shared (find (λ (row : Process). row.number == n) (if_found (λ process. map (taken_if process)) found rows))
    ≡ is_shared (find (λ (row : Process). row.number == n) rows)
shared_taken None n rows = refl
shared_taken (Some process) n rows = shared_map (taken_if process) (takes process).number_same
    (λ row. elim (row.number == process) as (λ b. (cond b (record row { phase = phases.Taken }) row).shared ≡ row.shared)
    [ true ↦ refl | false ↦ refl ]) n rows

shared_dequeued : (process n : ℕ) (rows : List Process)
    → is_shared (find (λ (row : Process). row.number == n) (map (dequeued_if process) rows))
    ≡ is_shared (find (λ (row : Process). row.number == n) rows)
shared_dequeued process n rows = shared_map (dequeued_if process)
    (λ row. ap (λ (r : Process). r.number) (controls_fewer process row))
    (λ row. ap (λ (r : Process). r.shared) (controls_fewer process row)) n rows

-- ## A service that is asked no more

lives_still : (number : ℕ) (found : Option Service)
    → option_map (λ (row : Service). row.process) (option_map (unasked_if number) found) ≡ option_map (λ (row : Service). row.process) found
lives_still number None = refl
lives_still number (Some row) = unasked_or (λ new. Some new.process ≡ Some row.process) number row refl refl

still_up : (number : ℕ) (found : Option Service) → is_up (option_map (unasked_if number) found) ≡ is_up found
still_up number None = refl
still_up number (Some row) = unasked_or (λ new. is_up (Some new) ≡ is_up (Some row)) number row refl refl

running_too : (new row : Service) (news rows : List Service) (b : Bool) → is_running new ≡ is_running row
    → list_any is_running news ≡ list_any is_running rows
    → list_any is_running (cond b (new ∷ news) news) ≡ list_any is_running (cond b (row ∷ rows) rows)
running_too new row news rows true here later = ap (λ b. b || list_any is_running news) here ∙ ap (λ b. is_running row || b) later
running_too new row news rows false here later = later

still_running : (number : ℕ) (group : List ℕ) (rows : List Service)
    → list_any is_running (filter (λ (row : Service). same_text row.config.group group) (map (unasked_if number) rows))
    ≡ list_any is_running (filter (λ (row : Service). same_text row.config.group group) rows)
still_running number group [] = refl
still_running number group (row ∷ rows) =
    let p = λ (row : Service). same_text row.config.group group in
    let news = filter p (map (unasked_if number) rows) in
    let later : list_any is_running news ≡ list_any is_running (filter p rows) = still_running number group rows in
    unasked_or (λ new. list_any is_running (cond (p new) (new ∷ news) news) ≡ list_any is_running (filter p (row ∷ rows))) number row
    (running_too (record row { asked = false }) row news (filter p rows) (p row) refl later)
    (running_too row row news (filter p rows) (p row) refl later)

-- a state in which it is
abbrev without_asking : Flat → ℕ → Flat
without_asking f number = beside f (map (unasked_if number) f.services) f.processes

module _ (f : Flat) (number : ℕ) where
  need_same : (need : Need) → is_fulfilled (without_asking f number) need ≡ is_fulfilled f need
  need_same (needs.Service name) =
      ap is_up (found_map (λ (row : Service). same_text row.config.name name) (unasked_if number)
      (λ row. unasked_or (λ new. same_text new.config.name name ≡ same_text row.config.name name) number row refl refl) f.services)
      ∙ still_up number (named f name)
  need_same (needs.Group group) = still_running number group f.services

  needs_same : (needed : List Need) → list_all (is_fulfilled (without_asking f number)) needed ≡ list_all (is_fulfilled f) needed
  needs_same [] = refl
  needs_same (need ∷ needed) =
      ap (λ b. b && list_all (is_fulfilled (without_asking f number)) needed) (need_same need)
      ∙ ap (λ b. is_fulfilled f need && b) (needs_same needed)

  hosts_still : (row : Service) → host_at (without_asking f number) (Some row) ≡ host_at f (Some row)
  hosts_still row =
      let process = λ (other : Service). other.process in
      ap (λ (host : Option ℕ). cond (is_sharing row) host None)
      (ap (option_map process) (found_map (offers f row.config.path) (unasked_if number)
      (λ other. unasked_or (λ new. offers f row.config.path new ≡ offers f row.config.path other) number other refl refl) f.services)
      ∙ lives_still number (find (offers f row.config.path) f.services))

  moves_unasked : (l : Limits) (tried : List ℕ) (service : ℕ)
      → move_of l (without_asking f number) tried service ≡ move_of l f tried service
  moves_unasked l tried service =
      let g = without_asking f number in
      ap (move_at l g tried service) (found_map (λ (row : Service). row.number == service) (unasked_if number)
      (λ row. unasked_or (λ new. (new.number == service) ≡ (row.number == service)) number row refl refl) f.services)
      ∙ asked_or_not l g tried service (service_of f service)
      ∙ move_same l f (map (unasked_if number) f.services) f.processes refl (λ row. needs_same row.config.needs) hosts_still tried service
      (service_of f service)
    where
      asked_or_not : (l : Limits) (g : Flat) (tried : List ℕ) (service : ℕ) (found : Option Service)
          → move_at l g tried service (option_map (unasked_if number) found) ≡ move_at l g tried service found
      asked_or_not l g tried service None = refl
      asked_or_not l g tried service (Some row) =
          unasked_or (λ new. move_at l g tried service (Some new) ≡ move_at l g tried service (Some row)) number row refl refl

-- ## What is waited for

-- an undecided plan stays
undecided_stays : (plans : List Plan) (number : ℕ) → code_of plans number ≡ None → code_of (filter stays plans) number ≡ None
undecided_stays [] number none = refl
undecided_stays (plan ∷ plans) number none =
    elim (is_numbered number plan) as (λ b. is_numbered number plan ≡ b
    → option_and_then (λ (row : Plan). row.code) (cond b (Some plan) (find (is_numbered number) plans)) ≡ None
    → code_of (cond (stays plan) (plan ∷ filter stays plans) (filter stays plans)) number ≡ None) [
      | true ↦ λ e undecided. (let stay : stays plan ≡ true = ap (λ (code : Option ℕ). not (is_some code && plan.caller == 0)) undecided in
          rw (stay, e) undecided)
      | false ↦ λ e rest. elim (stays plan) as (λ b. code_of (cond b (plan ∷ filter stays plans) (filter stays plans)) number ≡ None)
          [ true ↦ rw e (undecided_stays plans number rest) | false ↦ undecided_stays plans number rest ]
    ] refl none

-- a plan that left isn't found
none_left : (number : ℕ) (plans : List Plan) → find (is_numbered number) (without_plan plans number) ≡ None
none_left number [] = refl
none_left number (plan ∷ plans) =
    elim (is_numbered number plan) as (λ b. is_numbered number plan ≡ b → find (is_numbered number)
    (cond (not b) (plan ∷ without_plan plans number) (without_plan plans number)) ≡ None)
    [ true ↦ λ e. none_left number plans | false ↦ λ e. rw e (none_left number plans) ] refl

-- and the others are found as they were
apart : (number one : ℕ) → (number == one) ≡ false → (plan : Plan) → is_numbered number plan ≡ true → not (is_numbered one plan) ≡ true
apart number one other plan is = ap not (ap (λ (n : ℕ). n == one) (eqb-true plan.number number is) ∙ other)

undecided_left : (plans : List Plan) (one number : ℕ) → code_of plans number ≡ None → code_of (without_plan plans one) number ≡ None
undecided_left plans one number none =
    elim (number == one) as (λ b. (number == one) ≡ b → code_of (without_plan plans one) number ≡ None) [
      | true ↦ λ e. subst (λ (n : ℕ). code_of (without_plan plans n) number ≡ None) (eqb-true number one e)
          (ap (option_and_then (λ (row : Plan). row.code)) (none_left number plans))
      | false ↦ λ e. ap (option_and_then (λ (row : Plan). row.code))
          (find_filter (is_numbered number) (λ (row : Plan). not (is_numbered one row)) (apart number one e) plans) ∙ none
    ] refl

none_taken : (rows : List Wanted) → wants_launch rows ≡ false → wants_launch (if_found wanted_of_others (first_wanted rows) rows) ≡ false
none_taken [] none = refl
none_taken (row ∷ rows) none = absurd cc

many_taken : (found : Option ℕ) (rows : List Process) → length (if_found (λ process. map (taken_if process)) found rows) ≡ length rows
many_taken None rows = refl
many_taken (Some process) rows = length-map rows (taken_if process)

-- ## What an effect leaves

-- each service lets plans make the moves that it did, a plan rests if it did, and those that wait on plans and launches still do
pub record Leaves (l : Limits) (f g : Flat) : Type 0 where
  moves : (tried : List ℕ) (service : ℕ) → move_of l g tried service ≡ move_of l f tried service
  rest : AllByRecursion (Rests l f) f.plans → AllByRecursion (Rests l f) g.plans
  waits : WaitsOn f g

module _ (l : Limits) (f g : Flat) (moves : (tried : List ℕ) (service : ℕ) → move_of l g tried service ≡ move_of l f tried service) where
  rests_at : (plan : Plan) (entries : List ℕ) → RestsAt l f plan entries → RestsAt l g plan entries
  rests_at plan [] rests = tt
  rests_at plan (x ∷ xs) rests = moves plan.tried x ∙ rests

  rests_too : (plan : Plan) → Rests l f plan → Rests l g plan
  rests_too plan (inl decided) = inl decided
  rests_too plan (inr rests) = inr (rests_at plan plan.entries rests)

-- plans that rest go on resting
pub still : (l : Limits) (f g : Flat) → Leaves l f g → settled l f ≡ f
    → settle_all l g g.plans ≡ record { flat = g; plans = g.plans; hosted = [] }
still l f g is settled_before =
    let rests : AllByRecursion (Rests l f) f.plans = subst (λ (x : Flat). AllByRecursion (Rests l x) x.plans) settled_before
    (settled_rest l f) in
    all_still l g g.plans (all_weaker (Rests l f) (Rests l g) (rests_too l f g is.moves) g.plans (is.rest rests))

settled_so : (l : Limits) (f g : Flat) → Leaves l f g → settled l f ≡ f → WaitsOn f (settled l g)
settled_so l f g is settled_before =
    let same = still l f g is settled_before in
    record {
      plans = λ plan none. subst (λ (r : Turns). code_of (filter stays r.plans) plan ≡ None) (sym same)
          (undecided_stays g.plans plan (is.waits.plans plan none));
      wanted = λ none. subst (λ (r : Turns). wants_launch r.flat.wanted ≡ false) (sym same) (is.waits.wanted none);
    }

-- ## Effects that take nothing

-- a state with other handles, registrations, callers and next numbers, at another moment
abbrev Alike : Flat → Flat → Type 0
Alike f g = g ≡ record f {
  handles = g.handles;
  registrations = g.registrations;
  callers = g.callers;
  moment = g.moment;
  next = g.next;
}

alike_leaves : (l : Limits) (f g : Flat) → Alike f g → Leaves l f g
alike_leaves l f g is = subst (Leaves l f) (sym is) (record {
  moves = λ tried service. refl;
  rest = λ rests. rests;
  waits = record { plans = λ plan none. none; wanted = λ none. none };
})

-- what is waited for is as it was
settled_alike : (l : Limits) (f g : Flat) → Alike f g → settled l f ≡ f → IsAwaitedSo f (settled l g)
settled_alike l f g is settled_before =
    let same = still l f g (alike_leaves l f g is) settled_before in
    let stay : filter stays f.plans ≡ f.plans = subst (λ (plans : List Plan). filter stays plans ≡ plans)
    (ap (λ (x : Flat). x.plans) settled_before) (filter_twice stays (settle_all l f f.plans).plans) in
    record {
      plans = ap (λ (r : Turns). filter stays r.plans) same ∙ ap (λ (x : Flat). filter stays x.plans) is ∙ stay;
      wanted = ap (λ (r : Turns). r.flat.wanted) same ∙ ap (λ (x : Flat). x.wanted) is;
      processes = ap (λ (r : Turns). r.flat.processes) same ∙ ap (λ (x : Flat). x.processes) is;
    }

done_alike : (l : Limits) (f : Flat) (caller : ℕ) (asked : Request) → not (is_quiet asked) ≡ false → Alike f (done_of l f caller asked).flat
done_alike l f caller (request.QuerySecurity handle parts size) quiet = refl
done_alike l f caller (request.QueryStatus handle) quiet = refl
done_alike l f caller (request.EnumDependents handle states size) quiet = refl
done_alike l f caller (request.EnumServices handle kinds states size resume) quiet = refl
done_alike l f caller (request.OpenManager database access) quiet = refl
done_alike l f caller (request.OpenService handle name access) quiet = opened_keeps (Alike f) f caller name access refl (λ row is. refl)
done_alike l f caller (request.QueryConfig handle size) quiet = refl
done_alike l f caller (request.QueryLock handle size) quiet = refl
done_alike l f caller (request.DisplayName handle name size) quiet = refl
done_alike l f caller (request.KeyName handle name size) quiet = refl
done_alike l f caller (request.QueryConfig2 handle level size) quiet = refl
done_alike l f caller (request.QueryStatusEx handle level size) quiet = refl
done_alike l f caller (request.GetNotify handle) quiet = refl
done_alike l f caller asked quiet = absurd cc

call_alike : (l : Limits) (f : Flat) (caller : ℕ) (asked : Request) (append : Kept) → not (is_quiet asked) ≡ false
    → Alike f (call_of l f caller asked append).flat
call_alike l f caller asked append quiet =
    by_verdict (λ r. Alike f r.flat) (verdict l f caller asked append) (told_refused f caller asked (verdict l f caller asked append)) f
    (done_of l f caller asked)
    (λ e. done_alike l f caller asked quiet) (λ e. refl)

-- with the moment of the step
from_moment : (f g : Flat) (moment : ℕ) → Alike (with_moment f moment) g → Alike f g
from_moment f g moment is = is

-- what takes nothing rings nothing
is_silent : (step : Step) → takes_nothing step ≡ true → rings_common step ≡ false
is_silent (Joined principal) none = refl
is_silent (Call caller asked append) none = not-true (not (is_quiet asked)) none
is_silent (NoMemory caller) none = refl
is_silent step none = absurd cc

effect_alike : (l : Limits) (f : Flat) (moment : ℕ) (step : Step) → takes_nothing step ≡ true
    → Alike f (effect_of l (at_moment f moment step) step).flat
effect_alike l f moment (Joined principal) none = refl
effect_alike l f moment (Call caller asked append) none = from_moment f _ moment
    (call_alike l (with_moment f moment) caller asked append (not-true (not (is_quiet asked)) none))
effect_alike l f moment (NoMemory caller) none = refl
effect_alike l f moment step none = absurd cc

-- ## All that don't ring

-- what is sent next is taken
sent_leaves : (l : Limits) (f : Flat) (moment process : ℕ) (asked : Option Service)
    → Leaves l f (beside (with_moment f moment) (unasked_in asked f.services) (dequeued_in asked process f.processes))
sent_leaves l f moment process None = record {
  moves = λ tried service. move_same l f f.services (map (dequeued_if process) f.processes)
      (length-map f.processes (dequeued_if process)) (λ row. refl)
      (hosts_same f (map (dequeued_if process) f.processes) (λ n. shared_dequeued process n f.processes)) tried service
      (service_of f service);
  rest = λ rests. rests;
  waits = record { plans = λ number none. none; wanted = λ none. none };
}
sent_leaves l f moment process (Some row) = record {
  moves = λ tried service. moves_unasked f row.number l tried service;
  rest = λ rests. rests;
  waits = record { plans = λ number none. none; wanted = λ none. none };
}

pub effect_leaves : (l : Limits) (f : Flat) (moment : ℕ) (step : Step) → rings_common step ≡ false
    → Leaves l f (effect_of l (at_moment f moment step) step).flat
effect_leaves l f moment (EndStart caller plan) quiet = record {
  moves = λ tried service. refl;
  rest = λ rests. all_filter (Rests l f) (λ (row : Plan). not (is_numbered plan row)) f.plans rests;
  waits = record { plans = λ number none. undecided_left f.plans plan number none; wanted = λ none. none };
}
effect_leaves l f moment LaunchTaken quiet =
    let rows = if_found (λ process. map (taken_if process)) (first_wanted f.wanted) f.processes in
    record {
      moves = λ tried service. move_same l f f.services rows (many_taken (first_wanted f.wanted) f.processes) (λ row. refl)
          (hosts_same f rows (λ n. shared_taken (first_wanted f.wanted) n f.processes)) tried service (service_of f service);
      rest = λ rests. rests;
      waits = record { plans = λ number none. none; wanted = λ none. none_taken f.wanted none };
    }
effect_leaves l f moment (ControlTaken process) quiet = sent_leaves l f moment process (first_asked f process)
effect_leaves l f moment (Joined principal) quiet = alike_leaves l f _ refl
effect_leaves l f moment (Call caller asked append) quiet = alike_leaves l f _ (from_moment f _ moment
    (call_alike l (with_moment f moment) caller asked append quiet))
effect_leaves l f moment (NoMemory caller) quiet = alike_leaves l f _ refl
effect_leaves l f moment step quiet = absurd cc

-- ## Steps

-- it begins no plan
begins_none : (asked : Request) (code : ℕ) → not (is_quiet asked) ≡ false → tells_plan asked code ≡ false
begins_none (request.Start handle words) code quiet = absurd cc
begins_none asked code quiet = refl

told_launch : (g : Flat) (found : Option ℕ) → (finished g (launch_told found)).flat ≡ g
told_launch g None = refl
told_launch g (Some process) = refl

told_control : (g : Flat) (found : Option Order) → (finished g (control_sent found)).flat ≡ g
told_control g None = refl
told_control g (Some order) = refl

-- so no start is answered by it after the plans are settled
only_settled : (l : Limits) (f : Flat) (moment : ℕ) (step : Step) → rings_common step ≡ false
    → (finished_step l f moment step).flat ≡ settled l (effect_of l (at_moment f moment step) step).flat
only_settled l f moment (Joined principal) quiet = refl
only_settled l f moment (Call caller asked append) quiet =
    let g = with_moment f moment in
    let done = call_of l g caller asked append in
    ap (λ (begins : Bool). (finished (settled l done.flat) (call_answer begins g.next.plan done.reply)).flat)
    (begins_none asked (verdict l g caller asked append) quiet)
only_settled l f moment (EndStart caller plan) quiet = refl
only_settled l f moment LaunchTaken quiet = told_launch (settled l (effect_of l (at_moment f moment LaunchTaken) LaunchTaken).flat)
    (first_wanted f.wanted)
only_settled l f moment (ControlTaken process) quiet = told_control
    (settled l (effect_of l (at_moment f moment (ControlTaken process)) (ControlTaken process)).flat)
    (next_order (with_moment f moment) process)
only_settled l f moment (NoMemory caller) quiet = refl
only_settled l f moment step quiet = absurd cc

step_waits : (l : Limits) (f : Flat) (moment : ℕ) (step : Step) → settled l f ≡ f → rings_common step ≡ false
    → WaitsOn f (step_of l f moment step).flat
step_waits l f moment step settled_before quiet =
    let g = (effect_of l (at_moment f moment step) step).flat in
    let so = subst (WaitsOn f) (sym (only_settled l f moment step quiet))
    (settled_so l f g (effect_leaves l f moment step quiet) settled_before) in
    record { plans = so.plans; wanted = so.wanted }

step_awaited : (l : Limits) (f : Flat) (moment : ℕ) (step : Step) → settled l f ≡ f → takes_nothing step ≡ true
    → IsAwaitedSo f (step_of l f moment step).flat
step_awaited l f moment step settled_before none =
    let g = (effect_of l (at_moment f moment step) step).flat in
    let so = subst (IsAwaitedSo f) (sym (only_settled l f moment step (is_silent step none)))
    (settled_alike l f g (effect_alike l f moment step none) settled_before) in
    record { plans = so.plans; wanted = so.wanted; processes = so.processes }

-- ## Histories

-- what became of a change plays no part
rings_kept : (step : Step) (append : Kept) → rings_common (with_kept step append) ≡ rings_common step
rings_kept (Call caller asked now) append = refl
rings_kept step append = refl

takes_kept : (step : Step) (append : Kept) → takes_nothing (with_kept step append) ≡ takes_nothing step
takes_kept (Call caller asked now) append = refl
takes_kept step append = refl

-- plans rest behind a legal history
rest_behind : (o : Opening) (log : List Entry) → Runs o log → settled o.limits (state o.limits o.first log) ≡ state o.limits o.first log
rest_behind o log runs =
    subst (λ (f : Flat). settled o.limits f ≡ f) (sym (state_is o.limits o.first log))
    (at_end (Clear o.limits) o.limits (clear_keeps o.limits) o.first log (clear_begun o.limits o.first runs.opens.begins)
    (legal_made o.limits o.first log runs.legal)).settled

pub stirs_nobody : (step : Step) → rings_common step ≡ false → StirsNobody step
stirs_nobody step quiet o log moment append runs =
    let f = state o.limits o.first log in
    let made = with_kept step append in
    record {
      waits = step_waits o.limits f moment made (rest_behind o log runs) (rings_kept step append ∙ quiet);
      awaited = λ none. step_awaited o.limits f moment made (rest_behind o log runs) (takes_kept step append ∙ none);
    }
