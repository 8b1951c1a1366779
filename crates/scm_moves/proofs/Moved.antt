-- The law of moves.
use Rattle.std.proofs.Common.{ℕ, ◌≡◌, ◌⊎◌, ◌∙◌, ◌<◌, ◌≤◌, ◌==◌, Bool, true, false, cond, not, IsTrue, List, [], ◌∷◌, Option, None, Some}
use Rattle.std.proofs.Common.{filter, map, get_or, ap, sym, refl, subst, arith, eqb-true, inl, inr}
use Rattle.std.specs.Prelude.{All, is_some}
use Rattle.std.specs.List.{AllZip}
use Rattle.std.proofs.lemmas.Bool.{and_parts}
use Rattle.std.proofs.lemmas.List.Elements.{All-cons, All-filter, All-head, All-map, All-nil, All-tail, All-weaker}
use Rattle.scm_model.specs.declared.flat.Flat.{Flat}
use Rattle.scm_model.specs.declared.flat.Limits.{Limits}
use Rattle.scm_model.specs.declared.flat.Process.{Process}
use Rattle.scm_model.specs.declared.flat.Service.{Service}
use Rattle.scm_model.specs.declared.flat.Status.{Status}
use Rattle.scm_model.specs.declared.steps.Answer.{Answer}
use Rattle.scm_model.specs.declared.steps.Answer.TheVariants as answer
use Rattle.scm_model.specs.declared.steps.Step.{Step}
use Rattle.scm_model.specs.declared.steps.Step.TheVariants.{Ended, LaunchFailed}
use Rattle.scm_model.specs.Changes.{with_moment}
use Rattle.scm_model.specs.Purge.{leaves, purged}
use Rattle.start_plan.specs.Decided.{code_of}
use Rattle.start_plan.specs.Hosting.{HasOwnOrHost, IsHosted}
use Rattle.start_plan.specs.Settle.{settled}
use Rattle.scm_rules.specs.Steps.{at_moment, effect_of, finished, finished_step, left_by, may, step_of}
use Rattle.scm_rules.specs.Ends.{with_end}
use Rattle.scm_rules.specs.Launches.{currents, fallen_if, is_by, is_launched, process_of, with_fallen}
use Rattle.scm_rules.specs.Valid.{IsValid, has_process}
use Rattle.scm_runs.proofs.Calls.{before_sound, of_effect}
use Rattle.scm_runs.proofs.Effects.{process_up, step_settled}
use Rattle.scm_runs.proofs.Failing.{all_failing_rows}
use Rattle.scm_runs.proofs.Frames.{finished_keeps}
use Rattle.scm_runs.proofs.Hosted.{have_none, hosted_purged}
use Rattle.scm_runs.proofs.Leaving.{without_it}
use Rattle.scm_runs.proofs.Lists.{found_has, found_passes}
use Rattle.scm_runs.proofs.Processes.{no_current, not_in}
use Rattle.scm_runs.proofs.Rows.{fallen_either}
use Rattle.scm_runs.proofs.Settling.{AreSettled, IsSettled as IsListed}
use Rattle.scm_runs.proofs.Sound.{Sound}
use Rattle.scm_runs.proofs.Wanted.{taken_listed}
use Rattle.scm_moves.specs.Moves.{HasMoved, IsStartedAnew, code_of_end}
use Rattle.scm_moves.proofs.Entered.{IsSettled, rows_hosted, rows_settled}
use Rattle.scm_moves.proofs.Own.{HasOwn, own_effect}

-- ## Services when plans are settled

-- by a new process, or by a host, also if numbers from a lower one on count as new
lower : (f g : Flat) (new : Service) → f.next.process ≤ g.next.process → (h : Flat) → (g.next.process ≤ new.process) ⊎ IsHosted h new
    → (f.next.process ≤ new.process) ⊎ IsHosted h new
lower f g new up h (inl top) = inl (omega (arith, up, top))
lower f g new up h (inr is) = inr is

one_moved : (f g h : Flat) (step : Step) (between new : Service) → f.next.process ≤ g.next.process → HasOwn f step between
    → IsSettled between new → HasOwnOrHost g.next.process h between new → HasMoved f step h new
one_moved f g h step between new up own (inl same) by =
    λ k d lt e. record {
      between = between.status;
      own = own k d lt (e ∙ ap (λ (r : Service). r.number) same);
      later = inl (ap (λ (r : Service). r.status) same);
    }
one_moved f g h step between new up own (inr is) (inl same) =
    λ k d lt e. record {
      between = between.status;
      own = own k d lt (e ∙ ap (λ (r : Service). r.number) same);
      later = inl (ap (λ (r : Service). r.status) same);
    }
one_moved f g h step between new up own (inr is) (inr by) =
    λ k d lt e. record {
      between = between.status;
      own = own k d lt (e ∙ ap (λ (r : Service). r.number) is.entered);
      later = inr (record {
        stopped = is.stopped;
        pending = ap (λ (r : Service). r.status) is.entered;
        process = lower f g new up h by;
      });
    }

all_moved : (f g h : Flat) (step : Step) (betweens news : List Service) → f.next.process ≤ g.next.process → All (HasOwn f step) betweens
    → AllZip IsSettled betweens news → AllZip (HasOwnOrHost g.next.process h) betweens news → All (HasMoved f step h) news
all_moved f g h step [] [] up own is by = All-nil (HasMoved f step h)
all_moved f g h step [] (new ∷ news) up own is by = absurd is
all_moved f g h step (between ∷ betweens) [] up own is by = absurd is
all_moved f g h step (between ∷ betweens) (new ∷ news) up own is by =
    All-cons (HasMoved f step h) new news (one_moved f g h step between new up (All-head (HasOwn f step) between betweens own) is.0 by.0)
    (all_moved f g h step betweens news up (All-tail (HasOwn f step) between betweens own) is.1 by.1)

-- ## Where hosts stay hosts

later_by : (f g h : Flat) (between : Status) (new : Service) → (IsHosted g new → IsHosted h new)
    → (new.status ≡ between) ⊎ IsStartedAnew f between new g → (new.status ≡ between) ⊎ IsStartedAnew f between new h
later_by f g h between new keeps (inl same) = inl same
later_by f g h between new keeps (inr is) =
    inr (record { stopped = is.stopped; pending = is.pending; process = by is.process })
  where
    by : (f.next.process ≤ new.process) ⊎ IsHosted g new → (f.next.process ≤ new.process) ⊎ IsHosted h new
    by (inl up) = inl up
    by (inr hosted) = inr (keeps hosted)

moved_by : (f g h : Flat) (step : Step) (new : Service) → (IsHosted g new → IsHosted h new) → HasMoved f step g new → HasMoved f step h new
moved_by f g h step new keeps was k d lt e =
    let is = was k d lt e in
    record { between = is.between; own = is.own; later = later_by f g h is.between new keeps is.later }

-- ## Steps

left_services : (g : Flat) (plan : ℕ) (code : Option ℕ) → (left_by g plan code).services ≡ g.services
left_services g plan None = refl
left_services g plan (Some code) = refl

pub finished_services : (g : Flat) (told : Answer) → (finished g told).flat.services ≡ g.services
finished_services g (answer.Begun plan) = left_services g plan (code_of g.plans plan)
finished_services g told = refl

pub moved : (l : Limits) (f : Flat) (moment : ℕ) (step : Step) → Sound f → IsValid l f → IsTrue (may l f moment step)
    → All (HasMoved f step (step_of l f moment step).flat) (step_of l f moment step).flat.services
moved l f moment step s v ok =
    let done = effect_of l (at_moment f moment step) step in
    let g = settled l done.flat in
    let before = (finished_step l f moment step).flat in
    let is = all_moved f done.flat g step done.flat.services g.services (process_up l f moment step) (own_effect l f moment step v ok)
    (rows_settled l done.flat) (rows_hosted l done.flat (of_effect l f moment step s ok)) in
    let finished = finished_keeps (λ (h : Flat). All (HasMoved f step h) h.services)
    (λ h plans all. All-weaker (HasMoved f step h) (HasMoved f step (record h { plans = plans }))
    (λ row. moved_by f h (record h { plans = plans }) step row (λ is. record { sharing = is.sharing; beside = is.beside })) h.services all)
    g done.answer is in
    let none = have_none before (before_sound l f moment step s ok) in
    All-filter (λ (row : Service). not (leaves before.handles row)) (HasMoved f step (step_of l f moment step).flat) before.services
    (All-weaker (HasMoved f step before) (HasMoved f step (purged before))
    (λ row. moved_by f before (purged before) step row (hosted_purged before row none)) before.services finished)

-- ## Processes that end

fallen_out : (process code : ℕ) (rows : List Service) → All (λ (row : Service). is_by process row ≡ false)
    (map (fallen_if process code) rows)
fallen_out process code rows =
    All-map (λ (row : Service). is_by process row ≡ false) (fallen_if process code) rows
    (λ k d lt. fallen_either (λ new. is_by process new ≡ false) process code (get_or rows k d) (λ by. no_current process) (λ out. out))

one_of : (b : Bool) (code : ℕ) → is_some (cond b (Some code) None) ≡ true → b ≡ true
one_of true code h = refl
one_of false code h = absurd cc

-- no service has it once its services have fallen
ended_effect : (l : Limits) (f : Flat) (moment : ℕ) (step : Step) (number : ℕ) → is_some (code_of_end step number) ≡ true
    → All (λ (row : Service). is_by number row ≡ false) (effect_of l (at_moment f moment step) step).flat.services
ended_effect l f moment (LaunchFailed process code) number is =
    subst (λ n. All (λ (row : Service). is_by n row ≡ false) (map (fallen_if process code) f.services))
    (eqb-true process number (one_of (process == number) code is)) (fallen_out process code f.services)
ended_effect l f moment (Ended process) number is =
    subst (λ n. All (λ (row : Service). is_by n row ≡ false) (with_end (with_moment f moment) process).services)
    (eqb-true process number (one_of (process == number) 1067 is))
    (all_failing_rows (λ (row : Service). is_by process row ≡ false) (λ row failures last out. out) (currents process f.services)
    (with_fallen (with_moment f moment) process 1067) (fallen_out process 1067 f.services))
ended_effect l f moment step number is = absurd cc

-- a process that ends is listed, and lies below the next number
listed_low : (l : Limits) (f : Flat) (number : ℕ) (found : Option Process) → IsValid l f → process_of f number ≡ found
    → is_some found ≡ true
    → number < f.next.process
listed_low l f number None v e there = absurd cc
listed_low l f number (Some row) v e there =
    let is = eqb-true row.number number (found_passes (λ (r : Process). r.number == number) row f.processes e) in
    let low = found_has (λ (r : Process). r.number < f.next.process) (λ (r : Process). r.number == number) row f.processes v.processes.below
    e in
    omega (arith, is, low)

launched_there : (found : Option Process) → is_launched found ≡ true → is_some found ≡ true
launched_there None h = absurd cc
launched_there (Some row) h = refl

ended_low : (l : Limits) (f : Flat) (moment : ℕ) (step : Step) (number : ℕ) → IsValid l f → IsTrue (may l f moment step)
    → is_some (code_of_end step number) ≡ true → number < f.next.process
ended_low l f moment (LaunchFailed process code) number v ok is =
    subst (λ n. n < f.next.process) (eqb-true process number (one_of (process == number) code is))
    (listed_low l f process (process_of f process) v refl (taken_listed (process_of f process) (and_parts _ _ (and_parts _ _ ok).0).0))
ended_low l f moment (Ended process) number v ok is =
    subst (λ n. n < f.next.process) (eqb-true process number (one_of (process == number) 1067 is))
    (listed_low l f process (process_of f process) v refl (launched_there (process_of f process) (and_parts _ _ ok).0))
ended_low l f moment step number v ok is = absurd cc

-- it is listed no more
ended_unlisted : (l : Limits) (f : Flat) (moment : ℕ) (step : Step) (number : ℕ) → is_some (code_of_end step number) ≡ true
    → has_process (effect_of l (at_moment f moment step) step).flat.processes number ≡ false
ended_unlisted l f moment (LaunchFailed process code) number is =
    subst (λ n. has_process (filter (λ (row : Process). not (row.number == process)) f.processes) n ≡ false)
    (eqb-true process number (one_of (process == number) code is)) (without_it process f.processes)
ended_unlisted l f moment (Ended process) number is =
    subst (λ n. has_process (filter (λ (row : Process). not (row.number == process)) (with_end (with_moment f moment) process).processes) n
    ≡ false) (eqb-true process number (one_of (process == number) 1067 is))
    (without_it process (with_end (with_moment f moment) process).processes)
ended_unlisted l f moment step number is = absurd cc

-- and a service that is entered has a process that is new, or listed
ended_settled : (number next bound : ℕ) (listed : List Process) (mids news : List Service) → number < next
    → has_process listed number ≡ false → All (λ (row : Service). is_by number row ≡ false) mids
    → AreSettled next bound listed mids news → All (λ (row : Service). is_by number row ≡ false) news
ended_settled number next bound listed [] [] low gone out is = All-nil (λ (row : Service). is_by number row ≡ false)
ended_settled number next bound listed [] (new ∷ news) low gone out is = absurd is
ended_settled number next bound listed (mid ∷ mids) [] low gone out is = absurd is
ended_settled number next bound listed (mid ∷ mids) (new ∷ news) low gone out is =
    All-cons (λ (row : Service). is_by number row ≡ false) new news
    (one_out mid new (All-head (λ (row : Service). is_by number row ≡ false) mid mids out) is.0)
    (ended_settled number next bound listed mids news low gone (All-tail (λ (row : Service). is_by number row ≡ false) mid mids out) is.1)
  where
    other : (process : ℕ) → (next ≤ process) ⊎ (has_process listed process ≡ true) → process ≡ number → ⊥
    other process (inl up) same = omega (arith, up, same, low)
    other process (inr there) same =
        let is : has_process listed number ≡ true = subst (λ n. has_process listed n ≡ true) same there in cc

    one_out : (mid new : Service) → is_by number mid ≡ false → IsListed next bound listed mid new
        → is_by number new ≡ false
    one_out mid new out (inl same) = ap (is_by number) same ∙ out
    one_out mid new out (inr entered) = not_in new.process number (other new.process entered.process)

pub ended : (l : Limits) (f : Flat) (moment : ℕ) (step : Step) (number : ℕ) → Sound f → IsValid l f → IsTrue (may l f moment step)
    → is_some (code_of_end step number) ≡ true
    → All (λ (row : Service). is_by number row ≡ false) (step_of l f moment step).flat.services
ended l f moment step number s v ok is =
    let done = effect_of l (at_moment f moment step) step in
    All-filter (λ (row : Service). not (leaves (finished_step l f moment step).flat.handles row))
    (λ (row : Service). is_by number row ≡ false) (finished_step l f moment step).flat.services
    (subst (λ services. All (λ (row : Service). is_by number row ≡ false) services)
    (sym (finished_services (settled l done.flat) done.answer))
    (ended_settled number f.next.process f.next.service done.flat.processes done.flat.services (settled l done.flat).services
    (ended_low l f moment step number v ok is) (ended_unlisted l f moment step number is) (ended_effect l f moment step number is)
    (step_settled l f moment step s ok)))
