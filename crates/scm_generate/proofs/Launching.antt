-- A process of a start is launched, and runs.
use Rattle.std.proofs.Common.{ℕ, ◌≡◌, ◌∙◌, ◌+◌, ◌<◌, ◌≤◌, ◌==◌, ◌&&◌, ◌||◌, ◌⊎◌, inl, inr, Bool, true, false, not, cond, List, [], ◌∷◌}
use Rattle.std.proofs.Common.{◌++◌}
use Rattle.std.proofs.Common.{Option, None, Some, Result, Ok, Err, filter, find, length, length-append, map, ap, sym, refl, subst, arith}
use Rattle.std.proofs.Common.{ne_eqb, eq-eqb, eqb-true}
use Rattle.std.specs.Prelude.{option_map, unwrap_or}
use Rattle.std.proofs.lemmas.List.{map-append}
use Rattle.scm_model.specs.declared.flat.Flat.{Flat}
use Rattle.scm_model.specs.declared.flat.Limits.{Limits}
use Rattle.scm_model.specs.declared.flat.Phase.TheVariants as phases
use Rattle.scm_model.specs.declared.flat.Process.{Process}
use Rattle.scm_model.specs.declared.flat.Service.{Service}
use Rattle.scm_model.specs.declared.flat.Status.{Status}
use Rattle.scm_model.specs.declared.steps.Answer.TheVariants as answer
use Rattle.scm_model.specs.declared.steps.Step.TheVariants.{LaunchTaken, Launched, Report}
use Rattle.start_plan.specs.Decided.{aims_among, decided_in}
use Rattle.start_plan.specs.Entered.{wanted_process, wanted_row}
use Rattle.start_plan.specs.Settle.{stays}
use Rattle.status_machine.specs.Moves.{take_report}
use Rattle.scm_rules.specs.Launches.{currents, is_by, is_launched, is_taken, launched, launched_if, process_of, taken_if, wanted_of_others}
use Rattle.scm_rules.specs.Reports.{is_stopped_by, moved_by, released_by, released_if, report_answer, report_told, reported_if, reporter}
use Rattle.scm_rules.specs.Reports.{reporting}
use Rattle.scm_runs.proofs.Rows.{parts_by}
use Rattle.std.specs.List.{AllByRecursion}
use Rattle.scm_rules.specs.Steps.{finished, may}
use Rattle.scm_generate.specs.Listed.{at_once, told, up}
use Rattle.scm_generate.proofs.Built.{Each, filter_one, find_built, find_right, map_built}
use Rattle.scm_generate.proofs.Goes.{Goes, all_stay, goes_on, goes_one, stepped}
use Rattle.scm_generate.proofs.Settling.{IsAtRest, at_one, decided, decides, pending, plan_with, runs, under_way, waits}
use Rattle.scm_generate.proofs.Shape.{Live, row_at, rows}
use Rattle.scm_generate.proofs.Owned.{IsRun, Owned, stopped}
use Rattle.scm_generate.proofs.Untold.{never_both, report_alone}

-- ## The processes

abbrev pub taken_process : ℕ → ℕ → Process
taken_process number service =
    record { number = number; service = service; shared = false; phase = phases.Taken; pid = 0; controls = [] }

abbrev pub running_process : ℕ → ℕ → Process
running_process number service =
    record { number = number; service = service; shared = false; phase = phases.Launched; pid = number; controls = [] }

-- the processes of these services, the last one's first, from a first number on
abbrev pub ran : (first : ℕ) → List ℕ → List Process
ran first [] = []
ran first (s ∷ done) = ran first done ++ running_process (first + length done) s ∷ []

pub length_ran : (first : ℕ) (done : List ℕ) → length (ran first done) ≡ length done
length_ran first [] = refl
length_ran first (s ∷ done) = length-append (ran first done) (running_process (first + length done) s ∷ [])
    ∙ (let rest = length_ran first done in omega (arith, rest))

-- a number that none of them has
pub none_ran : (first p : ℕ) (done : List ℕ) → first + length done ≤ p → find (λ (row : Process). row.number == p) (ran first done) ≡ None
none_ran first p [] le = refl
none_ran first p (s ∷ done) le =
    find_right (λ (row : Process). row.number == p) (ran first done) (running_process (first + length done) s ∷ [])
    (none_ran first p done (omega (arith, le)))
    ∙ ap (λ b. cond b (Some (running_process (first + length done) s)) None) (ne_eqb (first + length done) p (λ e. omega (arith, e, le)))

pub last_found : (first p : ℕ) (done : List ℕ) (last : Process) → first + length done ≤ p → last.number ≡ p
    → find (λ (row : Process). row.number == p) (ran first done ++ last ∷ []) ≡ Some last
last_found first p done last le is =
    find_right (λ (row : Process). row.number == p) (ran first done) (last ∷ []) (none_ran first p done le)
    ∙ ap (λ b. cond b (Some last) None) (eq-eqb last.number p is)

-- a change of the one with a number leaves the others
same_ran : (change : Process → Process) (first p : ℕ) → ((row : Process) → (row.number == p) ≡ false → change row ≡ row) → (done : List ℕ)
    → first + length done ≤ p → map change (ran first done) ≡ ran first done
same_ran change first p keeps [] le = refl
same_ran change first p keeps (s ∷ done) le =
    map-append change (ran first done) (running_process (first + length done) s ∷ [])
    ∙ ap (λ xs. xs ++ change (running_process (first + length done) s) ∷ []) (same_ran change first p keeps done (omega (arith, le)))
    ∙ ap (λ x. ran first done ++ x ∷ []) (keeps (running_process (first + length done) s)
    (ne_eqb (first + length done) p (λ e. omega (arith, e, le))))

last_changed : (change : Process → Process) (first p : ℕ) (done : List ℕ) (last now : Process)
    → ((row : Process) → (row.number == p) ≡ false → change row ≡ row) → first + length done ≤ p → change last ≡ now
    → map change (ran first done ++ last ∷ []) ≡ ran first done ++ now ∷ []
last_changed change first p done last now keeps le is =
    map-append change (ran first done) (last ∷ []) ∙ ap (λ xs. xs ++ change last ∷ []) (same_ran change first p keeps done le)
    ∙ ap (λ x. ran first done ++ x ∷ []) is

-- ## Steps

pub told_report : (f : Flat) (found : Option Service) (status : Status) → (finished f (report_told found status)).flat ≡ f
told_report f None status = refl
told_report f (Some row) status = elim (take_report row.status status) as (λ (r : Result Status ℕ). (finished f (report_answer r)).flat ≡ f)
    [ Ok now ↦ refl | Err code ↦ refl ]

-- a service reports by its process, which was launched for it
pub reports_by : (f : Flat) (n : ℕ) (look : ℕ → Live) (p s : ℕ) (process : Process) → f.services ≡ rows look n
    → process_of f p ≡ Some process → process.service ≡ s → 0 < p → 0 < s → s ≤ n → (look s).process ≡ p
    → reporting f p 0 ≡ Some (row_at s (look s))
reports_by f n look p s process services found is low some lt own =
    let named : reporter f p 0 ≡ s = ap (λ (o : Option Process). unwrap_or (option_map (λ (row : Process). row.service) o) 0) found ∙ is in
    ap (λ m. find (λ (row : Service). row.number == m && is_by p row) f.services) named
    ∙ ap (find (λ (row : Service). row.number == s && is_by p row)) services
    ∙ find_built (λ (row : Service). row.number == s && is_by p row) [] (λ k. row_at k (look k)) s n some lt refl
    (rw (eq-eqb s s refl) (parts_by p (row_at s (look s)) (ne_eqb p 0 (λ e. omega (arith, e, low))) own))
    (λ k first le other. ap (λ b. b && is_by p (row_at k (look k))) other)

-- another process
pub not_by_it : (p k : ℕ) (live : Live) → (live.process == p) ≡ false → is_by p (row_at k live) ≡ false
not_by_it p k live other = ap (λ b. not (p == 0) && b) other ∙ never_both (not (p == 0))

-- no order waits for them
pub unreleased_ran : (report : Status) (row : Service) (first : ℕ) (done : List ℕ)
    → released_by report row (ran first done) ≡ ran first done
unreleased_ran report row first done =
    elim (is_stopped_by report row) as (λ b. cond b (map (released_if row.process row.number) (ran first done)) (ran first done) ≡
    ran first done) [ true ↦ all_stay_ran row.process row.number first done | false ↦ refl ]
  where
    all_stay_ran : (process service first : ℕ) (done : List ℕ) → map (released_if process service) (ran first done) ≡ ran first done
    all_stay_ran process service first [] = refl
    all_stay_ran process service first (s ∷ done) =
        let last = running_process (first + length done) s in
        map-append (released_if process service) (ran first done) (last ∷ [])
        ∙ ap (λ xs. xs ++ released_if process service last ∷ []) (all_stay_ran process service first done)
        ∙ ap (λ b. ran first done ++ cond b (record last { controls = [] }) last ∷ []) (never_both (first + length done == process))

-- the services while one is being launched, and those before it run
pub record Climbing (n : ℕ) (look : ℕ → Live) (first s : ℕ) (done : List ℕ) : Type 0 where
  pub here : look s ≡ pending (first + length done)
  pub others : (k : ℕ) → (k == s) ≡ false → IsAtRest (look k) ⊎ IsRun first (first + length done) (look k)
  pub above : (k : ℕ) → s < k → IsAtRest (look k)
  pub before : Owned n (at_one look s stopped) first done
  pub below : AllByRecursion (λ x. x < s) done

module _ (l : Limits) (n : ℕ) (look : ℕ → Live) (plan target s : ℕ) (rest tried done : List ℕ) (first due : ℕ) (low : 0 < first)
    (some : 0 < s) (lt : s ≤ n) (climbing : Climbing n look first s done) where
  abbrev p : ℕ
  p = first + length done

  abbrev wanting : Flat
  wanting = under_way n look (ran first done ++ wanted_process p s false ∷ []) (wanted_row p [] ∷ []) plan target (s ∷ rest) tried (p
      + 1) due

  abbrev pub taking : Flat
  taking = under_way n look (ran first done ++ taken_process p s ∷ []) [] plan target (s ∷ rest) tried (p + 1) due

  abbrev pub launching : Flat
  launching = under_way n look (ran first (s ∷ done)) [] plan target (s ∷ rest) tried (p + 1) due

  starting : (look s).status.state ≡ 2
  starting = ap (λ (live : Live). live.status.state) climbing.here

  taken_last : map (taken_if p) (ran first done ++ wanted_process p s false ∷ []) ≡ ran first done ++ taken_process p s ∷ []
  taken_last =
      last_changed (taken_if p) first p done (wanted_process p s false) (taken_process p s)
      (λ row e. ap (λ b. cond b (record row { phase = phases.Taken }) row) e) (omega arith)
      (ap (λ b. cond b (taken_process p s) (wanted_process p s false)) (eq-eqb p p refl))

  pub takes : Goes l wanting (at_once LaunchTaken ∷ []) taking
  takes = goes_one l wanting taking LaunchTaken refl refl
      (stepped l wanting LaunchTaken (record { answer = answer.Launch p; flat = taking }) taking taking
      (ap (λ ps. record {
        answer = answer.Launch p;
        flat = record wanting {
          processes = ps;
          wanted = wanted_of_others p (wanted_row p [] ∷ []);
        };
      }) taken_last
      ∙ ap (λ b. record { answer = answer.Launch p; flat = record taking { wanted = cond (not b) (wanted_row p [] ∷ []) [] } })
      (eq-eqb p p refl))
      (waits l n look (ran first done ++ taken_process p s ∷ []) [] plan target s rest tried (p + 1) due some lt starting)
      refl (all_stay taking look n refl refl))

  found : process_of taking p ≡ Some (taken_process p s)
  found = last_found first p done (taken_process p s) (omega arith) refl

  launched_last : map (launched_if p p) (ran first done ++ taken_process p s ∷ []) ≡ ran first (s ∷ done)
  launched_last =
      last_changed (launched_if p p) first p done (taken_process p s) (running_process p s)
      (λ row e. ap (λ b. cond b (record row { phase = phases.Launched; pid = p }) row) e) (omega arith)
      (ap (λ b. cond b (running_process p s) (taken_process p s)) (eq-eqb p p refl))

  -- the plan is decided where this is its target
  abbrev launched_with : Bool → Flat
  launched_with b = record launching { plans = filter stays (plan_with plan target (s ∷ rest) tried (cond b (Some 0) None) ∷ []) }

  not_its : (k : ℕ) → IsAtRest (look k) ⊎ IsRun first p (look k) → ((look k).process == p) ≡ false
  not_its k (inl still) = let none = still.process in ne_eqb (look k).process p (λ e. omega (arith, e, none, low))
  not_its k (inr run) = let high = run.high in ne_eqb (look k).process p (λ e. omega (arith, e, high))

  own : (look s).process ≡ p
  own = ap (λ (live : Live). live.process) climbing.here

  -- it is the process of one service
  currents_one : currents p (rows look n) ≡ row_at s (look s) ∷ []
  currents_one =
      filter_one (is_by p) (λ k. row_at k (look k)) s n some lt
      (parts_by p (row_at s (look s)) (ne_eqb p 0 (λ e. omega (arith, e, low))) own)
      (λ k first_one le other. not_by_it p k (look k) (not_its k (climbing.others k other)))

  -- the test alone decides an undecided plan
  test_alone : (b : Bool) → ((b || false) && true) ≡ b
  test_alone true = refl
  test_alone false = refl

  launches : (b : Bool) → (target == s) ≡ b → launched taking p p ≡ launched_with b
  launches b is =
      ap (λ ns. record taking {
        processes = map (launched_if p p) (ran first done ++ taken_process p s ∷ []);
        plans = decided_in (aims_among ns) 0 (plan_with plan target (s ∷ rest) tried None ∷ []);
      })
      (ap (map (λ (row : Service). row.number)) currents_one)
      ∙ ap (λ ps. record taking {
        processes = ps;
        plans = decided_in (aims_among (s ∷ [])) 0
            (plan_with plan target (s ∷ rest) tried None ∷ []);
      })
      launched_last
      ∙ ap launched_with (test_alone (target == s) ∙ is)

  may_launch : may l taking 0 (Launched p p) ≡ true
  may_launch = ap (λ o. is_taken o && true) found

  pub goes_up : (target == s) ≡ false → Goes l taking (at_once (Launched p p) ∷ []) launching
  goes_up other = goes_one l taking launching (Launched p p) may_launch refl
      (stepped l taking (Launched p p) (record { answer = answer.Done; flat = launching }) launching launching
      (ap (λ f. record { answer = answer.Done; flat = f }) (launches false other))
      (waits l n look (ran first (s ∷ done)) [] plan target s rest tried (p + 1) due some lt starting)
      refl (all_stay launching look n refl refl))

  abbrev succeeded : Flat
  succeeded = decided n look (ran first (s ∷ done)) plan target (s ∷ rest) tried (p + 1) due

  goes_last : (target == s) ≡ true → Goes l taking (at_once (Launched p p) ∷ []) succeeded
  goes_last this = goes_one l taking succeeded (Launched p p) may_launch refl
      (stepped l taking (Launched p p) (record { answer = answer.Done; flat = launched_with true }) succeeded succeeded
      (ap (λ f. record { answer = answer.Done; flat = f }) (launches true this))
      (decides l n look (ran first (s ∷ done)) plan target s rest tried (p + 1) due)
      refl (all_stay succeeded look n refl refl))

  -- ## It runs

  abbrev running : ℕ → Live
  running = at_one look s (runs p)

  reports_row : Each (λ k. reported_if s (told 4 1) (row_at k (look k)) ≡ row_at k (running k)) n
  reports_row k first_one le =
      elim (k == s) as (λ b. (k == s) ≡ b → reported_if s (told 4 1) (row_at k (look k)) ≡ row_at k (cond b (runs p) (look k))) [
        | true ↦ λ e.
            let is : look k ≡ pending p = subst (λ m. look m ≡ pending p) (sym (eqb-true k s e)) climbing.here in
            ap (λ live. reported_if s (told 4 1) (row_at k live)) is
            ∙ ap (λ b. cond b (moved_by (row_at k (pending p)) (take_report (pending p).status (told 4 1))) (row_at k (pending p))) e
        | false ↦ λ e. ap (λ b. cond b (moved_by (row_at k (look k)) (take_report (look k).status (told 4 1))) (row_at k (look k))) e
      ] refl

  pub reports_all : map (reported_if s (told 4 1)) (rows look n) ≡ rows running n
  reports_all = map_built (reported_if s (told 4 1)) [] (λ k. row_at k (look k)) [] (λ k. row_at k (running k)) n refl reports_row

  pub launched_found : find (λ (row : Process). row.number == p) (ran first (s ∷ done)) ≡ Some (running_process p s)
  launched_found = last_found first p done (running_process p s) (omega arith) refl

  -- whose process it is tells so
  pub reports_of : (f : Flat) → f.services ≡ rows look n → f.processes ≡ ran first (s ∷ done) → reporting f p 0 ≡ Some (row_at s (look s))
  reports_of f services processes =
      reports_by f n look p s (running_process p s) services (ap (find (λ (row : Process). row.number == p)) processes
      ∙ launched_found) refl
      (omega (arith, low)) some lt own

  -- the target runs, and the start is answered yet
  abbrev finished_all : Flat
  finished_all = decided n running (ran first (s ∷ done)) plan target (s ∷ rest) tried (p + 1) due

  runs_last : Goes l succeeded (at_once (Report p 0 (told 4 1)) ∷ []) finished_all
  runs_last = goes_one l succeeded finished_all (Report p 0 (told 4 1)) (ap (λ o. is_launched o && true) launched_found) refl
      (stepped l succeeded (Report p 0 (told 4 1)) (record {
        answer = report_told (reporting succeeded p 0) (told 4 1);
        flat = finished_all;
      })
      finished_all finished_all
      (ap (λ f. record { answer = report_told (reporting succeeded p 0) (told 4 1); flat = f })
      (report_alone succeeded (reporting succeeded p 0) (told 4 1) (row_at s (look s)) (rows running n) refl refl
      (reports_of succeeded refl refl) (unreleased_ran (told 4 1) (row_at s (look s)) first (s ∷ done)) reports_all))
      refl (told_report finished_all (reporting succeeded p 0) (told 4 1)) (all_stay finished_all running n refl refl))

  pub up_last : (target == s) ≡ true → Goes l wanting (up p) finished_all
  up_last this = goes_on l wanting taking finished_all LaunchTaken (at_once (Launched p p) ∷ at_once (Report p 0 (told 4 1)) ∷ []) takes
      (goes_on l taking succeeded finished_all (Launched p p) (at_once (Report p 0 (told 4 1)) ∷ []) (goes_last this) runs_last)
