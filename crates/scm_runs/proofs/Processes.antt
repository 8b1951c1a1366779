-- What is true of processes and wanted launches, and what each change of them keeps.
use Rattle.std.proofs.Common.{ℕ, ◌≡◌, ◌∙◌, ◌+◌, ◌<◌, ◌≤◌, ◌==◌, ◌||◌, ◌&&◌, Bool, true, false, not, cond, List, [], ◌∷◌, ◌++◌, Option, None}
use Rattle.std.proofs.Common.{Some, filter, find, map, get_or, ap, sym, refl, subst, arith, eq-eqb, eqb-true, ne_eqb}
use Rattle.std.specs.Prelude.{All, AllPairs, is_some}
use Rattle.std.specs.List.{list_all, list_any}
use Rattle.std.proofs.lemmas.List.{map-append}
use Rattle.std.proofs.lemmas.List.Elements.{All-filter, All-head, All-map, All-nil, All-push, All-tail, All-weaker, filter-append}
use Rattle.std.proofs.lemmas.List.Elements.{filter_passes}
use Rattle.std.proofs.lemmas.List.Folds.{list_any-append}
use Rattle.scm_model.specs.declared.flat.HandleRow.{HandleRow}
use Rattle.scm_model.specs.declared.flat.Phase.{Phase}
use Rattle.scm_model.specs.declared.flat.Phase.TheVariants as phases
use Rattle.scm_model.specs.declared.flat.Process.{Process}
use Rattle.scm_model.specs.declared.flat.Service.{Service}
use Rattle.scm_model.specs.declared.flat.Status.{Status}
use Rattle.scm_model.specs.declared.flat.Wanted.{Wanted}
use Rattle.scm_model.specs.Purge.{leaves}
use Rattle.start_plan.specs.Entered.{starting_in, started_if, wanted_process, wanted_row}
use Rattle.start_plan.specs.Hosts.{is_sharing}
use Rattle.start_plan.proofs.Rows.{started_or}
use Rattle.dependency_index.proofs.Lists.{or_right}
use Rattle.scm_model.specs.Processes.{is_by, is_shared}
use Rattle.scm_rules.specs.Controls.{unasked_if}
use Rattle.scm_rules.specs.Launches.{fallen_if, first_wanted, is_launched, is_running_phase, is_taken, launched_if, taken_if}
use Rattle.scm_rules.specs.Launches.{wanted_of_others}
use Rattle.scm_rules.specs.Reports.{reported_if}
use Rattle.scm_rules.specs.Steps.{wants_launch}
use Rattle.scm_rules.specs.Ticks.{wanted_command}
use Rattle.scm_rules.specs.Valid.{AreNumbered, HasListed, HasStarting, IsAskedRight, has_process, is_started_by, is_to_launch}
use Rattle.scm_rules.specs.Valid.{is_wanted_phase, starts_if_by}
use Rattle.scm_runs.proofs.Lists.{any_filter, find_filter, find_more, found_has, found_only, found_owns, found_passes}
use Rattle.scm_runs.proofs.Numbers.{numbered_filter, numbered_map, numbered_none, numbered_push}
use Rattle.scm_runs.proofs.Rows.{LivesIn, by_parts, fallen_either, fallen_or, not_by, reported_or, unasked_or}
use Rattle.std.proofs.lemmas.Bool.{not-true, and_parts}
use Rattle.scm_model.specs.Found.{if_found}

abbrev pub number_of : Process → ℕ
number_of row = row.number

abbrev pub process_in : Wanted → ℕ
process_in row = row.process

-- the launches that are wanted are those of the processes that are to be launched, in order, and each service's process is listed
pub record AreProcesses (next : ℕ) (processes : List Process) (launching : List Wanted) (services : List Service) : Type 0 where
  pub numbered : AreNumbered number_of next processes
  pub wanted : map process_in launching ≡ map number_of (filter is_to_launch processes)
  pub listed : All (HasListed processes) services
  pub starting : All (HasStarting services) processes
  pub asked : All (IsAskedRight processes) services

pub no_processes : (services : List Service) → All (HasListed []) services → All (IsAskedRight []) services → AreProcesses 1 [] [] services
no_processes services listed asked = record {
  numbered = numbered_none number_of 1;
  wanted = refl;
  listed = listed;
  starting = All-nil (HasStarting services);
  asked = asked;
}

-- ## A process taken in hand, launched, or gone

-- the numbers but one
abbrev without : ℕ → List ℕ → List ℕ
without number numbers = filter (λ n. not (n == number)) numbers

map_others : (number : ℕ) (rows : List Wanted) → map process_in (wanted_of_others number rows) ≡ without number (map process_in rows)
map_others number [] = refl
map_others number (row ∷ rows) =
    elim (not (row.process == number)) as (λ b. map process_in (cond b (row ∷ wanted_of_others number rows)
    (wanted_of_others number rows)) ≡ cond b (row.process ∷ without number (map process_in rows))
    (without number (map process_in rows)))
    [ true ↦ ap (λ ns. row.process ∷ ns) (map_others number rows) | false ↦ map_others number rows ]

-- a change that takes one process out of those that are to be launched
pub record Takes (number : ℕ) (change : Process → Process) : Type 0 where
  pub number_same : (row : Process) → (change row).number ≡ row.number
  pub shared_same : (row : Process) → (change row).shared ≡ row.shared
  pub there : (row : Process) → (row.number == number) ≡ true → is_to_launch (change row) ≡ false
  pub others : (row : Process) → (row.number == number) ≡ false → change row ≡ row

-- it is taken out of the processes that are to be launched
take_out : (number : ℕ) (change : Process → Process) → Takes number change → (rows : List Process)
    → map number_of (filter is_to_launch (map change rows)) ≡ without number (map number_of (filter is_to_launch rows))
take_out number change t [] = refl
take_out number change t (row ∷ rows) =
    let rest = take_out number change t rows in
    elim (row.number == number) as (λ b. (row.number == number) ≡ b → map number_of
    (filter is_to_launch (map change (row ∷ rows))) ≡ without number (map number_of (filter is_to_launch (row ∷ rows)))) [
      | true ↦ λ e.
          ap (λ (b : Bool). map number_of (cond b (change row ∷ filter is_to_launch (map change rows))
          (filter is_to_launch (map change rows)))) (t.there row e) ∙ rest
          ∙ elim (is_to_launch row) as (λ b. without number (map number_of (filter is_to_launch rows)) ≡ without number
          (map number_of (cond b (row ∷ filter is_to_launch rows) (filter is_to_launch rows)))) [
            | true ↦ ap (λ (b : Bool). cond (not b) (row.number ∷ without number (map number_of (filter is_to_launch rows)))
                (without number (map number_of (filter is_to_launch rows)))) (sym e)
            | false ↦ refl
          ]
      | false ↦ λ e.
          ap (λ (r : Process). map number_of (filter is_to_launch (r ∷ map change rows))) (t.others row e)
          ∙ elim (is_to_launch row) as (λ b. map number_of (cond b (row ∷ filter is_to_launch (map change rows))
          (filter is_to_launch (map change rows))) ≡ without number
          (map number_of (cond b (row ∷ filter is_to_launch rows) (filter is_to_launch rows)))) [
            | true ↦ ap (λ ns. row.number ∷ ns) rest
                ∙ ap (λ (b : Bool). cond (not b) (row.number ∷ without number (map number_of (filter is_to_launch rows)))
                (without number (map number_of (filter is_to_launch rows)))) (sym e)
            | false ↦ rest
          ]
    ] refl

-- numbers that stay stay listed
listed_map : (change : Process → Process) → ((row : Process) → (change row).number ≡ row.number) → (process : ℕ) (rows : List Process)
    → has_process (map change rows) process ≡ has_process rows process
listed_map change same process [] = refl
listed_map change same process (row ∷ rows) =
    ap (λ n. (n == process) || has_process (map change rows) process) (same row)
    ∙ ap (λ b. (row.number == process) || b) (listed_map change same process rows)

-- and processes that are shared stay so
pub shared_map : (change : Process → Process) → ((row : Process) → (change row).number ≡ row.number)
    → ((row : Process) → (change row).shared ≡ row.shared) → (n : ℕ) (rows : List Process)
    → is_shared (find (λ (row : Process). row.number == n) (map change rows)) ≡ is_shared (find (λ (row : Process). row.number == n) rows)
shared_map change same shared n [] = refl
shared_map change same shared n (row ∷ rows) =
    ap (λ m. is_shared (cond (m == n) (Some (change row)) (find (λ (r : Process). r.number == n) (map change rows)))) (same row)
    ∙ elim (row.number == n) as (λ b. is_shared (cond b (Some (change row)) (find (λ (r : Process). r.number == n) (map change rows)))
    ≡ is_shared (cond b (Some row) (find (λ (r : Process). r.number == n) rows)))
    [ true ↦ shared row | false ↦ shared_map change same shared n rows ]

asked_map : (change : Process → Process) → ((row : Process) → (change row).number ≡ row.number)
    → ((row : Process) → (change row).shared ≡ row.shared) → (processes : List Process) (services : List Service)
    → All (IsAskedRight processes) services → All (IsAskedRight (map change processes)) services
asked_map change same shared processes services all =
    All-weaker (IsAskedRight processes) (IsAskedRight (map change processes))
    (λ row h asked. shared_map change same shared row.process processes ∙ h asked) services all

pub taken_out : (next number : ℕ) (change : Process → Process) (processes : List Process) (wanted : List Wanted) (services : List Service)
    → Takes number change
    → AreProcesses next processes wanted services → All (HasStarting services) (map change processes)
    → AreProcesses next (map change processes) (wanted_of_others number wanted) services
taken_out next number change processes wanted services t s starting = record {
  numbered = numbered_map number_of next change t.number_same processes s.numbered;
  wanted = map_others number wanted ∙ ap (without number) s.wanted ∙ sym (take_out number change t processes);
  listed = All-weaker (HasListed processes) (HasListed (map change processes))
      (λ row h. ap (λ b. (row.process == 0) || b) (listed_map change t.number_same row.process processes) ∙ h) services s.listed;
  starting = starting;
  asked = asked_map change t.number_same t.shared_same processes services s.asked;
}

-- who is still to be launched isn't launched
wanted_not : (phase : Phase) → is_wanted_phase phase ≡ true → is_running_phase phase ≡ false
wanted_not phases.Wanted wanted = refl
wanted_not phases.Taken wanted = absurd cc
wanted_not phases.Launched wanted = absurd cc

taken_row : (number : ℕ) (services : List Service) (row : Process) → ((row.number == number) ≡ true → is_to_launch row ≡ true)
    → HasStarting services row → HasStarting services (taken_if number row)
taken_row number services row wanted h =
    elim (row.number == number) as (λ b. (row.number == number) ≡ b → HasStarting services
    (cond b (record row { phase = phases.Taken }) row)) [
      | true ↦ λ e. subst (λ b. (row.service == 0 || b || list_any (is_started_by row) services && list_all (starts_if_by row) services) ≡
          true) (wanted_not row.phase (wanted e)) h
      | false ↦ λ e. h
    ] refl

takes : (number : ℕ) → Takes number (taken_if number)
takes number = record {
  number_same = λ row. elim (row.number == number) as (λ b. (cond b (record row { phase = phases.Taken }) row).number ≡ row.number)
      [ true ↦ refl | false ↦ refl ];
  shared_same = λ row. elim (row.number == number) as (λ b. (cond b (record row { phase = phases.Taken }) row).shared ≡ row.shared)
      [ true ↦ refl | false ↦ refl ];
  there = λ row e. rw e refl;
  others = λ row e. rw e refl;
}

-- who is among the numbers of the processes that are to be launched is to be launched
is_to_be : (number : ℕ) (numbers : List ℕ) (rows : List Process) → number ∷ numbers ≡ map number_of (filter is_to_launch rows)
    → is_some (find (λ (row : Process). is_to_launch row && row.number == number) rows) ≡ true
is_to_be number numbers [] e = absurd cc
is_to_be number numbers (row ∷ rows) e =
    elim (is_to_launch row) as (λ b. number ∷ numbers ≡ map number_of (cond b (row ∷ filter is_to_launch rows) (filter is_to_launch rows))
    → is_some (cond (b && row.number == number) (Some row) (find (λ (row : Process). is_to_launch row && row.number == number) rows)) ≡
    true) [
      | true ↦ λ g. (let same : number ≡ row.number = cc in rw (eq-eqb row.number number (sym same)) refl)
      | false ↦ λ g. is_to_be number numbers rows g
    ] e

pub first_is_to_be : (wanted : List Wanted) (processes : List Process) (number : ℕ)
    → map process_in wanted ≡ map number_of (filter is_to_launch processes) → first_wanted wanted ≡ Some number
    → is_some (find (λ (row : Process). is_to_launch row && row.number == number) processes) ≡ true
first_is_to_be [] processes number e is = absurd cc
first_is_to_be (row ∷ rows) processes number e is =
    let same : row.process ≡ number = cc in
    subst (λ n. is_some (find (λ (r : Process). is_to_launch r && r.number == n) processes) ≡ true) same
    (is_to_be row.process (map process_in rows) processes e)

-- the launch that is wanted first is taken in hand
pub first_taken : (next : ℕ) (processes : List Process) (wanted : List Wanted) (services : List Service) → wants_launch wanted ≡ true
    → AreProcesses next processes wanted services
    → AreProcesses next (if_found (λ process. map (taken_if process)) (first_wanted wanted) processes)
    (if_found wanted_of_others (first_wanted wanted) wanted) services
first_taken next processes [] services is s = absurd cc
first_taken next processes (row ∷ rows) services is s =
    let number = row.process in
    let owns = found_owns is_to_launch number_of number processes s.numbered.rising
    (is_to_be number (map process_in rows) processes s.wanted) in
    taken_out next number (taken_if number) processes (row ∷ rows) services (takes number) s
    (All-map (HasStarting services) (taken_if number) processes (λ k d lt. taken_row number services (get_or processes k d) (owns k d lt)
    (s.starting k d lt)))

launches : (number pid : ℕ) → Takes number (launched_if number pid)
launches number pid = record {
  number_same = λ row. elim (row.number == number) as (λ b. (cond b (record row { phase = phases.Launched; pid = pid }) row).number ≡
      row.number) [ true ↦ refl | false ↦ refl ];
  shared_same = λ row. elim (row.number == number) as (λ b. (cond b (record row { phase = phases.Launched; pid = pid }) row).shared ≡
      row.shared) [ true ↦ refl | false ↦ refl ];
  there = λ row e. rw e refl;
  others = λ row e. rw e refl;
}

or_launched : (a c : Bool) → (a || true || c) ≡ true
or_launched true c = refl
or_launched false c = refl

launched_row : (number pid : ℕ) (services : List Service) (row : Process) → HasStarting services row
    → HasStarting services (launched_if number pid row)
launched_row number pid services row h =
    elim (row.number == number) as (λ b. HasStarting services (cond b (record row { phase = phases.Launched; pid = pid }) row)) [
      | true ↦ or_launched (row.service == 0) (list_any (is_started_by row) services && list_all (starts_if_by row) services)
      | false ↦ h
    ]

-- a process is launched
pub one_launched : (next number pid : ℕ) (processes : List Process) (wanted : List Wanted) (services : List Service)
    → AreProcesses next processes wanted services
    → AreProcesses next (map (launched_if number pid) processes) (wanted_of_others number wanted) services
one_launched next number pid processes wanted services s =
    taken_out next number (launched_if number pid) processes wanted services (launches number pid) s
    (All-map (HasStarting services) (launched_if number pid) processes (λ k d lt. launched_row number pid services (get_or processes k d)
    (s.starting k d lt)))

-- ## Services that change, and whose process isn't launched yet

any_map : (p : Service → Bool) (change : Service → Service) (rows : List Service) → All (λ row. p row ≡ true → p (change row) ≡ true) rows
    → list_any p rows ≡ true → list_any p (map change rows) ≡ true
any_map p change [] keeps h = h
any_map p change (row ∷ rows) keeps h =
    elim (p row) as (λ b. p row ≡ b → (b || list_any p rows) ≡ true → (p (change row) || list_any p (map change rows)) ≡ true) [
      | true ↦ λ e g. rw (All-head (λ r. p r ≡ true → p (change r) ≡ true) row rows keeps e) refl
      | false ↦ λ e g. or_right (p (change row)) (list_any p (map change rows))
          (any_map p change rows (All-tail (λ r. p r ≡ true → p (change r) ≡ true) row rows keeps) g)
    ] refl h

both_still : (a b c d : Bool) → (a ≡ true → c ≡ true) → (b ≡ true → d ≡ true) → (a && b) ≡ true → (c && d) ≡ true
both_still true b c d left right h = rw (left refl) (right h)
both_still false b c d left right h = absurd cc

all_map : (p : Service → Bool) (change : Service → Service) (rows : List Service) → All (λ row. p row ≡ true → p (change row) ≡ true) rows
    → list_all p rows ≡ true → list_all p (map change rows) ≡ true
all_map p change [] keeps h = h
all_map p change (row ∷ rows) keeps h =
    both_still (p row) (list_all p rows) (p (change row)) (list_all p (map change rows))
    (All-head (λ r. p r ≡ true → p (change r) ≡ true) row rows keeps)
    (all_map p change rows (All-tail (λ r. p r ≡ true → p (change r) ≡ true) row rows keeps)) h

last_or : (a b c d : Bool) → (c ≡ true → d ≡ true) → (a || b || c) ≡ true → (a || b || d) ≡ true
last_or true b c d keeps h = refl
last_or false true c d keeps h = refl
last_or false false c d keeps h = keeps h

-- what is known of a service that is START_PENDING by a process
pub record IsBy (process : Process) (row : Service) : Type 0 where
  pub number : (row.number == process.service) ≡ true
  pub process_same : (row.process == process.number) ≡ true
  pub state : (row.status.state == 2) ≡ true

three : (a b c : Bool) → (a && b && c) ≡ true → (a ≡ true) × ((b ≡ true) × (c ≡ true))
three true true true h = (refl, (refl, refl))
three true true false h = absurd cc
three true false c h = absurd cc
three false b c h = absurd cc

pub started_by : (process : Process) (row : Service) → is_started_by process row ≡ true → IsBy process row
started_by process row h =
    let all = three (row.number == process.service) (row.process == process.number) (row.status.state == 2) h in
    record { number = all.0; process_same = all.1.0; state = all.1.1 }

-- the services of a process that isn't launched yet
abbrev are_starting : Process → List Service → Bool
are_starting process services = list_any (is_started_by process) services && list_all (starts_if_by process) services

-- a change that leaves a service START_PENDING as long as its process isn't launched
pub record StartsStill (process : Process) (change : Service → Service) (row : Service) : Type 0 where
  pub begun : is_started_by process row ≡ true → is_started_by process (change row) ≡ true
  pub own : starts_if_by process row ≡ true → starts_if_by process (change row) ≡ true

pub start_kept : (process : Process) (change : Service → Service) (services : List Service) → All (StartsStill process change) services
    → HasStarting services process → HasStarting (map change services) process
start_kept process change services still h =
    last_or (process.service == 0) (is_running_phase process.phase) (are_starting process services)
    (are_starting process (map change services))
    (both_still (list_any (is_started_by process) services) (list_all (starts_if_by process) services)
    (list_any (is_started_by process) (map change services)) (list_all (starts_if_by process) (map change services))
    (any_map (is_started_by process) change services (λ k d lt. (still k d lt).begun))
    (all_map (starts_if_by process) change services (λ k d lt. (still k d lt).own))) h

pub starts_kept : (processes : List Process) (change : Service → Service) (services : List Service)
    → ((process : Process) (row : Service) → StartsStill process change row)
    → All (HasStarting services) processes → All (HasStarting (map change services)) processes
starts_kept processes change services keeps all = All-weaker (HasStarting services) (HasStarting (map change services))
    (λ process h. start_kept process change services (λ k d lt. keeps process (get_or services k d)) h) processes all

-- a change that leaves number, process and state
pub still_same : (process : Process) (change : Service → Service) (row : Service) → (change row).number ≡ row.number
    → (change row).process ≡ row.process → (change row).status.state ≡ row.status.state → StartsStill process change row
still_same process change row number own state = record {
  begun = λ is. rw (number, own, state) is;
  own = λ is. rw (own, state) is;
}

-- a service with another process is not in this one
pub not_in : (process n : ℕ) → (process ≡ n → ⊥) → (not (n == 0) && process == n) ≡ false
not_in process n other = elim (n == 0) as (λ b. (not b && process == n) ≡ false) [ true ↦ refl | false ↦ ne_eqb process n other ]

-- a service without a process is in none
pub no_current : (n : ℕ) → (not (n == 0) && 0 == n) ≡ false
no_current n = elim (n == 0) as (λ b. (n == 0) ≡ b → (not b && 0 == n) ≡ false) [
  | true ↦ λ e. refl
  | false ↦ λ e. ne_eqb 0 n (λ same. absurd (let none = eq-eqb n 0 (sym same) in cc))
] refl

all_starting_more : (process : Process) (services : List Service) (row : Service) → row.process ≡ 0
    → list_all (starts_if_by process) services ≡ true → list_all (starts_if_by process) (services ++ row ∷ []) ≡ true
all_starting_more process [] row none h = rw (none, no_current process.number) refl
all_starting_more process (first ∷ services) row none h =
    both_still (starts_if_by process first) (list_all (starts_if_by process) services) (starts_if_by process first)
    (list_all (starts_if_by process) (services ++ row ∷ [])) (λ is. is) (all_starting_more process services row none) h

-- who is START_PENDING stays where a service is added
pub starts_more : (processes : List Process) (services : List Service) (row : Service) → row.process ≡ 0
    → All (HasStarting services) processes → All (HasStarting (services ++ row ∷ [])) processes
starts_more processes services row none all =
    All-weaker (HasStarting services) (HasStarting (services ++ row ∷ []))
    (λ process h. last_or (process.service == 0) (is_running_phase process.phase) (are_starting process services)
    (are_starting process (services ++ row ∷ []))
    (both_still (list_any (is_started_by process) services) (list_all (starts_if_by process) services)
    (list_any (is_started_by process) (services ++ row ∷ [])) (list_all (starts_if_by process) (services ++ row ∷ []))
    (λ there. list_any-append (is_started_by process) services (row ∷ [])
    ∙ ap (λ b. b || list_any (is_started_by process) (row ∷ [])) there)
    (all_starting_more process services row none)) h) processes all

not_stopped : (m h : Bool) (state : ℕ) → (state == 2) ≡ true → not (m && state == 1 && h) ≡ true
not_stopped true h state is = rw (ne_eqb state 1 (λ e. absurd (let two = eqb-true state 2 is in omega (arith, e, two)))) refl
not_stopped false h state is = refl

all_fewer : (p q : Service → Bool) (rows : List Service) → list_all p rows ≡ true → list_all p (filter q rows) ≡ true
all_fewer p q [] h = h
all_fewer p q (row ∷ rows) h =
    let parts = and_parts (p row) (list_all p rows) h in
    elim (q row) as (λ b. list_all p (cond b (row ∷ filter q rows) (filter q rows)) ≡ true) [
      | true ↦ rw parts.0 (all_fewer p q rows parts.1)
      | false ↦ all_fewer p q rows parts.1
    ]

-- who is START_PENDING doesn't leave
pub starts_stay : (handles : List HandleRow) (processes : List Process) (services : List Service) → All (HasStarting services) processes
    → All (HasStarting (filter (λ (row : Service). not (leaves handles row)) services)) processes
starts_stay handles processes services all =
    let stay = λ (row : Service). not (leaves handles row) in
    All-weaker (HasStarting services) (HasStarting (filter stay services))
    (λ process h. last_or (process.service == 0) (is_running_phase process.phase) (are_starting process services)
    (are_starting process (filter stay services))
    (both_still (list_any (is_started_by process) services) (list_all (starts_if_by process) services)
    (list_any (is_started_by process) (filter stay services)) (list_all (starts_if_by process) (filter stay services))
    (any_filter (is_started_by process) stay services
    (λ k d lt is. not_stopped (get_or services k d).marked _ (get_or services k d).status.state
    (started_by process (get_or services k d) is).state))
    (all_fewer (starts_if_by process) stay services)) h) processes all

-- a service falls by its own process alone
fallen_still : (number code : ℕ) (process : Process) (row : Service) → (process.number == number) ≡ false
    → StartsStill process (fallen_if number code) row
fallen_still number code process row other = record {
  begun = λ is. fallen_or (λ new. is_started_by process new ≡ true) number code row
      (λ e. absurd (let same = eqb-true row.process process.number (started_by process row is).process_same in
      let t = eq-eqb process.number number (sym same ∙ (by_parts number row e).1) in cc)) is;
  own = λ is. fallen_or (λ new. starts_if_by process new ≡ true) number code row
      (λ e. rw (no_current process.number) refl) is;
}

-- ## Services that are asked to start

-- a process that is found shared is listed, and has a number
shared_some : (found : Option Process) → is_shared found ≡ true → is_some found ≡ true
shared_some None h = absurd cc
shared_some (Some row) h = refl

shared_first : (next number : ℕ) (rows : List Process) (found : Option Process) → AreNumbered number_of next rows
    → find (λ (row : Process). row.number == number) rows ≡ found → is_shared found ≡ true → (number == 0) ≡ false
shared_first next number rows None numbered e shared = absurd cc
shared_first next number rows (Some row) numbered e shared =
    let is = eqb-true row.number number (found_passes (λ (r : Process). r.number == number) row rows e) in
    let first = found_has (λ (r : Process). 1 ≤ r.number) (λ (r : Process). r.number == number) row rows numbered.positive e in
    ne_eqb number 0 (λ none. absurd (omega (arith, none, is, first)))

-- a service that falls is asked no more, and the process of another stays
fallen_asked : (next number code : ℕ) (processes : List Process) (row : Service) → AreNumbered number_of next processes
    → IsAskedRight processes row
    → IsAskedRight (filter (λ (p : Process). not (p.number == number)) processes) (fallen_if number code row)
fallen_asked next number code processes row numbered h =
    let others = filter (λ (p : Process). not (p.number == number)) processes in
    fallen_either (IsAskedRight others) number code row (λ e asked. absurd cc)
    (λ out asked. (
    let some = shared_first next row.process processes _ numbered refl (h asked) in
    let different = not_by number row out some in
    ap is_shared (find_filter (λ (p : Process). p.number == row.process) (λ (p : Process). not (p.number == number))
    (λ p is. ap (λ n. not (n == number)) (eqb-true p.number row.process is) ∙ ap not different) processes) ∙ h asked))

-- a service that a report stops is asked no more
reported_asked : (number : ℕ) (report : Status) (processes : List Process) (row : Service) → IsAskedRight processes row
    → IsAskedRight processes (reported_if number report row)
reported_asked number report processes row h =
    reported_or (IsAskedRight processes) number report row
    (λ e t. elim (report.state == 1) as (λ b. (row.asked && not b) ≡ true
    → is_shared (find (λ (p : Process). p.number == cond b 0 row.process) processes) ≡ true) [
      | true ↦ λ asked. absurd (let no = (and_parts row.asked false asked).1 in cc)
      | false ↦ λ asked. h (and_parts row.asked true asked).0
    ]) h

-- a service that was sent is asked no more
pub told_asked : (number : ℕ) (processes : List Process) (services : List Service) → All (IsAskedRight processes) services
    → All (IsAskedRight processes) (map (unasked_if number) services)
told_asked number processes services all =
    All-map (IsAskedRight processes) (unasked_if number) services
    (λ k d lt. unasked_or (IsAskedRight processes) number (get_or services k d) (λ asked. absurd cc) (all k d lt))

-- ## A process gone

-- the same where the process leaves
filter_out : (number : ℕ) (rows : List Process)
    → map number_of (filter is_to_launch (filter (λ (row : Process). not (row.number == number)) rows)) ≡ without number
    (map number_of (filter is_to_launch rows))
filter_out number [] = refl
filter_out number (row ∷ rows) =
    let rest = filter_out number rows in
    elim (not (row.number == number)) as (λ b. not (row.number == number) ≡ b
    → map number_of (filter is_to_launch (cond b (row ∷ filter (λ (row : Process). not (row.number == number)) rows)
    (filter (λ (row : Process). not (row.number == number)) rows)))
    ≡ without number (map number_of (filter is_to_launch (row ∷ rows)))) [
      | true ↦ λ e. elim (is_to_launch row) as (λ b. map number_of (cond b
          (row ∷ filter is_to_launch (filter (λ (row : Process). not (row.number == number)) rows))
          (filter is_to_launch (filter (λ (row : Process). not (row.number == number)) rows)))
          ≡ without number (map number_of (cond b (row ∷ filter is_to_launch rows) (filter is_to_launch rows)))) [
            | true ↦ ap (λ ns. row.number ∷ ns) rest
                ∙ ap (λ (b : Bool). cond b (row.number ∷ without number (map number_of (filter is_to_launch rows)))
                (without number (map number_of (filter is_to_launch rows)))) (sym e)
            | false ↦ rest
          ]
      | false ↦ λ e. rest ∙ elim (is_to_launch row) as (λ b. without number (map number_of (filter is_to_launch rows)) ≡ without number
          (map number_of (cond b (row ∷ filter is_to_launch rows) (filter is_to_launch rows)))) [
            | true ↦ ap (λ (b : Bool). cond b (row.number ∷ without number (map number_of (filter is_to_launch rows)))
                (without number (map number_of (filter is_to_launch rows)))) (sym e)
            | false ↦ refl
          ]
    ] refl

-- a process that isn't this one stays listed
listed_others : (number process : ℕ) (rows : List Process) → (process == number) ≡ false → has_process rows process ≡ true
    → has_process (filter (λ (row : Process). not (row.number == number)) rows) process ≡ true
listed_others number process rows different there =
    any_filter (λ (row : Process). row.number == process) (λ (row : Process). not (row.number == number)) rows
    (λ k d lt same. subst (λ n. not (n == number) ≡ true) (sym (eqb-true (get_or rows k d).number process same)) (ap not different)) there

-- a service that doesn't fall keeps its process, and one that falls has none
still_listed : (number code : ℕ) (processes : List Process) (row : Service) → HasListed processes row
    → HasListed (filter (λ (row : Process). not (row.number == number)) processes) (fallen_if number code row)
still_listed number code processes row h =
    let others = filter (λ (p : Process). not (p.number == number)) processes in
    fallen_either (HasListed others) number code row (λ e. refl)
    (λ out. elim (row.process == 0) as (λ b. (row.process == 0) ≡ b → (b || has_process processes row.process) ≡ true
    → (b || has_process others row.process) ≡ true) [
      | true ↦ λ e g. refl
      | false ↦ λ e g. listed_others number row.process processes (not_by number row out e) g
    ] refl h)

-- a process leaves, and its services fall
pub failed : (next number code : ℕ) (processes : List Process) (wanted : List Wanted) (services : List Service)
    → AreProcesses next processes wanted services
    → AreProcesses next (filter (λ (row : Process). not (row.number == number)) processes) (wanted_of_others number wanted)
    (map (fallen_if number code) services)
failed next number code processes wanted services s = record {
  numbered = numbered_filter number_of next (λ (row : Process). not (row.number == number)) processes s.numbered;
  wanted = map_others number wanted ∙ ap (without number) s.wanted ∙ sym (filter_out number processes);
  listed = All-map (HasListed (filter (λ (row : Process). not (row.number == number)) processes)) (fallen_if number code) services
      (λ k d lt. still_listed number code processes (get_or services k d) (s.listed k d lt));
  starting = (let p = λ (row : Process). not (row.number == number) in
      λ k d lt. start_kept (get_or (filter p processes) k d) (fallen_if number code) services
      (λ i e within. fallen_still number code (get_or (filter p processes) k d) (get_or services i e)
      (not-true _ (filter_passes p processes k d lt)))
      (All-filter p (HasStarting services) processes s.starting k d lt));
  asked = All-map (IsAskedRight (filter (λ (row : Process). not (row.number == number)) processes)) (fallen_if number code) services
      (λ k d lt. fallen_asked next number code processes (get_or services k d) s.numbered (s.asked k d lt));
}

-- ## A process that tells how its service stands

-- a process that is found running has a number
pub running_first : (next number : ℕ) (rows : List Process) (found : Option Process) → AreNumbered number_of next rows
    → find (λ (row : Process). row.number == number) rows ≡ found → is_launched found ≡ true → 1 ≤ number
running_first next number rows None numbered e runs = absurd cc
running_first next number rows (Some row) numbered e runs =
    let is = eqb-true row.number number (found_passes (λ (r : Process). r.number == number) row rows e) in
    subst (λ n. 1 ≤ n) is (found_has (λ (r : Process). 1 ≤ r.number) (λ (r : Process). r.number == number) row rows numbered.positive e)

-- who has this number was launched
abbrev pub IsLaunchedAt : ℕ → Process → Type 0
IsLaunchedAt number row = (row.number == number) ≡ true → is_running_phase row.phase ≡ true

pub running_launched : (number : ℕ) (rows : List Process) (found : Option Process) → AllPairs (λ (a b : Process). a.number < b.number) rows
    → find (λ (row : Process). row.number == number) rows ≡ found → is_launched found ≡ true
    → All (IsLaunchedAt number) rows
running_launched number rows None rising e runs = absurd cc
running_launched number rows (Some row) rising e runs =
    λ k d lt same. ap (λ (r : Process). is_running_phase r.phase) (found_only number_of number row rows rising e k d lt same) ∙ runs

-- a report that a service takes leaves services START_PENDING whose process isn't its own
reported_still : (number by : ℕ) (report : Status) (process : Process) (row : Service) → LivesIn number by row
    → (process.number == by) ≡ false → StartsStill process (reported_if number report) row
reported_still number by report process row lives other = record {
  begun = λ is. reported_or (λ new. is_started_by process new ≡ true) number report row
      (λ e t. absurd (let same = eqb-true row.process process.number (started_by process row is).process_same in
      let both = eq-eqb process.number by (sym same ∙ lives e) in cc)) is;
  own = λ is. reported_or (λ new. starts_if_by process new ≡ true) number report row
      (λ e t. elim (report.state == 1) as (λ b. (not (not (process.number == 0) && cond b 0 row.process == process.number)
      || report.state == 2) ≡ true) [
        | true ↦ rw (no_current process.number) refl
        | false ↦ rw (not_in row.process process.number (λ same. absurd (let both = eq-eqb process.number by (sym same ∙ lives e) in cc)))
            refl
      ]) is;
}

-- a report comes of a process that was launched, and leaves who is START_PENDING by another
report_starts : (number by : ℕ) (report : Status) (services : List Service) (process : Process) → All (LivesIn number by) services
    → IsLaunchedAt by process → HasStarting services process → HasStarting (map (reported_if number report) services) process
report_starts number by report services process lives launched h =
    elim (process.number == by) as (λ b. (process.number == by) ≡ b
    → HasStarting (map (reported_if number report) services) process) [
      | true ↦ λ e. rw (launched e) (or_launched (process.service == 0) (are_starting process (map (reported_if number report) services)))
      | false ↦ λ e. start_kept process (reported_if number report) services
          (λ k d lt. reported_still number by report process (get_or services k d) (lives k d lt) e) h
    ] refl

report_listed : (number : ℕ) (report : Status) (processes : List Process) (row : Service) → HasListed processes row
    → HasListed processes (reported_if number report row)
report_listed number report processes row h =
    reported_or (HasListed processes) number report row
    (λ e t. elim (report.state == 1) as (λ b. (cond b 0 row.process == 0 || has_process processes (cond b 0 row.process)) ≡ true)
    [ true ↦ refl | false ↦ h ]) h

-- a process that was launched tells how its service stands
pub reported : (next number by : ℕ) (report : Status) (processes : List Process) (wanted : List Wanted) (services : List Service)
    → All (LivesIn number by) services → All (IsLaunchedAt by) processes → AreProcesses next processes wanted services
    → AreProcesses next processes wanted (map (reported_if number report) services)
reported next number by report processes wanted services lives launched s = record {
  numbered = s.numbered;
  wanted = s.wanted;
  listed = All-map (HasListed processes) (reported_if number report) services
      (λ k d lt. report_listed number report processes (get_or services k d) (s.listed k d lt));
  starting = λ k d lt. report_starts number by report services (get_or processes k d) lives (launched k d lt) (s.starting k d lt);
  asked = All-map (IsAskedRight processes) (reported_if number report) services
      (λ k d lt. reported_asked number report processes (get_or services k d) (s.asked k d lt));
}

-- ## Controls that wait

-- a change of the controls alone
abbrev pub IsOfControls : (Process → Process) → Type 0
IsOfControls change = (row : Process) → change row ≡ record row { controls = (change row).controls }

to_launch_same : (change : Process → Process) → IsOfControls change → (rows : List Process)
    → map number_of (filter is_to_launch (map change rows)) ≡ map number_of (filter is_to_launch rows)
to_launch_same change only [] = refl
to_launch_same change only (row ∷ rows) =
    let rest = to_launch_same change only rows in
    ap (λ (r : Process). map number_of (filter is_to_launch (r ∷ map change rows))) (only row)
    ∙ elim (is_to_launch row) as (λ b. map number_of (cond b (record row { controls = (change row).controls } ∷ filter is_to_launch
    (map change rows)) (filter is_to_launch (map change rows)))
    ≡ map number_of (cond b (row ∷ filter is_to_launch rows) (filter is_to_launch rows))) [
      | true ↦ ap (λ ns. row.number ∷ ns) rest
      | false ↦ rest
    ]

pub controlled : (next : ℕ) (change : Process → Process) (processes : List Process) (wanted : List Wanted) (services : List Service)
    → IsOfControls change → AreProcesses next processes wanted services
    → AreProcesses next (map change processes) wanted services
controlled next change processes wanted services only s =
    let same : (row : Process) → (change row).number ≡ row.number = λ row. ap (λ (r : Process). r.number) (only row) in
    record {
      numbered = numbered_map number_of next change same processes s.numbered;
      wanted = s.wanted ∙ sym (to_launch_same change only processes);
      listed = All-weaker (HasListed processes) (HasListed (map change processes))
          (λ row h. ap (λ b. (row.process == 0) || b) (listed_map change same row.process processes) ∙ h) services s.listed;
      starting = All-map (HasStarting services) change processes (λ k d lt. subst (HasStarting services) (sym (only (get_or processes k d)))
          (s.starting k d lt));
      asked = asked_map change same (λ row. ap (λ (r : Process). r.shared) (only row)) processes services s.asked;
    }

-- ## A process more

listed_more : (process : ℕ) (rows : List Process) (row : Process) → has_process rows process ≡ true
    → has_process (rows ++ row ∷ []) process ≡ true
listed_more process rows row there =
    list_any-append (λ (r : Process). r.number == process) rows (row ∷ []) ∙ ap (λ b. b || has_process (row ∷ []) process) there

listed_new : (rows : List Process) (row : Process) → has_process (rows ++ row ∷ []) row.number ≡ true
listed_new rows row =
    list_any-append (λ (r : Process). r.number == row.number) rows (row ∷ [])
    ∙ or_right (has_process rows row.number) (has_process (row ∷ []) row.number) (rw (eq-eqb row.number row.number refl) refl)

one_listed : (processes : List Process) (new : Process) (row : Service) → HasListed processes row → HasListed (processes ++ new ∷ []) row
one_listed processes new row h =
    elim (row.process == 0) as (λ b. (b || has_process processes row.process) ≡ true
    → (b || has_process (processes ++ new ∷ []) row.process) ≡ true)
    [ true ↦ λ g. refl | false ↦ λ g. listed_more row.process processes new g ] h

-- each listed process lies below the next one
pub has_below : (next n : ℕ) (rows : List Process) → All (λ (row : Process). row.number < next) rows → has_process rows n ≡ true → n < next
has_below next n [] below there = absurd cc
has_below next n (row ∷ rows) below there =
    elim (row.number == n) as (λ b. (row.number == n) ≡ b → (b || has_process rows n) ≡ true → n < next) [
      | true ↦ λ e g. (let same = eqb-true row.number n e in
          let low = All-head (λ (r : Process). r.number < next) row rows below in omega (arith, same, low))
      | false ↦ λ e g. has_below next n rows (All-tail (λ (r : Process). r.number < next) row rows below) g
    ] refl there

not_next : (next : ℕ) (processes : List Process) (row : Service) → 1 ≤ next → All (λ (p : Process). p.number < next) processes
    → HasListed processes row → row.process ≡ next → ⊥
not_next next processes row first below h same =
    elim (row.process == 0) as (λ b. (row.process == 0) ≡ b → (b || has_process processes row.process) ≡ true → ⊥) [
      | true ↦ λ e g. (let none = eqb-true row.process 0 e in omega (arith, none, same, first))
      | false ↦ λ e g. (let low = has_below next row.process processes below g in omega (arith, low, same))
    ] refl h

-- the service with the number is started where it is STOPPED
begun_or : (P : Service → Type 0) (n p : ℕ) (row : Service) → ((row.number == n) ≡ true → P (starting_in p row)) → P row
    → P (started_if n p row)
begun_or P n p row begins stays =
    elim (row.number == n && row.status.state == 1) as (λ b. (row.number == n && row.status.state == 1) ≡ b
    → P (cond b (starting_in p row) row))
    [ true ↦ λ e. begins (and_parts (row.number == n) (row.status.state == 1) e).0 | false ↦ λ e. stays ] refl

-- who is START_PENDING isn't started again
started_still : (service next : ℕ) (process : Process) (row : Service) → StartsStill process (started_if service next) row
started_still service next process row = record {
  begun = λ is. started_or (λ new. is_started_by process new ≡ true) service next row
      (λ e. absurd (let two = eqb-true row.status.state 2 (started_by process row is).state in omega (arith, e, two))) is;
  own = λ is. begun_or (λ new. starts_if_by process new ≡ true) service next row
      (λ e. or_right (not (is_by process.number (starting_in next row))) true refl) is;
}

-- the service that is entered is START_PENDING by its process
newly_started : (service next : ℕ) (shared : Bool) (rows : List Service) → list_any (λ (row : Service). row.number == service
    && row.status.state == 1) rows ≡ true
    → list_any (is_started_by (wanted_process next service shared)) (map (started_if service next) rows) ≡ true
newly_started service next shared [] h = h
newly_started service next shared (row ∷ rows) h =
    let new = wanted_process next service shared in
    elim (row.number == service && row.status.state == 1) as (λ b. (row.number == service && row.status.state == 1) ≡ b
    → (b || list_any (λ (row : Service). row.number == service && row.status.state == 1) rows) ≡ true
    → (is_started_by new (cond b (starting_in next row) row) || list_any (is_started_by new) (map (started_if service next) rows)) ≡ true) [
      | true ↦ λ e g. rw ((and_parts (row.number == service) (row.status.state == 1) e).0, eq-eqb next next refl) refl
      | false ↦ λ e g. or_right (is_started_by new row) (list_any (is_started_by new) (map (started_if service next) rows))
          (newly_started service next shared rows g)
    ] refl h

-- and no other service has its process
alone_in : (service next : ℕ) (shared : Bool) (processes : List Process) (row : Service) → 1 ≤ next
    → All (λ (p : Process). p.number < next) processes → HasListed processes row
    → starts_if_by (wanted_process next service shared) (started_if service next row) ≡ true
alone_in service next shared processes row first below h =
    begun_or (λ new. starts_if_by (wanted_process next service shared) new ≡ true) service next row
    (λ e. or_right (not (is_by next (starting_in next row))) true refl)
    (rw (not_in row.process next (not_next next processes row first below h)) refl)

all_alone : (service next : ℕ) (shared : Bool) (processes : List Process) (rows : List Service) → 1 ≤ next
    → All (λ (p : Process). p.number < next) processes → All (HasListed processes) rows
    → list_all (starts_if_by (wanted_process next service shared)) (map (started_if service next) rows) ≡ true
all_alone service next shared processes [] first below listed = refl
all_alone service next shared processes (row ∷ rows) first below listed =
    rw (alone_in service next shared processes row first below (All-head (HasListed processes) row rows listed))
    (all_alone service next shared processes rows first below (All-tail (HasListed processes) row rows listed))

-- the new process is found by its number
new_found : (next : ℕ) (rows : List Process) (new : Process) → All (λ (row : Process). row.number < next) rows → new.number ≡ next
    → find (λ (row : Process). row.number == next) (rows ++ new ∷ []) ≡ Some new
new_found next [] new below same = rw (eq-eqb new.number next same) refl
new_found next (row ∷ rows) new below same =
    let low = All-head (λ (r : Process). r.number < next) row rows below in
    rw (ne_eqb row.number next (λ e. absurd (omega (arith, e, low))))
    (new_found next rows new (All-tail (λ (r : Process). r.number < next) row rows below) same)

-- an earlier process stays what it was
asked_more : (processes : List Process) (new : Process) (row : Service) → IsAskedRight processes row
    → IsAskedRight (processes ++ new ∷ []) row
asked_more processes new row h asked =
    ap is_shared (find_more (λ (p : Process). p.number == row.process) processes (new ∷ [])
    (shared_some (find (λ (p : Process). p.number == row.process) processes) (h asked))) ∙ h asked

or_last : (a b c : Bool) → c ≡ true → (a || b || c) ≡ true
or_last true b c h = refl
or_last false true c h = refl
or_last false false c h = h

-- whether the service with a number is sharing
abbrev pub SharesAs : ℕ → Bool → Service → Type 0
SharesAs service shared row = (row.number == service) ≡ true → is_sharing row ≡ shared

pub more : (next service : ℕ) (shared : Bool) (words : List (List ℕ)) (processes : List Process) (wanted : List Wanted)
    (services : List Service) → 1 ≤ next → All (SharesAs service shared) services
    → list_any (λ (row : Service). row.number == service && row.status.state == 1) services ≡ true
    → AreProcesses next processes wanted services → AreProcesses (next + 1) (processes ++ wanted_process next service shared ∷ []) (wanted
    ++ wanted_row next words ∷ []) (map (started_if service next) services)
more next service shared words processes wanted services first shares there s =
    let new = wanted_process next service shared in
    record {
      numbered = numbered_push number_of next processes new s.numbered first refl;
      wanted = map-append process_in wanted (wanted_row next words ∷ []) ∙ ap (λ ns. ns ++ next ∷ []) s.wanted
          ∙ sym (map-append number_of (filter is_to_launch processes) (new ∷ []))
          ∙ ap (map number_of) (sym (filter-append is_to_launch processes (new ∷ [])));
      listed = All-map (HasListed (processes ++ new ∷ [])) (started_if service next) services
          (λ k d lt. started_or (HasListed (processes ++ new ∷ [])) service next (get_or services k d)
          (λ e. or_right (next == 0) (has_process (processes ++ new ∷ []) next) (listed_new processes new))
          (one_listed processes new (get_or services k d) (s.listed k d lt)));
      starting = All-push (HasStarting (map (started_if service next) services)) processes new
          (starts_kept processes (started_if service next) services (started_still service next) s.starting)
          (or_last (service == 0) false (are_starting new (map (started_if service next) services))
          (rw (newly_started service next shared services there)
          (all_alone service next shared processes services first s.numbered.below s.listed)));
      asked = All-map (IsAskedRight (processes ++ new ∷ [])) (started_if service next) services
          (λ k d lt. begun_or (IsAskedRight (processes ++ new ∷ [])) service next (get_or services k d)
          (λ e asked. ap is_shared (new_found next processes new s.numbered.below refl) ∙ sym (shares k d lt e) ∙ asked)
          (asked_more processes new (get_or services k d) (s.asked k d lt)));
    }

-- a process more that is of no service
pub command_more : (next : ℕ) (command : List ℕ) (processes : List Process) (wanted : List Wanted) (services : List Service) → 1 ≤ next
    → AreProcesses next processes wanted services
    → AreProcesses (next + 1) (processes ++ wanted_process next 0 false ∷ []) (wanted ++ wanted_command next command ∷ []) services
command_more next command processes wanted services first s =
    let new = wanted_process next 0 false in
    record {
      numbered = numbered_push number_of next processes new s.numbered first refl;
      wanted = map-append process_in wanted (wanted_command next command ∷ []) ∙ ap (λ ns. ns ++ next ∷ []) s.wanted
          ∙ sym (map-append number_of (filter is_to_launch processes) (new ∷ []))
          ∙ ap (map number_of) (sym (filter-append is_to_launch processes (new ∷ [])));
      listed = All-weaker (HasListed processes) (HasListed (processes ++ new ∷ [])) (one_listed processes new) services s.listed;
      starting = All-push (HasStarting services) processes new s.starting refl;
      asked = All-weaker (IsAskedRight processes) (IsAskedRight (processes ++ new ∷ [])) (asked_more processes new) services s.asked;
    }

-- ## Services that change beside

pub beside : (next : ℕ) (processes : List Process) (wanted : List Wanted) (services others : List Service)
    → AreProcesses next processes wanted services
    → All (HasListed processes) others → All (HasStarting others) processes → All (IsAskedRight processes) others
    → AreProcesses next processes wanted others
beside next processes wanted services others s listed starting asked = record {
  numbered = s.numbered;
  wanted = s.wanted;
  listed = listed;
  starting = starting;
  asked = asked;
}

-- a process that is shared is listed
pub shared_there : (number : ℕ) (rows : List Process) → is_shared (find (λ (row : Process). row.number == number) rows) ≡ true
    → has_process rows number ≡ true
shared_there number [] shared = absurd cc
shared_there number (row ∷ rows) shared =
    elim (row.number == number) as (λ b. is_shared (cond b (Some row) (find (λ (r : Process). r.number == number) rows)) ≡ true
    → (b || has_process rows number) ≡ true) [ true ↦ λ g. refl | false ↦ λ g. shared_there number rows g ] shared

-- a listed process has a number
pub has_above : (number : ℕ) (rows : List Process) → All (λ (row : Process). 1 ≤ row.number) rows → has_process rows number ≡ true
    → 1 ≤ number
has_above number [] above there = absurd cc
has_above number (row ∷ rows) above there =
    elim (row.number == number) as (λ b. (row.number == number) ≡ b → (b || has_process rows number) ≡ true → 1 ≤ number) [
      | true ↦ λ e g. (let same = eqb-true row.number number e in
          let first = All-head (λ (r : Process). 1 ≤ r.number) row rows above in omega (arith, same, first))
      | false ↦ λ e g. has_above number rows (All-tail (λ (r : Process). 1 ≤ r.number) row rows above) g
    ] refl there

-- a service is started by its host
pub by_host : (next service host : ℕ) (processes : List Process) (wanted : List Wanted) (services : List Service)
    → is_shared (find (λ (row : Process). row.number == host) processes) ≡ true → AreProcesses next processes wanted services
    → AreProcesses next processes wanted (map (started_if service host) services)
by_host next service host processes wanted services shared s =
    beside next processes wanted services (map (started_if service host) services) s
    (All-map (HasListed processes) (started_if service host) services
    (λ k d lt. begun_or (HasListed processes) service host (get_or services k d)
    (λ e. or_right (host == 0) (has_process processes host) (shared_there host processes shared)) (s.listed k d lt)))
    (starts_kept processes (started_if service host) services (started_still service host) s.starting)
    (All-map (IsAskedRight processes) (started_if service host) services
    (λ k d lt. begun_or (IsAskedRight processes) service host (get_or services k d) (λ e asked. shared) (s.asked k d lt)))

-- a service that was sent is asked no more
pub unasked : (next number : ℕ) (processes : List Process) (wanted : List Wanted) (services : List Service)
    → AreProcesses next processes wanted services → AreProcesses next processes wanted (map (unasked_if number) services)
unasked next number processes wanted services s =
    beside next processes wanted services (map (unasked_if number) services) s
    (All-map (HasListed processes) (unasked_if number) services
    (λ k d lt. unasked_or (HasListed processes) number (get_or services k d) (s.listed k d lt) (s.listed k d lt)))
    (starts_kept processes (unasked_if number) services (λ process row. still_same process (unasked_if number) row
    (unasked_or (λ new. new.number ≡ row.number) number row refl refl)
    (unasked_or (λ new. new.process ≡ row.process) number row refl refl)
    (unasked_or (λ new. new.status.state ≡ row.status.state) number row refl refl)) s.starting)
    (told_asked number processes services s.asked)

-- ## The launch that is wanted first

-- it is found in hand then
pub taken_found : (number : ℕ) (rows : List Process) → has_process rows number ≡ true
    → is_taken (find (λ (row : Process). row.number == number) (map (taken_if number) rows)) ≡ true
taken_found number [] there = absurd cc
taken_found number (row ∷ rows) there =
    elim (row.number == number) as (λ b. (row.number == number) ≡ b → (b || has_process rows number) ≡ true
    → is_taken (cond ((cond b (record row { phase = phases.Taken }) row).number == number)
    (Some (cond b (record row { phase = phases.Taken }) row)) (find (λ (row : Process). row.number == number)
    (map (taken_if number) rows))) ≡ true) [
      | true ↦ λ e g. rw e refl
      | false ↦ λ e g. rw e (taken_found number rows g)
    ] refl there

-- who is among the numbers of the processes that are to be launched is listed
pub is_there : (number : ℕ) (numbers : List ℕ) (rows : List Process) → number ∷ numbers ≡ map number_of (filter is_to_launch rows)
    → has_process rows number ≡ true
is_there number numbers [] e = absurd cc
is_there number numbers (row ∷ rows) e =
    elim (is_to_launch row) as (λ b. number ∷ numbers ≡ map number_of (cond b (row ∷ filter is_to_launch rows) (filter is_to_launch rows))
    → has_process (row ∷ rows) number ≡ true) [
      | true ↦ λ g. (let same : number ≡ row.number = cc in rw (eq-eqb row.number number (sym same)) refl)
      | false ↦ λ g. or_right (row.number == number) (has_process rows number) (is_there number numbers rows g)
    ] e

pub first_there : (wanted : List Wanted) (processes : List Process) (number : ℕ)
    → map process_in wanted ≡ map number_of (filter is_to_launch processes) → first_wanted wanted ≡ Some number
    → has_process processes number ≡ true
first_there [] processes number e is = absurd cc
first_there (row ∷ rows) processes number e is =
    let same : row.process ≡ number = cc in
    subst (λ n. has_process processes n ≡ true) same (is_there row.process (map process_in rows) processes e)

-- a launch that is wanted, if any is, is the first one's
pub record IsFirst (rows : List Wanted) : Type 0 where
  pub number : ℕ
  pub is : first_wanted rows ≡ Some number

pub first_of : (rows : List Wanted) → wants_launch rows ≡ true → IsFirst rows
first_of [] is = absurd cc
first_of (row ∷ rows) is = record { number = row.process; is = refl }
