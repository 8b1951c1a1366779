-- What is true of the services of every state, and what each change of them keeps.
use Rattle.std.proofs.Common.{ℕ, ◌≡◌, ◌∙◌, ◌+◌, ◌<◌, ◌≤◌, ◌==◌, Bool, true, false, cond, List, [], ◌∷◌, ◌++◌, None, filter, map, get_or, ap}
use Rattle.std.proofs.Common.{sym, refl, subst, arith, eq-eqb, eqb-true, ne_eqb, not}
use Rattle.std.specs.Prelude.{All, AllPairs, Ok, Err}
use Rattle.std.proofs.lemmas.List.Elements.{All-filter, All-push, All-map, All-weaker}
use Rattle.std.proofs.lemmas.List.Kept.{AllPairs-filter}
use Rattle.std.proofs.lemmas.List.Quantifiers.{all_pairs_push}
use Rattle.scm_text.specs.Fold.{same_text}
use Rattle.scm_model.specs.declared.flat.Config.{Config}
use Rattle.scm_model.specs.declared.flat.Service.{Service}
use Rattle.scm_model.specs.declared.flat.Status.{Status}
use Rattle.scm_model.specs.Changes.{marked_if}
use Rattle.service_record.specs.Checks.{check_new}
use Rattle.start_plan.specs.Entered.{started_if}
use Rattle.start_plan.proofs.Rows.{started_or, same_number}
use Rattle.status_machine.specs.Moves.{take_report, takes}
use Rattle.scm_rules.specs.Launches.{fallen as fallen_by, fallen_if, is_by}
use Rattle.scm_rules.specs.Controls.{unasked_if}
use Rattle.scm_rules.specs.Needs.{need_row}
use Rattle.scm_rules.specs.Reports.{moved_by, process_in_state, reported_if}
use Rattle.scm_rules.specs.Security.{IsSecured, secured_if}
use Rattle.scm_rules.specs.Valid.{AreNumbered}
use Rattle.scm_rules.proofs.Secured.{all_secured, secured_map, secured_or}
use Rattle.sec_desc.specs.Writing.{IsWritten}
use Rattle.scm_runs.proofs.Lists.{pairs_map}
use Rattle.scm_rules.proofs.Needed.{HasNoCycle, fewer, same_graph}
use Rattle.scm_runs.proofs.Numbers.{numbered_filter, numbered_map, numbered_push}
use Rattle.std.proofs.lemmas.Bool.{and_parts, not-true}

abbrev pub AreOtherNames : Service → Service → Type 0
AreOtherNames a b = same_text a.config.name b.config.name ≡ false

abbrev pub AreOtherDisplays : Service → Service → Type 0
AreOtherDisplays a b = same_text a.config.display b.config.display ≡ false

abbrev pub IsChecked : Service → Type 0
IsChecked row = check_new row.config None ≡ 0

abbrev pub HasKind : Service → Type 0
HasKind row = row.status.kind ≡ row.config.kind

-- a service is STOPPED exactly where it has no process
abbrev pub IsStoppedWithout : Service → Type 0
IsStoppedWithout row = (row.status.state == 1) ≡ (row.process == 0)

-- services with numbers below the next one, and processes below the next one
pub record AreServices (next process : ℕ) (rows : List Service) : Type 0 where
  pub numbered : AreNumbered (λ (row : Service). row.number) next rows
  pub first : 1 ≤ next
  pub first_process : 1 ≤ process
  pub names : AllPairs AreOtherNames rows
  pub displays : AllPairs AreOtherDisplays rows
  pub configs : All IsChecked rows
  pub kinds : All HasKind rows
  pub stopped : All IsStoppedWithout rows
  pub secured : All IsSecured rows
  pub current : All (λ (row : Service). row.process < process) rows
  pub acyclic : HasNoCycle rows

-- ## A change of each row

-- a change that leaves number, configuration, security descriptor and type, and with the process the state
pub record IsMild (change : Service → Service) : Type 0 where
  pub number : (row : Service) → (change row).number ≡ row.number
  pub config : (row : Service) → (change row).config ≡ row.config
  pub kind : (row : Service) → (change row).status.kind ≡ row.status.kind
  pub security : (row : Service) → (change row).security ≡ row.security

mild_row : (change : Service → Service) → IsMild change → (row : Service) → need_row (change row) ≡ need_row row
mild_row change mild row = rw (mild.number row, mild.config row) refl

pub mildly : (next process later : ℕ) (change : Service → Service) (rows : List Service) → IsMild change → AreServices next process rows
    → process ≤ later → All IsStoppedWithout (map change rows) → All (λ (row : Service). row.process < later) (map change rows)
    → AreServices next later (map change rows)
mildly next process later change rows mild s up stopped current = record {
  numbered = numbered_map (λ (row : Service). row.number) next change mild.number rows s.numbered;
  first = s.first;
  first_process = (let first = s.first_process in omega arith);
  names = pairs_map (λ row. Unit {0}) AreOtherNames AreOtherNames change
      (λ a b p q h. rw (mild.config a, mild.config b) h) rows (λ k d lt. tt) s.names;
  displays = pairs_map (λ row. Unit {0}) AreOtherDisplays AreOtherDisplays change
      (λ a b p q h. rw (mild.config a, mild.config b) h) rows (λ k d lt. tt) s.displays;
  configs = All-map IsChecked change rows (λ k d lt. subst (λ (c : Config). check_new c None ≡ 0) (sym (mild.config (get_or rows k d)))
      (s.configs k d lt));
  kinds = All-map HasKind change rows (λ k d lt. mild.kind (get_or rows k d) ∙ s.kinds k d lt
      ∙ ap (λ (c : Config). c.kind) (sym (mild.config (get_or rows k d))));
  stopped = stopped;
  secured = secured_map change mild.security rows s.secured;
  current = current;
  acyclic = same_graph change (mild_row change mild) rows s.acyclic;
}

pub marked : (next process number : ℕ) (rows : List Service) → AreServices next process rows
    → AreServices next process (map (marked_if number) rows)
marked next process number rows s =
    mildly next process process (marked_if number) rows (record {
      number = λ row. refl;
      config = λ row. refl;
      kind = λ row. refl;
      security = λ row. refl;
    }) s
    (omega arith)
    (All-map IsStoppedWithout (marked_if number) rows s.stopped)
    (All-map (λ (row : Service). row.process < process) (marked_if number) rows s.current)

-- a service is started
pub starts_mildly : (number process : ℕ) → IsMild (started_if number process)
starts_mildly number process = record {
  number = same_number number process;
  config = λ row. started_or (λ new. new.config ≡ row.config) number process row (λ e. refl) refl;
  kind = λ row. started_or (λ new. new.status.kind ≡ row.status.kind) number process row (λ e. refl) refl;
  security = λ row. started_or (λ new. new.security ≡ row.security) number process row (λ e. refl) refl;
}

positive_other : (n : ℕ) → 1 ≤ n → false ≡ (n == 0)
positive_other n first = sym (ne_eqb n 0 (λ e. absurd (omega (arith, e, first))))

-- a service is started by a process below the next one
pub begun : (next process later number by : ℕ) (rows : List Service) → AreServices next process rows → 1 ≤ by → by < later → process ≤ later
    → AreServices next later (map (started_if number by) rows)
begun next process later number by rows s first below up =
    mildly next process later (started_if number by) rows (starts_mildly number by) s up
    (All-map IsStoppedWithout (started_if number by) rows (λ k d lt. started_or IsStoppedWithout number by (get_or rows k d)
    (λ e. positive_other by first) (s.stopped k d lt)))
    (All-map (λ (row : Service). row.process < later) (started_if number by) rows
    (λ k d lt. started_or (λ (row : Service). row.process < later) number by (get_or rows k d) (λ e. below)
    (let low = s.current k d lt in omega (arith, low, up))))

-- a service's current process has a number
pub by_parts : (process : ℕ) (row : Service) → is_by process row ≡ true → ((process == 0) ≡ false) × (row.process ≡ process)
by_parts process row by =
    let parts = and_parts (not (process == 0)) (row.process == process) by in
    (not-true (process == 0) parts.0, eqb-true row.process process parts.1)

pub parts_by : (process : ℕ) (row : Service) → (process == 0) ≡ false → row.process ≡ process → is_by process row ≡ true
parts_by process row some same = rw (some, eq-eqb row.process process same) refl

-- a service whose current process is another one
pub not_by : (process : ℕ) (row : Service) → is_by process row ≡ false → (row.process == 0) ≡ false → (row.process == process) ≡ false
not_by process row out some =
    ne_eqb row.process process (λ same. absurd (let is = parts_by process row (ap (λ n. n == 0) (sym same) ∙ some) same in cc))

-- each service falls whose current process this is
pub fallen_either : (P : Service → Type 0) (process code : ℕ) (row : Service) → (is_by process row ≡ true → P (fallen_by code row))
    → (is_by process row ≡ false → P row) → P (fallen_if process code row)
fallen_either P process code row falls stays =
    elim (is_by process row) as (λ b. is_by process row ≡ b → P (cond b (fallen_by code row) row)) [ true ↦ falls | false ↦ stays ] refl

pub fallen_or : (P : Service → Type 0) (process code : ℕ) (row : Service) → (is_by process row ≡ true → P (fallen_by code row)) → P row
    → P (fallen_if process code row)
fallen_or P process code row falls stays = fallen_either P process code row falls (λ out. stays)

pub falls_mildly : (process code : ℕ) → IsMild (fallen_if process code)
falls_mildly process code = record {
  number = λ row. fallen_or (λ new. new.number ≡ row.number) process code row (λ e. refl) refl;
  config = λ row. fallen_or (λ new. new.config ≡ row.config) process code row (λ e. refl) refl;
  kind = λ row. fallen_or (λ new. new.status.kind ≡ row.status.kind) process code row (λ e. refl) refl;
  security = λ row. fallen_or (λ new. new.security ≡ row.security) process code row (λ e. refl) refl;
}

pub fallen : (next process number code : ℕ) (rows : List Service) → AreServices next process rows
    → AreServices next process (map (fallen_if number code) rows)
fallen next process number code rows s =
    mildly next process process (fallen_if number code) rows (falls_mildly number code) s (omega arith)
    (All-map IsStoppedWithout (fallen_if number code) rows (λ k d lt. fallen_or IsStoppedWithout number code (get_or rows k d) (λ e. refl)
    (s.stopped k d lt)))
    (All-map (λ (row : Service). row.process < process) (fallen_if number code) rows
    (λ k d lt. fallen_or (λ (row : Service). row.process < process) number code (get_or rows k d)
    (λ e. let first = s.first_process in omega arith) (s.current k d lt)))

-- the service with this number moves by a report that is taken
pub reported_or : (P : Service → Type 0) (number : ℕ) (report : Status) (row : Service)
    → ((row.number == number) ≡ true → takes row.status report ≡ true → P (moved_by row (Ok report))) → P row
    → P (reported_if number report row)
reported_or P number report row moves stays =
    elim (row.number == number) as (λ b. (row.number == number) ≡ b → P (cond b (moved_by row (take_report row.status report)) row)) [
      | true ↦ λ e. elim (takes row.status report) as (λ t. takes row.status report ≡ t → P (moved_by row (cond t (Ok report) (Err 13))))
          [ true ↦ moves e | false ↦ λ t. stays ] refl
      | false ↦ λ e. stays
    ] refl

-- a report that is taken tells the type
pub kind_taken : (now report : Status) → takes now report ≡ true → report.kind ≡ now.kind
kind_taken now report taken = eqb-true report.kind now.kind (and_parts _ _ (and_parts _ _ (and_parts _ _ (and_parts _ _ taken).0).0).0).0

pub reports_mildly : (number : ℕ) (report : Status) → IsMild (reported_if number report)
reports_mildly number report = record {
  number = λ row. reported_or (λ new. new.number ≡ row.number) number report row (λ e t. refl) refl;
  config = λ row. reported_or (λ new. new.config ≡ row.config) number report row (λ e t. refl) refl;
  kind = λ row. reported_or (λ new. new.status.kind ≡ row.status.kind) number report row (λ e t. kind_taken row.status report t) refl;
  security = λ row. reported_or (λ new. new.security ≡ row.security) number report row (λ e t. refl) refl;
}

-- the service with a number has this process
abbrev pub LivesIn : ℕ → ℕ → Service → Type 0
LivesIn number process row = (row.number == number) ≡ true → row.process ≡ process

-- who had a process and is STOPPED now has none
stopped_without : (state process : ℕ) → (process == 0) ≡ false → (state == 1) ≡ (process_in_state state process == 0)
stopped_without state process has = elim (state == 1) as (λ b. b ≡ (cond b 0 process == 0)) [ true ↦ refl | false ↦ sym has ]

below_still : (bound state process : ℕ) → 1 ≤ bound → process < bound → process_in_state state process < bound
below_still bound state process first below = elim (state == 1) as (λ b. cond b 0 process < bound) [
  | true ↦ omega (arith, first)
  | false ↦ below
]

pub reported : (next process number by : ℕ) (report : Status) (rows : List Service) → 1 ≤ by → All (LivesIn number by) rows
    → AreServices next process rows → AreServices next process (map (reported_if number report) rows)
reported next process number by report rows there lives s =
    mildly next process process (reported_if number report) rows (reports_mildly number report) s (omega arith)
    (All-map IsStoppedWithout (reported_if number report) rows
    (λ k d lt. (let row = get_or rows k d in reported_or IsStoppedWithout number report row
    (λ e t. stopped_without report.state row.process (ne_eqb row.process 0
    (λ none. absurd (let is = lives k d lt e in omega (arith, none, is, there))))) (s.stopped k d lt))))
    (All-map (λ (row : Service). row.process < process) (reported_if number report) rows
    (λ k d lt. (let row = get_or rows k d in reported_or (λ (row : Service). row.process < process) number report row
    (λ e t. below_still process report.state row.process s.first_process (s.current k d lt)) (s.current k d lt))))

-- a service that was sent is asked no more
pub unasked_or : (P : Service → Type 0) (number : ℕ) (row : Service) → P (record row { asked = false }) → P row → P (unasked_if number row)
unasked_or P number row told stays =
    elim (row.number == number) as (λ b. P (cond b (record row { asked = false }) row)) [ true ↦ told | false ↦ stays ]

pub unasks_mildly : (number : ℕ) → IsMild (unasked_if number)
unasks_mildly number = record {
  number = λ row. unasked_or (λ new. new.number ≡ row.number) number row refl refl;
  config = λ row. unasked_or (λ new. new.config ≡ row.config) number row refl refl;
  kind = λ row. unasked_or (λ new. new.status.kind ≡ row.status.kind) number row refl refl;
  security = λ row. unasked_or (λ new. new.security ≡ row.security) number row refl refl;
}

pub unasked : (next process number : ℕ) (rows : List Service) → AreServices next process rows
    → AreServices next process (map (unasked_if number) rows)
unasked next process number rows s =
    mildly next process process (unasked_if number) rows (unasks_mildly number) s (omega arith)
    (All-map IsStoppedWithout (unasked_if number) rows (λ k d lt. unasked_or IsStoppedWithout number (get_or rows k d)
    (s.stopped k d lt) (s.stopped k d lt)))
    (All-map (λ (row : Service). row.process < process) (unasked_if number) rows
    (λ k d lt. unasked_or (λ (row : Service). row.process < process) number (get_or rows k d) (s.current k d lt) (s.current k d lt)))

-- a service gets a security descriptor
pub secured : (next process number : ℕ) (security : List ℕ) (rows : List Service) → IsWritten security → AreServices next process rows
    → AreServices next process (map (secured_if number security) rows)
secured next process number security rows written s =
    let change = secured_if number security in
    let config : (row : Service) → (change row).config ≡ row.config =
    λ row. secured_or (λ new. new.config ≡ row.config) number security row refl refl in
    record {
      numbered = numbered_map (λ (row : Service). row.number) next change
          (λ row. secured_or (λ new. new.number ≡ row.number) number security row refl refl) rows s.numbered;
      first = s.first;
      first_process = s.first_process;
      names = pairs_map (λ row. Unit {0}) AreOtherNames AreOtherNames change
          (λ a b p q h. rw (config a, config b) h) rows (λ k d lt. tt) s.names;
      displays = pairs_map (λ row. Unit {0}) AreOtherDisplays AreOtherDisplays change
          (λ a b p q h. rw (config a, config b) h) rows (λ k d lt. tt) s.displays;
      configs = All-map IsChecked change rows
          (λ k d lt. secured_or IsChecked number security (get_or rows k d) (s.configs k d lt) (s.configs k d lt));
      kinds = All-map HasKind change rows
          (λ k d lt. secured_or HasKind number security (get_or rows k d) (s.kinds k d lt) (s.kinds k d lt));
      stopped = All-map IsStoppedWithout change rows
          (λ k d lt. secured_or IsStoppedWithout number security (get_or rows k d) (s.stopped k d lt) (s.stopped k d lt));
      secured = all_secured number security rows written s.secured;
      current = All-map (λ (row : Service). row.process < process) change rows
          (λ k d lt. secured_or (λ (row : Service). row.process < process) number security (get_or rows k d) (s.current k d lt)
          (s.current k d lt));
      acyclic = same_graph change (λ row. secured_or (λ new. need_row new ≡ need_row row) number security row refl refl) rows s.acyclic;
    }

-- with a number of a process given to no service
pub later : (next process : ℕ) (rows : List Service) → AreServices next process rows → AreServices next (process + 1) rows
later next process rows s = record {
  numbered = s.numbered;
  first = s.first;
  first_process = omega arith;
  names = s.names;
  displays = s.displays;
  configs = s.configs;
  kinds = s.kinds;
  stopped = s.stopped;
  secured = s.secured;
  current = All-weaker (λ (row : Service). row.process < process) (λ (row : Service). row.process < process + 1)
      (λ row below. omega (arith, below)) rows s.current;
  acyclic = s.acyclic;
}

-- ## A service more, and services fewer

pub added : (next process : ℕ) (rows : List Service) (row : Service) → AreServices next process rows → row.number ≡ next
    → All (λ (old : Service). same_text old.config.name row.config.name ≡ false) rows
    → All (λ (old : Service). same_text old.config.display row.config.display ≡ false) rows
    → IsChecked row → HasKind row → IsStoppedWithout row → IsSecured row → row.process ≡ 0 → HasNoCycle (rows ++ row ∷ [])
    → AreServices (next + 1) process (rows ++ row ∷ [])
added next process rows row s number names displays checked kind stopped secured none free = record {
  numbered = numbered_push (λ (row : Service). row.number) next rows row s.numbered s.first number;
  first = (let first = s.first in omega arith);
  first_process = s.first_process;
  names = all_pairs_push AreOtherNames rows row s.names names;
  displays = all_pairs_push AreOtherDisplays rows row s.displays displays;
  configs = All-push IsChecked rows row s.configs checked;
  kinds = All-push HasKind rows row s.kinds kind;
  stopped = All-push IsStoppedWithout rows row s.stopped stopped;
  secured = All-push IsSecured rows row s.secured secured;
  current = All-push (λ (row : Service). row.process < process) rows row s.current
      (let first = s.first_process in omega (arith, none, first));
  acyclic = free;
}

pub cleared : (next process : ℕ) (p : Service → Bool) (rows : List Service) → AreServices next process rows
    → AreServices next process (filter p rows)
cleared next process p rows s = record {
  numbered = numbered_filter (λ (row : Service). row.number) next p rows s.numbered;
  first = s.first;
  first_process = s.first_process;
  names = AllPairs-filter AreOtherNames p rows s.names;
  displays = AllPairs-filter AreOtherDisplays p rows s.displays;
  configs = All-filter p IsChecked rows s.configs;
  kinds = All-filter p HasKind rows s.kinds;
  stopped = All-filter p IsStoppedWithout rows s.stopped;
  secured = All-filter p IsSecured rows s.secured;
  current = All-filter p (λ (row : Service). row.process < process) rows s.current;
  acyclic = fewer p rows s.numbered.rising s.acyclic;
}
