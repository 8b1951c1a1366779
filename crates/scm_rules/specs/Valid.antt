-- What is true of every state that a run reaches.
use Rattle.std.specs.Prelude.{ℕ, Bool, ◌≡◌, ◌<◌, ◌≤◌, true, false, not, ◌==◌, ◌||◌, ◌&&◌, IsTrue, IfSome, None, List, AllPairs, All, filter}
use Rattle.std.specs.Prelude.{find}
use Rattle.std.specs.Prelude.{is_none, length, map}
use Rattle.std.specs.List.{list_all, list_any}
use Rattle.scm_text.specs.Fold.{same_text}
use Rattle.scm_model.specs.declared.flat.Flat.{Flat}
use Rattle.scm_model.specs.declared.flat.Limits.{Limits}
use Rattle.scm_model.specs.declared.flat.Service.{Service}
use Rattle.scm_model.specs.declared.flat.HandleKind.{HandleKind}
use Rattle.scm_model.specs.declared.flat.HandleKind.TheVariants as kinds
use Rattle.scm_model.specs.declared.flat.HandleRow.{HandleRow}
use Rattle.scm_model.specs.declared.flat.Phase.{Phase}
use Rattle.scm_model.specs.declared.flat.Phase.TheVariants as phases
use Rattle.scm_model.specs.declared.flat.Process.{Process}
use Rattle.scm_model.specs.declared.flat.Wanted.{Wanted}
use Rattle.scm_model.specs.declared.flat.Plan.{Plan}
use Rattle.scm_model.specs.declared.flat.Registration.{Registration}
use Rattle.scm_model.specs.declared.flat.Due.{Due}
use Rattle.scm_model.specs.declared.flat.DueKind.{DueKind}
use Rattle.scm_model.specs.declared.flat.DueKind.TheVariants as dues
use Rattle.scm_model.specs.declared.flat.Caller.{Caller}
use Rattle.scm_model.specs.Rows.{is_caller, is_lock}
use Rattle.scm_model.specs.Purge.{purged}
use Rattle.scm_model.specs.declared.codes.TheConstants.{SERVICE_START_PENDING, SERVICE_STOPPED}
use Rattle.database_lock.specs.Locking.{is_held_by}
use Rattle.scm_model.specs.Needs.{needs_of}
use Rattle.scm_model.specs.Walks.{IsAcyclic}
use Rattle.service_record.specs.Checks.{check_new}
use Rattle.start_plan.specs.Settle.{is_due_still, settled, stays}
use Rattle.start_plan.specs.Started.{TriedOnce}
use Rattle.scm_model.specs.Processes.{is_by, is_running_phase, is_shared}
use Rattle.scm_rules.specs.Needs.{need_rows}
use Rattle.scm_rules.specs.Due.{is_due_of}
use Rattle.scm_rules.specs.Security.{IsSecured}

-- numbers are at least 1, rise, and lie below the next one
pub record AreNumbered {A : Type 0} (number : A → ℕ) (next : ℕ) (rows : List A) : Type 0 where
  pub positive : All (λ row. 1 ≤ number row) rows
  pub below : All (λ row. number row < next) rows
  pub rising : AllPairs (λ a b. number a < number b) rows

-- numbers are at least 1, no two are the same, and they lie below the next one
pub record AreApart {A : Type 0} (number : A → ℕ) (next : ℕ) (rows : List A) : Type 0 where
  pub positive : All (λ row. 1 ≤ number row) rows
  pub below : All (λ row. number row < next) rows
  pub apart : AllPairs (λ a b. (number a == number b) ≡ false) rows

-- ## Handles

-- handles of the lock and of registrations have no rights
abbrev pub HasPlainMask : HandleKind → ℕ → Type 0
HasPlainMask kinds.Lock granted = granted ≡ 0
HasPlainMask (kinds.Notify number) granted = granted ≡ 0
HasPlainMask kind granted = Unit {0}

-- ## Processes

-- whether a process is still to be launched
abbrev pub is_wanted_phase : Phase → Bool
is_wanted_phase phases.Wanted = true
is_wanted_phase phases.Taken = false
is_wanted_phase phases.Launched = false

abbrev pub is_to_launch : Process → Bool
is_to_launch row = is_wanted_phase row.phase

abbrev pub has_process : List Process → ℕ → Bool
has_process rows number = list_any (λ (row : Process). row.number == number) rows

-- a service's current process, if it has one, is listed
abbrev pub HasListed : List Process → Service → Type 0
HasListed processes row = (row.process == 0 || has_process processes row.process) ≡ true

-- whether a service is START_PENDING by this process
abbrev pub is_started_by : Process → Service → Bool
is_started_by process row = row.number == process.service && row.process == process.number && row.status.state == SERVICE_START_PENDING

-- whether a service is START_PENDING where this is its current process
abbrev pub starts_if_by : Process → Service → Bool
starts_if_by process row = not (is_by process.number row) || row.status.state == SERVICE_START_PENDING

-- until a service's process is launched, it is that service's current one, and each service whose current one it is is START_PENDING
abbrev pub HasStarting : List Service → Process → Type 0
HasStarting services row =
    (row.service == 0 || is_running_phase row.phase || list_any (is_started_by row) services && list_all (starts_if_by row) services) ≡ true

-- a service is asked to start by a process that other services may live in too
abbrev pub IsAskedRight : List Process → Service → Type 0
IsAskedRight processes row = row.asked ≡ true → is_shared (find (λ (p : Process). p.number == row.process) processes) ≡ true

-- ## Plans

-- who began a plan has joined, where anybody did
abbrev pub HasCaller : Flat → Plan → Type 0
HasCaller f plan = (plan.caller == 0 || is_caller f plan.caller) ≡ true

-- whether a row that becomes due is the deadline of a plan
abbrev pub is_deadline_of : ℕ → DueKind → Bool
is_deadline_of plan (dues.Deadline number) = number == plan
is_deadline_of plan kind = false

-- a plan that is undecided has one deadline
abbrev pub HasDeadline : List Due → Plan → Type 0
HasDeadline rows plan = is_none plan.code ≡ true → length (filter (λ (due : Due). is_deadline_of plan.number due.kind) rows) ≡ 1

-- ## Commands, and what is due

-- one word, of at most 2,048 units
pub record IsShortWord (words : List (List ℕ)) : Type 0 where
  pub one : length words ≡ 1
  pub short : All (λ (word : List ℕ). length word ≤ 2048) words

-- a command is launched by such a word
abbrev pub HasShortWord : Wanted → Type 0
HasShortWord row = row.command ≡ true → IsShortWord row.words

-- the rows that become due for a service
abbrev pub dues_of : ℕ → List Due → List Due
dues_of service rows = filter (λ (due : Due). is_due_of service due.kind) rows

-- ## Registrations

-- what a registration was told is of a service whose name has at most 256 units
abbrev pub HasShortName : Registration → Type 0
HasShortName row = length row.name ≤ 256

-- ## States

pub record IsValid (l : Limits) (f : Flat) : Type 0 where
  -- numbers
  pub services : AreNumbered (λ (row : Service). row.number) f.next.service f.services
  pub handles : AreNumbered (λ (row : HandleRow). row.number) f.next.handle f.handles
  pub processes : AreNumbered (λ (row : Process). row.number) f.next.process f.processes
  pub plans : AreNumbered (λ (row : Plan). row.number) f.next.plan f.plans
  pub registrations : AreApart (λ (row : Registration). row.number) f.next.registration f.registrations
  pub dues : AreNumbered (λ (row : Due). row.number) f.next.due f.dues
  pub callers : AreNumbered (λ (row : Caller). row.number) f.next.caller f.callers
  -- no two services share a name or a display name, each has a configuration that is accepted, and is STOPPED exactly where it has no
  -- process; needs have no cycle
  pub names : AllPairs (λ (a b : Service). same_text a.config.name b.config.name ≡ false) f.services
  pub displays : AllPairs (λ (a b : Service). same_text a.config.display b.config.display ≡ false) f.services
  pub configs : All (λ (row : Service). check_new row.config None ≡ 0) f.services
  pub kinds : All (λ (row : Service). row.status.kind ≡ row.config.kind) f.services
  pub stopped : All (λ (row : Service). (row.status.state == SERVICE_STOPPED) ≡ (row.process == 0)) f.services
  pub acyclic : IsAcyclic (needs_of (need_rows f.services))
  -- the launches that are wanted are those of the processes that are still to be launched, in order
  pub current : All (HasListed f.processes) f.services
  pub wanted : map (λ (row : Wanted). row.process) f.wanted ≡ map (λ (row : Process). row.number) (filter is_to_launch f.processes)
  pub starting : All (HasStarting f.services) f.processes
  pub asked : All (IsAskedRight f.processes) f.services
  -- no descriptor was set, or its written form is kept
  pub secured : All IsSecured f.services
  -- plans try no service twice; an undecided one has one deadline, a decided one has a caller, and no other deadline stands
  pub tried : TriedOnce f.plans
  pub known : All (HasCaller f) f.plans
  pub deadlines : All (HasDeadline f.dues) f.plans
  pub decided : All (λ (plan : Plan). stays plan ≡ true) f.plans
  pub due_still : All (λ (due : Due). is_due_still f.plans due.kind ≡ true) f.dues
  -- handles are of callers, and one is the lock's exactly where it holds the lock
  pub held : All (λ (row : HandleRow). IsTrue (is_caller f row.caller)) f.handles
  pub locks : All (λ (row : HandleRow). is_lock row.kind ≡ is_held_by row.number f.lock) f.handles
  pub holder : IfSome f.lock (λ lock. IsTrue (list_any (λ (row : HandleRow). row.number == lock.handle) f.handles))
  pub masks : All (λ (row : HandleRow). HasPlainMask row.kind row.granted) f.handles
  -- commands have their one word, registrations are of callers and were told of short names, and each service has one row at most that
  -- becomes due
  pub commands : All HasShortWord f.wanted
  pub registered : All (λ (row : Registration). IsTrue (is_caller f row.caller)) f.registrations
  pub told : All HasShortName f.registrations
  pub due_once : (service : ℕ) → length (dues_of service f.dues) ≤ 1
  -- no plan goes on by itself, and nobody is to leave
  pub settled : settled l f ≡ f
  pub purged : purged f ≡ f
