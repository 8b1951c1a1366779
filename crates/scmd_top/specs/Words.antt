-- What the words ask for.
use Rattle.std.specs.Prelude.{ℕ, ◌≤◌, Bool, ◌&&◌, nat_le, false, true, not, codes, List, [], ◌∷◌, Option, None, Some, option_and_then}
use Rattle.std.specs.Prelude.{option_map, is_some, if◌then◌else◌}
use Rattle.scm_model.specs.declared.flat.Principal.{Principal}
use Rattle.scm_model.specs.declared.flat.Principal.TheVariants.{Admin}
use Rattle.scmd_top.specs.declared.words.Job.{Job}
use Rattle.scm_lines.specs.Words.{decimal_at}
use Rattle.scmd_top.specs.declared.words.Job.TheVariants.{Audit, Pipe, Replay, Generate, Serve}
use Rattle.scmd_top.specs.Settings.{is_word, no_options, options_from, value_from}
use Rattle.scmd_top.specs.declared.settings.Setting.{Setting}
use Rattle.scmd_top.specs.declared.settings.Settings.{Settings}
use Rattle.scmd_top.specs.declared.words.Task.{Task}
use Rattle.scmd_top.specs.declared.words.Task.TheVariants.{Compact, Move, Run}

-- ## Options of each job

-- nothing is said of ports and groups, and no value is waited for
abbrev pub pipe_with : Option Setting → (admin user take_admin take_user : Option ℕ) → (groups : Bool) → Option Principal → Option Job
pipe_with None None None None None false None = Some (Pipe Admin)
pipe_with None None None None None false (Some principal) = Some (Pipe principal)
pipe_with waits admin user take_admin take_user groups principal = None

-- a pipe's connection is an administrator's, unless it is said; no history of it is exported
abbrev pub pipe_of : Settings → Option Job
pipe_of s = if s.export then None else pipe_with s.waits s.admin s.user s.take_admin s.take_user s.groups s.principal

-- no option is given but a file or a store
abbrev pub is_bare : Settings → Bool
is_bare s = is_some (pipe_of s) && not (is_some s.principal)

-- a replay has no option but its file
abbrev pub replay_job : Settings → Option Job
replay_job s = if is_bare s && not s.store then Some Replay else None

-- where two ports are listened at, how many connections each takes, and whether the history is exported
abbrev pub serve_job : Option Setting → Option Principal → (admin user : Option ℕ) → (take_admin take_user : Option ℕ) → (export : Bool)
    → Option Job
serve_job None None (Some admin) (Some user) take_admin take_user export =
    Some (Serve (record { port = admin; take = take_admin }) (record { port = user; take = take_user }) export)
serve_job waits principal admin user take_admin take_user export = None

-- both ports have to be given, and each value that was begun
abbrev pub serving_of : Settings → Option Job
serving_of s = serve_job s.waits s.principal s.admin s.user s.take_admin s.take_user s.export

-- what is said by options
abbrev pub with_options : {A : Type 0} → (Settings → Option A) → List (List ℕ) → Option A
with_options said words = option_and_then said (options_from no_options words)

-- ## The job

-- at most 512 services are made, and at least one
abbrev pub within : ℕ → Option ℕ
within number = if nat_le 1 number && nat_le number 512 then Some number else None

-- at most 512 services are to be made
abbrev pub IsFew : Job → Type 0
IsFew (Pipe principal) = Unit {0}
IsFew Replay = Unit {0}
IsFew (Generate services) = services ≤ 512
IsFew Audit = Unit {0}
IsFew (Serve admin user export) = Unit {0}

-- for how many services steps are generated
abbrev pub generate_with : List (List ℕ) → Option Job
generate_with [] = None
generate_with (number ∷ []) = option_map Generate (option_and_then within (decimal_at number))
generate_with (number ∷ other ∷ words) = None

-- an audit has no arguments
abbrev pub audit_with : List (List ℕ) → Option Job
audit_with [] = Some Audit
audit_with (word ∷ words) = None

-- the job that a word asks for, with these options
abbrev pub job_named : List ℕ → List (List ℕ) → Option Job
job_named word words =
    if is_word word (codes "pipe") then with_options pipe_of words
    else if is_word word (codes "replay") then with_options replay_job words
    else if is_word word (codes "generate") then generate_with words
    else if is_word word (codes "audit") then audit_with words
    else if is_word word (codes "serve") then with_options serving_of words
    else None

-- ## The mode

-- a task without options of its own
abbrev pub bare_task : Task → Settings → Option Task
bare_task task s = if is_bare s then Some task else None

-- the task that a word asks for, with these options: a job, or what is done to a store
abbrev pub task_named : List ℕ → List (List ℕ) → Option Task
task_named word words =
    if is_word word (codes "compact") then with_options (bare_task Compact) words
    else if is_word word (codes "move") then with_options (bare_task Move) words
    else option_map Run (job_named word words)

abbrev pub task_of : List (List ℕ) → Option Task
task_of [] = None
task_of (word ∷ words) = task_named word words

-- which file they name, if they are a task
abbrev pub path_of : List (List ℕ) → Option (List ℕ)
path_of words = value_from (codes "--db") false words

-- which store they name, if they are a task
abbrev pub store_of : List (List ℕ) → Option (List ℕ)
store_of words = value_from (codes "--store") false words

-- which groups they list, if they are a task
abbrev pub listed_groups : List (List ℕ) → Option (List ℕ)
listed_groups words = value_from (codes "--groups") false words

-- what is done, and where its journal is kept
pub data Mode : Type 0 where
  OverKeeper : Job → Mode
  OverStore : Job → Mode
  Compacting : Mode
  Moving : Mode

-- By whether a file and a store are named: a job has at most one of them, a compaction has a store, and a move has both.
abbrev pub mode_by : Task → (file store : Bool) → Option Mode
mode_by (Run job) file false = Some (OverKeeper job)
mode_by (Run job) false true = Some (OverStore job)
mode_by Compact false true = Some Compacting
mode_by Move true true = Some Moving
mode_by task file store = None

-- whether the words name a file
abbrev pub names_file : List (List ℕ) → Bool
names_file words = is_some (path_of words)

-- whether they name a store
abbrev pub names_store : List (List ℕ) → Bool
names_store words = is_some (store_of words)

-- the mode, or none if the words aren't in the set
abbrev pub mode_of : List (List ℕ) → Option Mode
mode_of words = option_and_then (λ (task : Task). mode_by task (names_file words) (names_store words)) (task_of words)

-- at most 512 services are to be made
abbrev pub HasFew : Task → Type 0
HasFew (Run job) = IsFew job
HasFew task = Unit {0}
