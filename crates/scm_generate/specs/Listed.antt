-- The stated list of steps for n services, S1 to Sn, in which Si needs Sj, where j is half of i: all are created, then each is
-- started with what it needs, runs, and stops again.
use Rattle.std.specs.Prelude.{ℕ, zero, suc, ◌+◌, ◌/◌, ◌%◌, ◌==◌, List, [], ◌∷◌, ◌++◌, length, Option, None, Some, codes, decimal}
use Rattle.std.specs.Prelude.{if◌then◌else◌}
use Rattle.std.specs.Int.Digits.{digits_of}
use Rattle.scm_model.specs.declared.flat.Principal.TheVariants.{Admin}
use Rattle.scm_model.specs.declared.flat.Status.{Status}
use Rattle.scm_model.specs.declared.calls.NewService.{NewService}
use Rattle.scm_model.specs.declared.calls.Request.{Request}
use Rattle.scm_model.specs.declared.calls.Request.TheVariants as request
use Rattle.scm_model.specs.declared.steps.Kept.{Kept}
use Rattle.scm_model.specs.declared.steps.Kept.TheVariants as appended
use Rattle.scm_model.specs.declared.steps.Step.{Step}
use Rattle.scm_model.specs.declared.steps.Step.TheVariants.{Joined, Call, EndStart, LaunchTaken, Launched, Report, Ended, Gone}
use Rattle.scm_model.specs.Entries.{Entry}

-- all takes place at moment 0
abbrev pub at_once : Step → Entry
at_once step = (0, step)

-- there is one caller
abbrev pub call_now : Request → Kept → Entry
call_now asked append = at_once (Call 1 asked append)

-- ## The beginning

-- an administrator joins, and opens the manager with every right that it may have; this is handle 1
abbrev pub opening_calls : List Entry
opening_calls = at_once (Joined Admin) ∷ call_now (request.OpenManager None 0x02000000) appended.NotAsked ∷ []

-- ## The services

abbrev pub nth_name : ℕ → List ℕ
nth_name i = codes "S" ++ decimal i

-- 16-bit units as bytes, the low one first
abbrev pub wide_bytes : List ℕ → List ℕ
wide_bytes [] = []
wide_bytes (unit ∷ units) = unit % 256 ∷ unit / 256 ∷ wide_bytes units

-- a list of one name: the name is ended by a 0, and the list by one more
abbrev pub alone : List ℕ → List ℕ
alone name = wide_bytes name ++ 0 ∷ 0 ∷ 0 ∷ 0 ∷ []

-- the need of the service with this number; there is none with number 0
abbrev pub nth_need : ℕ → Option (List ℕ)
nth_need j = if j == 0 then None else Some (alone (nth_name j))

-- a process of its own that is started on demand; an error of it is reported
abbrev pub nth_service : ℕ → NewService
nth_service i = record {
  handle = 1;
  name = nth_name i;
  display = None;
  access = 0xF01FF;
  kind = 0x10;
  start = 3;
  error = 1;
  path = codes "/bin/true";
  group = None;
  tag = None;
  needs = nth_need (i / 2);
  account = None;
}

abbrev pub creation_of : ℕ → Entry
creation_of i = call_now (request.Create (nth_service i)) appended.Kept

-- S1 to Sn are created in order, so that Si has handle i + 1
abbrev pub creations : ℕ → List Entry
creations zero = []
creations (suc i) = creations i ++ creation_of (suc i) ∷ []

-- ## A start

-- Si and all that it needs are as many services as i has binary digits: i, half of i, and so on down to 1
abbrev pub depth_of : ℕ → ℕ
depth_of i = length (digits_of 2 i)

-- a status that accepts these controls, without an error
abbrev pub told : (state accepted : ℕ) → Status
told state accepted = record { kind = 0x10; state = state; accepted = accepted; win32 = 0; specific = 0; checkpoint = 0; hint = 0 }

-- a process is launched, which has its number as the system's too, and tells that it is RUNNING and accepts STOP
abbrev pub up : ℕ → List Entry
up process = at_once LaunchTaken ∷ at_once (Launched process process) ∷ at_once (Report process 0 (told 4 1)) ∷ []

-- a process tells that it is STOPPED, and ends
abbrev pub down : ℕ → List Entry
down process = at_once (Report process 0 (told 1 0)) ∷ at_once (Ended process) ∷ []

-- so many processes from a first one on are launched, in order
abbrev pub ups : (first count : ℕ) → List Entry
ups first zero = []
ups first (suc count) = ups first count ++ up (first + count)

-- they end, the last one first
abbrev pub downs : (first count : ℕ) → List Entry
downs first zero = []
downs first (suc count) = down (first + count) ++ downs first count

abbrev pub asked_start : ℕ → Entry
asked_start i = call_now (request.Start (i + 1) (Some [])) appended.NotAsked

-- Si is started with what it needs, the start is answered, and the processes end; this is the number of the first process,
-- and that of the plan
abbrev pub run_of : (i process plan : ℕ) → List Entry
run_of i process plan =
    asked_start i
    ∷ (ups process (depth_of i) ++ (at_once (EndStart 1 plan) ∷ downs process (depth_of i)))

-- this for Si down to S1; the numbers of processes and plans go on rising
abbrev pub all_runs : (i process plan : ℕ) → List Entry
all_runs zero process plan = []
all_runs (suc i) process plan = run_of (suc i) process plan ++ all_runs i (process + depth_of (suc i)) (plan + 1)

-- ## All

unfoldable pub generated : ℕ → List Entry
generated n = opening_calls ++ (creations n ++ (all_runs n 1 1 ++ (at_once (Gone 1) ∷ [])))

-- how many processes there are in it
abbrev pub lines_to : ℕ → ℕ
lines_to zero = 0
lines_to (suc i) = lines_to i + depth_of (suc i)
