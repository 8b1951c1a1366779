-- A process stays as it is but by the entries that are of it.
use Rattle.std.proofs.Common.{ℕ, ◌≡◌, ◌∙◌, ◌<◌, ◌≤◌, ◌==◌, Bool, true, false, not, cond, List, [], ◌∷◌, Option, None, Some, filter, find}
use Rattle.std.proofs.Common.{map, ap, sym, refl, subst, arith, eqb-true, ne_eqb}
use Rattle.std.specs.Prelude.{is_some, option_map}
use Rattle.scm_model.specs.declared.flat.Flat.{Flat}
use Rattle.scm_model.specs.declared.flat.Limits.{Limits}
use Rattle.scm_model.specs.declared.flat.Phase.TheVariants as phases
use Rattle.scm_model.specs.declared.flat.Process.{Process}
use Rattle.scm_model.specs.declared.steps.Answer.{Answer}
use Rattle.scm_model.specs.declared.steps.Step.{Step}
use Rattle.scm_model.specs.declared.steps.Step.TheVariants.{Call, LaunchTaken, Launched, LaunchFailed, Report, Ended, ControlTaken, Tick}
use Rattle.scm_model.specs.declared.steps.Step.TheVariants.{Raised}
use Rattle.scm_model.specs.Changes.{with_moment}
use Rattle.scm_model.specs.Rows.{service_of}
use Rattle.start_plan.specs.Entered.{is_shared_by, wanted_process}
use Rattle.start_plan.specs.Settle.{settled}
use Rattle.start_plan.proofs.Enterings.{all_units, up_entered}
use Rattle.start_plan.proofs.Hosts.{entered_keeps}
use Rattle.start_plan.proofs.Keeps.{Keeps, keeps_all}
use Rattle.scm_rules.specs.Controls.{first_asked}
use Rattle.scm_rules.specs.Reports.{reporting}
use Rattle.scm_rules.specs.Launches.{currents, first_wanted, launched_if, process_of, taken_if, with_fallen, without_process}
use Rattle.scm_rules.specs.Steps.{at_moment, effect_of, finished, step_of}
use Rattle.scm_runs.proofs.Along.{Gives}
use Rattle.scm_runs.proofs.Effects.{process_up}
use Rattle.scm_runs.proofs.Frames.{finished_keeps}
use Rattle.scm_runs.proofs.Lists.{find_filter}
use Rattle.scm_runs.proofs.Sound.{Sound}
use Rattle.scm_rules.specs.Named.{names_process, takes_process, is_it}
use Rattle.scm_history.specs.Processes.{OthersStay, apart_from_controls}
use Rattle.scm_history.proofs.Effects.{of_call, of_raise, released_apart, sent_apart}
use Rattle.scm_history.proofs.Finds.{find_map, find_push, found_below, found_map, none_filter}
use Rattle.scm_model.proofs.Found.{found_keeps}
use Rattle.scm_runs.proofs.Failing.{all_failing_apart, failing_apart}
use Rattle.scm_rules.specs.Failures.{failed_by}
use Rattle.scm_runs.proofs.Unasked.{ticked_by}
use Rattle.scm_rules.specs.Ticks.{ticked}
use Rattle.scm_model.specs.declared.codes.TheConstants.{ERROR_PROCESS_ABORTED}

-- whether a process has a number
abbrev pub has : ℕ → Process → Bool
has number row = row.number == number

-- ## Changes of one process

-- a change of the process with a number, which keeps it
pub record IsOf (one : ℕ) (change : Process → Process) : Type 0 where
  pub number_same : (row : Process) → (change row).number ≡ row.number
  pub others : (row : Process) → (row.number == one) ≡ false → change row ≡ row

pub takes : (one : ℕ) → IsOf one (taken_if one)
takes one = record {
  number_same = λ row. elim (row.number == one) as (λ b. (cond b (record row { phase = phases.Taken }) row).number ≡ row.number)
      [ true ↦ refl | false ↦ refl ];
  others = λ row e. rw e refl;
}

pub launches : (one pid : ℕ) → IsOf one (launched_if one pid)
launches one pid = record {
  number_same = λ row. elim (row.number == one) as (λ b. (cond b (record row { phase = phases.Launched; pid = pid }) row).number ≡
      row.number) [ true ↦ refl | false ↦ refl ];
  others = λ row e. rw e refl;
}

-- who has another number isn't the one
pub apart : (number one : ℕ) (row : Process) → (number == one) ≡ false → has number row ≡ true → (row.number == one) ≡ false
apart number one row other same = subst (λ n. (n == one) ≡ false) (sym (eqb-true row.number number same)) other

-- another process is found as it was
pub others_changed : (number one : ℕ) (change : Process → Process) (rows : List Process) → IsOf one change → (number == one) ≡ false
    → find (has number) (map change rows) ≡ find (has number) rows
others_changed number one change rows is other =
    find_map (has number) change (λ row. ap (λ n. n == number) (is.number_same row))
    (λ row same. is.others row (apart number one row other same)) rows

is_some-map : (change : Process → Process) (row : Option Process) → is_some (option_map change row) ≡ is_some row
is_some-map change None = refl
is_some-map change (Some row) = refl

-- nobody is listed whom no change lists
none_changed : (number one : ℕ) (change : Process → Process) (rows : List Process) → IsOf one change
    → is_some (find (has number) (map change rows)) ≡ is_some (find (has number) rows)
none_changed number one change rows is =
    ap is_some (found_map (has number) change (λ row. ap (λ n. n == number) (is.number_same row)) rows)
    ∙ is_some-map change (find (has number) rows)

-- ## Processes apart from their controls

pub found_apart : (number : ℕ) (befores afters : List Process) → map apart_from_controls afters ≡ map apart_from_controls befores
    → option_map apart_from_controls (find (has number) afters) ≡ option_map apart_from_controls (find (has number) befores)
found_apart number befores afters e =
    sym (found_map (has number) apart_from_controls (λ row. refl) afters) ∙ ap (find (has number)) e
    ∙ found_map (has number) apart_from_controls (λ row. refl) befores

-- a test that looks at no controls tells the same
pub told_apart : (test : Option Process → Bool) → ((row : Option Process) → test (option_map apart_from_controls row) ≡ test row)
    → (number : ℕ) (befores afters : List Process)
    → map apart_from_controls afters ≡ map apart_from_controls befores → test (find (has number) afters) ≡ test (find (has number) befores)
told_apart test same number befores afters e = sym (same (find (has number) afters)) ∙ ap test (found_apart number befores afters e)
    ∙ same (find (has number) befores)

-- ## A process that leaves

pub none_left : (number : ℕ) (rows : List Process) → find (has number) (filter (λ (row : Process). not (row.number == number)) rows) ≡ None
none_left number [] = refl
none_left number (row ∷ rows) =
    elim (row.number == number) as (λ b. (row.number == number) ≡ b
    → find (has number) (cond (not b) (row ∷ filter (λ (row : Process). not (row.number == number)) rows)
    (filter (λ (row : Process). not (row.number == number)) rows)) ≡ None) [
      | true ↦ λ e. none_left number rows
      | false ↦ λ e. rw e (none_left number rows)
    ] refl

-- what isn't so of a process, and of none, isn't so where one leaves
pub left_not : (test : Option Process → Bool) → test None ≡ false → (number process : ℕ) (rows : List Process)
    → test (find (has number) rows) ≡ false → test (find (has number) (filter (λ (row : Process). not (row.number == process)) rows)) ≡
    false
left_not test none number process rows is =
    elim (number == process) as (λ b. (number == process) ≡ b → test (find (has number)
    (filter (λ (row : Process). not (row.number == process)) rows)) ≡ false) [
      | true ↦ λ e. subst (λ n. test (find (has number) (filter (λ (row : Process). not (row.number == n)) rows)) ≡ false)
          (eqb-true number process e) (ap test (none_left number rows) ∙ none)
      | false ↦ λ e. ap test (find_filter (has number) (λ (row : Process). not (row.number == process))
          (λ row same. ap not (apart number process row e same)) rows) ∙ is
    ] refl

-- ## Effects

others_left : (number process : ℕ) (rows : List Process) → (number == process) ≡ false
    → option_map apart_from_controls (find (has number) (filter (λ (row : Process). not (row.number == process)) rows)) ≡ option_map
    apart_from_controls (find (has number) rows)
others_left number process rows other =
    ap (option_map apart_from_controls) (find_filter (has number) (λ (row : Process). not (row.number == process))
    (λ row same. ap not (apart number process row other same)) rows)

-- numbers that were given have the process that they had
pub record IsAs (bound number : ℕ) (row : Option Process) (g : Flat) : Type 0 where
  pub up : bound ≤ g.next.process
  pub same : process_of g number ≡ row

-- a tick leaves them so
pub ticked_still : (l : Limits) (f : Flat) (number : ℕ) → number < f.next.process
    → IsAs f.next.process number (process_of f number) (ticked l f)
ticked_still l f number low = ticked_by (IsAs f.next.process number (process_of f number)) l (record {
  spends = λ g row is p. record { up = p.up; same = p.same };
  starts = λ g row there can p. record { up = p.up; same = p.same };
  runs = λ g row there can p. record {
    up = (let up = p.up in omega (arith, up));
    same = find_push (has number) g.processes (wanted_process g.next.process 0 false)
        (ne_eqb g.next.process number (λ e. absurd (let up = p.up in omega (arith, e, up, low)))) ∙ p.same;
  };
  reboots = λ g p. record { up = p.up; same = p.same };
}) f (record { up = omega arith; same = refl })

of_effect : (l : Limits) (f : Flat) (moment : ℕ) (step : Step) (number : ℕ) → number < f.next.process → names_process number step ≡ false
    → takes_process f number step ≡ false
    → option_map apart_from_controls (process_of (effect_of l (at_moment f moment step) step).flat number) ≡ option_map apart_from_controls
    (process_of f number)
of_effect l f moment (Call caller asked append) number low named taken =
    found_apart number f.processes _ (of_call l (with_moment f moment) caller asked append).processes
of_effect l f moment LaunchTaken number low named taken =
    found_keeps (λ (rows : List Process). option_map apart_from_controls (find (has number) rows) ≡ option_map apart_from_controls
    (find (has number) f.processes)) (λ process. map (taken_if process)) (first_wanted f.wanted) f.processes refl
    (λ one is. ap (option_map apart_from_controls) (others_changed number one (taken_if one) f.processes (takes one)
    (ap (is_it number) (sym is) ∙ taken)))
of_effect l f moment (Launched process pid) number low named taken =
    ap (option_map apart_from_controls) (others_changed number process (launched_if process pid) f.processes (launches process pid) named)
of_effect l f moment (LaunchFailed process code) number low named taken = others_left number process f.processes named
of_effect l f moment (Report process service status) number low named taken =
    failing_apart (λ (g : Flat). option_map apart_from_controls (process_of g number) ≡ option_map apart_from_controls
    (process_of f number)) (failed_by status (reporting f process service)) _
    (found_apart number f.processes _ (released_apart status (reporting f process service) f.processes))
of_effect l f moment (Ended process) number low named taken =
    all_failing_apart (λ (g : Flat). option_map apart_from_controls (process_of (without_process g process) number) ≡ option_map
    apart_from_controls (process_of f number)) (currents process f.services)
    (with_fallen (with_moment f moment) process ERROR_PROCESS_ABORTED) (others_left number process f.processes named)
of_effect l f moment (ControlTaken process) number low named taken = found_apart number f.processes _
    (sent_apart (first_asked f process) process f.processes)
of_effect l f moment Tick number low named taken = ap (option_map apart_from_controls)
    (ticked_still l (with_moment f moment) number low).same
of_effect l f moment (Raised caller subtype) number low named taken = found_apart number f.processes _
    (of_raise l (with_moment f moment) caller subtype).processes
of_effect l f moment step number low named taken = refl

-- an effect lists nobody whose number was given
pub none_effect : (l : Limits) (f : Flat) (moment : ℕ) (step : Step) (number : ℕ) → number < f.next.process
    → is_some (process_of f number) ≡ false → is_some (process_of (effect_of l (at_moment f moment step) step).flat number) ≡ false
none_effect l f moment (Call caller asked append) number low none = told_apart is_some
    (is_some-map apart_from_controls) number f.processes _ (of_call l (with_moment f moment) caller asked append).processes ∙ none
none_effect l f moment LaunchTaken number low none =
    found_keeps (λ (rows : List Process). is_some (find (has number) rows) ≡ false) (λ process. map (taken_if process))
    (first_wanted f.wanted) f.processes none
    (λ one is. none_changed number one (taken_if one) f.processes (takes one) ∙ none)
none_effect l f moment (Launched process pid) number low none = none_changed number process (launched_if process pid) f.processes
    (launches process pid) ∙ none
none_effect l f moment (LaunchFailed process code) number low none = none_filter (has number)
    (λ (row : Process). not (row.number == process)) f.processes none
none_effect l f moment (Report process service status) number low none = failing_apart (λ (g : Flat). is_some (process_of g number) ≡ false)
    (failed_by status (reporting f process service)) _ (told_apart is_some (is_some-map apart_from_controls) number f.processes _
    (released_apart status (reporting f process service) f.processes) ∙ none)
none_effect l f moment (Ended process) number low none =
    all_failing_apart (λ (g : Flat). is_some (process_of (without_process g process) number) ≡ false) (currents process f.services)
    (with_fallen (with_moment f moment) process ERROR_PROCESS_ABORTED)
    (none_filter (has number) (λ (row : Process). not (row.number == process)) f.processes none)
none_effect l f moment (ControlTaken process) number low none = told_apart is_some (is_some-map apart_from_controls) number f.processes _
    (sent_apart (first_asked f process) process f.processes) ∙ none
none_effect l f moment Tick number low none = ap is_some (ticked_still l (with_moment f moment) number low).same ∙ none
none_effect l f moment (Raised caller subtype) number low none =
    told_apart is_some (is_some-map apart_from_controls) number f.processes _ (of_raise l (with_moment f moment) caller subtype).processes
    ∙ none
none_effect l f moment step number low none = none

-- ## Settling

stays_as : (l : Limits) (bound number : ℕ) (row : Option Process) → number < bound → Keeps l (IsAs bound number row) (λ plan. Unit {0})
stays_as l bound number row low = record {
  enters = λ g plan service words entry is. entered_keeps (IsAs bound number row) g service words
      (λ none. record {
        up = (let up = is.up in omega arith);
        same = find_push (has number) g.processes (wanted_process g.next.process service (is_shared_by (service_of g service)))
            (ne_eqb g.next.process number (λ e. absurd (let up = is.up in omega (arith, e, up, low)))) ∙ is.same;
      }) (λ process host. record { up = is.up; same = is.same });
  tries = λ g plan service entry q. tt;
  drops = λ plan service rest code q. tt;
  meets = λ plan services q. tt;
}

settled_as : (l : Limits) (g : Flat) (bound number : ℕ) → number < bound → bound ≤ g.next.process
    → process_of (settled l g) number ≡ process_of g number
settled_as l g bound number low up =
    (keeps_all l (IsAs bound number (process_of g number)) (λ plan. Unit {0}) (stays_as l bound number (process_of g number) low) g g.plans
    (record { up = up; same = refl }) (all_units g.plans)).flat.same

-- answering changes no process
finished_as : (g : Flat) (told : Answer) (number : ℕ) → process_of (finished g told).flat number ≡ process_of g number
finished_as g told number = finished_keeps (λ h. process_of h number ≡ process_of g number) (λ h plans e. e) g told refl

-- a step leaves of a number that was given what its effect left
pub after_effect : (l : Limits) (f : Flat) (moment : ℕ) (step : Step) (number : ℕ) → number < f.next.process
    → process_of (step_of l f moment step).flat number ≡ process_of (effect_of l (at_moment f moment step) step).flat number
after_effect l f moment step number low =
    let done = effect_of l (at_moment f moment step) step in
    finished_as (settled l done.flat) done.answer number ∙ settled_as l done.flat f.next.process number low (process_up l f moment step)

-- ## Steps

pub listed_below : (f : Flat) (number : ℕ) → Sound f → is_some (process_of f number) ≡ true → number < f.next.process
listed_below f number s there = found_below (λ (row : Process). row.number) number f.next.process f.processes s.processes.numbered.below
    there

pub gives : (l : Limits) → Gives Sound OthersStay l
gives l f e s ok number named taken = record {
  listed = λ there. (let low = listed_below f number s there in ap (option_map apart_from_controls) (after_effect l f e.0 e.1 number low)
      ∙ of_effect l f e.0 e.1 number low named taken);
  unlisted = λ none low. ap is_some (after_effect l f e.0 e.1 number low) ∙ none_effect l f e.0 e.1 number low none;
}

-- ## The next number

up : (l : Limits) (bound : ℕ) → Keeps l (λ g. bound ≤ g.next.process) (λ plan. Unit {0})
up l bound = record {
  enters = λ g plan service words entry is. up_entered bound g service words is;
  tries = λ g plan service entry q. tt;
  drops = λ plan service rest code q. tt;
  meets = λ plan services q. tt;
}

-- it never falls
pub process_rises : (l : Limits) (f : Flat) (moment : ℕ) (step : Step) → f.next.process ≤ (step_of l f moment step).flat.next.process
process_rises l f moment step =
    let done = effect_of l (at_moment f moment step) step in
    finished_keeps (λ g. f.next.process ≤ g.next.process) (λ g plans h. h) (settled l done.flat) done.answer
    (keeps_all l (λ g. f.next.process ≤ g.next.process) (λ plan. Unit {0}) (up l f.next.process) done.flat done.flat.plans
    (process_up l f moment step) (all_units done.flat.plans)).flat
