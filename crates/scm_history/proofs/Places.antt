-- Each process keeps its place in the list.
use Rattle.std.proofs.Common.{ℕ, ◌≡◌, ◌∙◌, ◌≤◌, ◌==◌, ◌||◌, Bool, true, false, not, cond, List, [], ◌∷◌, ◌++◌, filter, map, ap, sym, refl}
use Rattle.std.proofs.Common.{None, arith, ◌+◌}
use Rattle.std.specs.Prelude.{All}
use Rattle.std.proofs.lemmas.List.Elements.{All-nil, All-push}
use Rattle.scm_model.specs.declared.flat.Flat.{Flat}
use Rattle.scm_model.specs.declared.flat.Limits.{Limits}
use Rattle.scm_model.specs.declared.flat.Process.{Process}
use Rattle.scm_model.specs.declared.steps.Step.{Step}
use Rattle.scm_model.specs.declared.steps.Step.TheVariants.{Call, LaunchTaken, Launched, LaunchFailed, Report, Ended, ControlTaken, Tick}
use Rattle.scm_model.specs.declared.steps.Step.TheVariants.{Raised}
use Rattle.scm_model.specs.Changes.{with_moment}
use Rattle.scm_model.specs.Rows.{service_of}
use Rattle.start_plan.specs.Entered.{entered_at, is_shared_by, wanted_process}
use Rattle.start_plan.specs.Settle.{settled}
use Rattle.start_plan.proofs.Enterings.{all_units}
use Rattle.start_plan.proofs.Hosts.{entered_keeps}
use Rattle.start_plan.proofs.Keeps.{Keeps, keeps_all}
use Rattle.scm_rules.specs.Controls.{first_asked}
use Rattle.scm_rules.specs.Reports.{reporting}
use Rattle.scm_rules.specs.Launches.{currents, first_wanted, launched_if, taken_if, with_fallen, without_process}
use Rattle.scm_rules.specs.Steps.{at_moment, effect_of, step_of}
use Rattle.scm_runs.proofs.Along.{Gives}
use Rattle.scm_runs.proofs.Effects.{process_up}
use Rattle.scm_runs.proofs.Frames.{finished_keeps}
use Rattle.scm_runs.proofs.Lists.{map_same}
use Rattle.scm_runs.proofs.Sound.{Sound}
use Rattle.scm_rules.specs.Named.{names_process, takes_process, is_it}
use Rattle.scm_history.specs.Places.{PlacesStay, process_numbers, those_not_meant, those_that_stay}
use Rattle.scm_history.specs.Processes.{apart_from_controls}
use Rattle.scm_history.proofs.Effects.{of_call, of_raise, released_apart, sent_apart}
use Rattle.scm_history.proofs.Processes.{IsOf, launches, takes}
use Rattle.std.proofs.lemmas.Bool.{or_left}
use Rattle.scm_model.proofs.Found.{found_keeps}
use Rattle.scm_runs.proofs.Failing.{all_failing_apart, failing_apart}
use Rattle.scm_rules.specs.Failures.{failed_by}
use Rattle.scm_model.specs.declared.codes.TheConstants.{ERROR_PROCESS_ABORTED}
use Rattle.scm_runs.proofs.Unasked.{ticked_by}

-- ## Lists

all_pass : (rows : List Process) → filter (λ (row : Process). true) rows ≡ rows
all_pass [] = refl
all_pass (row ∷ rows) = ap (λ rest. row ∷ rest) (all_pass rows)

-- all those whose numbers pass no test, apart from their controls
abbrev others_of : (ℕ → Bool) → List Process → List Process
others_of test rows = map apart_from_controls (filter (λ (row : Process). not (test row.number)) rows)

filter_apart : (test : ℕ → Bool) (rows : List Process) → others_of test rows ≡ filter (λ (row : Process). not (test row.number))
    (map apart_from_controls rows)
filter_apart test [] = refl
filter_apart test (row ∷ rows) =
    elim (not (test row.number)) as (λ b. map apart_from_controls (cond b (row ∷ filter (λ (row : Process). not (test row.number)) rows)
    (filter (λ (row : Process). not (test row.number)) rows))
    ≡ cond b (apart_from_controls row ∷ filter (λ (row : Process). not (test row.number)) (map apart_from_controls rows))
    (filter (λ (row : Process). not (test row.number)) (map apart_from_controls rows))) [
      | true ↦ ap (λ rest. apart_from_controls row ∷ rest) (filter_apart test rows)
      | false ↦ filter_apart test rows
    ]

-- lists that differ in controls alone
others_apart : (test : ℕ → Bool) (befores afters : List Process) → map apart_from_controls afters ≡ map apart_from_controls befores
    → others_of test afters ≡ others_of test befores
others_apart test befores afters same =
    filter_apart test afters ∙ ap (filter (λ (row : Process). not (test row.number))) same ∙ sym (filter_apart test befores)

numbers_apart : (befores afters : List Process) → map apart_from_controls afters ≡ map apart_from_controls befores
    → process_numbers afters ≡ process_numbers befores
numbers_apart befores afters same =
    sym (map_same apart_from_controls (λ (row : Process). row.number) (λ row. refl) afters) ∙ ap process_numbers same
    ∙ map_same apart_from_controls (λ (row : Process). row.number) (λ row. refl) befores

-- a change of one that passes the test
others_changed : (test : ℕ → Bool) (one : ℕ) (change : Process → Process) → IsOf one change
    → ((number : ℕ) → (number == one) ≡ true → test number ≡ true) → (rows : List Process)
    → others_of test (map change rows) ≡ others_of test rows
others_changed test one change is meant [] = refl
others_changed test one change is meant (row ∷ rows) =
    let rest = others_changed test one change is meant rows in
    ap (λ n. map apart_from_controls (cond (not (test n)) (change row ∷ filter (λ (row : Process). not (test row.number)) (map change rows))
    (filter (λ (row : Process). not (test row.number)) (map change rows)))) (is.number_same row)
    ∙ elim (row.number == one) as (λ b. (row.number == one) ≡ b
    → map apart_from_controls (cond (not (test row.number)) (change row ∷ filter (λ (row : Process). not (test row.number))
    (map change rows)) (filter (λ (row : Process). not (test row.number)) (map change rows)))
    ≡ map apart_from_controls (cond (not (test row.number)) (row ∷ filter (λ (row : Process). not (test row.number)) rows)
    (filter (λ (row : Process). not (test row.number)) rows))) [
      | true ↦ λ e. rw (meant row.number e) rest
      | false ↦ λ e. (rw (is.others row e)
          (elim (not (test row.number)) as (λ b. map apart_from_controls
          (cond b (row ∷ filter (λ (row : Process). not (test row.number)) (map change rows))
          (filter (λ (row : Process). not (test row.number)) (map change rows)))
          ≡ map apart_from_controls (cond b (row ∷ filter (λ (row : Process). not (test row.number)) rows)
          (filter (λ (row : Process). not (test row.number)) rows))) [
            | true ↦ ap (λ more. apart_from_controls row ∷ more) rest
            | false ↦ rest
          ]))
    ] refl

-- one leaves that passes the test
others_left : (test : ℕ → Bool) (one : ℕ) → ((number : ℕ) → (number == one) ≡ true → test number ≡ true) → (rows : List Process)
    → others_of test (filter (λ (row : Process). not (row.number == one)) rows) ≡ others_of test rows
others_left test one meant [] = refl
others_left test one meant (row ∷ rows) =
    let rest = others_left test one meant rows in
    elim (row.number == one) as (λ b. (row.number == one) ≡ b
    → others_of test (cond (not b) (row ∷ filter (λ (row : Process). not (row.number == one)) rows)
    (filter (λ (row : Process). not (row.number == one)) rows))
    ≡ map apart_from_controls (cond (not (test row.number)) (row ∷ filter (λ (row : Process). not (test row.number)) rows)
    (filter (λ (row : Process). not (test row.number)) rows))) [
      | true ↦ λ e. rw (meant row.number e) rest
      | false ↦ λ e. elim (not (test row.number)) as (λ b. map apart_from_controls
          (cond b (row ∷ filter (λ (row : Process). not (test row.number)) (filter (λ (row : Process). not (row.number == one)) rows))
          (filter (λ (row : Process). not (test row.number)) (filter (λ (row : Process). not (row.number == one)) rows)))
          ≡ map apart_from_controls (cond b (row ∷ filter (λ (row : Process). not (test row.number)) rows)
          (filter (λ (row : Process). not (test row.number)) rows))) [
            | true ↦ ap (λ more. apart_from_controls row ∷ more) rest
            | false ↦ rest
          ]
    ] refl

-- ## Effects

record HavePlaces (f : Flat) (step : Step) (rows : List Process) : Type 0 where
  places : process_numbers rows ≡ process_numbers (those_that_stay step f.processes)
  others : those_not_meant f step rows ≡ those_not_meant f step f.processes

-- only controls have changed
apart_places : (f : Flat) (step : Step) (rows : List Process) → process_numbers f.processes ≡ process_numbers
    (those_that_stay step f.processes) → map apart_from_controls rows ≡ map apart_from_controls f.processes → HavePlaces f step rows
apart_places f step rows stay same = record {
  places = numbers_apart f.processes rows same ∙ stay;
  others = others_apart (λ n. names_process n step || takes_process f n step) f.processes rows same;
}

-- one has changed that the step means
one_places : (f : Flat) (step : Step) (one : ℕ) (change : Process → Process) → IsOf one change
    → ((number : ℕ) → (number == one) ≡ true → (names_process number step || takes_process f number step) ≡ true)
    → process_numbers f.processes ≡ process_numbers (those_that_stay step f.processes) → HavePlaces f step (map change f.processes)
one_places f step one change is meant stay = record {
  places = map_same change (λ (row : Process). row.number) is.number_same f.processes ∙ stay;
  others = others_changed (λ n. names_process n step || takes_process f n step) one change is meant f.processes;
}

all_stay : (rows : List Process) → process_numbers rows ≡ process_numbers (filter (λ (row : Process). true) rows)
all_stay rows = ap process_numbers (sym (all_pass rows))

-- those that an effect leaves of the processes that were listed; a tick lists more behind them
abbrev rows_left : Limits → Flat → ℕ → Step → List Process
rows_left l f moment Tick = f.processes
rows_left l f moment step = (effect_of l (at_moment f moment step) step).flat.processes

of_effect : (l : Limits) (f : Flat) (moment : ℕ) (step : Step) → HavePlaces f step (rows_left l f moment step)
of_effect l f moment (Call caller asked append) =
    apart_places f (Call caller asked append) _ (all_stay f.processes) (of_call l (with_moment f moment) caller asked append).processes
of_effect l f moment LaunchTaken =
    found_keeps (HavePlaces f LaunchTaken) (λ process. map (taken_if process)) (first_wanted f.wanted) f.processes
    (record { places = all_stay f.processes; others = refl })
    (λ one is. one_places f LaunchTaken one (taken_if one) (takes one) (λ n e. ap (is_it n) is ∙ e) (all_stay f.processes))
of_effect l f moment (Launched process pid) =
    one_places f (Launched process pid) process (launched_if process pid) (launches process pid) (λ n e. or_left _ _ e)
    (all_stay f.processes)
of_effect l f moment (LaunchFailed process code) = record {
  places = refl;
  others = others_left (λ n. names_process n (LaunchFailed process code) || takes_process f n (LaunchFailed process code)) process
      (λ n e. or_left _ _ e) f.processes;
}
of_effect l f moment (Report process service status) =
    failing_apart (λ (g : Flat). HavePlaces f (Report process service status) g.processes)
    (failed_by status (reporting f process service)) _
    (apart_places f (Report process service status) _ (all_stay f.processes)
    (released_apart status (reporting f process service) f.processes))
of_effect l f moment (Ended process) =
    all_failing_apart (λ (g : Flat). HavePlaces f (Ended process) (without_process g process).processes) (currents process f.services)
    (with_fallen (with_moment f moment) process ERROR_PROCESS_ABORTED) (record {
      places = refl;
      others = others_left (λ n. names_process n (Ended process) || takes_process f n (Ended process)) process
          (λ n e. or_left _ _ e) f.processes;
    })
of_effect l f moment (ControlTaken process) =
    apart_places f (ControlTaken process) _ (all_stay f.processes) (sent_apart (first_asked f process) process
    f.processes)
of_effect l f moment (Raised caller subtype) =
    apart_places f (Raised caller subtype) _ (all_stay f.processes) (of_raise l (with_moment f moment) caller subtype).processes
of_effect l f moment step = record { places = all_stay f.processes; others = refl }

-- ## Settling

-- behind those that were listed stand new ones
record Grown (bound : ℕ) (old : List Process) (g : Flat) : Type 0 where
  new : List Process
  listed : g.processes ≡ old ++ new
  given : All (λ (row : Process). bound ≤ row.number) new
  up : bound ≤ g.next.process

append_assoc : (a b c : List Process) → (a ++ b) ++ c ≡ a ++ (b ++ c)
append_assoc [] b c = refl
append_assoc (x ∷ a) b c = ap (λ rows. x ∷ rows) (append_assoc a b c)

append_none : (rows : List Process) → rows ≡ rows ++ []
append_none [] = refl
append_none (row ∷ rows) = ap (λ rest. row ∷ rest) (append_none rows)

-- one more that is wanted
one_grown : (bound : ℕ) (old : List Process) (g : Flat) (service : ℕ) (shared : Bool) → Grown bound old g → (h : Flat)
    → h.processes ≡ g.processes
    ++ wanted_process g.next.process service shared ∷ [] → h.next.process ≡ g.next.process + 1 → Grown bound old h
one_grown bound old g service shared is h more next = record {
  new = is.new ++ wanted_process g.next.process service shared ∷ [];
  listed = more ∙ ap (λ rows. rows ++ wanted_process g.next.process service shared ∷ []) is.listed
      ∙ append_assoc old is.new (wanted_process g.next.process service shared ∷ []);
  given = All-push (λ (row : Process). bound ≤ row.number) is.new (wanted_process g.next.process service shared) is.given is.up;
  up = (let up = is.up in omega (arith, up, next));
}

grows : (l : Limits) (bound : ℕ) (old : List Process) → Keeps l (Grown bound old) (λ plan. Unit {0})
grows l bound old = record {
  enters = λ g plan service words entry is. entered_keeps (Grown bound old) g service words
      (λ none. one_grown bound old g service (is_shared_by (service_of g service)) is (entered_at g service words None) refl refl)
      (λ process host. record { new = is.new; listed = is.listed; given = is.given; up = is.up });
  tries = λ g plan service entry q. tt;
  drops = λ plan service rest code q. tt;
  meets = λ plan services q. tt;
}

none_new : (bound : ℕ) (g : Flat) → bound ≤ g.next.process → Grown bound g.processes g
none_new bound g up = record {
  new = [];
  listed = append_none g.processes;
  given = All-nil (λ (row : Process). bound ≤ row.number);
  up = up;
}

settled_grown : (l : Limits) (g : Flat) (bound : ℕ) (old : List Process) → Grown bound old g → Grown bound old (settled l g)
settled_grown l g bound old grown =
    let all = (keeps_all l (Grown bound old) (λ plan. Unit {0}) (grows l bound old) g g.plans grown (all_units g.plans)).flat in
    record { new = all.new; listed = all.listed; given = all.given; up = all.up }

effect_grown : (l : Limits) (f : Flat) (moment : ℕ) (step : Step) → Grown f.next.process (rows_left l f moment step)
    (effect_of l (at_moment f moment step) step).flat
effect_grown l f moment Tick = ticked_by (Grown f.next.process f.processes) l (record {
  spends = λ g row is h. record { new = h.new; listed = h.listed; given = h.given; up = h.up };
  starts = λ g row there can h. record { new = h.new; listed = h.listed; given = h.given; up = h.up };
  runs = λ g row there can h. one_grown f.next.process f.processes g 0 false h _ refl refl;
  reboots = λ g h. record { new = h.new; listed = h.listed; given = h.given; up = h.up };
}) (with_moment f moment) (none_new f.next.process (with_moment f moment) (omega arith))
effect_grown l f moment step = none_new f.next.process (effect_of l (at_moment f moment step) step).flat (process_up l f moment step)

step_grown : (l : Limits) (f : Flat) (moment : ℕ) (step : Step) → Grown f.next.process (rows_left l f moment step)
    (step_of l f moment step).flat
step_grown l f moment step =
    let done = effect_of l (at_moment f moment step) step in
    let old = rows_left l f moment step in
    let before = finished_keeps (Grown f.next.process old) (λ g plans h.
    record { new = h.new; listed = h.listed; given = h.given; up = h.up }) (settled l done.flat) done.answer
    (settled_grown l done.flat f.next.process old (effect_grown l f moment step)) in
    record { new = before.new; listed = before.listed; given = before.given; up = before.up }

pub gives : (l : Limits) → Gives Sound PlacesStay l
gives l f e s ok =
    let grown = step_grown l f e.0 e.1 in
    let have = of_effect l f e.0 e.1 in
    record {
      old = rows_left l f e.0 e.1;
      new = grown.new;
      listed = grown.listed;
      places = have.places;
      others = have.others;
      given = grown.given;
    }
