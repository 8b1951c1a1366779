-- Commands have their short word, and each service has one row at most that becomes due.
use Rattle.std.proofs.Common.{ℕ, suc, ◌≡◌, ◌∙◌, ◌+◌, ◌<◌, ◌≤◌, ◌==◌, Bool, true, false, not, cond, List, [], ◌∷◌, ◌++◌, filter, length, ap}
use Rattle.std.proofs.Common.{sym, refl, subst, arith, eqb-true, get_or, ne_eqb}
use Rattle.std.specs.Prelude.{All, AllPairs}
use Rattle.std.proofs.lemmas.List.{append-nil}
use Rattle.std.proofs.lemmas.List.Elements.{All-contains, All-cons, All-filter, All-nil, All-push, filter-append}
use Rattle.scm_model.specs.declared.flat.Config.{Config}
use Rattle.scm_model.specs.declared.flat.Due.{Due}
use Rattle.scm_model.specs.declared.flat.DueKind.{DueKind}
use Rattle.scm_model.specs.declared.flat.DueKind.TheVariants as dues
use Rattle.scm_model.specs.declared.flat.Flat.{Flat}
use Rattle.scm_model.specs.declared.flat.Limits.{Limits}
use Rattle.scm_model.specs.declared.flat.Service.{Service}
use Rattle.scm_model.specs.declared.flat.Wanted.{Wanted}
use Rattle.scm_model.specs.declared.calls.Request.{Request}
use Rattle.scm_model.specs.declared.calls.Request.TheVariants as request
use Rattle.scm_model.specs.declared.steps.Kept.{Kept}
use Rattle.scm_model.specs.declared.steps.Step.{Step}
use Rattle.scm_model.specs.declared.steps.Step.TheVariants.{Call, LaunchTaken, Launched, LaunchFailed, Report, Ended, Tick, Raised}
use Rattle.scm_model.specs.Changes.{with_moment}
use Rattle.scm_model.specs.Rows.{held_service}
use Rattle.start_plan.specs.Settle.{is_due_still, settle_all, settled, stays}
use Rattle.start_plan.proofs.Enterings.{all_units}
use Rattle.start_plan.proofs.Hosts.{entered_keeps}
use Rattle.start_plan.proofs.Keeps.{Keeps as Lasts, keeps_all}
use Rattle.start_triggers.specs.Order.{auto_rows, automatic_rows, in_order, is_automatic, insert, starts_before}
use Rattle.scm_rules.specs.Due.{is_due_of, of_others, with_due}
use Rattle.scm_rules.specs.Failures.{failed_by}
use Rattle.scm_rules.specs.Reports.{reporting}
use Rattle.scm_rules.specs.Launches.{currents, first_wanted, wanted_of_others, with_fallen, without_process}
use Rattle.scm_rules.specs.Opening.{CanOpen, automatic_at, opening, services_from, starts_from}
use Rattle.scm_rules.specs.Start.{with_start}
use Rattle.scm_rules.specs.Steps.{at_moment, effect_of, step_of}
use Rattle.scm_rules.specs.Ticks.{wanted_command, with_wanted_command}
use Rattle.scm_rules.specs.Valid.{HasShortWord, dues_of}
use Rattle.scm_rules.specs.Verdicts.{call_of, done_of, told_refused, verdict}
use Rattle.scm_model.proofs.Found.{found_keeps}
use Rattle.scm_runs.proofs.Calls.{by_verdict}
use Rattle.scm_runs.proofs.Failing.{any_failing_keeps, failing_keeps}
use Rattle.scm_runs.proofs.Founds.{opened_keeps, started_keeps, notify_apart}
use Rattle.scm_runs.proofs.Frames.{finished_keeps}
use Rattle.scm_runs.proofs.Lists.{filter_fewer, none_pass}
use Rattle.scm_runs.proofs.Opened.{opened_services}
use Rattle.scm_runs.proofs.Rows.{IsChecked}
use Rattle.scm_runs.proofs.Sizes.{are_short}
use Rattle.scm_runs.proofs.Sound.{Sound}
use Rattle.scm_runs.proofs.Unasked.{raised_by, ticked_by}

-- each service has one row at most
abbrev pub AreOnce : List Due → Type 0
AreOnce rows = (service : ℕ) → length (dues_of service rows) ≤ 1

pub record IsBounded (f : Flat) : Type 0 where
  pub commands : All HasShortWord f.wanted
  pub once : AreOnce f.dues

-- ## Rows that leave and come

fewer_once : (p : Due → Bool) (rows : List Due) → AreOnce rows → AreOnce (filter p rows)
fewer_once p rows once service =
    let less = filter_fewer (λ (due : Due). is_due_of service due.kind) p rows in
    let one = once service in
    omega (arith, less, one)

-- a row that is of another service, or of none
other_more : (service : ℕ) (rows : List Due) (new : Due) → is_due_of service new.kind ≡ false
    → length (dues_of service (rows ++ new ∷ [])) ≡ length (dues_of service rows)
other_more service rows new other =
    ap length (filter-append (λ (due : Due). is_due_of service due.kind) rows (new ∷ []))
    ∙ ap (λ (b : Bool). length (dues_of service rows ++ cond b (new ∷ []) [])) other
    ∙ ap length (append-nil (dues_of service rows))

deadline_once : (plan moment number : ℕ) (rows : List Due) → AreOnce rows
    → AreOnce (rows ++ record { moment = moment; number = number; kind = dues.Deadline plan } ∷ [])
deadline_once plan moment number rows once service =
    let same = other_more service rows (record { moment = moment; number = number; kind = dues.Deadline plan }) refl in
    let one = once service in
    omega (arith, same, one)

none_of : (service : ℕ) (rows : List Due) → dues_of service (of_others service rows) ≡ []
none_of service [] = refl
none_of service (due ∷ rows) =
    elim (is_due_of service due.kind) as (λ b. is_due_of service due.kind ≡ b
    → dues_of service (cond (not b) (due ∷ of_others service rows) (of_others service rows)) ≡ [])
    [ true ↦ λ e. none_of service rows | false ↦ λ e. rw e (none_of service rows) ] refl

one_alone : (b : Bool) (new : Due) → length (cond b (new ∷ []) []) ≤ 1
one_alone true new = omega arith
one_alone false new = omega arith

-- a row of a service takes the place of an earlier one
service_once : (number : ℕ) (rows : List Due) (new : Due) → ((service : ℕ) → is_due_of service new.kind ≡ (number == service))
    → AreOnce rows → AreOnce (of_others number rows ++ new ∷ [])
service_once number rows new of once service =
    let few = fewer_once (λ (due : Due). not (is_due_of number due.kind)) rows once service in
    elim (number == service) as (λ b. (number == service) ≡ b → length (dues_of service (of_others number rows ++ new ∷ [])) ≤ 1) [
      | true ↦ λ e. (
          let none : dues_of service (of_others number rows) ≡ [] = subst (λ n. dues_of service (of_others n rows) ≡ [])
          (sym (eqb-true number service e)) (none_of service rows) in
          let all : length (dues_of service (of_others number rows ++ new ∷ [])) ≡ length
          (cond (is_due_of service new.kind) (new ∷ []) []) =
          ap length (filter-append (λ (due : Due). is_due_of service due.kind) (of_others number rows) (new ∷ []))
          ∙ ap (λ (xs : List Due). length (xs ++ cond (is_due_of service new.kind) (new ∷ []) [])) none in
          let one = one_alone (is_due_of service new.kind) new in
          omega (arith, all, one))
      | false ↦ λ e. (let same = other_more service (of_others number rows) new (of service ∙ e) in omega (arith, same, few))
    ] refl

due_once : (f : Flat) (moment service : ℕ) (kind : DueKind) → is_due_of service kind ≡ true → IsBounded f
    → IsBounded (with_due f moment kind)
due_once f moment service (dues.Deadline plan) is b = absurd cc
due_once f moment service (dues.Start number) is b = record {
  commands = b.commands;
  once = service_once number f.dues _ (λ other. refl) b.once;
}
due_once f moment service (dues.Command number) is b = record {
  commands = b.commands;
  once = service_once number f.dues _ (λ other. refl) b.once;
}
due_once f moment service (dues.Reboot number) is b = record {
  commands = b.commands;
  once = service_once number f.dues _ (λ other. refl) b.once;
}

-- ## The state that a manager begins in

count_head : {X : Type 0} (p : X → Bool) (x : X) (xs : List X) → length (filter p (x ∷ xs)) ≡ cond (p x) 1 0 + length (filter p xs)
count_head p x xs = elim (p x) as (λ b. length (cond b (x ∷ filter p xs) (filter p xs)) ≡ cond b 1 0 + length (filter p xs))
    [ true ↦ omega arith | false ↦ omega arith ]

put_count : {X : Type 0} (before : X → X → Bool) (p : X → Bool) (x : X) (ys : List X)
    → length (filter p (insert before x ys)) ≡ length (filter p (x ∷ ys))
put_count before p x [] = refl
put_count before p x (y ∷ ys) =
    elim (before y x) as (λ b. length (filter p (cond b (y ∷ insert before x ys) (x ∷ y ∷ ys))) ≡ length (filter p (x ∷ y ∷ ys))) [
      | true ↦ (
          let rest = put_count before p x ys in
          let first = count_head p y (insert before x ys) in
          let second = count_head p x ys in
          let both = count_head p x (y ∷ ys) in
          let last = count_head p y ys in
          omega (arith, rest, first, second, both, last))
      | false ↦ refl
    ]

order_count : {X : Type 0} (before : X → X → Bool) (p : X → Bool) (xs : List X)
    → length (filter p (in_order before xs)) ≡ length (filter p xs)
order_count before p [] = refl
order_count before p (x ∷ xs) =
    let put = put_count before p x (in_order before xs) in
    let first = count_head p x (in_order before xs) in
    let second = count_head p x xs in
    let rest = order_count before p xs in
    omega (arith, put, first, second, rest)

start_count : (service number moment : ℕ) (rows : List Service) → length (dues_of service (starts_from number moment rows)) ≡ length
    (filter (λ (row : Service). row.number == service) rows)
start_count service number moment [] = refl
start_count service number moment (row ∷ rows) =
    let rest = start_count service (number + 1) moment rows in
    let one = count_head (λ (due : Due). is_due_of service due.kind) (record {
      moment = automatic_at moment row;
      number = number;
      kind = dues.Start row.number;
    }) (starts_from (number + 1) moment rows) in
    let other = count_head (λ (r : Service). r.number == service) row rows in
    omega (arith, rest, one, other)

number_once : (service : ℕ) (rows : List Service) → AllPairs (λ (a b : Service). a.number < b.number) rows
    → length (filter (λ (row : Service). row.number == service) rows) ≤ 1
number_once service [] rising = omega arith
number_once service (row ∷ rows) rising =
    let rest = number_once service rows (λ i j d lt within. rising (suc i) (suc j) d (omega (arith, lt)) (omega (arith, within))) in
    elim (row.number == service) as (λ b. (row.number == service) ≡ b →
    length (cond b (row ∷ filter (λ (r : Service). r.number == service) rows) (filter (λ (r : Service). r.number == service) rows)) ≤ 1) [
      | true ↦ λ e. (
          let none : filter (λ (r : Service). r.number == service) rows ≡ [] =
          none_pass (λ (r : Service). r.number == service) rows (λ k d lt. ne_eqb (get_or rows k d).number service (λ same. absurd (
          let here = eqb-true row.number service e in
          let up : row.number < (get_or rows k d).number = rising 0 (suc k) d (omega arith) (omega (arith, lt)) in
          omega (arith, same, here, up)))) in
          let long = ap length none in
          omega (arith, long))
      | false ↦ λ e. rest
    ] refl

pub bounded_opened : (l : Limits) (groups : List (List ℕ)) (configs : List Config) (moment : ℕ) → CanOpen l configs
    → IsBounded (opening l groups configs moment)
bounded_opened l groups configs moment can = record {
  commands = All-nil HasShortWord;
  once = λ service. (
      let rows = services_from 1 configs in
      let here = λ (row : Service). row.number == service in
      let starts = start_count service 1 moment (auto_rows rows groups) in
      let ordered = order_count (starts_before groups) here (automatic_rows rows) in
      let fewer = filter_fewer here is_automatic rows in
      let one = number_once service rows (opened_services l configs can).numbered.rising in
      omega (arith, starts, ordered, fewer, one));
}

-- ## Effects

bounded_done : (l : Limits) (f : Flat) (caller : ℕ) (asked : Request) → IsBounded f → IsBounded (done_of l f caller asked).flat
bounded_done l f caller (request.OpenService handle name access) b =
    opened_keeps IsBounded f caller name access b (λ row is. record { commands = b.commands; once = b.once })
bounded_done l f caller (request.Start handle words) b =
    started_keeps IsBounded f caller handle words b (λ row is. record { commands = b.commands; once = deadline_once _ _ _ f.dues b.once })
bounded_done l f caller (request.SetStatus handle status) b =
    failing_keeps IsBounded (failed_by status (held_service f caller handle)) _ (record { commands = b.commands; once = b.once })
    (λ row is. record { commands = b.commands; once = b.once }) (λ service g moment kind is c. due_once g moment service kind is c)
bounded_done l f caller (request.Notify handle mask) b = notify_apart IsBounded f caller handle mask
    (λ rows next. record { commands = b.commands; once = b.once })
bounded_done l f caller asked b = record { commands = b.commands; once = b.once }

bounded_call : (l : Limits) (f : Flat) (caller : ℕ) (asked : Request) (append : Kept) → IsBounded f
    → IsBounded (call_of l f caller asked append).flat
bounded_call l f caller asked append b =
    by_verdict (λ r. IsBounded r.flat) (verdict l f caller asked append) (told_refused f caller asked (verdict l f caller asked append)) f
    (done_of l f caller asked)
    (λ e. bounded_done l f caller asked b) (λ e. b)

fewer_wanted : (process : ℕ) (rows : List Wanted) → All HasShortWord rows → All HasShortWord (wanted_of_others process rows)
fewer_wanted process rows all = All-filter (λ (row : Wanted). not (row.process == process)) HasShortWord rows all

-- with what configurations are accepted
record Stands (f : Flat) : Type 0 where
  checked : All IsChecked f.services
  bounded : IsBounded f

start_stands : (f : Flat) (row : Service) → Stands f → Stands (with_start 0 [] row f)
start_stands f row s = record {
  checked = s.checked;
  bounded = record {
    commands = s.bounded.commands;
    once = deadline_once _ _ _ f.dues s.bounded.once;
  };
}

-- a command that is accepted is short
command_short : (process : ℕ) (row : Service) → IsChecked row → HasShortWord (wanted_command process row.config.command)
command_short process row checked is = record {
  one = refl;
  short = All-cons (λ (word : List ℕ). length word ≤ 2048) row.config.command [] (are_short row.config checked).command
      (All-nil (λ (word : List ℕ). length word ≤ 2048));
}

command_stands : (f : Flat) (row : Service) → IsChecked row → Stands f → Stands (with_wanted_command row.config.command f)
command_stands f row checked s = record {
  checked = s.checked;
  bounded = record {
    commands = All-push HasShortWord f.wanted _ s.bounded.commands (command_short f.next.process row checked);
    once = s.bounded.once;
  };
}

bounded_effect : (l : Limits) (f : Flat) (moment : ℕ) (step : Step) → Sound f → IsBounded f
    → IsBounded (effect_of l (at_moment f moment step) step).flat
bounded_effect l f moment (Call caller asked append) s b = bounded_call l (with_moment f moment) caller asked append
    (record { commands = b.commands; once = b.once })
bounded_effect l f moment LaunchTaken s b = record {
  commands = found_keeps (All HasShortWord) wanted_of_others (first_wanted f.wanted) f.wanted b.commands
      (λ number is. fewer_wanted number f.wanted b.commands);
  once = b.once;
}
bounded_effect l f moment (Launched process pid) s b = record { commands = fewer_wanted process f.wanted b.commands; once = b.once }
bounded_effect l f moment (LaunchFailed process code) s b = record { commands = fewer_wanted process f.wanted b.commands; once = b.once }
bounded_effect l f moment (Report process service status) s b =
    failing_keeps IsBounded (failed_by status (reporting (with_moment f moment) process service)) _
    (record { commands = b.commands; once = b.once })
    (λ row is. record { commands = b.commands; once = b.once }) (λ service g at kind is c. due_once g at service kind is c)
bounded_effect l f moment (Ended process) s b =
    let left : IsBounded (without_process (with_fallen (with_moment f moment) process 1067) process) =
    record { commands = fewer_wanted process f.wanted b.commands; once = b.once } in
    any_failing_keeps (λ (g : Flat). IsBounded (without_process g process)) (currents process f.services)
    (with_fallen (with_moment f moment) process 1067) left
    (λ row g c. record { commands = c.commands; once = c.once }) (λ service g at kind is c. due_once
    (without_process g process) at service kind is c)
bounded_effect l f moment Tick s b = (ticked_by Stands l (record {
  spends = λ g row is t. record {
    checked = t.checked;
    bounded = record {
      commands = t.bounded.commands;
      once = fewer_once (λ (due : Due). not (due.number == row.number)) g.dues t.bounded.once;
    };
  };
  starts = λ g row there can t. start_stands g row t;
  runs = λ g row there can t. command_stands g row (All-contains IsChecked g.services row t.checked there) t;
  reboots = λ g t. record { checked = t.checked; bounded = record { commands = t.bounded.commands; once = t.bounded.once } };
}) (with_moment f moment) (record { checked = s.services.configs; bounded = record { commands = b.commands; once = b.once } })).bounded
bounded_effect l f moment (Raised caller subtype) s b = (raised_by Stands l subtype (record {
  starts = λ g row there can t. start_stands g row t;
  stops = λ g row action there is stops gets t. record {
    checked = t.checked;
    bounded = record { commands = t.bounded.commands; once = t.bounded.once };
  };
}) (with_moment f moment) caller (record {
  checked = s.services.configs;
  bounded = record { commands = b.commands; once = b.once };
})).bounded
bounded_effect l f moment step s b = record { commands = b.commands; once = b.once }

-- ## Settling

entering_bounded : (l : Limits) → Lasts l IsBounded (λ plan. Unit {0})
entering_bounded l = record {
  enters = λ f plan service words entry b. entered_keeps IsBounded f service words
      (λ none. record { commands = All-push HasShortWord f.wanted _ b.commands (λ is. absurd cc); once = b.once })
      (λ process is. record { commands = b.commands; once = b.once });
  tries = λ f plan service entry q. tt;
  drops = λ plan service rest code q. tt;
  meets = λ plan services q. tt;
}

settled_bounded : (l : Limits) (f : Flat) → IsBounded f → IsBounded (settled l f)
settled_bounded l f b =
    let ends = settle_all l f f.plans in
    let all = (keeps_all l IsBounded (λ plan. Unit {0}) (entering_bounded l) f f.plans b (all_units f.plans)).flat in
    record {
      commands = all.commands;
      once = fewer_once (λ (due : Due). is_due_still (filter stays ends.plans) due.kind) ends.flat.dues all.once;
    }

pub bounded_step : (l : Limits) (f : Flat) (moment : ℕ) (step : Step) → Sound f → IsBounded f → IsBounded (step_of l f moment step).flat
bounded_step l f moment step s b =
    let done = effect_of l (at_moment f moment step) step in
    let before = finished_keeps IsBounded (λ g plans h. record { commands = h.commands; once = h.once }) (settled l done.flat) done.answer
    (settled_bounded l done.flat (bounded_effect l f moment step s b)) in
    record { commands = before.commands; once = before.once }
