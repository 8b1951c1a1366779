-- What events keep of registrations: whatever each event keeps, each change of a service keeps.
use Rattle.std.proofs.Common.{ℕ, ◌≡◌, ◌∙◌, ◌≤◌, ◌==◌, ◌||◌, None, length, ne_eqb, get_or, ltb-false, Bool, true, false, cond, List, [], ◌∷◌}
use Rattle.std.proofs.Common.{find, map, sym, refl, subst, arith}
use Rattle.std.specs.Prelude.{All}
use Rattle.std.proofs.lemmas.Bool.{or_parts}
use Rattle.std.proofs.lemmas.List.Elements.{All-filter, All-head, All-tail}
use Rattle.scm_model.proofs.Found.{found_keeps}
use Rattle.scm_model.specs.Notices.{Event, all_noted, event_of_creation, event_of_leaving, event_of_mark, event_of_state, noted, notified}
use Rattle.scm_model.specs.Notices.{pid_of, takes_event, notified_of_move}
use Rattle.scm_model.specs.declared.flat.Config.{Config}
use Rattle.scm_model.specs.declared.flat.Process.{Process}
use Rattle.scm_model.specs.declared.flat.Registration.{Registration}
use Rattle.scm_model.specs.declared.flat.Service.{Service}
use Rattle.scm_model.specs.declared.flat.Status.{Status}
use Rattle.service_record.specs.Checks.{check_new, has_bad_names, is_longer}
use Rattle.start_plan.specs.Entered.{started_if, notified_of_start}
use Rattle.scm_rules.specs.Launches.{currents, fallen, is_by, notified_of_falls}
use Rattle.scm_rules.specs.Reports.{reported_if}
use Rattle.scm_runs.proofs.Lists.{found_has}
use Rattle.scm_runs.proofs.Rows.{AreServices, IsMild, reports_mildly, starts_mildly}

-- ## Events

-- whether an event is the manager's: a service comes or leaves
abbrev pub is_managers : ℕ → Bool
is_managers bit = bit == 128 || bit == 256

-- an event is the manager's exactly where it is of no service, and has a name of at most 256 units
pub record IsProper (event : Event) : Type 0 where
  pub short : length event.name ≤ 256
  pub whose : is_managers event.bit ≡ (event.service == 0)

-- a service that has a number, and a name of at most 256 units
pub record IsNamed (row : Service) : Type 0 where
  pub number : (row.number == 0) ≡ false
  pub short : length row.config.name ≤ 256

first_passes : (b : Bool) (code rest : ℕ) → (code == 0) ≡ false → cond b code rest ≡ 0 → b ≡ false
first_passes true code rest some e = absurd (let same : (code == 0) ≡ true = rw e refl in cc)
first_passes false code rest some e = refl

pub name_short : (config : Config) → check_new config None ≡ 0 → length config.name ≤ 256
unfolding check_new
name_short config e =
    let names = or_parts _ (is_longer 256 config.display) (first_passes (has_bad_names config) 123 _ refl e) in
    ltb-false 256 (length config.name) (or_parts (length config.name == 0) (is_longer 256 config.name)
    (or_parts (length config.name == 0 || is_longer 256 config.name) _ names.0).0).1

pub all_named : (next process : ℕ) (rows : List Service) → AreServices next process rows → All IsNamed rows
all_named next process rows s k d lt = record {
  number = ne_eqb (get_or rows k d).number 0 (λ e. absurd (let up = s.numbered.positive k d lt in omega (arith, e, up)));
  short = name_short (get_or rows k d).config (s.configs k d lt);
}

-- no state is an event of the manager
no_state : (a b c d e f g : Bool) → is_managers (cond a 1 (cond b 2 (cond c 4 (cond d 8 (cond e 16 (cond f 32 (cond g 64 0))))))) ≡ false
no_state true b c d e f g = refl
no_state false true c d e f g = refl
no_state false false true d e f g = refl
no_state false false false true e f g = refl
no_state false false false false true f g = refl
no_state false false false false false true g = refl
no_state false false false false false false true = refl
no_state false false false false false false false = refl

pub state_proper : (pid : ℕ) (row : Service) → IsNamed row → IsProper (event_of_state pid row)
state_proper pid row named = record {
  short = named.short;
  whose = (let n = row.status.state in no_state (n == 1) (n == 2) (n == 3) (n == 4) (n == 5) (n == 6) (n == 7) ∙ sym named.number);
}

mark_proper : (pid : ℕ) (row : Service) → IsNamed row → IsProper (event_of_mark pid row)
mark_proper pid row named = record { short = named.short; whose = sym named.number }

pub creation_proper : (config : Config) (status : Status) → check_new config None ≡ 0 → IsProper (event_of_creation config.name status)
creation_proper config status checked = record { short = name_short config checked; whose = refl }

-- ## What each event keeps

abbrev pub Tells : (List Registration → Type 0) → Type 0
Tells P = (event : Event) (rows : List Registration) → IsProper event → P rows → P (noted event rows)

pub move_tells : (P : List Registration → Type 0) → Tells P → (pid : ℕ) (old new : Service) (rows : List Registration) → IsNamed new
    → P rows → P (notified_of_move pid old new rows)
move_tells P tells pid old new rows named p =
    elim (old.status.state == new.status.state) as (λ b. P (cond b rows (noted (event_of_state pid new) rows))) [
      | true ↦ p
      | false ↦ tells (event_of_state pid new) rows (state_proper pid new named) p
    ]

-- a change that leaves number and name
named_still : (change : Service → Service) → IsMild change → (row : Service) → IsNamed row → IsNamed (change row)
named_still change mild row named = record {
  number = subst (λ n. (n == 0) ≡ false) (sym (mild.number row)) named.number;
  short = subst (λ (config : Config). length config.name ≤ 256) (sym (mild.config row)) named.short;
}

-- of the service that is found
pub start_tells : (P : List Registration → Type 0) → Tells P → (number process pid : ℕ) (services : List Service)
    (rows : List Registration) → All IsNamed services → P rows
    → P (notified_of_start number process pid (find (λ (row : Service). row.number == number) services) rows)
start_tells P tells number process pid services rows named p =
    found_keeps P (λ (row : Service). notified_of_move pid row (started_if number process row))
    (find (λ (row : Service). row.number == number) services) rows p
    (λ row is. move_tells P tells pid row (started_if number process row) rows
    (named_still (started_if number process) (starts_mildly number process) row
    (found_has IsNamed (λ (row : Service). row.number == number) row services named is)) p)

-- of services that fall, one after another
pub falls_tell : (P : List Registration → Type 0) → Tells P → (code : ℕ) (services : List Service) (rows : List Registration)
    → All IsNamed services → P rows → P (notified_of_falls code services rows)
falls_tell P tells code [] rows named p = p
falls_tell P tells code (row ∷ services) rows named p =
    let here = All-head IsNamed row services named in
    falls_tell P tells code services (notified_of_move 0 row (fallen code row) rows) (All-tail IsNamed row services named)
    (move_tells P tells 0 row (fallen code row) rows (record { number = here.number; short = here.short }) p)

pub fall_tells : (P : List Registration → Type 0) → Tells P → (process code : ℕ) (services : List Service) (rows : List Registration)
    → All IsNamed services → P rows → P (notified_of_falls code (currents process services) rows)
fall_tells P tells process code services rows named p =
    falls_tell P tells code (currents process services) rows (All-filter (is_by process) IsNamed services named) p

pub report_tells : (P : List Registration → Type 0) → Tells P → (processes : List Process) (report : Status) (row : Service)
    (rows : List Registration) → IsNamed row → P rows
    → P (notified_of_move (pid_of processes (reported_if row.number report row)) row (reported_if row.number report row) rows)
report_tells P tells processes report row rows named p =
    move_tells P tells (pid_of processes (reported_if row.number report row)) row (reported_if row.number report row) rows
    (named_still (reported_if row.number report) (reports_mildly row.number report) row named) p

pub mark_tells : (P : List Registration → Type 0) → Tells P → (processes : List Process) (row : Service) (rows : List Registration)
    → IsNamed row → P rows
    → P (noted (event_of_mark (pid_of processes row) row) rows)
mark_tells P tells processes row rows named p = tells (event_of_mark (pid_of processes row) row) rows
    (mark_proper (pid_of processes row) row named) p

-- those who leave
pub leaving_tells : (P : List Registration → Type 0) → Tells P → (services : List Service) (rows : List Registration) → All IsNamed services
    → P rows → P (all_noted (map event_of_leaving services) rows)
leaving_tells P tells [] rows named p = p
leaving_tells P tells (row ∷ services) rows named p =
    leaving_tells P tells services (noted (event_of_leaving row) rows) (All-tail IsNamed row services named)
    (tells (event_of_leaving row) rows (record { short = (All-head IsNamed row services named).short; whose = refl }) p)

-- ## What an event leaves of a registration

pub notified_or : (P : Registration → Type 0) (event : Event) (row : Registration)
    → (takes_event event row ≡ true → P (record row { fired = event.bit; status = event.status; name = event.name })) → P row
    → P (notified event row)
notified_or P event row takes stays =
    elim (takes_event event row) as (λ b. takes_event event row ≡ b → P
    (cond b (record row { fired = event.bit; status = event.status; name = event.name }) row)) [
      | true ↦ takes
      | false ↦ λ e. stays
    ] refl
