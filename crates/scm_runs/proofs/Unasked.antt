-- What ticks and raises keep: starts and commands begin that no caller asks for.
use Rattle.std.proofs.Common.{ℕ, ◌≡◌, ◌+◌, ◌==◌, Bool, true, false, not, cond, List, [], ◌∷◌, Some, filter, find, map, ap, sym, refl, subst}
use Rattle.std.specs.Prelude.{All, Contains}
use Rattle.std.proofs.lemmas.List.Elements.{All-contains_itself, All-head, All-tail}
use Rattle.scm_model.specs.declared.codes.TheConstants.{ERROR_SERVICE_REQUEST_TIMEOUT, SERVICE_CONTROL_STOP}
use Rattle.scm_model.specs.declared.codes.TheConstants.{SERVICE_TRIGGER_ACTION_SERVICE_START}
use Rattle.scm_model.specs.declared.flat.Due.{Due}
use Rattle.scm_model.specs.declared.flat.DueKind.{DueKind}
use Rattle.scm_model.specs.declared.flat.DueKind.TheVariants as dues
use Rattle.scm_model.specs.declared.flat.Flat.{Flat}
use Rattle.scm_model.specs.declared.flat.Limits.{Limits}
use Rattle.scm_model.specs.declared.flat.Plan.{Plan}
use Rattle.scm_model.specs.declared.flat.Service.{Service}
use Rattle.scm_model.specs.Found.{if_found}
use Rattle.scm_model.specs.Rows.{service_of}
use Rattle.scm_model.proofs.Found.{found_keeps}
use Rattle.start_plan.specs.Decided.{decided_in, is_numbered}
use Rattle.start_triggers.specs.Triggers.{matching}
use Rattle.scm_rules.specs.Controls.{controlled_if, order_to}
use Rattle.scm_rules.specs.Due.{next_due}
use Rattle.scm_rules.specs.Raise.{all_triggered, gets_stop, raise_verdict, raised, triggered, with_stop}
use Rattle.scm_rules.specs.Start.{with_start}
use Rattle.scm_rules.specs.Ticks.{can_run, can_start, fire, ticked, with_command, with_reboot, with_restart, with_wanted_command}
use Rattle.scm_rules.specs.Ticks.{without_due}
use Rattle.scm_rules.proofs.Dues.{ticked_keeps}
use Rattle.scm_runs.proofs.Lists.{found_has}

-- ## Starts

-- what is found is among the rows
pub found_in : {X : Type 0} (p : X → Bool) (x : X) (xs : List X) → find p xs ≡ Some x → Contains xs x
found_in p x xs is = found_has (Contains xs) p x xs (All-contains_itself xs) is

-- what holds after a start of a service that can be started
abbrev pub KeepsStarts : (Flat → Type 0) → Type 0
KeepsStarts P = (f : Flat) (row : Service) → Contains f.services row → can_start f row ≡ true → P f → P (with_start 0 [] row f)

restart_keeps : (P : Flat → Type 0) → KeepsStarts P → (f : Flat) (row : Service) → Contains f.services row → P f → P (with_restart row f)
restart_keeps P starts f row there p =
    elim (can_start f row) as (λ b. can_start f row ≡ b → P (cond b (with_start 0 [] row f) f)) [
      | true ↦ λ can. starts f row there can p
      | false ↦ λ cannot. p
    ] refl

-- ## Ticks

-- the plans once a row is due: one is decided whose deadline it is
abbrev pub expired : List Plan → DueKind → List Plan
expired plans (dues.Deadline plan) = decided_in (is_numbered plan) ERROR_SERVICE_REQUEST_TIMEOUT plans
expired plans kind = plans

-- the row has left
abbrev pub spent : Due → Flat → Flat
spent row f = record f { plans = expired f.plans row.kind; dues = filter (λ (due : Due). not (due.number == row.number)) f.dues }

-- what holds after each thing that a tick does
pub record Fires (P : Flat → Type 0) (l : Limits) : Type 0 where
  pub spends : (f : Flat) (row : Due) → next_due f ≡ Some row → P f → P (spent row f)
  pub starts : (f : Flat) (row : Service) → Contains f.services row → can_start f row ≡ true → P f → P (with_start 0 [] row f)
  pub runs : (f : Flat) (row : Service) → Contains f.services row → can_run l f row ≡ true → P f
      → P (with_wanted_command row.config.command f)
  pub reboots : (f : Flat) → P f → P (with_reboot f)

command_keeps : (P : Flat → Type 0) (l : Limits) → Fires P l → (f : Flat) (row : Service) → Contains f.services row → P f
    → P (with_command l row f)
command_keeps P l k f row there p =
    elim (can_run l f row) as (λ b. can_run l f row ≡ b → P (cond b (with_wanted_command row.config.command f) f))
    [ true ↦ λ can. k.runs f row there can p | false ↦ λ cannot. p ] refl

fire_keeps : (P : Flat → Type 0) (l : Limits) → Fires P l → (kind : DueKind) (f : Flat) → P (record f { plans = expired f.plans kind })
    → P (fire l kind f)
fire_keeps P l k (dues.Deadline plan) f p = p
fire_keeps P l k (dues.Start service) f p =
    found_keeps P with_restart (service_of f service) f p (λ row is. restart_keeps P k.starts f row
    (found_in (λ (r : Service). r.number == service) row f.services is) p)
fire_keeps P l k (dues.Command service) f p =
    found_keeps P (with_command l) (service_of f service) f p (λ row is. command_keeps P l k f row
    (found_in (λ (r : Service). r.number == service) row f.services is) p)
fire_keeps P l k (dues.Reboot service) f p = k.reboots f p

pub ticked_by : (P : Flat → Type 0) (l : Limits) → Fires P l → (f : Flat) → P f → P (ticked l f)
ticked_by P l k f p = ticked_keeps P l (λ g row is q. fire_keeps P l k row.kind (without_due row.number g) (k.spends g row is q)) f p

-- ## Raises

-- what holds after each thing that a raise does
pub record Raises (P : Flat → Type 0) (l : Limits) (subtype : List ℕ) : Type 0 where
  pub starts : (f : Flat) (row : Service) → Contains f.services row → can_start f row ≡ true → P f → P (with_start 0 [] row f)
  pub stops : (f : Flat) (row : Service) (action : ℕ) → Contains f.services row → matching row.config subtype ≡ Some action
      → (action == SERVICE_TRIGGER_ACTION_SERVICE_START) ≡ false
      → gets_stop l f row ≡ true → P f → P (record f {
        processes = map (controlled_if l.controls row.process (order_to row.number SERVICE_CONTROL_STOP))
            f.processes;
      })

stop_keeps : (P : Flat → Type 0) (l : Limits) (subtype : List ℕ) → Raises P l subtype → (f : Flat) (row : Service) (action : ℕ)
    → Contains f.services row → matching row.config subtype ≡ Some action
    → (action == SERVICE_TRIGGER_ACTION_SERVICE_START) ≡ false → P f → P (with_stop l row f)
stop_keeps P l subtype k f row action there is stops p =
    elim (gets_stop l f row) as (λ b. gets_stop l f row ≡ b → P (cond b
    (record f { processes = map (controlled_if l.controls row.process (order_to row.number SERVICE_CONTROL_STOP)) f.processes }) f))
    [ true ↦ λ gets. k.stops f row action there is stops gets p | false ↦ λ refused. p ] refl

triggered_keeps : (P : Flat → Type 0) (l : Limits) (subtype : List ℕ) → Raises P l subtype → (f : Flat) (row : Service) (action : ℕ)
    → Contains f.services row → matching row.config subtype ≡ Some action → P f
    → P (triggered l row action f)
triggered_keeps P l subtype k f row action there is p =
    elim (action == SERVICE_TRIGGER_ACTION_SERVICE_START) as (λ b. (action == SERVICE_TRIGGER_ACTION_SERVICE_START) ≡ b
    → P (cond b (with_restart row f) (with_stop l row f)))
    [ true ↦ λ starts. restart_keeps P k.starts f row there p | false ↦ λ stops. stop_keeps P l subtype k f row action there is stops p ]
    refl

-- with the services as they are
abbrev Over : (Flat → Type 0) → List Service → Flat → Type 0
Over P services f = (f.services ≡ services) × P f

raises_over : (P : Flat → Type 0) (l : Limits) (subtype : List ℕ) (services : List Service) → Raises P l subtype
    → Raises (Over P services) l subtype
raises_over P l subtype services k = record {
  starts = λ f row there can p. (p.0, k.starts f row there can p.1);
  stops = λ f row action there is stops gets p. (p.0, k.stops f row action there is stops gets p.1);
}

all_keep : (P : Flat → Type 0) (l : Limits) (subtype : List ℕ) (services : List Service) → Raises P l subtype
    → (rows : List Service) (f : Flat) → All (Contains services) rows → Over P services f
    → Over P services (all_triggered l subtype rows f)
all_keep P l subtype services k [] f there p = p
all_keep P l subtype services k (row ∷ rows) f there p =
    let here : Contains f.services row = subst (λ (all : List Service). Contains all row) (sym p.0)
    (All-head (Contains services) row rows there) in
    all_keep P l subtype services k rows (if_found (triggered l row) (matching row.config subtype) f)
    (All-tail (Contains services) row rows there)
    (found_keeps (Over P services) (triggered l row) (matching row.config subtype) f p
    (λ action is. triggered_keeps (Over P services) l subtype (raises_over P l subtype services k) f row action here is p))

pub raised_by : (P : Flat → Type 0) (l : Limits) (subtype : List ℕ) → Raises P l subtype → (f : Flat) (caller : ℕ) → P f
    → P (raised l f caller subtype)
raised_by P l subtype k f caller p =
    elim (raise_verdict f caller == 0) as (λ b. P (cond b (all_triggered l subtype f.services f) f))
    [ true ↦ (all_keep P l subtype f.services k f.services f (All-contains_itself f.services) (refl, p)).1 | false ↦ p ]

-- ## What neither changes

-- a state with plans, due rows, processes, wanted launches and a count of reboots of another
abbrev pub begun_by : Flat → Flat → Flat
begun_by f g = record f {
  processes = g.processes;
  wanted = g.wanted;
  plans = g.plans;
  dues = g.dues;
  next = record f.next { process = g.next.process; plan = g.next.plan; due = g.next.due };
  reboots = g.reboots;
}

start_begins : (f g : Flat) (row : Service) → g ≡ begun_by f g → with_start 0 [] row g ≡ begun_by f (with_start 0 [] row g)
start_begins f g row e =
    ap (λ (h : Flat). record h {
      plans = (with_start 0 [] row g).plans;
      dues = (with_start 0 [] row g).dues;
      next = record h.next { plan = g.next.plan + 1; due = g.next.due + 1 };
    }) e

tick_begins : (l : Limits) (f : Flat) → Fires (λ (g : Flat). g ≡ begun_by f g) l
tick_begins l f = record {
  spends = λ g row is e. ap (λ (h : Flat). record h { plans = (spent row g).plans; dues = (spent row g).dues }) e;
  starts = λ g row there can e. start_begins f g row e;
  runs = λ g row there can e.
      ap (λ (h : Flat). record h {
        processes = (with_wanted_command row.config.command g).processes;
        wanted = (with_wanted_command row.config.command g).wanted;
        next = record h.next { process = g.next.process + 1 };
      }) e;
  reboots = λ g e. ap (λ (h : Flat). record h { reboots = (with_reboot g).reboots }) e;
}

raise_begins : (l : Limits) (f : Flat) (subtype : List ℕ) → Raises (λ (g : Flat). g ≡ begun_by f g) l subtype
raise_begins l f subtype = record {
  starts = λ g row there can e. start_begins f g row e;
  stops = λ g row action there is stops gets e. ap (λ (h : Flat). record h {
    processes =
        map (controlled_if l.controls row.process (order_to row.number SERVICE_CONTROL_STOP)) g.processes;
  }) e;
}

pub ticked_as : (l : Limits) (f : Flat) → ticked l f ≡ begun_by f (ticked l f)
ticked_as l f = ticked_by (λ (g : Flat). g ≡ begun_by f g) l (tick_begins l f) f refl

pub raised_as : (l : Limits) (f : Flat) (caller : ℕ) (subtype : List ℕ) → raised l f caller subtype ≡ begun_by f (raised l f caller subtype)
raised_as l f caller subtype = raised_by (λ (g : Flat). g ≡ begun_by f g) l subtype (raise_begins l f subtype) f caller refl

-- what speaks of nothing that they change
pub ticked_apart : (P : Flat → Type 0) (l : Limits) (f : Flat) → P (begun_by f (ticked l f)) → P (ticked l f)
ticked_apart P l f p = subst P (sym (ticked_as l f)) p

pub raised_apart : (P : Flat → Type 0) (l : Limits) (f : Flat) (caller : ℕ) (subtype : List ℕ) → P (begun_by f (raised l f caller subtype))
    → P (raised l f caller subtype)
raised_apart P l f caller subtype p = subst P (sym (raised_as l f caller subtype)) p
