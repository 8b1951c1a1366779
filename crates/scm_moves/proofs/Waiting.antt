-- Which controls wait after a step.
use Rattle.std.proofs.Common.{ℕ, ◌≡◌, ◌⊎◌, inl, inr, ◌∙◌, ◌==◌, ◌&&◌, Bool, true, false, not, cond, List, [], ◌∷◌, ◌++◌, Option, None, Some}
use Rattle.std.proofs.Common.{drop, filter, find, length, map, ap, sym, refl, subst, eq-eqb, eqb-true, ne_eqb}
use Rattle.std.specs.Prelude.{All, Contains, is_some, nat_lt}
use Rattle.std.specs.List.{list_any}
use Rattle.std.proofs.lemmas.List.Elements.{All-contains, All-weaker}
use Rattle.scm_model.specs.declared.flat.Flat.{Flat}
use Rattle.scm_model.specs.declared.flat.Limits.{Limits}
use Rattle.scm_model.specs.declared.flat.Phase.TheVariants as phases
use Rattle.scm_model.specs.declared.flat.Order.{Order}
use Rattle.scm_model.specs.declared.flat.Process.{Process}
use Rattle.scm_model.specs.declared.calls.Request.{Request}
use Rattle.scm_model.specs.declared.calls.Request.TheVariants as request
use Rattle.scm_model.specs.declared.steps.Answer.{Answer}
use Rattle.scm_model.specs.declared.steps.Answer.TheVariants as answer
use Rattle.scm_model.specs.declared.steps.Kept.{Kept}
use Rattle.scm_model.specs.declared.steps.Step.{Step}
use Rattle.scm_model.specs.declared.steps.Step.TheVariants.{Call, LaunchTaken, Launched, LaunchFailed, Report, Ended, ControlTaken, Tick}
use Rattle.scm_model.specs.declared.steps.Step.TheVariants.{Raised}
use Rattle.scm_model.specs.Changes.{with_moment}
use Rattle.start_plan.specs.Decided.{code_of}
use Rattle.start_plan.specs.Entered.{is_shared_by, wanted_process}
use Rattle.start_plan.specs.Settle.{settled}
use Rattle.start_plan.proofs.Enterings.{all_units}
use Rattle.start_plan.proofs.Hosts.{entered_keeps}
use Rattle.start_plan.proofs.Keeps.{Keeps, keeps_all}
use Rattle.scm_rules.specs.Controls.{controlled_if, controls_in, controls_of, dequeued_if, dequeued_in, first_asked, order_to}
use Rattle.scm_rules.specs.Launches.{currents, first_wanted, launched_if, taken_if, without_process}
use Rattle.scm_rules.specs.Reports.{is_stopped_by, released_by, released_if, reporting}
use Rattle.scm_rules.specs.Steps.{at_moment, effect_of, finished, left_by, step_of}
use Rattle.scm_rules.specs.Verdicts.{call_of, done_of, told_refused, verdict}
use Rattle.scm_runs.proofs.Calls.{by_verdict}
use Rattle.scm_runs.proofs.Lists.{find_filter, none_any}
use Rattle.scm_moves.specs.Controls.{changes_controls, ends_process, is_left_by, is_process_of, is_stopped_at, orders_without, stops}
use Rattle.scm_model.proofs.Found.{found_keeps}
use Rattle.scm_runs.proofs.Founds.{opened_keeps, started_keeps, notify_apart}
use Rattle.scm_model.specs.Found.{if_found}
use Rattle.scm_model.specs.Rows.{held_service, service_of}
use Rattle.scm_model.specs.declared.flat.Status.{Status}
use Rattle.scm_model.specs.declared.flat.Service.{Service}
use Rattle.scm_rules.specs.Failures.{failed_by}
use Rattle.scm_rules.specs.Raise.{raised}
use Rattle.scm_runs.proofs.Failing.{all_failing_apart, failing_apart}
use Rattle.scm_runs.proofs.Unasked.{raised_by, ticked_by}

-- the process with a number
abbrev pub found : ℕ → List Process → Option Process
found number rows = find (λ (row : Process). row.number == number) rows

-- ## Rows that change

-- a change of each row that makes these controls of those of one
controls_mapped : (g : Process → Process) (h : List Order → List Order) (number : ℕ) (rows : List Process)
    → ((row : Process) → (g row).number ≡ row.number)
    → ((row : Process) → (row.number == number) ≡ true → (g row).controls ≡ h row.controls) → h [] ≡ []
    → controls_in (found number (map g rows)) ≡ h (controls_in (found number rows))
controls_mapped g h number [] same makes none = sym none
controls_mapped g h number (row ∷ rows) same makes none =
    ap (λ n. controls_in (cond (n == number) (Some (g row)) (found number (map g rows)))) (same row)
    ∙ elim (row.number == number) as (λ b. (row.number == number) ≡ b →
    controls_in (cond b (Some (g row)) (found number (map g rows))) ≡ h (controls_in (cond b (Some row) (found number rows)))) [
      | true ↦ λ e. makes row e
      | false ↦ λ e. controls_mapped g h number rows same makes none
    ] refl

taken_same : (of number : ℕ) (rows : List Process) → controls_in (found number (map (taken_if of) rows)) ≡ controls_in (found number rows)
taken_same of number rows =
    controls_mapped (taken_if of) (λ orders. orders) number rows
    (λ row. elim (row.number == of) as (λ b. (cond b (record row { phase = phases.Taken }) row).number ≡ row.number) [
      | true ↦ refl
      | false ↦ refl
    ])
    (λ row e. elim (row.number == of) as (λ b. (cond b (record row { phase = phases.Taken }) row).controls ≡ row.controls) [
      | true ↦ refl
      | false ↦ refl
    ]) refl

launched_same : (of pid number : ℕ) (rows : List Process) → controls_in (found number (map (launched_if of pid) rows)) ≡ controls_in
    (found number rows)
launched_same of pid number rows =
    controls_mapped (launched_if of pid) (λ orders. orders) number rows
    (λ row. elim (row.number == of) as (λ b. (cond b (record row { phase = phases.Launched; pid = pid }) row).number ≡ row.number)
    [ true ↦ refl | false ↦ refl ])
    (λ row e. elim (row.number == of) as (λ b. (cond b (record row { phase = phases.Launched; pid = pid }) row).controls ≡ row.controls)
    [ true ↦ refl | false ↦ refl ]) refl

relieved_number : (of : ℕ) (row : Process) → (dequeued_if of row).number ≡ row.number
relieved_number of row = elim (row.number == of) as (λ b. (cond b (record row { controls = drop 1 row.controls }) row).number ≡ row.number)
    [ true ↦ refl | false ↦ refl ]

pub relieved : (process : ℕ) (rows : List Process) → controls_in (found process (map (dequeued_if process) rows)) ≡ drop 1
    (controls_in (found process rows))
relieved process rows = controls_mapped (dequeued_if process) (λ orders. drop 1 orders) process rows (relieved_number process)
    (λ row e. rw e refl) refl

-- who has one number hasn't another
other_number : (of number n : ℕ) → (of == number) ≡ false → (n == number) ≡ true → (n == of) ≡ false
other_number of number n other e = subst (λ m. (m == of) ≡ false) (sym (eqb-true n number e))
    (turned (number == of) (λ h. eq-eqb of number (sym (eqb-true number of h))) other)
  where
    turned : (b : Bool) → (b ≡ true → (of == number) ≡ true) → (of == number) ≡ false → b ≡ false
    turned true then_same other = absurd (let yes = then_same refl in cc)
    turned false then_same other = refl

relieved_others : (process number : ℕ) (rows : List Process) → (process == number) ≡ false
    → controls_in (found number (map (dequeued_if process) rows)) ≡ controls_in (found number rows)
relieved_others process number rows other =
    controls_mapped (dequeued_if process) (λ orders. orders) number rows (relieved_number process)
    (λ row e. rw (other_number process number row.number other e) refl) refl

other_process : (a b : ℕ) → (b == a) ≡ false → (a == b) ≡ false
other_process a b e = ne_eqb a b (λ same. absurd (let yes = eq-eqb b a (sym same) in cc))

-- what is sent next is taken of one process
sent_others : (asked : Option Service) (process number : ℕ) (rows : List Process) → (process == number) ≡ false
    → controls_in (found number (dequeued_in asked process rows)) ≡ controls_in (found number rows)
sent_others None process number rows other = relieved_others process number rows other
sent_others (Some row) process number rows other = refl

-- a report leaves the orders of other services, and those of a process of one service
pub released_number : (process service : ℕ) (row : Process) → (released_if process service row).number ≡ row.number
released_number process service row =
    elim (row.number == process && row.shared) as (λ b. (cond b (record row {
      controls = filter (λ (order : Order). not (order.service == service)) row.controls;
    }) row).number ≡ row.number) [ true ↦ refl | false ↦ refl ]

pub released_shared : (process service : ℕ) (row : Process) → (released_if process service row).shared ≡ row.shared
released_shared process service row =
    elim (row.number == process && row.shared) as (λ b. (cond b (record row {
      controls = filter (λ (order : Order). not (order.service == service)) row.controls;
    }) row).shared ≡ row.shared) [ true ↦ refl | false ↦ refl ]

released_others : (process service number : ℕ) (rows : List Process) → (process == number) ≡ false
    → controls_in (found number (map (released_if process service) rows)) ≡ controls_in (found number rows)
released_others process service number rows other =
    controls_mapped (released_if process service) (λ orders. orders) number rows (released_number process service)
    (λ row e. rw (other_number process number row.number other e) refl) refl

pub released : (process service : ℕ) (rows : List Process)
    → controls_in (found process (map (released_if process service) rows)) ≡ orders_without service (found process rows)
released process service [] = refl
released process service (row ∷ rows) =
    ap (λ n. controls_in (cond (n == process) (Some (released_if process service row))
    (found process (map (released_if process service) rows)))) (released_number process service row)
    ∙ elim (row.number == process) as (λ b. controls_in (cond b (Some (cond (b && row.shared) (record row {
      controls = filter (λ (order : Order). not (order.service == service)) row.controls;
    }) row)) (found process (map (released_if process service) rows))) ≡ orders_without service (cond b (Some row) (found process rows))) [
      | true ↦ elim row.shared as (λ b. (cond b (record row {
        controls = filter (λ (order : Order). not (order.service == service)) row.controls;
      }) row).controls ≡ cond b (filter (λ (order : Order). not (order.service == service)) row.controls) row.controls)
          [ true ↦ refl | false ↦ refl ]
      | false ↦ released process service rows
    ]

unreleased : (report : Status) (service : Option Service) (number : ℕ) (rows : List Process) → is_left_by report service number ≡ false
    → controls_in (found number (if_found (released_by report) service rows)) ≡ controls_in (found number rows)
unreleased report None number rows other = refl
unreleased report (Some row) number rows other =
    elim (is_stopped_by report row) as (λ b. (b && number == row.process) ≡ false
    → controls_in (found number (cond b (map (released_if row.process row.number) rows) rows)) ≡ controls_in (found number rows)) [
      | true ↦ λ e. released_others row.process row.number number rows (other_process row.process number e)
      | false ↦ λ e. refl
    ] other

pub controlled_number : (limit process : ℕ) (order : Order) (row : Process) → (controlled_if limit process order row).number ≡ row.number
controlled_number limit process order row =
    elim (row.number == process && nat_lt (length row.controls) limit) as (λ b.
    (cond b (record row { controls = row.controls ++ order ∷ [] }) row).number ≡ row.number) [ true ↦ refl | false ↦ refl ]

pub controlled_shared : (limit process : ℕ) (order : Order) (row : Process) → (controlled_if limit process order row).shared ≡ row.shared
controlled_shared limit process order row =
    elim (row.number == process && nat_lt (length row.controls) limit) as (λ b.
    (cond b (record row { controls = row.controls ++ order ∷ [] }) row).shared ≡ row.shared) [ true ↦ refl | false ↦ refl ]

pub controlled_others : (limit process : ℕ) (order : Order) (number : ℕ) (rows : List Process) → (process == number) ≡ false
    → controls_in (found number (map (controlled_if limit process order) rows)) ≡ controls_in (found number rows)
controlled_others limit process order number rows other =
    controls_mapped (controlled_if limit process order) (λ orders. orders) number rows (controlled_number limit process order)
    (λ row e. rw (other_number process number row.number other e) refl) refl

-- a process for which fewer controls wait than may gets one more
pub controlled : (limit process : ℕ) (order : Order) (rows : List Process) → is_some (found process rows) ≡ true
    → nat_lt (length (controls_in (found process rows))) limit ≡ true
    → controls_in (found process (map (controlled_if limit process order) rows)) ≡ controls_in (found process rows) ++ order ∷ []
controlled limit process order [] there few = absurd cc
controlled limit process order (row ∷ rows) there few =
    ap (λ n. controls_in (cond (n == process) (Some (controlled_if limit process order row))
    (found process (map (controlled_if limit process order) rows)))) (controlled_number limit process order row)
    ∙ elim (row.number == process) as (λ b. is_some (cond b (Some row) (found process rows)) ≡ true
    → nat_lt (length (controls_in (cond b (Some row) (found process rows)))) limit ≡ true
    → controls_in (cond b (Some (cond (b && nat_lt (length row.controls) limit) (record row { controls = row.controls ++ order ∷ [] }) row))
    (found process (map (controlled_if limit process order) rows)))
    ≡ controls_in (cond b (Some row) (found process rows)) ++ order ∷ []) [
      | true ↦ λ t h. rw h refl
      | false ↦ λ t h. controlled limit process order rows t h
    ] there few

-- one control more, or none
pub one_behind : (limit process : ℕ) (order : Order) (number : ℕ) (rows : List Process)
    → (controls_in (found number (map (controlled_if limit process order) rows)) ≡ controls_in (found number rows))
    ⊎ (controls_in (found number (map (controlled_if limit process order) rows)) ≡ controls_in (found number rows) ++ order ∷ [])
one_behind limit process order number [] = inl refl
one_behind limit process order number (row ∷ rows) =
    subst (λ n. (controls_in (cond (n == number) (Some (controlled_if limit process order row))
    (found number (map (controlled_if limit process order) rows))) ≡ controls_in (found number (row ∷ rows)))
    ⊎ (controls_in (cond (n == number) (Some (controlled_if limit process order row))
    (found number (map (controlled_if limit process order) rows))) ≡ controls_in (found number (row ∷ rows)) ++ order ∷ []))
    (sym (controlled_number limit process order row))
    (elim (row.number == number) as (λ b. (controls_in (cond b (Some (controlled_if limit process order row))
    (found number (map (controlled_if limit process order) rows))) ≡ controls_in (cond b (Some row) (found number rows)))
    ⊎ (controls_in (cond b (Some (controlled_if limit process order row)) (found number (map (controlled_if limit process order) rows))) ≡
    controls_in (cond b (Some row) (found number rows)) ++ order ∷ [])) [
      | true ↦ elim (row.number == process && nat_lt (length row.controls) limit) as (λ b.
          ((cond b (record row { controls = row.controls ++ order ∷ [] }) row).controls ≡ row.controls)
          ⊎ ((cond b (record row { controls = row.controls ++ order ∷ [] }) row).controls ≡ row.controls ++ order ∷ [])) [
            | true ↦ inr refl
            | false ↦ inl refl
          ]
      | false ↦ one_behind limit process order number rows
    ])

-- ## Processes that leave

left_others : (process number : ℕ) (rows : List Process) → (process == number) ≡ false
    → controls_in (found number (filter (λ (row : Process). not (row.number == process)) rows)) ≡ controls_in (found number rows)
left_others process number rows other =
    ap controls_in (find_filter (λ (row : Process). row.number == number) (λ (row : Process). not (row.number == process))
    (λ row e. rw (other_number process number row.number other e) refl) rows)

left_none : (process number : ℕ) (rows : List Process) → process ≡ number
    → controls_in (found number (filter (λ (row : Process). not (row.number == process)) rows)) ≡ []
left_none process number [] is = refl
left_none process number (row ∷ rows) is =
    elim (row.number == process) as (λ b. (row.number == process) ≡ b
    → controls_in (found number (cond (not b) (row ∷ filter (λ (row : Process). not (row.number == process)) rows)
    (filter (λ (row : Process). not (row.number == process)) rows))) ≡ []) [
      | true ↦ λ e. left_none process number rows is
      | false ↦ λ e. rw (ap (λ n. row.number == n) (sym is) ∙ e) (left_none process number rows is)
    ] refl

-- ## Effects

-- what waits for a process among these
abbrev WaitsSo : ℕ → List Process → List Process → Type 0
WaitsSo number before after = controls_in (found number after) ≡ controls_in (found number before)

waiting_done : (l : Limits) (f : Flat) (caller : ℕ) (asked : Request) (append : Kept) (number : ℕ)
    → changes_controls f (Call caller asked append) number ≡ false → controls_of
    (done_of l f caller asked).flat number ≡ controls_of f number
waiting_done l f caller (request.Control handle control) append number other =
    found_keeps (WaitsSo number f.processes) (λ (row : Service). map (controlled_if l.controls row.process (order_to row.number control)))
    (held_service f caller handle) f.processes refl
    (λ row is. controlled_others l.controls row.process (order_to row.number control) number f.processes
    (other_process row.process number (ap (λ one. is_process_of one number) (sym is) ∙ other)))
waiting_done l f caller (request.OpenService handle name access) append number other =
    opened_keeps (λ (g : Flat). controls_of g number ≡ controls_of f number) f caller name access refl (λ row is. refl)
waiting_done l f caller (request.Start handle words) append number other =
    started_keeps (λ (g : Flat). controls_of g number ≡ controls_of f number) f caller handle words refl (λ row is. refl)
waiting_done l f caller (request.SetStatus handle status) append number other =
    failing_apart (λ (g : Flat). controls_of g number ≡ controls_of f number) (failed_by status (held_service f caller handle)) _
    (unreleased status (held_service f caller handle) number f.processes other)
waiting_done l f caller (request.Notify handle mask) append number other =
    notify_apart (λ (g : Flat). controls_of g number ≡ controls_of f number) f caller handle mask (λ rows next. refl)
waiting_done l f caller asked append number other = refl

waiting_call : (l : Limits) (f : Flat) (moment caller : ℕ) (asked : Request) (append : Kept) (number : ℕ)
    → changes_controls f (Call caller asked append) number ≡ false
    → controls_of (call_of l (with_moment f moment) caller asked append).flat number ≡ controls_of f number
waiting_call l f moment caller asked append number other =
    let g = with_moment f moment in
    let code = verdict l g caller asked append in
    by_verdict (λ r. controls_of r.flat number ≡ controls_of f number) code (told_refused g caller asked code) g (done_of l g caller asked)
    (λ e. waiting_by l f moment caller asked append number other) (λ e. refl)
  where
    waiting_by : (l : Limits) (f : Flat) (moment caller : ℕ) (asked : Request) (append : Kept) (number : ℕ)
        → changes_controls f (Call caller asked append) number ≡ false
        → controls_of (done_of l (with_moment f moment) caller asked).flat number ≡ controls_of f number
    waiting_by l f moment caller (request.Control handle control) append number other =
        waiting_done l (with_moment f moment) caller (request.Control handle control) append number other
    waiting_by l f moment caller (request.SetStatus handle status) append number other =
        waiting_done l (with_moment f moment) caller (request.SetStatus handle status) append number other
    waiting_by l f moment caller asked append number other = waiting_done l (with_moment f moment) caller asked append number refl

some_not : (b : Bool) (code : ℕ) → is_some (cond b (Some code) None) ≡ false → b ≡ false
some_not true code h = absurd cc
some_not false code h = refl

some_is : (b : Bool) (code : ℕ) → is_some (cond b (Some code) None) ≡ true → b ≡ true
some_is true code h = refl
some_is false code h = absurd cc

-- a process that is new has no controls
new_none : (process service : ℕ) (shared : Bool) (number : ℕ) (rows : List Process) → controls_in
    (found number (rows ++ wanted_process process service shared ∷ [])) ≡ controls_in (found number rows)
new_none process service shared number [] =
    elim (process == number) as (λ b. controls_in (cond b (Some (wanted_process process service shared)) None) ≡ [])
    [ true ↦ refl | false ↦ refl ]
new_none process service shared number (row ∷ rows) =
    elim (row.number == number) as (λ b. controls_in (cond b (Some row)
    (found number (rows ++ wanted_process process service shared ∷ []))) ≡
    controls_in (cond b (Some row) (found number rows)))
    [ true ↦ refl | false ↦ new_none process service shared number rows ]

-- a service that a raise doesn't stop
spared_at : (subtype : List ℕ) (number : ℕ) (rows : List Service) → list_any (λ (row : Service). row.process == number
    && is_stopped_at subtype row) rows ≡ false
    → All (λ (row : Service). is_stopped_at subtype row ≡ true → (row.process == number) ≡ false) rows
spared_at subtype number rows none =
    All-weaker (λ (row : Service). (row.process == number && is_stopped_at subtype row) ≡ false)
    (λ (row : Service). is_stopped_at subtype row ≡ true → (row.process == number) ≡ false)
    (λ row e is. first_false (row.process == number) (is_stopped_at subtype row) e is) rows
    (none_any (λ (row : Service). row.process == number && is_stopped_at subtype row) rows none)
  where
    first_false : (a b : Bool) → (a && b) ≡ false → b ≡ true → a ≡ false
    first_false true b e is = absurd cc
    first_false false b e is = refl

-- with the services of another state
record WaitsAmong (f : Flat) (number : ℕ) (g : Flat) : Type 0 where
  services : g.services ≡ f.services
  same : controls_of g number ≡ controls_of f number

waiting_raised : (l : Limits) (f : Flat) (caller : ℕ) (subtype : List ℕ) (number : ℕ)
    → changes_controls f (Raised caller subtype) number ≡ false → controls_of (raised l f caller subtype) number ≡ controls_of f number
waiting_raised l f caller subtype number other =
    let spared = spared_at subtype number f.services other in
    (raised_by (WaitsAmong f number) l subtype (record {
      starts = λ g row there can w. record { services = w.services; same = w.same };
      stops = λ g row action there is which gets w. record {
        services = w.services;
        same = (
            let stopped : is_stopped_at subtype row ≡ true = ap stops is ∙ ap not which in
            let other : (row.process == number) ≡ false = All-contains (λ (r : Service). is_stopped_at subtype r ≡ true
            → (r.process == number) ≡ false) f.services row spared
            (subst (λ (rows : List Service). Contains rows row) w.services there) stopped in
            controlled_others l.controls row.process (order_to row.number 1) number g.processes other ∙ w.same);
      };
    }) f caller (record { services = refl; same = refl })).same

waiting_effect : (l : Limits) (f : Flat) (moment : ℕ) (step : Step) (number : ℕ) → changes_controls f step number ≡ false
    → controls_of (effect_of l (at_moment f moment step) step).flat number ≡ controls_of f number
waiting_effect l f moment (Call caller asked append) number other = waiting_call l f moment caller asked append number other
waiting_effect l f moment LaunchTaken number other =
    found_keeps (WaitsSo number f.processes) (λ process. map (taken_if process)) (first_wanted f.wanted) f.processes refl
    (λ process is. taken_same process number f.processes)
waiting_effect l f moment (Launched process pid) number other = launched_same process pid number f.processes
waiting_effect l f moment (LaunchFailed process code) number other = left_others process number f.processes
    (some_not (process == number) code other)
waiting_effect l f moment (Report process service status) number other =
    failing_apart (λ (g : Flat). controls_of g number ≡ controls_of f number)
    (failed_by status (reporting (with_moment f moment) process service)) _
    (unreleased status (reporting f process service) number f.processes other)
waiting_effect l f moment (Ended process) number other =
    all_failing_apart (λ (g : Flat). controls_of (without_process g process) number ≡ controls_of f number) (currents process f.services) _
    (left_others process number f.processes (some_not (process == number) 1067 other))
waiting_effect l f moment (ControlTaken process) number other = sent_others (first_asked f process) process number f.processes other
waiting_effect l f moment Tick number other = ticked_by (λ (g : Flat). controls_of g number ≡ controls_of f number) l (record {
  spends = λ g row is e. e;
  starts = λ g row there can e. e;
  runs = λ g row there can e. new_none g.next.process 0 false number g.processes ∙ e;
  reboots = λ g e. e;
}) (with_moment f moment) refl
waiting_effect l f moment (Raised caller subtype) number other = waiting_raised l (with_moment f moment) caller subtype number other
waiting_effect l f moment step number other = refl

ended_effect : (l : Limits) (f : Flat) (moment : ℕ) (step : Step) (number : ℕ) → ends_process step number ≡ true
    → controls_of (effect_of l (at_moment f moment step) step).flat number ≡ []
ended_effect l f moment (LaunchFailed process code) number is = left_none process number f.processes
    (eqb-true process number (some_is (process == number) code is))
ended_effect l f moment (Ended process) number is =
    all_failing_apart (λ (g : Flat). controls_of (without_process g process) number ≡ []) (currents process f.services) _
    (left_none process number f.processes (eqb-true process number (some_is (process == number) 1067 is)))
ended_effect l f moment step number is = absurd cc

-- ## The end of a step

waits_on : (l : Limits) (f : Flat) (number : ℕ) → Keeps l (λ (g : Flat). controls_of g number ≡ controls_of f number) (λ plan. Unit {0})
waits_on l f number = record {
  enters = λ g plan n words entry same. entered_keeps (λ (h : Flat). controls_of h number ≡ controls_of f number) g n words
      (λ none. new_none g.next.process n (is_shared_by (service_of g n)) number g.processes ∙ same) (λ process is. same);
  tries = λ g plan n entry q. tt;
  drops = λ plan n rest code q. tt;
  meets = λ plan services q. tt;
}

-- settling leaves what waits
pub waiting_settled : (l : Limits) (f : Flat) (number : ℕ) → controls_of (settled l f) number ≡ controls_of f number
waiting_settled l f number = (keeps_all l (λ (g : Flat). controls_of g number ≡ controls_of f number) (λ plan. Unit {0})
    (waits_on l f number) f f.plans refl (all_units f.plans)).flat

waiting_left : (g : Flat) (plan : ℕ) (code : Option ℕ) (number : ℕ) → controls_of (left_by g plan code) number ≡ controls_of g number
waiting_left g plan None number = refl
waiting_left g plan (Some code) number = refl

waiting_finished : (g : Flat) (told : Answer) (number : ℕ) → controls_of (finished g told).flat number ≡ controls_of g number
waiting_finished g (answer.Begun plan) number = waiting_left g plan (code_of g.plans plan) number
waiting_finished g told number = refl

pub waiting_after : (l : Limits) (f : Flat) (moment : ℕ) (step : Step) (number : ℕ)
    → controls_of (step_of l f moment step).flat number ≡ controls_of (effect_of l (at_moment f moment step) step).flat number
waiting_after l f moment step number =
    let done = effect_of l (at_moment f moment step) step in
    waiting_finished (settled l done.flat) done.answer number ∙ waiting_settled l done.flat number

pub others_wait : (l : Limits) (f : Flat) (moment : ℕ) (step : Step) (number : ℕ) → changes_controls f step number ≡ false
    → controls_of (step_of l f moment step).flat number ≡ controls_of f number
others_wait l f moment step number other = waiting_after l f moment step number ∙ waiting_effect l f moment step number other

pub ended_none : (l : Limits) (f : Flat) (moment : ℕ) (step : Step) (number : ℕ) → ends_process step number ≡ true
    → controls_of (step_of l f moment step).flat number ≡ []
ended_none l f moment step number is = waiting_after l f moment step number ∙ ended_effect l f moment step number is
