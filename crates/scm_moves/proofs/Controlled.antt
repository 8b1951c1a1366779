-- The law of controls.
use Rattle.std.proofs.Common.{ℕ, ◌≡◌, ◌∙◌, ◌<◌, ◌≤◌, ◌==◌, ◌&&◌, ◌||◌, true, false, cond, IsTrue, List, [], ◌∷◌, ◌++◌, append_assoc, Option}
use Rattle.std.proofs.Common.{None, Some, drop, find, get_or, map, not, ap, sym, refl, subst, arith, eq-eqb, eqb-true, inl, inr, ne_eqb}
use Rattle.std.specs.Prelude.{All, is_none, is_some, max, nat_le, nat_lt, option_and_then}
use Rattle.std.proofs.lemmas.Bool.Decides.{nat_tests}
use Rattle.std.proofs.lemmas.List.{append-nil}
use Rattle.std.proofs.lemmas.List.Elements.{All-cons, All-filter, All-head, All-map, All-nil, All-push, All-tail}
use Rattle.scm_model.specs.declared.flat.Flat.{Flat}
use Rattle.scm_model.specs.declared.flat.HandleKind.{HandleKind}
use Rattle.scm_model.specs.declared.flat.HandleKind.TheVariants as kinds
use Rattle.scm_model.specs.declared.flat.HandleRow.{HandleRow}
use Rattle.scm_model.specs.declared.flat.Limits.{Limits}
use Rattle.scm_model.specs.declared.flat.Order.{Order}
use Rattle.scm_model.specs.declared.flat.Process.{Process}
use Rattle.scm_model.specs.declared.flat.Service.{Service}
use Rattle.scm_model.specs.declared.calls.Reply.TheVariants as reply
use Rattle.scm_model.specs.declared.calls.Request.TheVariants as request
use Rattle.scm_model.specs.declared.steps.Answer.TheVariants as answer
use Rattle.scm_model.specs.declared.steps.Kept.{Kept}
use Rattle.scm_model.specs.declared.steps.Step.{Step}
use Rattle.scm_model.specs.declared.steps.Step.TheVariants.{Call, ControlTaken, Ended, LaunchFailed, Raised, Report}
use Rattle.scm_model.specs.Changes.{with_moment}
use Rattle.scm_model.specs.Purge.{purged}
use Rattle.scm_model.specs.Rows.{handle_of, opened, opened_at, opened_by, service_of, held_service}
use Rattle.start_plan.specs.Settle.{settled}
use Rattle.scm_rules.specs.Controls.{active_among, control_done, control_told, control_verdict, controlled_if, controls_in, controls_of}
use Rattle.scm_rules.specs.Controls.{first_control, granted_in, waiting_for, with_control, with_control_taken, control_sent, controlled_in}
use Rattle.scm_rules.specs.Controls.{dequeued_in, first_asked, is_asked_by, next_by, order_to, unasked_if, unasked_in}
use Rattle.scm_rules.specs.Launches.{is_by, process_of}
use Rattle.scm_rules.specs.Reports.{is_stopped_by, released_by, released_if, reporting, set_status_done, set_status_verdict, with_report_of}
use Rattle.scm_rules.specs.Failures.{failed_by}
use Rattle.scm_runs.proofs.Failing.{failing_apart}
use Rattle.scm_model.specs.Found.{if_found}
use Rattle.scm_model.specs.Purge.{leaves}
use Rattle.scm_model.specs.declared.flat.Status.{Status}
use Rattle.std.specs.List.{AllZip}
use Rattle.scm_moves.proofs.Entered.{IsSettled, rows_settled}
use Rattle.scm_moves.proofs.Moved.{finished_services}
use Rattle.scm_moves.proofs.Own.{by_first, only_one}
use Rattle.scm_rules.specs.Query.{status_in}
use Rattle.scm_model.specs.Entries.{Entry}
use Rattle.scm_rules.specs.Steps.{at_moment, effect_of, finished, finished_step, may, step_of}
use Rattle.scm_rules.specs.Valid.{HasListed, IsValid, has_process}
use Rattle.scm_runs.proofs.Calls.{by_verdict}
use Rattle.scm_runs.proofs.Lists.{found_has, found_passes}
use Rattle.scm_moves.specs.Controls.{FirstIsTaken, IsControlled, IsNeededStill, IsReleased, IsSent, IsStopped, LawOfControls, OfControls}
use Rattle.scm_moves.specs.Controls.{OneMoreWaits, OneMoreWaitsFor, changes_controls, is_process_of, orders_without, status_shown}
use Rattle.scm_moves.proofs.Judged.{IsTaken, held, holds_up, is_taken}
use Rattle.scm_moves.proofs.Known.{IsBelow, IsOfOne, Known, all_below}
use Rattle.scm_moves.proofs.Needed.{needed_same}
use Rattle.scm_moves.proofs.Still.{Lists, lists_mapped, lists_same, stays_put}
use Rattle.scm_moves.proofs.Found.{found_mapped}
use Rattle.scm_rules.specs.Raise.{raised}
use Rattle.scm_runs.proofs.Unasked.{raised_by}
use Rattle.scm_moves.proofs.Waiting.{controlled, controlled_number, controlled_others, controlled_shared, one_behind, ended_none, found}
use Rattle.scm_moves.proofs.Waiting.{others_wait, released, released_number, relieved, waiting_after, waiting_settled}
use Rattle.std.proofs.lemmas.Bool.{and_parts}
use Rattle.scm_model.proofs.Found.{found_keeps}
use Rattle.scm_model.specs.declared.flat.Opened.{Opened}
use Rattle.scm_rules.proofs.Held.{held_is}

-- ## Who gets a control

opened_kind : (services : List Service) (kind : HandleKind) (granted : ℕ) → IsOfOne services kind
    → is_none (granted_in (opened_at kind granted)) ≡ false
    → is_some (option_and_then (λ (of : Opened). find (λ (row : Service). row.number == of.service) services) (opened_at kind granted)) ≡
    true
opened_kind services kinds.Manager granted is some = absurd cc
opened_kind services (kinds.Service number) granted is some = is
opened_kind services kinds.Lock granted is some = absurd cc
opened_kind services (kinds.Notify number) granted is some = absurd cc

opened_one : (f : Flat) (caller handle : ℕ) (row : Option HandleRow) → Known f → handle_of f caller handle ≡ row
    → is_none (granted_in (option_and_then opened_by row)) ≡ false
    → is_some (option_and_then (λ (of : Opened). service_of f of.service) (option_and_then opened_by row)) ≡ true
opened_one f caller handle None known e some = absurd cc
opened_one f caller handle (Some row) known e some =
    opened_kind f.services row.kind row.granted (found_has (λ (r : HandleRow). IsOfOne f.services r.kind)
    (λ (r : HandleRow). r.caller == caller && r.number == handle) row f.handles known.opened e) some

listed_found : (number : ℕ) (rows : List Process) → has_process rows number ≡ true → is_some (found number rows) ≡ true
listed_found number [] h = absurd cc
listed_found number (row ∷ rows) h =
    elim (row.number == number) as (λ b. (b || has_process rows number) ≡ true → is_some (cond b (Some row) (found number rows)) ≡ true)
    [ true ↦ λ g. refl | false ↦ λ g. listed_found number rows g ] h

-- a service that isn't STOPPED has a process that is listed
record IsRunning (f : Flat) (process : ℕ) : Type 0 where
  there : 1 ≤ process
  listed : is_some (process_of f process) ≡ true

has_one : (f : Flat) (row : Service) → (row.status.state == 1) ≡ (row.process == 0) → (row.status.state == 1) ≡ false
    → HasListed f.processes row → IsRunning f row.process
has_one f row same runs listed =
    let some : (row.process == 0) ≡ false = sym same ∙ runs in
    record {
      there = not_zero row.process some;
      listed = listed_found row.process f.processes (ap (λ b. b || has_process f.processes row.process) (sym some) ∙ listed);
    }
  where
    not_zero : (n : ℕ) → (n == 0) ≡ false → 1 ≤ n
    not_zero n e = grind (arith, nat_tests)

running : (l : Limits) (f : Flat) (row : Service) → IsValid l f → service_of f row.number ≡ Some row → (row.status.state == 1) ≡ false
    → IsRunning f row.process
running l f row v e runs =
    has_one f row (found_has (λ (r : Service). (r.status.state == 1) ≡ (r.process == 0))
    (λ (r : Service). r.number == row.number) row f.services v.stopped e) runs
    (found_has (HasListed f.processes) (λ (r : Service). r.number == row.number) row f.services v.current e)

-- ## A Control that is taken

fewer_wait : (limit waiting : ℕ) → nat_le limit waiting ≡ false → nat_lt waiting limit ≡ true
fewer_wait limit waiting e = grind (arith, nat_tests)

given : (l : Limits) (f : Flat) (caller handle control : ℕ) → control_verdict l f caller handle control ≡ 0
    → IsTaken (granted_in (opened f caller handle)) (status_in (held_service f caller handle))
    (waiting_for f (held_service f caller handle)) l.controls
given l f caller handle control e =
    let service = held_service f caller handle in
    is_taken (granted_in (opened f caller handle)) control (status_in service) (active_among f.services service)
    (waiting_for f service) l.controls e

one_more : (l : Limits) (f : Flat) (moment caller handle control : ℕ) (service : Option Service) → IsValid l f → Known f
    → held_service f caller handle ≡ service → control_verdict l f caller handle control ≡ 0
    → OneMoreWaitsFor f (purged (settled l (record (with_moment f moment) { processes = controlled_in l control service f.processes })))
    service control
one_more l f moment caller handle control None v known at e =
    let some : is_some (held_service f caller handle) ≡ true = opened_one f caller handle (handle_of f caller handle) known refl
    (given l f caller handle control e).opened in
    absurd (let none = ap (λ (o : Option Service). is_some o) at in let no : false ≡ true = sym none ∙ some in cc)
one_more l f moment caller handle control (Some row) v known at e =
    let process = row.process in
    let order = order_to row.number control in
    let is : IsTaken (granted_in (opened f caller handle)) row.status (waiting_for f (Some row)) l.controls =
    subst (λ (o : Option Service). IsTaken (granted_in (opened f caller handle)) (status_in o) (waiting_for f o) l.controls) at
    (given l f caller handle control e) in
    let runs = running l f row v (held_is f caller handle row at) is.runs in
    record {
      there = runs.there;
      waits = waiting_settled l (with_control l (with_moment f moment) process order) process
          ∙ controlled l.controls process order f.processes runs.listed (fewer_wait l.controls (waiting_for f (Some row)) is.few);
      others = λ number other. waiting_settled l (with_control l (with_moment f moment) process order) number
          ∙ controlled_others l.controls process order number f.processes other;
    }

-- ## The answer

shown_zero : (f : Flat) (caller handle code : ℕ) → (code == 0) ≡ false →
    control_told f caller handle code ≡ reply.State (status_shown code (held_service f caller handle)) code
shown_zero f caller handle code e = rw e refl

still_needed : (l : Limits) (f : Flat) (caller handle control : ℕ) → control_verdict l f caller handle control ≡ 1051
    → IsNeededStill f caller handle control
still_needed l f caller handle control e =
    let service = held_service f caller handle in
    let is = held (granted_in (opened f caller handle)) control (status_in service) (active_among f.services service)
    (waiting_for f service) l.controls e in
    record { stop = is.stop; taken = is.taken; needed = sym (needed_same f service) ∙ is.needed }

needed_still : (l : Limits) (f : Flat) (caller handle control : ℕ) → IsNeededStill f caller handle control
    → control_verdict l f caller handle control ≡ 1051
needed_still l f caller handle control is =
    let service = held_service f caller handle in
    holds_up (granted_in (opened f caller handle)) control (status_in service) (active_among f.services service)
    (waiting_for f service) l.controls
    (record { stop = is.stop; taken = is.taken; needed = needed_same f service ∙ is.needed })

lists_controlled : (l : Limits) (f : Flat) (control : ℕ) (service : Option Service) → Lists f (controlled_in l control service f.processes)
lists_controlled l f control service =
    found_keeps (Lists f) (λ (row : Service). map (controlled_if l.controls row.process (order_to row.number control))) service f.processes
    (lists_same f) (λ row is. lists_mapped f (controlled_if l.controls row.process (order_to row.number control))
    (controlled_number l.controls row.process (order_to row.number control))
    (controlled_shared l.controls row.process (order_to row.number control)))

controlled_call : (l : Limits) (f : Flat) (moment caller handle control : ℕ) (append : Kept) → IsValid l f → Known f
    → IsControlled l f caller handle control (step_of l f moment (Call caller (request.Control handle control) append)).answer
    (step_of l f moment (Call caller (request.Control handle control) append)).flat
controlled_call l f moment caller handle control append v known =
    let g = with_moment f moment in
    let code = control_verdict l f caller handle control in
    by_verdict (λ r. IsControlled l f caller handle control (answer.Reply r.reply) (purged (settled l r.flat))) code
    (control_told f caller handle code) g (control_done l g caller handle control)
    (λ e. record {
      code = 0;
      verdict = sym e;
      answers = refl;
      taken = λ same. one_more l f moment caller handle control (held_service f caller handle) v known refl e;
      refused = λ other. absurd cc;
      services = stays_put l f (controlled_in l control (held_service f caller handle) f.processes) f.wanted f.registrations
          (max f.moment moment) v (lists_controlled l f control (held_service f caller handle));
      needed = (λ h. absurd cc, λ is. sym e ∙ needed_still l f caller handle control is);
    })
    (λ e. record {
      code = code;
      verdict = refl;
      answers = ap answer.Reply (shown_zero f caller handle code e);
      taken = λ zero. absurd (let yes = eq-eqb code 0 zero in cc);
      refused = λ other number. waiting_settled l g number;
      services = stays_put l f f.processes f.wanted f.registrations (max f.moment moment) v (lists_same f);
      needed = (still_needed l f caller handle control, needed_still l f caller handle control);
    })

-- ## What is sent next

-- the order that waits first
taken_by : (f g after : Flat) (process : ℕ) (orders : List Order) → first_asked f process ≡ None → controls_of f process ≡ orders
    → is_some (first_control orders) ≡ true → controls_of after process ≡ drop 1 orders
    → FirstIsTaken f process (finished g (control_sent (first_control orders))).answer after
taken_by f g after process [] none e some left = absurd cc
taken_by f g after process (order ∷ orders) none e some left = record {
  none = none;
  order = order;
  answers = refl;
  first = e ∙ ap (λ rest. order ∷ rest) (sym left);
}

-- a service that was sent isn't asked, and isn't STOPPED
record IsTold (number : ℕ) (row : Service) : Type 0 where
  unasked : row.number ≡ number → row.asked ≡ false
  runs : row.number ≡ number → (row.status.state == 1) ≡ false

told_row : (number : ℕ) (row : Service) → (row.number ≡ number → (row.status.state == 1) ≡ false) → IsTold number (unasked_if number row)
told_row number row runs =
    elim (row.number == number) as (λ b. (row.number == number) ≡ b → IsTold number (cond b (record row { asked = false }) row)) [
      | true ↦ λ e. record { unasked = λ same. refl; runs = runs }
      | false ↦ λ e. record {
        unasked = λ same. absurd (let yes = eq-eqb row.number number same in cc);
        runs = runs;
      }
    ] refl

told_settled : (number : ℕ) (mids news : List Service) → All (IsTold number) mids → AllZip IsSettled mids news
    → All (λ (new : Service). new.number ≡ number → new.asked ≡ false) news
told_settled number [] [] told settled = All-nil (λ (new : Service). new.number ≡ number → new.asked ≡ false)
told_settled number [] (new ∷ news) told settled = absurd settled
told_settled number (mid ∷ mids) [] told settled = absurd settled
told_settled number (mid ∷ mids) (new ∷ news) told settled =
    All-cons (λ (row : Service). row.number ≡ number → row.asked ≡ false) new news
    (one_told mid new (All-head (IsTold number) mid mids told) settled.0)
    (told_settled number mids news (All-tail (IsTold number) mid mids told) settled.1)
  where
    one_told : (mid new : Service) → IsTold number mid → IsSettled mid new → new.number ≡ number → new.asked ≡ false
    one_told mid new told (inl same) is = ap (λ (r : Service). r.asked) same ∙ told.unasked (ap (λ (r : Service). r.number) (sym same) ∙ is)
    one_told mid new told (inr entered) is =
        absurd (let runs = told.runs (ap (λ (r : Service). r.number) (sym entered.entered) ∙ is) in
        let stops = eq-eqb mid.status.state 1 entered.stopped in cc)

-- a service that is asked isn't STOPPED
asked_runs : (l : Limits) (f : Flat) (process : ℕ) (row : Service) → IsValid l f → first_asked f process ≡ Some row
    → (row.status.state == 1) ≡ false
asked_runs l f process row v e =
    let by = (and_parts (is_by process row) row.asked (found_passes (is_asked_by process) row f.services e)).0 in
    let first = by_first process row by in
    found_has (λ (r : Service). (r.status.state == 1) ≡ (r.process == 0)) (is_asked_by process) row f.services v.stopped e
    ∙ ne_eqb row.process 0 (λ none. absurd (omega (arith, none, first)))

unasked_after : (l : Limits) (f : Flat) (moment process : ℕ) (row : Service) → IsValid l f → first_asked f process ≡ Some row
    → All (λ (new : Service). new.number ≡ row.number → new.asked ≡ false) (step_of l f moment (ControlTaken process)).flat.services
unasked_after l f moment process row v e =
    let step = ControlTaken process in
    let done = effect_of l (at_moment f moment step) step in
    let told : All (IsTold row.number) done.flat.services =
    subst (λ (asked : Option Service). All (IsTold row.number) (unasked_in asked f.services)) (sym e)
    (All-map (IsTold row.number) (unasked_if row.number) f.services
    (λ k d lt. told_row row.number (get_or f.services k d)
    (λ same. ap (λ (r : Service). r.status.state == 1) (only_one (is_asked_by process) row f.services v.services.rising e k d lt same)
    ∙ asked_runs l f process row v e))) in
    All-filter (λ (r : Service). not (leaves (finished_step l f moment step).flat.handles r))
    (λ (new : Service). new.number ≡ row.number → new.asked ≡ false) (finished_step l f moment step).flat.services
    (subst (λ services. All (λ (new : Service). new.number ≡ row.number → new.asked ≡ false) services)
    (sym (finished_services (settled l done.flat) done.answer))
    (told_settled row.number done.flat.services (settled l done.flat).services told (rows_settled l done.flat)))

sent_by : (l : Limits) (f g : Flat) (moment process : ℕ) (asked : Option Service) → IsValid l f → first_asked f process ≡ asked
    → is_some (next_by asked (first_control (controls_of f process))) ≡ true
    → IsSent f process (finished g (control_sent (next_by asked (first_control (controls_of f process))))).answer
    (step_of l f moment (ControlTaken process)).flat
sent_by l f g moment process None v e some =
    inr (taken_by f g (step_of l f moment (ControlTaken process)).flat process (controls_of f process) e refl some
    (waiting_after l f moment (ControlTaken process) process
    ∙ ap (λ (asked : Option Service). controls_in (found process (dequeued_in asked process f.processes))) e
    ∙ relieved process f.processes))
sent_by l f g moment process (Some row) v e some = inl (record {
  row = row;
  first = e;
  answers = refl;
  unasked = unasked_after l f moment process row v e;
  waits = waiting_after l f moment (ControlTaken process) process
      ∙ ap (λ (asked : Option Service). controls_in (found process (dequeued_in asked process f.processes))) e;
})

-- ## Reports that stop services

released_for : (f after : Flat) (report : Status) (service : Option Service)
    → ((row : Service) → service ≡ Some row → is_stopped_by report row ≡ true
    → controls_of after row.process ≡ orders_without row.number (process_of f row.process))
    → IsReleased f after report service
released_for f after report None each = tt
released_for f after report (Some row) each = each row refl

-- once a report is taken
report_releases : (f g : Flat) (report : Status) (service : Option Service) (row : Service) → g.processes ≡ f.processes → service ≡ Some row
    → is_stopped_by report row ≡ true
    → controls_of (with_report_of g service report) row.process ≡ orders_without row.number (process_of f row.process)
report_releases f g report service row same is stopped =
    failing_apart (λ (h : Flat). controls_of h row.process ≡ orders_without row.number (process_of f row.process))
    (failed_by report service) _
    (ap (λ (one : Option Service). controls_in (found row.process (if_found (released_by report) one g.processes))) is
    ∙ ap (λ b. controls_in (found row.process (cond b (map (released_if row.process row.number) g.processes) g.processes))) stopped
    ∙ released row.process row.number g.processes
    ∙ ap (λ (rows : List Process). orders_without row.number (found row.process rows)) same)

released_call : (l : Limits) (f : Flat) (moment caller handle : ℕ) (report : Status) (append : Kept)
    → (step_of l f moment (Call caller (request.SetStatus handle report) append)).answer ≡ answer.Reply (reply.Code 0)
    → IsReleased f (step_of l f moment (Call caller (request.SetStatus handle report) append)).flat report (held_service f caller handle)
released_call l f moment caller handle report append =
    let g = with_moment f moment in
    let refusal = set_status_verdict g caller handle report in
    by_verdict (λ r. answer.Reply r.reply ≡ answer.Reply (reply.Code 0)
    → IsReleased f (purged (settled l r.flat)) report (held_service f caller handle)) refusal (reply.Code refusal) g
    (set_status_done g caller handle report)
    (λ e told. released_for f (purged (settled l (set_status_done g caller handle report).flat)) report (held_service f caller handle)
    (λ row is stopped. waiting_settled l (set_status_done g caller handle report).flat row.process
    ∙ report_releases f g report (held_service f caller handle) row refl is stopped))
    (λ e told. absurd (let none : refusal ≡ 0 = cc in let yes = eq-eqb refusal 0 none in cc))

-- ## A raise

stopped_behind : (f g : Flat) (limit process service number : ℕ) → IsStopped f g number
    → IsStopped f (record g { processes = map (controlled_if limit process (order_to service 1)) g.processes }) number
stopped_behind f g limit process service number is =
    let stop = order_to service 1 in
    elim (one_behind limit process stop number g.processes) as (λ _. IsStopped f
    (record g { processes = map (controlled_if limit process stop) g.processes }) number) [
      | inl same ↦ record { orders = is.orders; only = is.only; appended = same ∙ is.appended }
      | inr more ↦ record {
        orders = is.orders ++ stop ∷ [];
        only = All-push (λ (order : Order). order.code ≡ 1) is.orders stop is.only refl;
        appended = more ∙ ap (λ orders. orders ++ stop ∷ []) is.appended ∙ append_assoc (controls_of f number) is.orders (stop ∷ []);
      }
    ]

stops_raised : (l : Limits) (f : Flat) (moment caller : ℕ) (subtype : List ℕ) (number : ℕ)
    → IsStopped f (step_of l f moment (Raised caller subtype)).flat number
stops_raised l f moment caller subtype number =
    let is = raised_by (λ (g : Flat). IsStopped f g number) l subtype (record {
      starts = λ g row there can s. record { orders = s.orders; only = s.only; appended = s.appended };
      stops = λ g row action there is which gets s. stopped_behind f g l.controls row.process row.number number s;
    }) (with_moment f moment) caller (record {
      orders = [];
      only = All-nil (λ (order : Order). order.code ≡ 1);
      appended = sym (append-nil (controls_of f number));
    }) in
    record { orders = is.orders; only = is.only; appended = waiting_after l f moment (Raised caller subtype) number ∙ is.appended }

of_controls : (l : Limits) (f : Flat) (moment : ℕ) (step : Step) → IsValid l f → Known f → IsTrue (may l f moment step)
    → OfControls l f step (step_of l f moment step).answer (step_of l f moment step).flat
of_controls l f moment (Call caller (request.Control handle control) append) v known ok =
    controlled_call l f moment caller handle control append v known
of_controls l f moment (Call caller (request.SetStatus handle report) append) v known ok =
    released_call l f moment caller handle report append
of_controls l f moment (ControlTaken process) v known ok =
    sent_by l f (settled l (with_control_taken (with_moment f moment) process)) moment process (first_asked f process) v refl
    (and_parts _ _ ok).0
of_controls l f moment (Report process service report) v known ok =
    let g = with_moment f moment in
    released_for f (step_of l f moment (Report process service report)).flat report (reporting f process service)
    (λ row is stopped. waiting_after l f moment (Report process service report) row.process
    ∙ report_releases f g report (reporting f process service) row refl is stopped)
of_controls l f moment (Raised caller subtype) v known ok = λ number. stops_raised l f moment caller subtype number
of_controls l f moment step v known ok = tt

-- ## Processes that are new

-- who isn't listed has no controls
unlisted : (next number : ℕ) (rows : List Process) → All (λ (row : Process). row.number < next) rows → next ≤ number
    → controls_in (found number rows) ≡ []
unlisted next number [] below up = refl
unlisted next number (row ∷ rows) below up =
    let here = All-head (λ (r : Process). r.number < next) row rows below in
    let other : (row.number == number) ≡ false = ne_eqb row.number number (λ e. absurd (omega (arith, e, here, up))) in
    rw other (unlisted next number rows (All-tail (λ (r : Process). r.number < next) row rows below) up)

-- a control that is taken waits for a process whose number was given
given_before : (f : Flat) (number : ℕ) (row : Service) → All (IsBelow f.next.process) f.services → service_of f row.number ≡ Some row
    → 1 ≤ row.process → row.process ≡ number → f.next.process ≤ number → ⊥
given_before f number row below e first same up =
    elim (found_has (IsBelow f.next.process) (λ (r : Service). r.number == row.number) row f.services below e) as (λ _. ⊥) [
      | inl none ↦ absurd (omega (arith, none, first))
      | inr below ↦ absurd (omega (arith, below, same, up))
    ]

fresh_control : (l : Limits) (f : Flat) (moment caller handle control number : ℕ) (append : Kept) (service : Option Service) → IsValid l f
    → Known f → held_service f caller handle ≡ service
    → is_process_of service number ≡ true → f.next.process ≤ number
    → controls_of (step_of l f moment (Call caller (request.Control handle control) append)).flat number ≡ []
fresh_control l f moment caller handle control number append None v known at same up = absurd cc
fresh_control l f moment caller handle control number append (Some row) v known at same up =
    let is = controlled_call l f moment caller handle control append v known in
    elim (is.code == 0) as (λ b. (is.code == 0) ≡ b → controls_of (step_of l f moment
    (Call caller (request.Control handle control) append)).flat number ≡ []) [
      | true ↦ λ e. absurd (let more : OneMoreWaits f (step_of l f moment (Call caller (request.Control handle control) append)).flat
          row.process (order_to row.number control) =
          subst (λ (o : Option Service). OneMoreWaitsFor f (step_of l f moment (Call caller (request.Control handle control) append)).flat o
          control) at (is.taken (eqb-true is.code 0 e)) in
          given_before f number row (all_below l f v) (held_is f caller handle row at) more.there
          (sym (eqb-true number row.process same)) up)
      | false ↦ λ e. is.refused e number ∙ unlisted f.next.process number f.processes v.processes.below up
    ] refl

-- who isn't listed isn't stopped
unlisted_none : (next number : ℕ) (rows : List Process) → All (λ (row : Process). row.number < next) rows → next ≤ number
    → is_some (found number rows) ≡ false
unlisted_none next number [] below up = refl
unlisted_none next number (row ∷ rows) below up =
    let here = All-head (λ (r : Process). r.number < next) row rows below in
    let other : (row.number == number) ≡ false = ne_eqb row.number number (λ e. absurd (omega (arith, e, here, up))) in
    rw other (unlisted_none next number rows (All-tail (λ (r : Process). r.number < next) row rows below) up)

no_controls : (of : Option Process) → is_some of ≡ false → controls_in of ≡ []
no_controls None none = refl
no_controls (Some row) none = absurd cc

fresh_raised : (l : Limits) (f : Flat) (moment caller : ℕ) (subtype : List ℕ) (number : ℕ) → IsValid l f → f.next.process ≤ number
    → controls_of (step_of l f moment (Raised caller subtype)).flat number ≡ []
fresh_raised l f moment caller subtype number v up =
    waiting_after l f moment (Raised caller subtype) number
    ∙ no_controls (process_of (raised l (with_moment f moment) caller subtype) number)
    (raised_by (λ (g : Flat). is_some (process_of g number) ≡ false) l subtype (record {
      starts = λ g row there can none. none;
      stops = λ g row action there is which gets none.
          found_mapped (λ (r : Process). r.number) (controlled_if l.controls row.process (order_to row.number 1)) number
          (controlled_number l.controls row.process (order_to row.number 1)) g.processes ∙ none;
    }) (with_moment f moment) caller (unlisted_none f.next.process number f.processes v.processes.below up))

fresh_sent : (process : ℕ) (asked : Option Service) (rows : List Process) → controls_in (found process rows) ≡ []
    → controls_in (found process (dequeued_in asked process rows)) ≡ []
fresh_sent process None rows none = relieved process rows ∙ ap (λ (orders : List Order). drop 1 orders) none
fresh_sent process (Some row) rows none = none

fresh_released : (report : Status) (service : Option Service) (number : ℕ) (rows : List Process) → is_some (found number rows) ≡ false
    → controls_in (found number (if_found (released_by report) service rows)) ≡ []
fresh_released report service number rows none =
    no_controls (found number (if_found (released_by report) service rows))
    (found_keeps (λ (left : List Process). is_some (found number left) ≡ false) (released_by report) service rows none
    (λ row is. elim (is_stopped_by report row) as (λ b. is_some (found number
    (cond b (map (released_if row.process row.number) rows) rows)) ≡
    false) [
      | true ↦ found_mapped (λ (r : Process). r.number) (released_if row.process row.number) number
          (released_number row.process row.number) rows
          ∙ none
      | false ↦ none
    ]))

fresh_call : (l : Limits) (f : Flat) (moment caller handle : ℕ) (report : Status) (append : Kept) (number : ℕ) → IsValid l f
    → f.next.process ≤ number → controls_of (step_of l f moment (Call caller (request.SetStatus handle report) append)).flat number ≡ []
fresh_call l f moment caller handle report append number v up =
    let g = with_moment f moment in
    let refusal = set_status_verdict g caller handle report in
    waiting_after l f moment (Call caller (request.SetStatus handle report) append) number
    ∙ by_verdict (λ r. controls_of r.flat number ≡ []) refusal (reply.Code refusal) g (set_status_done g caller handle report)
    (λ e. failing_apart (λ (h : Flat). controls_of h number ≡ []) (failed_by report (held_service f caller handle)) _
    (fresh_released report (held_service f caller handle) number f.processes
    (unlisted_none f.next.process number f.processes v.processes.below up)))
    (λ e. unlisted f.next.process number f.processes v.processes.below up)

fresh_changed : (l : Limits) (f : Flat) (moment : ℕ) (step : Step) (number : ℕ) → IsValid l f → Known f → IsTrue (may l f moment step)
    → changes_controls f step number ≡ true → f.next.process ≤ number
    → controls_of (step_of l f moment step).flat number ≡ []
fresh_changed l f moment (Call caller (request.Control handle control) append) number v known ok changed up =
    fresh_control l f moment caller handle control number append (held_service f caller handle) v known refl changed up
fresh_changed l f moment (Call caller (request.SetStatus handle report) append) number v known ok changed up =
    fresh_call l f moment caller handle report append number v up
fresh_changed l f moment (ControlTaken process) number v known ok changed up =
    let is = eqb-true process number changed in
    subst (λ n. controls_of (step_of l f moment (ControlTaken process)).flat n ≡ []) is
    (waiting_after l f moment (ControlTaken process) process
    ∙ fresh_sent process (first_asked f process) f.processes (unlisted f.next.process process f.processes v.processes.below
    (omega (arith, is, up))))
fresh_changed l f moment (Report process service report) number v known ok changed up =
    waiting_after l f moment (Report process service report) number
    ∙ failing_apart (λ (g : Flat). controls_of g number ≡ []) (failed_by report (reporting (with_moment f moment) process service)) _
    (fresh_released report (reporting f process service) number f.processes
    (unlisted_none f.next.process number f.processes v.processes.below up))
fresh_changed l f moment (LaunchFailed process code) number v known ok changed up =
    ended_none l f moment (LaunchFailed process code) number changed
fresh_changed l f moment (Ended process) number v known ok changed up = ended_none l f moment (Ended process) number changed
fresh_changed l f moment (Raised caller subtype) number v known ok changed up = fresh_raised l f moment caller subtype number v up
fresh_changed l f moment step number v known ok changed up = absurd cc

fresh : (l : Limits) (f : Flat) (moment : ℕ) (step : Step) (number : ℕ) → IsValid l f → Known f → IsTrue (may l f moment step)
    → f.next.process ≤ number → controls_of (step_of l f moment step).flat number ≡ []
fresh l f moment step number v known ok up =
    elim (changes_controls f step number) as (λ b. changes_controls f step number ≡ b
    → controls_of (step_of l f moment step).flat number ≡ []) [
      | true ↦ λ e. fresh_changed l f moment step number v known ok e up
      | false ↦ λ e. others_wait l f moment step number e ∙ unlisted f.next.process number f.processes v.processes.below up
    ] refl

-- ## The law

pub controls : (l : Limits) (f : Flat) (e : Entry) → IsValid l f → Known f → IsTrue (may l f e.0 e.1)
    → LawOfControls l f e (step_of l f e.0 e.1).answer (step_of l f e.0 e.1).flat
controls l f e v known ok = record {
  controls = of_controls l f e.0 e.1 v known ok;
  ended = ended_none l f e.0 e.1;
  fresh = λ number. fresh l f e.0 e.1 number v known ok;
  others = others_wait l f e.0 e.1;
}
