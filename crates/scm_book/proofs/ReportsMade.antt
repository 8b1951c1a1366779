-- What reports, controls and ticks are told, and what they leave in hand.
use Rattle.std.proofs.Common.{◌≡◌, ◌≢◌, ◌∙◌, ◌⊎◌, ◌+◌, ℕ, ◌==◌, Bool, true, false, cond, List, [], ◌∷◌, ◌++◌, length, filter, find, Option}
use Rattle.std.proofs.Common.{None, Some, Result}
use Rattle.std.proofs.Common.{Ok, Err, Box, box_value, inl, inr, ⊎_elim, refl, sym, ap, subst, eq-eqb, eqb-true, arith}
use Rattle.std.specs.Prelude.{is_some, option_map}
use Rattle.std.specs.declared.alloc.Global.{Global}
use Rattle.std.proofs.lemmas.Bool.{cases_Bool}
use Rattle.std.proofs.lemmas.List.{append_cancel_right}
use Rattle.atomic_table.specs.declared.shared.Seat.{Seat}
use Rattle.scm_text.specs.TextWithRoom.{TextWithRoom}
use Rattle.scm_model.specs.declared.codes.TheConstants.{ERROR_INVALID_DATA}
use Rattle.scm_model.specs.declared.flat.Flat.{Flat}
use Rattle.scm_model.specs.declared.flat.Limits.{Limits}
use Rattle.scm_model.specs.declared.flat.Phase.{Phase}
use Rattle.scm_model.specs.declared.flat.Phase.TheVariants as phases
use Rattle.scm_model.specs.declared.flat.Order.{Order}
use Rattle.scm_model.specs.declared.flat.Process.{Process}
use Rattle.scm_model.specs.declared.flat.Service.{Service}
use Rattle.scm_model.specs.declared.flat.Status.{Status}
use Rattle.scm_model.specs.declared.steps.Answer.{Answer}
use Rattle.scm_model.specs.declared.steps.Answer.TheVariants as answers
use Rattle.scm_model.specs.declared.steps.Step.{Step}
use Rattle.scm_model.specs.declared.steps.Step.TheVariants.{ControlTaken, Report, Tick}
use Rattle.scm_model.specs.Changes.{with_moment}
use Rattle.scm_model.specs.Entries.{Entry, with_kept}
use Rattle.start_plan.specs.Settle.{settled}
use Rattle.scm_rules.specs.Controls.{control_sent, controls_in, controls_of, first_asked, first_control, is_asked_by, next_by, next_order}
use Rattle.scm_rules.specs.Controls.{waiting, with_control_taken}
use Rattle.scm_rules.specs.Histories.{state}
use Rattle.scm_rules.specs.Launches.{process_of}
use Rattle.scm_rules.specs.Steps.{finished, step_of}
use Rattle.book_rule.specs.declared.view.Opening.{Opening}
use Rattle.book_rule.specs.declared.view.View.{View}
use Rattle.book_rule.specs.Seats.{Enters, Identity}
use Rattle.scm_book.specs.Ghosts.{Ghosts}
use Rattle.scm_book.specs.declared.controlling.ControlLook.{ControlLook}
use Rattle.scm_book.specs.declared.controlling.ControlLook.TheVariants as controls
use Rattle.scm_book.specs.declared.controlling.ControlRoom.{ControlRoom}
use Rattle.scm_book.specs.declared.controlling.HandedOrder.{HandedOrder}
use Rattle.scm_book.specs.declared.controlling.Looked.{Looked}
use Rattle.scm_book.specs.declared.fault.MakeFault.TheVariants as makes
use Rattle.scm_book.specs.declared.fault.StepFault.{StepFault}
use Rattle.scm_book.specs.declared.fault.StepFault.TheVariants as faults
use Rattle.scm_book.specs.declared.held.Held.{Held}
use Rattle.scm_book.specs.declared.processes.ReportEnd.{ReportEnd}
use Rattle.scm_book.specs.declared.processes.ReportEnd.TheVariants as reports
use Rattle.scm_book.specs.declared.processes.TickEnd.{TickEnd}
use Rattle.scm_book.specs.declared.processes.TickEnd.TheVariants as ticks
use Rattle.scm_book.specs.Holds.{Holds, Opens, way_of}
use Rattle.scm_book.specs.Passes.{HoldsProcess, KeepsAll, Known, Made}
use Rattle.scm_book.specs.Processes.{KeepsAllBut}
use Rattle.scm_book.specs.Reporting.{ControlEnds, DidControl, HandsOver, IsReport, IsTick, LooksFor, OrderEnds, ReportEnds, TickEnds}
use Rattle.scm_book.specs.Reporting.{is_reporting_behind, look_of, told_of_report, told_of_tick, waiting_behind}
use Rattle.scm_book.specs.Turns.{NamesNoOther, StepEnds, known}
use Rattle.scm_book.proofs.Coming.{shaped}
use Rattle.scm_book.proofs.InHand.{always_report, holds_reported, keeps_but, keeps_every, of_own, seen_outside}
use Rattle.scm_book.proofs.InHandStill.{learnt_keeps}
use Rattle.scm_book.proofs.Passes.{did_so, did_step, entered_flat}

never : (b : Bool) → b ≡ true → b ≡ false → ⊥
never true is other = cc
never false is other = cc

-- ## Reports

-- a report of a process in hand may come
pub own_report : (o : Opening) (k : Known) (process service : ℕ) (status : Status) (step : Step) → HoldsProcess o k process phases.Launched
    → step ≡ Report process service status → NamesNoOther k.names step
own_report o k process service status step holds is = subst (NamesNoOther k.names) (sym is)
    (λ n has. of_own o k process phases.Launched holds n has)

module _ (o : Opening) (opens : Opens o) (k k' : Known) (moment process service : ℕ) (status : Status) where
  pub told_reported : HoldsProcess o k process phases.Launched → (r : Result Answer StepFault)
      → StepEnds o k moment (Report process service status) r k' → IsReport r
  told_reported holds (Ok told) so =
      let heard = shaped o opens k k' moment (Report process service status) told so.made in
      ⊎_elim (λ (one : is_reporting_behind o so.made.before process service ≡ true). ⊎_elim (λ (done : told ≡ answers.Done). inl done)
      (λ (refused : told ≡ answers.Refused ERROR_INVALID_DATA). inr (inl refused)) (heard.heard one))
      (λ (none : is_reporting_behind o so.made.before process service ≡ false). inr (inr (heard.stale none)))
      (cases_Bool (is_reporting_behind o so.made.before process service))
  told_reported holds (Err faults.NotNow) ends =
      absurd (never _ (always_report o k moment process service status holds k'.seen ends.0.longer
      (record { opens = opens; legal = ends.0.legal }) ends.0.until).may ends.1)
  told_reported holds (Err (faults.Unmade fault)) ends = tt

  done_stale : answers.Done ≡ answers.Stale → ⊥
  done_stale is = cc

  refused_stale : (code : ℕ) → answers.Refused code ≡ answers.Stale → ⊥
  refused_stale code is = cc

  stale_heard : (answers.Stale ≡ answers.Done) ⊎ (answers.Stale ≡ answers.Refused ERROR_INVALID_DATA) → ⊥
  stale_heard (inl is) = cc
  stale_heard (inr is) = cc

  refused_code : (code : ℕ) → (answers.Refused code ≡ answers.Done) ⊎ (answers.Refused code ≡ answers.Refused ERROR_INVALID_DATA)
      → code ≡ ERROR_INVALID_DATA
  refused_code code (inl is) = absurd cc
  refused_code code (inr is) = cc

  -- where it isn't stale, the process is the current one of a service that it names
  current_if : (told : Answer) (made : Made o k moment (Report process service status) told k') → (told ≡ answers.Stale → ⊥)
      → is_reporting_behind o made.before process service ≡ true
  current_if told made other =
      let heard = shaped o opens k k' moment (Report process service status) told made in
      ⊎_elim (λ (one : is_reporting_behind o made.before process service ≡ true). one)
      (λ (none : is_reporting_behind o made.before process service ≡ false). absurd (other (heard.stale none)))
      (cases_Bool (is_reporting_behind o made.before process service))

  pub reports_so : (end : ReportEnd) → StepEnds o k moment (Report process service status) (told_of_report end) k'
      → ReportEnds o k moment process service status end k'
  reports_so reports.Taken so = (so, current_if answers.Done so.made done_stale)
  reports_so (reports.Refused code) so =
      let one = current_if (answers.Refused code) so.made (refused_stale code) in
      (so, one, refused_code code ((shaped o opens k k' moment (Report process service status) (answers.Refused code) so.made).heard one))
  reports_so reports.Stale so =
      let heard = shaped o opens k k' moment (Report process service status) answers.Stale so.made in (
        so,
        ⊎_elim (λ (one : is_reporting_behind o so.made.before process service ≡ true). absurd (stale_heard (heard.heard one)))
            (λ (none : is_reporting_behind o so.made.before process service ≡ false). none)
            (cases_Bool (is_reporting_behind o so.made.before process service)),
      )
  reports_so (reports.Unmade makes.Full) ends = record { learnt = ends.0; full = ends.1.1 }
  reports_so (reports.Unmade makes.OutOfMemory) ends = record { learnt = ends.0; free = ends.1.1 }

  -- ## What a report leaves in hand

  same_phase : (phase : Phase) → HoldsProcess o k process phase → HoldsProcess o k process phases.Launched → phase ≡ phases.Launched
  same_phase phase one two = let e : Some phase ≡ Some phases.Launched = sym one.listed ∙ two.listed in cc

  apart_if : (other : ℕ) → (other == process) ≡ false → other ≢ process
  apart_if other apart is = never _ (eq-eqb other process is) apart

  one_kept : (told : Answer) → Made o k moment (Report process service status) told k' → HoldsProcess o k process phases.Launched
      → (other : ℕ) (phase : Phase) → other ≡ process → HoldsProcess o k other phase → HoldsProcess o k' other phase
  one_kept told made holds other phase e has =
      let mine : HoldsProcess o k process phase = subst (λ (p : ℕ). HoldsProcess o k p phase) e has in
      subst (λ (p : ℕ). HoldsProcess o k' p phase) (sym e)
      (subst (λ (x : Phase). HoldsProcess o k' process x) (sym (same_phase phase mine holds))
      (holds_reported o opens k k' moment process service status told made holds))

  reported_keeps : (told : Answer) → Made o k moment (Report process service status) told k' → HoldsProcess o k process phases.Launched
      → KeepsAll o k k'
  reported_keeps told made holds =
      let but : KeepsAllBut o process k k' = keeps_but o opens k k' moment
      (Report process service status) told made made.caller process refl in
      record {
        processes = λ other phase has. ⊎_elim (λ (same : (other == process) ≡ true). one_kept told made holds other phase
            (eqb-true other process same) has)
            (λ (apart : (other == process) ≡ false). but.processes other phase (apart_if other apart) has) (cases_Bool (other == process));
        plans = but.plans;
      }

  pub reports_keep : HoldsProcess o k process phases.Launched → (end : ReportEnd) → ReportEnds o k moment process service status end k'
      → KeepsAll o k k'
  reports_keep holds reports.Taken so = reported_keeps answers.Done so.0.made holds
  reports_keep holds (reports.Refused code) so = reported_keeps (answers.Refused code) so.0.made holds
  reports_keep holds reports.Stale so = reported_keeps answers.Stale so.0.made holds
  reports_keep holds (reports.Unmade makes.Full) ends = learnt_keeps o opens k k' ends.learnt
  reports_keep holds (reports.Unmade makes.OutOfMemory) ends = learnt_keeps o opens k k' ends.learnt

-- ## Controls

-- where nothing is sent next, no service is asked to start and no order waits
none_next : (asked : Option Service) (order : Option Order) → is_some (next_by asked order) ≡ false → (asked ≡ None) × (order ≡ None)
none_next None None none = (refl, refl)
none_next None (Some order) none = absurd cc
none_next (Some row) order none = absurd cc

no_orders : (orders : List Order) → first_control orders ≡ None → length orders ≡ 0
no_orders [] none = refl
no_orders (order ∷ orders) none = absurd cc

none_passes : (p : Service → Bool) (rows : List Service) → find p rows ≡ None → length (filter p rows) ≡ 0
none_passes p [] none = refl
none_passes p (row ∷ rows) none =
    elim (p row) as (λ b. cond b (Some row) (find p rows) ≡ None → length (cond b (row ∷ filter p rows) (filter p rows)) ≡ 0) [
      | true ↦ λ found. absurd cc
      | false ↦ λ rest. none_passes p rows rest
    ] none

-- where nothing is sent next to a process that is listed, there are 0
none_waits : (f : Flat) (process number : ℕ) → is_some (next_order f process) ≡ false → waiting f process ≡ Some number
    → waiting f process ≡ Some 0
none_waits f process number none is =
    let nothing = none_next (first_asked f process) (first_control (controls_of f process)) none in
    by (none_passes (is_asked_by process) f.services nothing.0) (process_of f process) nothing.1 is
  where
    by : length (filter (is_asked_by process) f.services) ≡ 0 → (row : Option Process) → first_control (controls_in row) ≡ None
        → option_map (λ (r : Process). length r.controls + length (filter (is_asked_by process) f.services)) row ≡ Some number
        → option_map (λ (r : Process). length r.controls + length (filter (is_asked_by process) f.services)) row ≡ Some 0
    by asked None order said = absurd cc
    by asked (Some row) order said = ap (λ (n : ℕ). Some n) (omega (arith, asked, no_orders row.controls order))

-- where the order that is sent next is this, it is the answer
pub order_answer : (l : Limits) (f : Flat) (moment process : ℕ) (order : Order) → next_order f process ≡ Some order
    → (step_of l f moment (ControlTaken process)).answer ≡ answers.Control order
order_answer l f moment process order is = ap (λ (found : Option Order).
    (finished (settled l (with_control_taken (with_moment f moment) process))
    (control_sent found)).answer) is

-- what is handed over in what the holder has is so at the end of the history
pub hands_same : {K : Type 0} (ghosts : Ghosts K) (o : Opening) (log : List Entry)
    (h : Held K)
    → Holds ghosts o log h → (process : ℕ) (name name' : TextWithRoom) (handed : HandedOrder)
    → HandsOver h.manager.flat process name name' handed
    → HandsOver (state o.limits o.first log) process name name' handed
hands_same ghosts o log h holds process name name' handed =
    subst (λ (f : Flat). HandsOver f process name name' handed) holds.manager

-- something is sent next to a process for which a control may come
pub next_there : (f f' : Flat) (process : ℕ) → f' ≡ f → is_some (next_order f process) ≡ true → next_order f' process ≡ None → ⊥
next_there f f' process same some none =
    never (is_some (next_order f process)) some (ap (λ (g : Flat). is_some (next_order g process)) (sym same) ∙ ap is_some none)

module _ {K : Type 0} (ghosts : Ghosts K) (b : Identity)
    (s s1 : Seat (Option (Box (Held K) Global)) View)
    (h : Box (Held K) Global) (enters : Enters (way_of ghosts) b s s1 h) where
  -- what a turn comes to, as a pass sees it
  pub did_control : (s2 : Seat (Option (Box (Held K) Global)) View) (moment process : ℕ) (name name' : TextWithRoom)
      (r : Result HandedOrder StepFault) → DidControl ghosts b s1 s2 moment process name name' r
      → OrderEnds b.opening (known s) moment process name name' r (known s2)
  did_control s2 moment process name name' (Ok handed) did =
      let so = did_so ghosts b s s1 h enters s2 moment (ControlTaken process) (answers.Control handed.order) did.0 in
      let e : Entry = (moment, with_kept (ControlTaken process) did.0.append) in
      let now : s2.me.0.seen ≡ s1.me.0.seen ++ e ∷ [] = ap (λ m. m.0.seen) did.0.did.me in
      let same : so.made.before ≡ s1.me.0.seen = append_cancel_right so.made.before s1.me.0.seen (e ∷ []) (sym so.made.seen ∙ now) in
      record {
        so = so;
        hands = subst (λ (l : List Entry). HandsOver (state b.opening.limits b.opening.first l) process name name' handed) (sym same) did.1;
      }
  did_control s2 moment process name name' (Err fault) did =
      let ends = did_step ghosts b s s1 h enters s2 moment (ControlTaken process) (Err fault) (did.0, did.1) in
      (ends.0, ends.1, did.2)

  left_at : (s2 : Seat (Option (Box (Held K) Global)) View) (moment process : ℕ) (name name' : TextWithRoom)
      (r : Result HandedOrder StepFault)
      → DidControl ghosts b s1 s2 moment process name name' r → r ≡ Err faults.NotNow → s1.me.0.seen ≡ s2.me.0.seen
  left_at s2 moment process name name' (Ok handed) did is = absurd cc
  left_at s2 moment process name name' (Err fault) did is = ap (λ m. m.0.seen) (sym did.0.me)

  pub looks_for : (s2 : Seat (Option (Box (Held K) Global)) View) (moment process : ℕ) (name name' : TextWithRoom) (looked : Looked)
      → looked.waiting ≡ waiting (box_value h).manager.flat process
      → DidControl ghosts b s1 s2 moment process name name' looked.ended
      → LooksFor b.opening (known s) moment process name name' (known s2) looked
  looks_for s2 moment process name name' looked count did = record {
    ends = did_control s2 moment process name name' looked.ended did;
    waiting = λ missed. count ∙ (ap (λ (f : Flat). waiting f process) (entered_flat ghosts b s s1 h enters)
        ∙ ap (λ (log : List Entry). waiting_behind b.opening log process) (left_at s2 moment process name name' looked.ended did missed));
  }

-- a room is the name in it
room_same : (room room' : ControlRoom) → room'.name ≡ room.name → room' ≡ room
room_same room room' same = ap (λ (t : TextWithRoom). record { name = t }) same

module _ (o : Opening) (opens : Opens o) (k k' : Known) (moment process : ℕ) (room room' : ControlRoom) where
  pub ends_control : (r : Result HandedOrder StepFault) (count : Option ℕ) → OrderEnds o k moment process room.name room'.name r k'
      → (r ≡ Err faults.NotNow → count ≡ waiting_behind o k'.seen process)
      → ControlEnds o k moment process room room' (look_of r count) k'
  ends_control (Ok handed) count ends found = ends
  ends_control (Err faults.NotNow) None ends found = (ends.0, sym (found refl), room_same room room' ends.2)
  ends_control (Err faults.NotNow) (Some number) ends found =
      (ends.0, none_waits (state o.limits o.first k'.seen) process number ends.1 (sym (found refl)), room_same room room' ends.2)
  ends_control (Err (faults.Unmade makes.Full)) count ends found = (
    record { learnt = ends.0; full = ends.1.1 },
    ends.1.0,
    room_same room room' ends.2,
  )
  ends_control (Err (faults.Unmade makes.OutOfMemory)) count ends found =
      (record { learnt = ends.0; free = ends.1.1 }, ends.1.0, room_same room room' ends.2)

  pub controls_keep : (look : ControlLook) → ControlEnds o k moment process room room' look k' → KeepsAll o k k'
  controls_keep (controls.Control order shared) ends = keeps_every o opens k k' moment (ControlTaken process)
      (answers.Control order) ends.so.made ends.so.made.caller refl
  controls_keep controls.Empty ends = learnt_keeps o opens k k' ends.0
  controls_keep controls.Over ends = learnt_keeps o opens k k' ends.0
  controls_keep (controls.Unmade makes.Full) ends = learnt_keeps o opens k k' ends.0.learnt
  controls_keep (controls.Unmade makes.OutOfMemory) ends = learnt_keeps o opens k k' ends.0.learnt

  -- the room for a name stays as large as it is
  pub same_large : (look : ControlLook) → ControlEnds o k moment process room room' look k' → room'.name.room ≡ room.name.room
  same_large (controls.Control order shared) ends = ap (λ (t : TextWithRoom). t.room) ends.hands.name
  same_large controls.Empty ends = ap (λ (r : ControlRoom). r.name.room) ends.2
  same_large controls.Over ends = ap (λ (r : ControlRoom). r.name.room) ends.2
  same_large (controls.Unmade fault) ends = ap (λ (r : ControlRoom). r.name.room) ends.2

-- ## Ticks

pub own_tick : (k : Known) (step : Step) → step ≡ Tick → NamesNoOther k.names step
own_tick k step is = subst (NamesNoOther k.names) (sym is) (λ n has. absurd has)

module _ (o : Opening) (opens : Opens o) (k k' : Known) (moment : ℕ) where
  pub told_tick : (r : Result Answer StepFault) → StepEnds o k moment Tick r k' → IsTick r
  told_tick (Ok told) so = shaped o opens k k' moment Tick told so.made
  told_tick (Err fault) ends = tt

  pub ticks_so : (end : TickEnd) → StepEnds o k moment Tick (told_of_tick end) k' → TickEnds o k moment end k'
  ticks_so ticks.Ticked so = so
  ticks_so ticks.Idle ends = ends
  ticks_so (ticks.Unmade makes.Full) ends = (record { learnt = ends.0; full = ends.1.1 }, ends.1.0)
  ticks_so (ticks.Unmade makes.OutOfMemory) ends = (record { learnt = ends.0; free = ends.1.1 }, ends.1.0)

  pub ticks_keep : (end : TickEnd) → TickEnds o k moment end k' → KeepsAll o k k'
  ticks_keep ticks.Ticked so = keeps_every o opens k k' moment Tick answers.Done so.made so.made.caller refl
  ticks_keep ticks.Idle ends = learnt_keeps o opens k k' ends.0
  ticks_keep (ticks.Unmade makes.Full) ends = learnt_keeps o opens k k' ends.0.learnt
  ticks_keep (ticks.Unmade makes.OutOfMemory) ends = learnt_keeps o opens k k' ends.0.learnt

-- ## As a book's call tells it

-- what a step of a book comes to, whose turn and pass lie within what contracts see
pub step_outside : (b b' : Identity) (from k k' : Known) → b ≡ b' → from ≡ k → (moment : ℕ) (step asked : Step) → asked ≡ step
    → (r : Result Answer StepFault) → StepEnds b.opening from moment asked r k' → StepEnds b'.opening k moment step r k'
step_outside b b' from k k' book pass moment step asked is r ends =
    seen_outside (λ (x : Identity) (y : Known). StepEnds x.opening y moment step r k') b b' from k book pass
    (subst (λ (s : Step). StepEnds b.opening from moment s r k') is ends)
