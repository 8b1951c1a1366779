-- Triggers, one service after another.
use Rattle.std.proofs.Common.{ℕ, ◌≡◌, ◌∙◌, ◌≤◌, ◌+◌, ◌==◌, Bool, true, false, cond, zero, suc, Option, None, Some, List, [], ◌∷◌, ◌++◌}
use Rattle.std.proofs.Common.{drop, filter, length, ap, sym, refl, subst, arith, length-append}
use Rattle.std.specs.Prelude.{option_and_then, option_to_list, slice_get}
use Rattle.std.proofs.lemmas.List.{drop_all}
use Rattle.std.proofs.lemmas.List.Elements.{filter-append}
use Rattle.scm_model.specs.declared.codes.TheConstants.{SERVICE_CONTROL_STOP, SERVICE_TRIGGER_ACTION_SERVICE_START}
use Rattle.scm_model.specs.declared.flat.Flat.{Flat}
use Rattle.scm_model.specs.declared.flat.Limits.{Limits}
use Rattle.scm_model.specs.declared.flat.Service.{Service}
use Rattle.scm_model.specs.Found.{if_found}
use Rattle.scm_rules.specs.Controls.{order_to, with_control}
use Rattle.scm_rules.specs.Raise.{all_triggered, gets_stop, triggered, with_stop}
use Rattle.scm_rules.specs.Room.{is_started_at, starts}
use Rattle.scm_rules.specs.Ticks.{with_restart}
use Rattle.start_triggers.specs.Triggers.{matching}
use Rattle.scm_tables.specs.Firing.{HasPlanNumbers, HasStarts, one_if}
use Rattle.scm_tables.specs.Tabled.{Spare, Tabled}
use Rattle.scm_tables.proofs.Fired.{restarts}
use Rattle.scm_arms_process.specs.declared.raising.Addressed.{Addressed}
use Rattle.scm_arms_process.specs.Raised.{acted, action_in, started_among, started_at, starts_by, stopped_by, triggered_if}

-- ## A service

-- a STOP waits where one is got
pub stopped_as : (l : Limits) (found : Option Service) (f : Flat)
    → if_found (λ (stop : Addressed) g. with_control l g stop.process stop.order) (option_and_then (stopped_by l f) found) f ≡ if_found
    (with_stop l) found f
stopped_as l None f = refl
stopped_as l (Some row) f =
    let order = order_to row.number SERVICE_CONTROL_STOP in
    elim (gets_stop l f row) as (λ b. if_found (λ (stop : Addressed) g. with_control l g stop.process stop.order)
    (cond b (Some (record { process = row.process; order = order })) None) f ≡ cond b (with_control l f row.process order) f) [
      | true ↦ refl
      | false ↦ refl
    ]

pub acts_start : (l : Limits) (action : ℕ) (found : Option Service) (f : Flat) → action ≡ SERVICE_TRIGGER_ACTION_SERVICE_START
    → if_found with_restart found f ≡ if_found (acted l action) found f
acts_start l action None f is = refl
acts_start l action (Some row) f is = sym (ap (λ (a : ℕ). cond (a == SERVICE_TRIGGER_ACTION_SERVICE_START) (with_restart row f)
    (with_stop l row f)) is)

pub acts_stop : (l : Limits) (action : ℕ) (found : Option Service) (f : Flat) → (action == SERVICE_TRIGGER_ACTION_SERVICE_START) ≡ false
    → if_found (with_stop l) found f ≡ if_found (acted l action) found f
acts_stop l action None f other = refl
acts_stop l action (Some row) f other = sym (ap (λ (b : Bool). cond b (with_restart row f) (with_stop l row f)) other)

-- the action of a trigger decides
pub triggers_some : (l : Limits) (subtype : List ℕ) (action : ℕ) (found : Option Service) (f : Flat) → action_in subtype found ≡ Some action
    → if_found (acted l action) found f ≡ if_found (triggered_if l subtype) found f
triggers_some l subtype action None f is = refl
triggers_some l subtype action (Some row) f is = sym (ap (λ (o : Option ℕ). if_found (triggered l row) o f) is)

pub triggers_none : (l : Limits) (subtype : List ℕ) (found : Option Service) (f : Flat) → action_in subtype found ≡ None
    → f ≡ if_found (triggered_if l subtype) found f
triggers_none l subtype None f is = refl
triggers_none l subtype (Some row) f is = sym (ap (λ (o : Option ℕ). if_found (triggered l row) o f) is)

pub starts_one : (subtype : List ℕ) (action : ℕ) (found : Option Service) → action_in subtype found ≡ Some action
    → started_among subtype (option_to_list found) ≡ starts_by action
starts_one subtype action None is = absurd cc
starts_one subtype action (Some row) is =
    ap (λ (o : Option ℕ). length (cond (starts o) (row ∷ []) [])) is ∙ (elim (action == SERVICE_TRIGGER_ACTION_SERVICE_START) as (λ b.
    length (cond b (row ∷ []) []) ≡ one_if b) [ true ↦ refl | false ↦ refl ])

pub starts_none : (subtype : List ℕ) (found : Option Service) → action_in subtype found ≡ None
    → started_among subtype (option_to_list found) ≡ 0
starts_none subtype None is = refl
starts_none subtype (Some row) is = ap (λ (o : Option ℕ). length (cond (starts o) (row ∷ []) [])) is

-- ## One after another

-- the service at a place, and those behind it
pub one_drop : (rows : List Service) (place : ℕ) → option_to_list (slice_get rows place) ++ drop (suc place) rows ≡ drop place rows
one_drop [] zero = refl
one_drop [] (suc place) = refl
one_drop (row ∷ rows) zero = refl
one_drop (row ∷ rows) (suc place) = one_drop rows place

pub one_among : (subtype : List ℕ) (rows : List Service) (place : ℕ) → started_at subtype rows place
    + started_among subtype (drop (suc place) rows) ≡ started_among subtype (drop place rows)
one_among subtype rows place =
    let one = option_to_list (slice_get rows place) in
    sym (ap (started_among subtype) (sym (one_drop rows place)) ∙ ap (λ (rs : List Service). length rs)
    (filter-append (is_started_at subtype) one (drop (suc place) rows))
    ∙ length-append (filter (is_started_at subtype) one) (filter (is_started_at subtype) (drop (suc place) rows)))

pub one_triggered : (l : Limits) (subtype : List ℕ) (rows : List Service) (place : ℕ) (f : Flat)
    → all_triggered l subtype (drop (suc place) rows) (if_found (triggered_if l subtype) (slice_get rows place) f) ≡ all_triggered l subtype
    (drop place rows) f
one_triggered l subtype [] zero f = refl
one_triggered l subtype [] (suc place) f = refl
one_triggered l subtype (row ∷ rows) zero f = refl
one_triggered l subtype (row ∷ rows) (suc place) f = one_triggered l subtype rows place f

-- what one leaves for the others
record Leaves (count : ℕ) (f g : Flat) : Type 0 where
  services : g.services ≡ f.services
  plans : g.next.plan ≤ f.next.plan + count
  due : g.next.due ≤ f.next.due + count

of_acted : (l : Limits) (action : ℕ) (row : Service) (f : Flat) → Leaves (starts_by action) f (acted l action row f)
of_acted l action row f =
    elim (action == SERVICE_TRIGGER_ACTION_SERVICE_START) as (λ b. Leaves (one_if b) f (cond b (with_restart row f) (with_stop l row f))) [
      | true ↦ (let r = restarts row f in record { services = r.services; plans = r.plans; due = r.due })
      | false ↦ elim (gets_stop l f row) as (λ b. Leaves 0 f (cond b (with_control l f row.process
          (order_to row.number SERVICE_CONTROL_STOP)) f)) [
            | true ↦ record { services = refl; plans = omega arith; due = omega arith }
            | false ↦ record { services = refl; plans = omega arith; due = omega arith }
          ]
    ]

of_triggered : (l : Limits) (subtype : List ℕ) (found : Option Service) (f : Flat)
    → Leaves (started_among subtype (option_to_list found)) f (if_found (triggered_if l subtype) found f)
of_triggered l subtype None f = record { services = refl; plans = omega arith; due = omega arith }
of_triggered l subtype (Some row) f =
    elim (matching row.config subtype) as (λ o. Leaves (length (cond (starts o) (row ∷ []) [])) f (if_found (triggered l row) o f)) [
      | None ↦ record { services = refl; plans = omega arith; due = omega arith }
      | Some action ↦
          let r = of_acted l action row f in
          let same : length (cond (action == SERVICE_TRIGGER_ACTION_SERVICE_START) (row ∷ []) []) ≡ starts_by action =
          elim (action == SERVICE_TRIGGER_ACTION_SERVICE_START) as (λ b. length (cond b (row ∷ []) []) ≡ one_if b) [
            | true ↦ refl
            | false ↦ refl
          ] in
          record { services = r.services; plans = omega (arith, r.plans, same); due = omega (arith, r.due, same) }
    ]

pub same_services : (l : Limits) (subtype : List ℕ) (found : Option Service) (f : Flat)
    → (if_found (triggered_if l subtype) found f).services ≡ f.services
same_services l subtype found f = (of_triggered l subtype found f).services

-- numbers for those behind
pub numbers_behind : (l : Limits) (subtype : List ℕ) (rows : List Service) (place : ℕ) (f : Flat)
    → HasPlanNumbers (started_among subtype (drop place rows)) f
    → HasPlanNumbers (started_among subtype (drop (suc place) rows)) (if_found (triggered_if l subtype) (slice_get rows place) f)
numbers_behind l subtype rows place f has =
    let r = of_triggered l subtype (slice_get rows place) f in
    let all = one_among subtype rows place in
    record { plans = omega (arith, has.plans, r.plans, all); dues = omega (arith, has.dues, r.due, all) }

-- the services from a place on come to what all come to, and there is room and there are numbers for them
pub record Goes (l : Limits) (subtype : List ℕ) (rows : List Service) (old : Flat) (place : ℕ) (t : Tabled) : Type 0 where
  pub services : t.flat.services ≡ rows
  pub all : all_triggered l subtype (drop place rows) t.flat ≡ all_triggered l subtype rows old
  pub limits : t.limits ≡ l
  pub room : HasStarts (started_among subtype (drop place rows)) t
  pub numbers : HasPlanNumbers (started_among subtype (drop place rows)) t.flat

pub goes_first : (subtype : List ℕ) (t : Tabled) → HasStarts (started_among subtype t.flat.services) t
    → HasPlanNumbers (started_among subtype t.flat.services) t.flat → Goes t.limits subtype t.flat.services t.flat 0 t
goes_first subtype t room numbers = record { services = refl; all = refl; limits = refl; room = room; numbers = numbers }

pub room_for : (l : Limits) (subtype : List ℕ) (rows : List Service) (old : Flat) (place : ℕ) (t : Tabled) → Goes l subtype rows old place t
    → HasStarts (started_at subtype t.flat.services place) t
room_for l subtype rows old place t goes =
    let more = one_among subtype rows place in
    let has = goes.room in
    subst (λ (rs : List Service). HasStarts (started_at subtype rs place) t) (sym goes.services)
    (record {
      starts = omega (arith, has.starts, more);
      plans = omega (arith, has.plans, more);
      dues = omega (arith, has.dues, more);
      entries = has.entries;
    })

pub numbers_for : (l : Limits) (subtype : List ℕ) (rows : List Service) (old : Flat) (place : ℕ) (t : Tabled)
    → Goes l subtype rows old place t → HasPlanNumbers (started_at subtype t.flat.services place) t.flat
numbers_for l subtype rows old place t goes =
    let more = one_among subtype rows place in
    let has = goes.numbers in
    subst (λ (rs : List Service). HasPlanNumbers (started_at subtype rs place) t.flat) (sym goes.services)
    (record { plans = omega (arith, has.plans, more); dues = omega (arith, has.dues, more) })

pub goes_on : (l : Limits) (subtype : List ℕ) (rows : List Service) (old : Flat) (place : ℕ) (t u : Tabled)
    → Goes l subtype rows old place t
    → u.flat ≡ if_found (triggered_if t.limits subtype) (slice_get t.flat.services place) t.flat → u.limits ≡ t.limits
    → ((count : ℕ) → HasStarts (started_at subtype t.flat.services place + count) t → HasStarts count u)
    → Goes l subtype rows old (place + 1) u
goes_on l subtype rows old place t u goes flat limits left =
    let flat_is : u.flat ≡ if_found (triggered_if l subtype) (slice_get rows place) t.flat =
    flat ∙ ap (λ (x : Limits). if_found (triggered_if x subtype) (slice_get t.flat.services place) t.flat) goes.limits
    ∙ ap (λ (rs : List Service). if_found (triggered_if l subtype) (slice_get rs place) t.flat) goes.services in
    let rest = drop (suc place) rows in
    let up : suc place ≡ place + 1 = omega arith in
    subst (λ (n : ℕ). Goes l subtype rows old n u) up (record {
      services = ap (λ (f : Flat). f.services) flat_is ∙ same_services l subtype (slice_get rows place) t.flat ∙ goes.services;
      all = ap (all_triggered l subtype rest) flat_is ∙ one_triggered l subtype rows place t.flat ∙ goes.all;
      limits = limits ∙ goes.limits;
      room = left (started_among subtype rest) (subst (λ (rs : List Service). HasStarts (started_at subtype rs place
          + started_among subtype rest) t) (sym goes.services)
          (subst (λ (n : ℕ). HasStarts n t) (sym (one_among subtype rows place)) goes.room));
      numbers = rw flat_is (numbers_behind l subtype rows place t.flat goes.numbers);
    })

pub goes_done : (l : Limits) (subtype : List ℕ) (rows : List Service) (old : Flat) (place : ℕ) (t : Tabled)
    → Goes l subtype rows old place t → length rows ≤ place → t.flat ≡ all_triggered l subtype rows old
goes_done l subtype rows old place t goes past = sym (ap (λ (rs : List Service). all_triggered l subtype rs t.flat)
    (drop_all place rows past)) ∙ goes.all

-- ## Room

pub less_room : (n m : ℕ) (t : Tabled) → m ≤ n → HasStarts n t → HasStarts m t
less_room n m t less has = record {
  starts = omega (arith, has.starts, less);
  plans = omega (arith, has.plans, less);
  dues = omega (arith, has.dues, less);
  entries = has.entries;
}

-- a start takes one room
pub acts_room : (action : ℕ) (t : Tabled) → action ≡ SERVICE_TRIGGER_ACTION_SERVICE_START → HasStarts (starts_by action) t → HasStarts 1 t
acts_room action t is has = subst (λ (a : ℕ). HasStarts (starts_by a) t) is has

pub acts_numbers : (action : ℕ) (f : Flat) → action ≡ SERVICE_TRIGGER_ACTION_SERVICE_START → HasPlanNumbers (starts_by action) f
    → HasPlanNumbers 1 f
acts_numbers action f is has = subst (λ (a : ℕ). HasPlanNumbers (starts_by a) f) is has

pub acts_left : (action : ℕ) (t u : Tabled) → action ≡ SERVICE_TRIGGER_ACTION_SERVICE_START
    → ((count : ℕ) → HasStarts (count + 1) t → HasStarts count u) → (count : ℕ) → HasStarts (starts_by action + count) t → HasStarts count u
acts_left action t u is left count has =
    let one : starts_by action ≡ 1 = ap starts_by is in
    left count (less_room (starts_by action + count) (count + 1) t (omega (arith, one)) has)

stop_services : (l : Limits) (found : Option Service) (f : Flat) → (if_found (with_stop l) found f).services ≡ f.services
stop_services l None f = refl
stop_services l (Some row) f = elim (gets_stop l f row) as (λ b. (cond b
    (with_control l f row.process (order_to row.number SERVICE_CONTROL_STOP)) f).services ≡
    f.services) [ true ↦ refl | false ↦ refl ]

-- a STOP takes none
pub stop_left : (l : Limits) (found : Option Service) (t u : Tabled) (action : ℕ) → u.flat ≡ if_found (with_stop l) found t.flat
    → u.spare ≡ t.spare → (count : ℕ) → HasStarts (starts_by action + count) t → HasStarts count u
stop_left l found t u action flat spare count has =
    let services = ap (λ (f : Flat). length f.services) flat ∙ ap (λ (rs : List Service). length rs) (stop_services l found t.flat) in
    record {
      starts = omega (arith, has.starts, ap (λ (s : Spare). s.starts) spare);
      plans = omega (arith, has.plans, ap (λ (s : Spare). s.plans) spare);
      dues = omega (arith, has.dues, ap (λ (s : Spare). s.dues) spare);
      entries = omega (arith, has.entries, ap (λ (s : Spare). s.entries) spare, services);
    }

-- ## What the loop over the services takes

pub ruleset acting = (acts_start, acts_stop, acts_room, acts_numbers, acts_left, stop_left)

pub ruleset going = (goes_first, room_for, numbers_for, goes_done)
