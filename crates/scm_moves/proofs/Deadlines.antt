-- Starts are decided by their deadlines: each that waits has a deadline among the rows that are due, and behind a tick no such row is left.
use Rattle.std.proofs.Common.{ℕ, ◌≡◌, ◌∙◌, ◌+◌, ◌≤◌, ◌<◌, ◌==◌, ◌&&◌, ◌++◌, Bool, true, false, not, cond, List, [], ◌∷◌, Option}
use Rattle.std.proofs.Common.{filter, length, ap, sym, refl, subst, arith, eqb-true, ne_eqb}
use Rattle.std.specs.Prelude.{is_none, max, nat_le, unwrap_or}
use Rattle.std.specs.List.{AllByRecursion, list_any}
use Rattle.std.proofs.lemmas.Bool.{leb-false, or_from, or_parts}
use Rattle.scm_model.specs.declared.codes.TheConstants.{ERROR_PROCESS_ABORTED}
use Rattle.scm_model.specs.declared.flat.Due.{Due}
use Rattle.scm_model.specs.declared.flat.DueKind.{DueKind}
use Rattle.scm_model.specs.declared.flat.DueKind.TheVariants as dues
use Rattle.scm_model.specs.declared.flat.Flat.{Flat}
use Rattle.scm_model.specs.declared.flat.Limits.{Limits}
use Rattle.scm_model.specs.declared.flat.Plan.{Plan}
use Rattle.scm_model.specs.declared.flat.Service.{Service}
use Rattle.scm_model.specs.declared.calls.Request.{Request}
use Rattle.scm_model.specs.declared.calls.Request.TheVariants as request
use Rattle.scm_model.specs.declared.steps.Answer.{Answer}
use Rattle.scm_model.specs.declared.steps.Kept.{Kept}
use Rattle.scm_model.specs.declared.steps.Step.{Step}
use Rattle.scm_model.specs.declared.steps.Step.TheVariants.{Call, Report, Ended, Tick, Raised, NoMemory}
use Rattle.scm_model.specs.Entries.{Entry}
use Rattle.scm_model.specs.Found.{if_found}
use Rattle.scm_model.specs.Rows.{held_service}
use Rattle.start_plan.specs.Settle.{is_due_still, is_undecided, settled}
use Rattle.scm_rules.specs.Due.{beside, is_due, is_due_of, with_due}
use Rattle.scm_rules.specs.Failures.{all_failed, failed_by, with_failure}
use Rattle.scm_rules.specs.Histories.{state}
use Rattle.scm_rules.specs.Launches.{currents, with_fallen}
use Rattle.scm_rules.specs.Opening.{IsOpening, starts_from}
use Rattle.scm_rules.specs.Reports.{reporting}
use Rattle.scm_rules.specs.Runs.{IsLegal, run_state}
use Rattle.scm_rules.specs.Start.{deadline_at, with_start}
use Rattle.scm_rules.specs.Steps.{at_moment, effect_of, finished, step_of}
use Rattle.scm_rules.specs.Valid.{HasDeadline, is_deadline_of}
use Rattle.scm_rules.specs.Verdicts.{call_of, done_of, told_refused, verdict}
use Rattle.scm_runs.proofs.Along.{at_end}
use Rattle.scm_runs.proofs.Calls.{by_verdict, keeps}
use Rattle.scm_runs.proofs.Failing.{any_failing_keeps, failing_keeps}
use Rattle.scm_runs.proofs.Founds.{notify_apart, opened_keeps, started_keeps}
use Rattle.scm_runs.proofs.Frames.{finished_keeps, settled_dues, settled_frame}
use Rattle.scm_runs.proofs.Histories.{state_is}
use Rattle.scm_runs.proofs.Sound.{Sound, begun}
use Rattle.scm_runs.proofs.Unasked.{raised_by, ticked_by}
use Rattle.scm_moves.proofs.Ticked.{each_done}
use Rattle.scm_moves.specs.Deadlines.{LawOfDeadlines, is_waiting}

-- ## Rows

-- a fact of the moment and the plan of each deadline among the rows that are due
abbrev OfDeadline : (ℕ → ℕ → Type 0) → ℕ → DueKind → Type 0
OfDeadline P moment (dues.Deadline plan) = P moment plan
OfDeadline P moment kind = Unit {0}

abbrev HasFact : (ℕ → ℕ → Type 0) → Due → Type 0
HasFact P due = OfDeadline P due.moment due.kind

abbrev OfDeadlines : (ℕ → ℕ → Type 0) → List Due → Type 0
OfDeadlines P rows = AllByRecursion (HasFact P) rows

fewer : (P : ℕ → ℕ → Type 0) (q : Due → Bool) (rows : List Due) → OfDeadlines P rows → OfDeadlines P (filter q rows)
fewer P q [] all = tt
fewer P q (due ∷ rows) all =
    elim (q due) as (λ b. OfDeadlines P (cond b (due ∷ filter q rows) (filter q rows)))
    [ true ↦ (all.0, fewer P q rows all.1) | false ↦ fewer P q rows all.1 ]

more : (P : ℕ → ℕ → Type 0) (rows : List Due) (due : Due) → OfDeadlines P rows → HasFact P due → OfDeadlines P (rows ++ due ∷ [])
more P [] due all here = (here, tt)
more P (first ∷ rows) due all here = (all.0, more P rows due all.1 here)

weaker_at : (P Q : ℕ → ℕ → Type 0) → ((moment plan : ℕ) → P moment plan → Q moment plan) → (moment : ℕ) (kind : DueKind)
    → OfDeadline P moment kind → OfDeadline Q moment kind
weaker_at P Q weaker moment (dues.Deadline plan) p = weaker moment plan p
weaker_at P Q weaker moment (dues.Start service) p = tt
weaker_at P Q weaker moment (dues.Command service) p = tt
weaker_at P Q weaker moment (dues.Reboot service) p = tt

all_weaker : (P Q : ℕ → ℕ → Type 0) → ((moment plan : ℕ) → P moment plan → Q moment plan) → (rows : List Due) → OfDeadlines P rows
    → OfDeadlines Q rows
all_weaker P Q weaker [] all = tt
all_weaker P Q weaker (due ∷ rows) all = (weaker_at P Q weaker due.moment due.kind all.0, all_weaker P Q weaker rows all.1)

beside_have : (P : ℕ → ℕ → Type 0) (kind : DueKind) (rows : List Due) → OfDeadlines P rows → OfDeadlines P (beside kind rows)
beside_have P (dues.Deadline plan) rows all = all
beside_have P (dues.Start service) rows all = fewer P (λ (due : Due). not (is_due_of service due.kind)) rows all
beside_have P (dues.Command service) rows all = fewer P (λ (due : Due). not (is_due_of service due.kind)) rows all
beside_have P (dues.Reboot service) rows all = fewer P (λ (due : Due). not (is_due_of service due.kind)) rows all

-- a row of a service is no deadline
of_service : (P : ℕ → ℕ → Type 0) (service moment : ℕ) (kind : DueKind) → is_due_of service kind ≡ true → OfDeadline P moment kind
of_service P service moment (dues.Deadline plan) is = absurd cc
of_service P service moment (dues.Start number) is = tt
of_service P service moment (dues.Command number) is = tt
of_service P service moment (dues.Reboot number) is = tt

-- ## Within a step

-- at this moment, with this number of plans at least, and a fact of each deadline
record Timely (P : ℕ → ℕ → Type 0) (least now : ℕ) (g : Flat) : Type 0 where
  moment : g.moment ≡ now
  next : least ≤ g.next.plan
  rows : OfDeadlines P g.dues

-- which the deadline has that comes with a start
module _ (P : ℕ → ℕ → Type 0) (least now : ℕ) (comes : (number : ℕ) → least ≤ number → P (deadline_at now) number) where
  abbrev Stands : Flat → Type 0
  Stands g = Timely P least now g

  due_more : (g : Flat) (service moment : ℕ) (kind : DueKind) → is_due_of service kind ≡ true → Stands g → Stands (with_due g moment kind)
  due_more g service moment kind is t = record {
    moment = t.moment;
    next = t.next;
    rows = more P (beside kind g.dues) (record { moment = moment; number = g.next.due; kind = kind }) (beside_have P kind g.dues t.rows)
        (of_service P service moment kind is);
  }

  start_more : (g : Flat) (caller : ℕ) (words : List (List ℕ)) (row : Service) → Stands g → Stands (with_start caller words row g)
  start_more g caller words row t = record {
    moment = t.moment;
    next = (let next = t.next in omega (arith, next));
    rows = more P g.dues (record { moment = deadline_at g.moment; number = g.next.due; kind = dues.Deadline g.next.plan }) t.rows
        (subst (λ (m : ℕ). P (deadline_at m) g.next.plan) (sym t.moment) (comes g.next.plan t.next));
  }

  failing : (found : Option Service) (g : Flat) → Stands g → Stands (if_found with_failure found g)
  failing found g t =
      failing_keeps Stands found g t (λ row is. record { moment = t.moment; next = t.next; rows = t.rows })
      (λ service h moment kind is u. due_more h service moment kind is u)

  all_failing : (rows : List Service) (g : Flat) → Stands g → Stands (all_failed rows g)
  all_failing rows g t =
      any_failing_keeps Stands rows g t (λ row h u. record { moment = u.moment; next = u.next; rows = u.rows })
      (λ service h moment kind is u. due_more h service moment kind is u)

  done : (l : Limits) (f : Flat) (caller : ℕ) (asked : Request) → Stands f → Stands (done_of l f caller asked).flat
  done l f caller (request.OpenService handle name access) t =
      opened_keeps Stands f caller name access t (λ row is. record { moment = t.moment; next = t.next; rows = t.rows })
  done l f caller (request.Start handle words) t =
      started_keeps Stands f caller handle words t (λ row is. start_more f caller (unwrap_or words []) row t)
  done l f caller (request.SetStatus handle status) t =
      failing (failed_by status (held_service f caller handle)) _ (record { moment = t.moment; next = t.next; rows = t.rows })
  done l f caller (request.Notify handle mask) t =
      notify_apart Stands f caller handle mask (λ rows next. record { moment = t.moment; next = t.next; rows = t.rows })
  done l f caller asked t = record { moment = t.moment; next = t.next; rows = t.rows }

  called : (l : Limits) (f : Flat) (caller : ℕ) (asked : Request) (append : Kept) → Stands f → Stands (call_of l f caller asked append).flat
  called l f caller asked append t =
      by_verdict (λ r. Stands r.flat) (verdict l f caller asked append)
      (told_refused f caller asked (verdict l f caller asked append)) f (done_of l f caller asked)
      (λ e. done l f caller asked t) (λ e. t)

  effect : (l : Limits) (f : Flat) (step : Step) → Stands f → Stands (effect_of l f step).flat
  effect l f (Call caller asked append) t = called l f caller asked append t
  effect l f (Report process service status) t =
      failing (failed_by status (reporting f process service)) _ (record { moment = t.moment; next = t.next; rows = t.rows })
  effect l f (Ended process) t =
      let u = all_failing (currents process f.services) (with_fallen f process ERROR_PROCESS_ABORTED)
      (record { moment = t.moment; next = t.next; rows = t.rows }) in
      record { moment = u.moment; next = u.next; rows = u.rows }
  effect l f Tick t = ticked_by Stands l (record {
    spends = λ g row is u. record {
      moment = u.moment;
      next = u.next;
      rows = fewer P (λ (due : Due). not (due.number == row.number)) g.dues u.rows;
    };
    starts = λ g row there can u. start_more g 0 [] row u;
    runs = λ g row there can u. record { moment = u.moment; next = u.next; rows = u.rows };
    reboots = λ g u. record { moment = u.moment; next = u.next; rows = u.rows };
  }) f t
  effect l f (Raised caller subtype) t = raised_by Stands l subtype (record {
    starts = λ g row there can u. start_more g 0 [] row u;
    stops = λ g row action there is stops gets u. record { moment = u.moment; next = u.next; rows = u.rows };
  }) f caller t
  effect l f step t = record { moment = t.moment; next = t.next; rows = t.rows }

  settles : (l : Limits) (f : Flat) → Stands f → Stands (settled l f)
  settles l f t = record {
    moment = ap (λ (g : Flat). g.moment) (settled_frame l f) ∙ t.moment;
    next =
        let same = ap (λ (g : Flat). g.next.plan) (settled_frame l f) in
        let next = t.next in
        omega (arith, same, next);
    rows = subst (OfDeadlines P) (sym (settled_dues l f))
        (fewer P (λ (due : Due). is_due_still (settled l f).plans due.kind) f.dues t.rows);
  }

  ends : (l : Limits) (f : Flat) (told : Answer) → Stands f → Stands (finished f told).flat
  ends l f told t = finished_keeps Stands (λ g plans u. record { moment = u.moment; next = u.next; rows = u.rows }) f told t

  steps : (l : Limits) (f : Flat) (moment : ℕ) (step : Step) → Stands (at_moment f moment step) → Stands (step_of l f moment step).flat
  steps l f moment step t =
      let done = effect_of l (at_moment f moment step) step in
      let u = ends l (settled l done.flat) done.answer (settles l done.flat (effect l (at_moment f moment step) step t)) in
      record { moment = u.moment; next = u.next; rows = u.rows }

-- ## Along a run

at_dues : (f : Flat) (moment : ℕ) (step : Step) → (at_moment f moment step).dues ≡ f.dues
at_dues f moment (NoMemory caller) = refl
at_dues f moment step = refl

at_next : (f : Flat) (moment : ℕ) (step : Step) → (at_moment f moment step).next.plan ≡ f.next.plan
at_next f moment (NoMemory caller) = refl
at_next f moment step = refl

at_later : (f : Flat) (moment : ℕ) (step : Step) → f.moment ≤ (at_moment f moment step).moment
at_later f moment (NoMemory caller) = omega arith
at_later f moment step = omega arith

one_step : (P : ℕ → ℕ → Type 0) (least : ℕ) (l : Limits) (f : Flat) (e : Entry)
    → ((number : ℕ) → least ≤ number → P (deadline_at (at_moment f e.0 e.1).moment) number) → least ≤ f.next.plan → OfDeadlines P f.dues
    → Timely P least (at_moment f e.0 e.1).moment (step_of l f e.0 e.1).flat
one_step P least l f e comes next rows =
    let same = at_next f e.0 e.1 in
    steps P least (at_moment f e.0 e.1).moment comes l f e.0 e.1 (record {
      moment = refl;
      next = omega (arith, same, next);
      rows = subst (OfDeadlines P) (sym (at_dues f e.0 e.1)) rows;
    })

-- no start has a deadline later than one that began now would have
abbrev IsBy : ℕ → ℕ → ℕ → Type 0
IsBy now moment plan = moment ≤ deadline_at now

abbrev AreEarly : Flat → Type 0
AreEarly f = OfDeadlines (IsBy f.moment) f.dues

later_deadline : (a b : ℕ) → a ≤ b → deadline_at a ≤ deadline_at b
later_deadline a b le = omega (arith, le)

early_keeps : (l : Limits) (f : Flat) (e : Entry) → AreEarly f → AreEarly (step_of l f e.0 e.1).flat
early_keeps l f e early =
    let now = (at_moment f e.0 e.1).moment in
    let le = later_deadline f.moment now (at_later f e.0 e.1) in
    let t = one_step (IsBy now) 0 l f e (λ number least. omega arith) (omega arith)
    (all_weaker (IsBy f.moment) (IsBy now) (λ moment plan by. omega (arith, by, le)) f.dues early) in
    subst (λ (m : ℕ). OfDeadlines (IsBy m) (step_of l f e.0 e.1).flat.dues) (sym t.moment) t.rows

early_run : (l : Limits) (f : Flat) (es : List Entry) → AreEarly f → AreEarly (run_state l f es)
early_run l f [] early = early
early_run l f (e ∷ es) early = early_run l (step_of l f e.0 e.1).flat es (early_keeps l f e early)

none_from : (P : ℕ → ℕ → Type 0) (number moment : ℕ) (rows : List Service) → OfDeadlines P (starts_from number moment rows)
none_from P number moment [] = tt
none_from P number moment (row ∷ rows) = (tt, none_from P (number + 1) moment rows)

early_begun : (l : Limits) (f : Flat) → IsOpening l f → AreEarly f
early_begun l f o = subst AreEarly (sym o.is) (none_from (IsBy o.moment) 1 o.moment _)

-- a fact that each plan with this number or a later one has, at whatever moment, lasts
record Lasts (P : ℕ → ℕ → Type 0) (least : ℕ) (f : Flat) : Type 0 where
  next : least ≤ f.next.plan
  rows : OfDeadlines P f.dues

lasts_step : (P : ℕ → ℕ → Type 0) (least : ℕ) → ((moment number : ℕ) → least ≤ number → P moment number) → (l : Limits) (f : Flat)
    (e : Entry) → Lasts P least f → Lasts P least (step_of l f e.0 e.1).flat
lasts_step P least each l f e lasts =
    let t = one_step P least l f e (each (deadline_at (at_moment f e.0 e.1).moment)) lasts.next lasts.rows in
    record { next = t.next; rows = t.rows }

lasts_run : (P : ℕ → ℕ → Type 0) (least : ℕ) → ((moment number : ℕ) → least ≤ number → P moment number) → (l : Limits) (f : Flat)
    (es : List Entry) → Lasts P least f → Lasts P least (run_state l f es)
lasts_run P least each l f [] lasts = lasts
lasts_run P least each l f (e ∷ es) lasts = lasts_run P least each l (step_of l f e.0 e.1).flat es (lasts_step P least each l f e lasts)

-- ## Behind a tick

-- the deadline of each plan below a number comes by a moment
abbrev ComesBy : ℕ → ℕ → ℕ → ℕ → Type 0
ComesBy least latest moment plan = plan < least → moment ≤ latest

-- a deadline is of another plan
abbrev IsOther : ℕ → ℕ → ℕ → Type 0
IsOther number moment plan = (plan == number) ≡ false

gone_at : (least latest now number : ℕ) → number < least → latest ≤ now → (moment : ℕ) (kind : DueKind) → nat_le moment now ≡ false
    → OfDeadline (ComesBy least latest) moment kind → OfDeadline (IsOther number) moment kind
gone_at least latest now number low past moment (dues.Deadline plan) ahead by =
    ne_eqb plan number (λ same. absurd (
    let at = by (omega (arith, same, low)) in
    let later = leb-false moment now ahead in
    omega (arith, at, later, past)))
gone_at least latest now number low past moment (dues.Start service) ahead by = tt
gone_at least latest now number low past moment (dues.Command service) ahead by = tt
gone_at least latest now number low past moment (dues.Reboot service) ahead by = tt

all_gone : (least latest now number : ℕ) → number < least → latest ≤ now → (rows : List Due) → list_any (is_due now) rows ≡ false
    → OfDeadlines (ComesBy least latest) rows → OfDeadlines (IsOther number) rows
all_gone least latest now number low past [] none all = tt
all_gone least latest now number low past (due ∷ rows) none all =
    let p = or_parts (is_due now due) (list_any (is_due now) rows) none in
    (gone_at least latest now number low past due.moment due.kind p.0 all.0, all_gone least latest now number low past rows p.1 all.1)

-- ## No deadline, no start that waits

no_deadline_at : (number moment : ℕ) (kind : DueKind) → OfDeadline (IsOther number) moment kind → is_deadline_of number kind ≡ false
no_deadline_at number moment (dues.Deadline plan) other = other
no_deadline_at number moment (dues.Start service) other = refl
no_deadline_at number moment (dues.Command service) other = refl
no_deadline_at number moment (dues.Reboot service) other = refl

no_deadline : (number : ℕ) (rows : List Due) → OfDeadlines (IsOther number) rows
    → filter (λ (due : Due). is_deadline_of number due.kind) rows ≡ []
no_deadline number [] all = refl
no_deadline number (due ∷ rows) all = rw (no_deadline_at number due.moment due.kind all.0) (no_deadline number rows all.1)

one_decided : (number : ℕ) (rows : List Due) (plan : Plan) → filter (λ (due : Due). is_deadline_of number due.kind) rows ≡ []
    → HasDeadline rows plan → is_undecided number plan ≡ false
one_decided number rows plan none has =
    elim (plan.number == number) as (λ b. (plan.number == number) ≡ b → (b && is_none plan.code) ≡ false) [
      | true ↦ λ same. elim (is_none plan.code) as (λ b. is_none plan.code ≡ b → b ≡ false) [
        | true ↦ λ undecided. absurd (
            let one = has undecided in
            let count : length (filter (λ (due : Due). is_deadline_of plan.number due.kind) rows) ≡ 0 =
            ap (λ (n : ℕ). length (filter (λ (due : Due). is_deadline_of n due.kind) rows)) (eqb-true plan.number number same)
            ∙ ap length none in
            omega (arith, one, count))
        | false ↦ λ decided. refl
      ] refl
      | false ↦ λ other. refl
    ] refl

none_waits : (number : ℕ) (rows : List Due) (plans : List Plan) → filter (λ (due : Due). is_deadline_of number due.kind) rows ≡ []
    → AllByRecursion (HasDeadline rows) plans → list_any (is_undecided number) plans ≡ false
none_waits number rows [] none all = refl
none_waits number rows (plan ∷ plans) none all =
    or_from (is_undecided number plan) (list_any (is_undecided number) plans) (one_decided number rows plan none all.0)
    (none_waits number rows plans none all.1)

-- ## Histories

run_behind : (l : Limits) (f : Flat) (front rest : List Entry) → run_state l f (front ++ rest) ≡ run_state l (run_state l f front) rest
run_behind l f [] rest = refl
run_behind l f (e ∷ front) rest = run_behind l (step_of l f e.0 e.1).flat front rest

-- from the state that some entries end in
decided_from : (l : Limits) (f : Flat) (between rest : List Entry) (moment number : ℕ) → AreEarly f → number < f.next.plan
    → deadline_at f.moment ≤ max (run_state l f between).moment moment
    → OfDeadlines (IsOther number) (run_state l f (between ++ (moment, Tick) ∷ rest)).dues
decided_from l f between rest moment number early low past =
    let least = f.next.plan in
    let latest = deadline_at f.moment in
    let By = ComesBy least latest in
    let each : (m n : ℕ) → least ≤ n → By m n = λ m n le less. absurd (omega (arith, le, less)) in
    let Other = IsOther number in
    let others : (m n : ℕ) → least ≤ n → Other m n = λ m n le. ne_eqb n number (λ e. absurd (omega (arith, e, le, low))) in
    let g = run_state l f between in
    let h = (step_of l g moment Tick).flat in
    let before = lasts_run By least each l f between (record {
      next = omega arith;
      rows = all_weaker (IsBy f.moment) By (λ m n by less. by) f.dues early;
    }) in
    let after = lasts_step By least each l g (moment, Tick) before in
    let none = (each_done l g ((moment, Tick) ∷ [])).0 in
    let last = lasts_run Other least others l h rest (record {
      next = after.next;
      rows = all_gone least latest (max g.moment moment) number low past h.dues none after.rows;
    }) in
    subst (λ (z : Flat). OfDeadlines Other z.dues) (sym (run_behind l f between ((moment, Tick) ∷ rest))) last.rows

pub decides : (l : Limits) (f : Flat) (es : List Entry) → IsOpening l f → IsLegal l f es → LawOfDeadlines l f es
decides l f es begins legal front between rest moment number split low past =
    let g = run_state l f front in
    let sound = at_end Sound l (keeps l) f es (begun l f begins) legal in
    let behind = run_behind l f front (between ++ (moment, Tick) ∷ rest) in
    let low' = subst (λ (z : Flat). number < z.next.plan) (state_is l f front) low in
    let past' = subst (λ (z : Flat). deadline_at g.moment ≤ max z.moment moment)
    (state_is l f (front ++ between) ∙ run_behind l f front between)
    (subst (λ (z : Flat). deadline_at z.moment ≤ max (state l f (front ++ between)).moment moment) (state_is l f front) past) in
    let rows = decided_from l g between rest moment number (early_run l f front (early_begun l f begins)) low' past' in
    let all = subst (λ (z : Flat). OfDeadlines (IsOther number) z.dues)
    (sym behind ∙ sym (ap (λ (l' : List Entry). run_state l f l') split)) rows in
    subst (λ (z : Flat). is_waiting z number ≡ false) (sym (state_is l f es))
    (none_waits number (run_state l f es).dues (run_state l f es).plans (no_deadline number (run_state l f es).dues all)
    sound.deadlines.each)
