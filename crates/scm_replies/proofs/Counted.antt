-- How many services stand, and how many numbers of services were given.
use Rattle.std.proofs.Common.{ℕ, ◌≡◌, ◌≤◌, ◌<◌, ◌+◌, not, IsTrue, List, [], ◌∷◌, length, length-append, ap, refl, arith}
use Rattle.std.specs.Prelude.{nat_le}
use Rattle.std.proofs.lemmas.Bool.{leb-false, or_parts}
use Rattle.std.proofs.lemmas.List.{length-map}
use Rattle.scm_model.specs.declared.flat.Flat.{Flat}
use Rattle.scm_model.specs.declared.flat.Limits.{Limits}
use Rattle.scm_model.specs.declared.flat.Service.{Service}
use Rattle.scm_model.specs.declared.calls.NewService.{NewService}
use Rattle.scm_model.specs.declared.calls.Request.{Request}
use Rattle.scm_model.specs.declared.calls.Request.TheVariants as request
use Rattle.scm_model.specs.declared.steps.Answer.TheVariants as answer
use Rattle.scm_model.specs.declared.steps.Kept.{Kept}
use Rattle.scm_model.specs.declared.steps.Step.{Step}
use Rattle.scm_model.specs.declared.steps.Step.TheVariants.{Call, Report, Ended, Tick, Raised}
use Rattle.scm_model.specs.Changes.{with_moment}
use Rattle.scm_model.specs.Entries.{Entry}
use Rattle.scm_model.specs.Purge.{leaves}
use Rattle.scm_model.specs.Rows.{held_by, held_service}
use Rattle.scm_rules.specs.Create.{create_refusals, create_verdict}
use Rattle.scm_rules.specs.Failures.{failed_by}
use Rattle.scm_rules.specs.Launches.{currents}
use Rattle.scm_rules.specs.Reports.{reporting}
use Rattle.scm_rules.specs.Opening.{IsOpening}
use Rattle.scm_rules.specs.Runs.{run_state}
use Rattle.scm_rules.specs.Steps.{at_moment, effect_of, may, step_of}
use Rattle.scm_rules.specs.Verdicts.{call_of, done_of, told_refused, verdict}
use Rattle.scm_runs.specs.Leaving.{before_leaving, created, numbers}
use Rattle.scm_runs.proofs.Along.{Keeps}
use Rattle.scm_runs.proofs.Calls.{all_pass, by_verdict, keeps}
use Rattle.scm_runs.proofs.Failing.{all_failing_apart, failing_apart}
use Rattle.scm_runs.proofs.Founds.{notify_apart, opened_keeps, started_keeps}
use Rattle.scm_runs.proofs.Frames.{framed}
use Rattle.scm_runs.proofs.Leaving.{gives as gives_leaving}
use Rattle.scm_runs.proofs.Opened.{as_many}
use Rattle.scm_runs.proofs.Sound.{Sound, begun}
use Rattle.scm_runs.proofs.Unasked.{raised_apart, ticked_apart}
use Rattle.scm_replies.proofs.Listings.{fewer}

-- ## Numbers

-- at most one number of a service was given
abbrev IsNext : Flat → Flat → Type 0
IsNext f g = g.next.service ≤ f.next.service + 1

next_done : (l : Limits) (f : Flat) (caller : ℕ) (asked : Request) → IsNext f (done_of l f caller asked).flat
next_done l f caller (request.OpenService handle name access) =
    opened_keeps (IsNext f) f caller name access (omega arith) (λ row is. omega arith)
next_done l f caller (request.Start handle words) = started_keeps (IsNext f) f caller handle words (omega arith) (λ row is. omega arith)
next_done l f caller (request.SetStatus handle status) =
    failing_apart (IsNext f) (failed_by status (held_service f caller handle)) _ (omega arith)
next_done l f caller (request.Notify handle mask) = notify_apart (IsNext f) f caller handle mask (λ rows next. omega arith)
next_done l f caller asked = omega arith

next_call : (l : Limits) (f : Flat) (caller : ℕ) (asked : Request) (append : Kept) → IsNext f (call_of l f caller asked append).flat
next_call l f caller asked append =
    let code = verdict l f caller asked append in
    by_verdict (λ r. IsNext f r.flat) code (told_refused f caller asked code) f (done_of l f caller asked)
    (λ e. next_done l f caller asked) (λ e. omega arith)

next_effect : (l : Limits) (f : Flat) (moment : ℕ) (step : Step) → IsNext f (effect_of l (at_moment f moment step) step).flat
next_effect l f moment (Call caller asked append) = next_call l (with_moment f moment) caller asked append
next_effect l f moment (Report process service status) =
    failing_apart (IsNext f) (failed_by status (reporting (with_moment f moment) process service)) _ (omega arith)
next_effect l f moment (Ended process) = all_failing_apart (IsNext f) (currents process f.services) _ (omega arith)
next_effect l f moment Tick = ticked_apart (IsNext f) l (with_moment f moment) (omega arith)
next_effect l f moment (Raised caller subtype) = raised_apart (IsNext f) l (with_moment f moment) caller subtype (omega arith)
next_effect l f moment step = omega arith

next_step : (l : Limits) (f : Flat) (moment : ℕ) (step : Step) → IsNext f (step_of l f moment step).flat
next_step l f moment step =
    let least = next_effect l f moment step in
    let service = ap (λ (g : Flat). g.next.service) (framed l f moment step) in
    omega (arith, service, least)

-- each step gives one number at most
pub next_run : (l : Limits) (f : Flat) (es : List Entry) → (run_state l f es).next.service ≤ f.next.service + length es
next_run l f [] = omega arith
next_run l f (e ∷ es) = omega (arith, next_step l f e.0 e.1, next_run l (step_of l f e.0 e.1).flat es)

-- an opening gives one to each service
pub next_begun : (l : Limits) (f : Flat) → IsOpening l f → f.next.service ≤ l.services + 1
next_begun l f o =
    let is = ap (λ (g : Flat). g.next.service) o.is in
    let few = o.can.few in
    omega (arith, is, few)

-- ## Services

created_few : (l : Limits) (f : Flat) (caller : ℕ) (new : NewService) (append : Kept) → create_verdict l f caller new append ≡ 0
    → length f.services < l.services
created_few l f caller new append e =
    let p = all_pass (create_refusals l f caller new append)
    (refl, (refl, (refl, (refl, (refl, (refl, (refl, (refl, (refl, (refl, (refl, tt))))))))))) e in
    let quota = p.1.1.1.1.1.1.1.1.1.0 in
    leb-false l.services (length f.services)
    (or_parts (nat_le l.services (length f.services)) (nat_le l.handles (held_by f caller)) quota).0

-- as many services as may be
abbrev pub AreFew : Limits → Flat → Type 0
AreFew l f = length f.services ≤ l.services

created_fits : (l : Limits) (f : Flat) (moment : ℕ) (step : Step) → AreFew l f
    → length f.services + length (created f step (step_of l f moment step).answer) ≤ l.services
created_fits l f moment (Call caller (request.Create new) append) few =
    let g = with_moment f moment in
    let asked = request.Create new in
    let code = verdict l g caller asked append in
    by_verdict (λ r. length f.services + length (created f (Call caller asked append) (answer.Reply r.reply)) ≤ l.services) code
    (told_refused g caller asked code) g (done_of l g caller asked)
    (λ e. (let less = created_few l g caller new append e in omega (arith, less))) (λ e. rw e (omega (arith, few)))
created_fits l f moment step few = omega (arith, few)

few_step : (l : Limits) (f : Flat) (e : Entry) → Sound f → IsTrue (may l f e.0 e.1) → AreFew l f → AreFew l (step_of l f e.0 e.1).flat
few_step l f e s ok few =
    let law = gives_leaving l f e s ok in
    let before = before_leaving l f e in
    let stays = λ (row : Service). not (leaves before.handles row) in
    let new = created f e.1 (step_of l f e.0 e.1).answer in
    let stood = ap (λ (ns : List ℕ). length ns) law.stood in
    let left = ap (λ (rows : List Service). length rows) law.left in
    let number = λ (row : Service). row.number in
    omega (
      arith,
      left,
      fewer stays before.services,
      stood,
      length-map before.services number,
      length-map f.services number,
      length-append (numbers f.services) new,
      created_fits l f e.0 e.1 few,
    )

-- a sound state with as many services as may be
pub record IsFew (l : Limits) (f : Flat) : Type 0 where
  pub sound : Sound f
  pub few : AreFew l f

pub few_keeps : (l : Limits) → Keeps (IsFew l) l
few_keeps l f e is ok = record { sound = keeps l f e is.sound ok; few = few_step l f e is.sound ok is.few }

pub few_begun : (l : Limits) (f : Flat) → IsOpening l f → IsFew l f
few_begun l f o =
    let is = ap (λ (g : Flat). length g.services) o.is in
    let few = o.can.few in
    record { sound = begun l f o; few = omega (arith, is, as_many 1 o.configs, few) }
