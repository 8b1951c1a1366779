-- The service that a creation adds, and no other.
use Rattle.std.proofs.Common.{ℕ, ◌≡◌, ◌<◌, ◌≤◌, ◌∙◌, ◌==◌, not, Bool, true, false, IsTrue, List, [], ◌∷◌, ◌++◌, Option, None, Some, find}
use Rattle.std.proofs.Common.{filter, ap, sym, refl, subst, arith, ne_eqb, inl, inr}
use Rattle.std.specs.Prelude.{All, is_none, is_some}
use Rattle.std.specs.List.{AllZip, list_any}
use Rattle.std.proofs.lemmas.List.{append-nil}
use Rattle.std.proofs.lemmas.List.Folds.{list_any_none}
use Rattle.std.proofs.lemmas.List.Elements.{All-filter, All-map, All-weaker, filter-append}
use Rattle.scm_model.specs.declared.flat.Flat.{Flat}
use Rattle.scm_model.specs.declared.flat.Limits.{Limits}
use Rattle.scm_model.specs.declared.flat.Process.{Process}
use Rattle.scm_model.specs.declared.flat.Service.{Service}
use Rattle.scm_model.specs.declared.calls.NewService.{NewService}
use Rattle.scm_model.specs.declared.calls.Request.TheVariants as request
use Rattle.scm_model.specs.declared.steps.Answer.TheVariants as answer
use Rattle.scm_model.specs.declared.steps.Kept.{Kept}
use Rattle.scm_model.specs.declared.steps.Step.{Step}
use Rattle.scm_model.specs.declared.steps.Step.TheVariants.{Call}
use Rattle.scm_model.specs.Changes.{new_service, with_moment}
use Rattle.scm_model.specs.Entries.{Entry}
use Rattle.scm_model.specs.Purge.{leaves, purged}
use Rattle.scm_model.specs.Rows.{service_of}
use Rattle.start_plan.specs.Settle.{settled}
use Rattle.scm_rules.specs.Create.{created_config, new_status}
use Rattle.scm_rules.specs.Steps.{may, step_of}
use Rattle.scm_rules.specs.Verdicts.{call_of, done_of, told_refused, verdict}
use Rattle.scm_runs.specs.Creation.{AddsAsked, AddsOne, IsCreation, LawOfCreation, is_new, new_services}
use Rattle.scm_runs.specs.Leaving.{before_leaving, created, numbers}
use Rattle.scm_runs.proofs.Along.{Gives}
use Rattle.scm_runs.proofs.Calls.{by_verdict}
use Rattle.scm_runs.proofs.Effects.{step_settled}
use Rattle.scm_runs.proofs.Leaving.{gives as gives_leaving, settled_numbers}
use Rattle.scm_runs.proofs.Lists.{each_number, has_own, is_some-find, none_pass}
use Rattle.scm_runs.proofs.Settling.{AreSettled, IsSettled}
use Rattle.scm_runs.proofs.Sound.{Sound}

-- ## Who is new

none_there : {X : Type 0} (found : Option X) → is_some found ≡ true → is_none found ≡ false
none_there None there = absurd cc
none_there (Some x) there = refl

none_yet : {X : Type 0} (found : Option X) → is_some found ≡ false → is_none found ≡ true
none_yet None away = refl
none_yet (Some x) away = absurd cc

-- the number of a service that stands is none's that is new
abbrev IsTaken : Flat → ℕ → Type 0
IsTaken f number = is_none (service_of f number) ≡ false

all_taken : (f : Flat) → All (λ (row : Service). IsTaken f row.number) f.services
all_taken f =
    All-weaker (λ (row : Service). list_any (λ (old : Service). old.number == row.number) f.services ≡ true)
    (λ (row : Service). IsTaken f row.number)
    (λ row has. none_there (service_of f row.number) (is_some-find (λ (old : Service). old.number == row.number) f.services ∙ has))
    f.services
    (has_own (λ (row : Service). row.number) f.services)

-- so it is where others have the numbers of those that stand
none_new : (f : Flat) (rows : List Service) → numbers rows ≡ numbers f.services → All (λ (row : Service). is_new f row ≡ false) rows
none_new f rows e =
    each_number (IsTaken f) (λ (row : Service). row.number) rows
    (subst (λ ns. All (IsTaken f) ns) (sym e) (All-map (IsTaken f) (λ (row : Service). row.number) f.services (all_taken f)))

-- no service has the next number
next_new : (f : Flat) (row : Service) → Sound f → row.number ≡ f.next.service → is_new f row ≡ true
next_new f row s e =
    let here = λ (old : Service). old.number == row.number in
    none_yet (find here f.services) (is_some-find here f.services ∙ list_any_none here f.services
    (All-weaker (λ (old : Service). old.number < f.next.service) (λ (old : Service). (old.number == row.number) ≡ false)
    (λ old below. ne_eqb old.number row.number (λ same. absurd (omega (arith, below, same, e)))) f.services s.services.numbered.below))

-- those that stay are no newer
none_stay : (f : Flat) (p : Service → Bool) (rows : List Service) → numbers rows ≡ numbers f.services
    → filter (is_new f) (filter p rows) ≡ []
none_stay f p rows e = none_pass (is_new f) (filter p rows) (All-filter p (λ (row : Service). is_new f row ≡ false) rows
    (none_new f rows e))

-- of one more behind them that stays, it alone is new
one_stays : (f : Flat) (p : Service → Bool) (rows : List Service) (row : Service) → Sound f → numbers rows ≡ numbers f.services
    → row.number ≡ f.next.service → p row ≡ true
    → filter (is_new f) (filter p (rows ++ row ∷ [])) ≡ row ∷ []
one_stays f p rows row s e next passes =
    ap (filter (is_new f)) (filter-append p rows (row ∷ []))
    ∙ filter-append (is_new f) (filter p rows) (filter p (row ∷ []))
    ∙ ap (λ front. front ++ filter (is_new f) (filter p (row ∷ []))) (none_stay f p rows e)
    ∙ rw (passes, next_new f row s next) refl

-- ## A creation

-- the last of some rows
record Last (R : Service → Service → Type 0) (befores : List Service) (before : Service) (afters : List Service) : Type 0 where
  front : List Service
  last : Service
  split : afters ≡ front ++ last ∷ []
  same : AllZip R befores front
  become : R before last

last_of : (R : Service → Service → Type 0) (befores : List Service) (before : Service) (afters : List Service)
    → AllZip R (befores ++ before ∷ []) afters → Last R befores before afters
last_of R [] before [] each = absurd each
last_of R [] before (after ∷ []) each = record { front = []; last = after; split = refl; same = tt; become = each.0 }
last_of R [] before (after ∷ more ∷ afters) each = absurd each.1
last_of R (x ∷ xs) before [] each = absurd each
last_of R (x ∷ xs) before (after ∷ afters) each =
    let rest = last_of R xs before afters each.1 in
    record {
      front = after ∷ rest.front;
      last = rest.last;
      split = ap (λ rows. after ∷ rows) rest.split;
      same = (each.0, rest.same);
      become = rest.become;
    }

abbrev asked_for : Flat → NewService → Service
asked_for f new = new_service f.next.service (created_config f new) (new_status new.kind)

-- a service that was just added isn't entered
still_asked : (next bound : ℕ) (listed : List Process) (row after : Service) → bound ≤ row.number → IsSettled next bound listed row after
    → after ≡ row
still_asked next bound listed row after up (inl same) = same
still_asked next bound listed row after up (inr entered) = absurd (let small = entered.number in omega (arith, up, small))

adds_one : (f : Flat) (new : NewService) (next : ℕ) (listed : List Process) (g : Flat) → Sound f
    → AreSettled next f.next.service listed (f.services ++ asked_for f new ∷ []) g.services → AddsOne f new (purged g)
adds_one f new next listed g s each =
    let row = asked_for f new in
    let ends = last_of (IsSettled next f.next.service listed) f.services row g.services each in
    let stays = λ (r : Service). not (leaves g.handles r) in
    record {
      row = row;
      alone = ap (λ rows. filter (is_new f) (filter stays rows)) (ends.split
          ∙ ap (λ r. ends.front ++ r ∷ []) (still_asked next f.next.service listed row ends.last (omega arith) ends.become))
          ∙ one_stays f stays ends.front row s (settled_numbers next f.next.service listed f.services ends.front ends.same) refl refl;
      asked = record { is = refl; name = refl; state = refl; code = refl };
    }

creates : (l : Limits) (f : Flat) (moment caller : ℕ) (new : NewService) (append : Kept) (next : ℕ) (listed : List Process) → Sound f
    → AreSettled next f.next.service listed (call_of l (with_moment f moment) caller (request.Create new) append).flat.services
    (settled l (call_of l (with_moment f moment) caller (request.Create new) append).flat).services
    → IsCreation f new (answer.Reply (call_of l (with_moment f moment) caller (request.Create new) append).reply)
    (purged (settled l (call_of l (with_moment f moment) caller (request.Create new) append).flat))
creates l f moment caller new append next listed s =
    let g = with_moment f moment in
    let asked = request.Create new in
    let code = verdict l g caller asked append in
    let stays = λ (h : Flat) (r : Service). not (leaves h.handles r) in
    by_verdict (λ r. AreSettled next f.next.service listed r.flat.services (settled l r.flat).services
    → IsCreation f new (answer.Reply r.reply) (purged (settled l r.flat))) code (told_refused g caller asked code) g
    (done_of l g caller asked)
    (λ e each. record {
      adds = λ passed. adds_one f new next listed (settled l (done_of l g caller asked).flat) s each;
      refused = λ h. absurd cc;
    })
    (λ e each. record {
      adds = λ passed. absurd cc;
      refused = λ h. none_stay f (stays (settled l g)) (settled l g).services
          (settled_numbers next f.next.service listed f.services (settled l g).services each);
    })

-- ## Steps

none_added : (l : Limits) (f : Flat) (e : Entry) → Sound f → IsTrue (may l f e.0 e.1) → created f e.1 (step_of l f e.0 e.1).answer ≡ []
    → new_services f (step_of l f e.0 e.1).flat ≡ []
none_added l f e s ok none =
    let law = gives_leaving l f e s ok in
    let before = before_leaving l f e in
    none_stay f (λ (row : Service). not (leaves before.handles row)) before.services (law.stood
    ∙ ap (λ more. numbers f.services ++ more) none ∙ append-nil (numbers f.services))

of_step : (l : Limits) (f : Flat) (moment : ℕ) (step : Step) → Sound f → IsTrue (may l f moment step)
    → AddsAsked f step (step_of l f moment step).answer (step_of l f moment step).flat
of_step l f moment (Call caller (request.Create new) append) s ok = creates l f moment caller new append f.next.process
    (call_of l (with_moment f moment) caller (request.Create new) append).flat.processes s
    (step_settled l f moment (Call caller (request.Create new) append) s ok)
of_step l f moment step s ok = none_added l f (moment, step) s ok refl

pub gives : (l : Limits) → Gives Sound LawOfCreation l
gives l f e s ok = of_step l f e.0 e.1 s ok
