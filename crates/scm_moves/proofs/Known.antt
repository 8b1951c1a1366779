-- Each handle of a service is of one that is there; each step keeps that.
use Rattle.std.proofs.Common.{ℕ, ◌≡◌, ◌⊎◌, ◌∙◌, ◌<◌, ◌==◌, ◌&&◌, ◌||◌, Bool, true, false, not, List, [], ◌∷◌, ◌++◌, Option, None, Some}
use Rattle.std.proofs.Common.{filter, find, map, get_or, ap, sym, refl, subst, inl, inr, eq-eqb, eqb-true}
use Rattle.std.specs.Prelude.{All, is_some}
use Rattle.std.specs.List.{list_any}
use Rattle.std.proofs.lemmas.List.Elements.{All-filter, All-head, All-push, All-tail, All-weaker}
use Rattle.scm_model.specs.declared.flat.Flat.{Flat}
use Rattle.scm_model.specs.declared.flat.HandleKind.{HandleKind}
use Rattle.scm_model.specs.declared.flat.HandleKind.TheVariants as kinds
use Rattle.scm_model.specs.declared.flat.HandleRow.{HandleRow}
use Rattle.scm_model.specs.declared.flat.Limits.{Limits}
use Rattle.scm_model.specs.declared.flat.Process.{Process}
use Rattle.scm_model.specs.declared.flat.Service.{Service}
use Rattle.scm_model.specs.declared.calls.Request.{Request}
use Rattle.scm_model.specs.declared.calls.Request.TheVariants as request
use Rattle.scm_model.specs.declared.steps.Answer.{Answer}
use Rattle.scm_model.specs.declared.steps.Answer.TheVariants as answer
use Rattle.scm_model.specs.declared.steps.Kept.{Kept}
use Rattle.scm_model.specs.declared.steps.Step.{Step}
use Rattle.scm_model.specs.declared.steps.Step.TheVariants.{Call, ControlTaken, LaunchFailed, Report, Ended, Gone, Tick, Raised}
use Rattle.scm_model.specs.Changes.{configured_if, marked_if, with_moment}
use Rattle.scm_model.specs.Purge.{leaves}
use Rattle.scm_model.specs.Rows.{is_of_service, named, held_service}
use Rattle.start_plan.specs.Decided.{code_of}
use Rattle.start_plan.specs.Entered.{process_for, started_if}
use Rattle.start_plan.specs.Hosts.{host}
use Rattle.start_plan.specs.Settle.{settled}
use Rattle.start_plan.proofs.Enterings.{all_units}
use Rattle.start_plan.proofs.Keeps.{Keeps, keeps_all}
use Rattle.start_plan.proofs.Rows.{same_number}
use Rattle.scm_rules.specs.Controls.{first_asked, unasked_if}
use Rattle.scm_rules.specs.Launches.{currents, fallen_if, with_fallen}
use Rattle.scm_rules.specs.Reports.{reported_if, reporting}
use Rattle.scm_rules.specs.Steps.{at_moment, effect_of, finished, finished_step, left_by, step_of}
use Rattle.scm_rules.specs.Valid.{HasListed, IsValid, has_process}
use Rattle.scm_rules.specs.Verdicts.{call_of, done_of, told_refused, verdict}
use Rattle.scm_runs.proofs.Calls.{by_verdict}
use Rattle.scm_runs.proofs.Lists.{any_at, find_filter, find_new}
use Rattle.scm_runs.proofs.Rows.{unasked_or}
use Rattle.scm_moves.proofs.Found.{found_mapped, found_more, found_too}
use Rattle.scm_moves.proofs.Own.{fallen_number, reported_number}
use Rattle.scm_runs.proofs.Configured.{number_kept}
use Rattle.scm_model.proofs.Found.{found_keeps}
use Rattle.scm_runs.proofs.Founds.{notify_apart, opened_keeps, secured_keeps, started_keeps}
use Rattle.scm_rules.specs.Change.{new_config}
use Rattle.scm_rules.specs.Change2.{level_config}
use Rattle.scm_model.specs.Found.{if_found}
use Rattle.scm_rules.specs.Failures.{counted_if, failed_by, with_failure}
use Rattle.scm_runs.proofs.Failing.{any_failing_keeps, counted_or, failing_keeps}
use Rattle.scm_runs.proofs.Unasked.{raised_by, ticked_by}
use Rattle.scm_rules.specs.Security.{asked_security, descriptor_in, secured_if}
use Rattle.scm_rules.proofs.Secured.{secured_or}

-- a handle of a service is of one that is there
abbrev pub IsOfOne : List Service → HandleKind → Type 0
IsOfOne services (kinds.Service number) = is_some (find (λ (row : Service). row.number == number) services) ≡ true
IsOfOne services kind = Unit {0}

pub record Known (f : Flat) : Type 0 where
  pub opened : All (λ (row : HandleRow). IsOfOne f.services row.kind) f.handles

-- a service has no process, or one whose number was given
abbrev pub IsBelow : ℕ → Service → Type 0
IsBelow next row = (row.process ≡ 0) ⊎ (row.process < next)

-- ## What is valid

listed_below : (n next : ℕ) (rows : List Process) → All (λ (row : Process). row.number < next) rows → has_process rows n ≡ true → n < next
listed_below n next [] below h = absurd cc
listed_below n next (row ∷ rows) below h =
    elim (row.number == n) as (λ b. (row.number == n) ≡ b → (b || has_process rows n) ≡ true → n < next) [
      | true ↦ λ e g. subst (λ m. m < next) (eqb-true row.number n e) (All-head (λ (r : Process). r.number < next) row rows below)
      | false ↦ λ e g. listed_below n next rows (All-tail (λ (r : Process). r.number < next) row rows below) g
    ] refl h

one_below : (next : ℕ) (processes : List Process) (row : Service) → All (λ (row : Process). row.number < next) processes
    → HasListed processes row → IsBelow next row
one_below next processes row below h =
    elim (row.process == 0) as (λ b. (row.process == 0) ≡ b → (b || has_process processes row.process) ≡ true → IsBelow next row) [
      | true ↦ λ e g. inl (eqb-true row.process 0 e)
      | false ↦ λ e g. inr (listed_below row.process next processes below g)
    ] refl h

pub all_below : (l : Limits) (f : Flat) → IsValid l f → All (IsBelow f.next.process) f.services
all_below l f v = All-weaker (HasListed f.processes) (IsBelow f.next.process)
    (λ row h. one_below f.next.process f.processes row v.processes.below h) f.services v.current

-- ## A change of each row

one_mapped : (g : Service → Service) (rows : List Service) (kind : HandleKind) → ((row : Service) → (g row).number ≡ row.number)
    → IsOfOne rows kind → IsOfOne (map g rows) kind
one_mapped g rows (kinds.Service number) same is = found_mapped (λ (row : Service). row.number) g number same rows ∙ is
one_mapped g rows kind same is = tt

opened_mapped : (g : Service → Service) (rows : List Service) (handles : List HandleRow) → ((row : Service) → (g row).number ≡ row.number)
    → All (λ (row : HandleRow). IsOfOne rows row.kind) handles
    → All (λ (row : HandleRow). IsOfOne (map g rows) row.kind) handles
opened_mapped g rows handles same all =
    All-weaker (λ (row : HandleRow). IsOfOne rows row.kind) (λ (row : HandleRow). IsOfOne (map g rows) row.kind)
    (λ row is. one_mapped g rows row.kind same is) handles all

counts_number : (number moment : ℕ) (row : Service) → (counted_if number moment row).number ≡ row.number
counts_number number moment row = counted_or (λ new. new.number ≡ row.number) number moment row (λ failures last. refl)

known_counted : (f : Flat) (number moment : ℕ) → Known f → Known (record f { services = map (counted_if number moment) f.services })
known_counted f number moment h = record {
  opened = opened_mapped (counted_if number moment) f.services f.handles (counts_number number moment) h.opened;
}

known_failing : (found : Option Service) (f : Flat) → Known f → Known (if_found with_failure found f)
known_failing found f h =
    failing_keeps Known found f h (λ row is. known_counted f row.number f.moment h)
    (λ service g moment kind is q. record { opened = q.opened })

-- a change of services that leaves their numbers
known_mapped : (f : Flat) (g : Service → Service) → ((row : Service) → (g row).number ≡ row.number) → Known f
    → Known (record f { services = map g f.services })
known_mapped f g same h = record { opened = opened_mapped g f.services f.handles same h.opened }

-- ## Calls

one_more : (rows : List Service) (row : Service) (kind : HandleKind) → IsOfOne rows kind → IsOfOne (rows ++ row ∷ []) kind
one_more rows row (kinds.Service number) is = found_more (λ (r : Service). r.number == number) rows (row ∷ []) is
one_more rows row kind is = tt

opened_added : (rows : List Service) (handles : List HandleRow) (row : Service) (handle : HandleRow)
    → handle.kind ≡ kinds.Service row.number → All (λ (h : HandleRow). IsOfOne rows h.kind) handles
    → All (λ (h : HandleRow). IsOfOne (rows ++ row ∷ []) h.kind) (handles ++ handle ∷ [])
opened_added rows handles row handle e all =
    All-push (λ (h : HandleRow). IsOfOne (rows ++ row ∷ []) h.kind) handles handle
    (All-weaker (λ (h : HandleRow). IsOfOne rows h.kind) (λ (h : HandleRow). IsOfOne (rows ++ row ∷ []) h.kind)
    (λ h is. one_more rows row h.kind is) handles all)
    (subst (λ (kind : HandleKind). IsOfOne (rows ++ row ∷ []) kind) (sym e)
    (find_new (λ (r : Service). r.number == row.number) rows row (eq-eqb row.number row.number refl)))

-- the service that a handle is given of is there
named_one : (f : Flat) (name : List ℕ) (row : Service) → named f name ≡ Some row
    → is_some (find (λ (one : Service). one.number == row.number) f.services) ≡ true
named_one f name row e = found_too _ (λ (r : Service). r.number == row.number) row f.services e (eq-eqb row.number row.number refl)

known_done : (l : Limits) (f : Flat) (caller : ℕ) (asked : Request) (append : Kept) → Known f → verdict l f caller asked append ≡ 0
    → Known (done_of l f caller asked).flat
known_done l f caller (request.Close handle) append h e = record {
  opened = All-filter _ (λ (row : HandleRow). IsOfOne f.services row.kind) f.handles h.opened;
}
known_done l f caller (request.Unlock handle) append h e = record {
  opened = All-filter _ (λ (row : HandleRow). IsOfOne f.services row.kind) f.handles h.opened;
}
known_done l f caller (request.Lock handle) append h e = record {
  opened = All-push (λ (row : HandleRow). IsOfOne f.services row.kind) f.handles _ h.opened tt;
}
known_done l f caller (request.OpenManager database access) append h e =
    record { opened = All-push (λ (row : HandleRow). IsOfOne f.services row.kind) f.handles _ h.opened tt }
known_done l f caller (request.OpenService handle name access) append h e =
    opened_keeps Known f caller name access h (λ row is. record {
      opened = All-push (λ (row : HandleRow). IsOfOne f.services row.kind) f.handles _ h.opened (named_one f name row is);
    })
known_done l f caller (request.Create new) append h e = record { opened = opened_added f.services f.handles _ _ refl h.opened }
known_done l f caller (request.Delete handle) append h e =
    let found = found_keeps (λ (rows : List Service). Known (record f { services = rows })) (λ (one : Service). map (marked_if one.number))
    (held_service f caller handle) f.services h (λ one is. known_mapped f (marked_if one.number) (λ row. refl) h) in
    record { opened = found.opened }
known_done l f caller (request.SetStatus handle report) append h e =
    let found = found_keeps (λ (rows : List Service). Known (record f { services = rows }))
    (λ (one : Service). map (reported_if one.number report)) (held_service f caller handle) f.services h
    (λ one is. known_mapped f (reported_if one.number report) (reported_number one.number report) h) in
    known_failing (failed_by report (held_service f caller handle)) _ (record { opened = found.opened })
known_done l f caller (request.Change change) append h e =
    found_keeps (λ (rows : List Service). Known (record f { services = rows }))
    (λ (one : Service). map (configured_if one.number (new_config f change one))) (held_service f caller change.handle) f.services h
    (λ one is. known_mapped f (configured_if one.number (new_config f change one)) (number_kept one.number (new_config f change one)) h)
known_done l f caller (request.Change2 handle level) append h e =
    found_keeps (λ (rows : List Service). Known (record f { services = rows }))
    (λ (one : Service). map (configured_if one.number (level_config level one))) (held_service f caller handle) f.services h
    (λ one is. known_mapped f (configured_if one.number (level_config level one)) (number_kept one.number (level_config level one)) h)
known_done l f caller (request.SetSecurity handle parts bytes) append h e =
    secured_keeps (λ (rows : List Service). Known (record f { services = rows })) (held_service f caller handle)
    (asked_security f caller handle parts (descriptor_in bytes)) f.services h
    (λ one security is. known_mapped f (secured_if one.number security)
    (λ row. secured_or (λ new. new.number ≡ row.number) one.number security row refl refl) h)
known_done l f caller (request.Start handle words) append h e = started_keeps Known f caller handle words h
    (λ row is. record { opened = h.opened })
known_done l f caller (request.Notify handle mask) append h e =
    notify_apart Known f caller handle mask (λ rows next. record {
      opened = All-push (λ (row : HandleRow). IsOfOne f.services row.kind) f.handles _ h.opened tt;
    })
known_done l f caller (request.CloseNotify handle) append h e = record {
  opened = All-filter _ (λ (row : HandleRow). IsOfOne f.services row.kind) f.handles h.opened;
}
known_done l f caller asked append h e = record { opened = h.opened }

known_call : (l : Limits) (f : Flat) (caller : ℕ) (asked : Request) (append : Kept) → Known f
    → Known (call_of l f caller asked append).flat
known_call l f caller asked append h =
    let code = verdict l f caller asked append in
    by_verdict (λ r. Known r.flat) code (told_refused f caller asked code) f (done_of l f caller asked)
    (known_done l f caller asked append h) (λ e. h)

-- ## Effects

known_effect : (l : Limits) (f : Flat) (moment : ℕ) (step : Step) → Known f → Known (effect_of l (at_moment f moment step) step).flat
known_effect l f moment (Call caller asked append) h = known_call l (with_moment f moment) caller asked append
    (record { opened = h.opened })
known_effect l f moment (LaunchFailed process code) h = record {
  opened = opened_mapped (fallen_if process code) f.services f.handles (fallen_number process code) h.opened;
}
known_effect l f moment (Ended process) h =
    let ended = any_failing_keeps Known (currents process f.services) (with_fallen (with_moment f moment) process 1067) (record {
      opened = opened_mapped (fallen_if process 1067) f.services f.handles (fallen_number process 1067) h.opened;
    }) (λ row g q. known_counted g row.number g.moment q) (λ service g moment kind is q. record { opened = q.opened }) in
    record { opened = ended.opened }
known_effect l f moment (Report process service report) h =
    let found = found_keeps (λ (rows : List Service). Known (record f { services = rows }))
    (λ (one : Service). map (reported_if one.number report)) (reporting f process service) f.services h
    (λ one is. known_mapped f (reported_if one.number report) (reported_number one.number report) h) in
    known_failing (failed_by report (reporting (with_moment f moment) process service)) _ (record { opened = found.opened })
known_effect l f moment (ControlTaken process) h =
    let found = found_keeps (λ (rows : List Service). Known (record f { services = rows }))
    (λ (one : Service). map (unasked_if one.number)) (first_asked f process) f.services h
    (λ one is. known_mapped f (unasked_if one.number) (λ row. unasked_or (λ new. new.number ≡ row.number) one.number row refl refl) h) in
    record { opened = found.opened }
known_effect l f moment (Gone caller) h = record {
  opened = All-filter _ (λ (row : HandleRow). IsOfOne f.services row.kind) f.handles h.opened;
}
known_effect l f moment Tick h = ticked_by Known l (record {
  spends = λ g row is q. record { opened = q.opened };
  starts = λ g row there can q. record { opened = q.opened };
  runs = λ g row there can q. record { opened = q.opened };
  reboots = λ g q. record { opened = q.opened };
}) (with_moment f moment) (record { opened = h.opened })
known_effect l f moment (Raised caller subtype) h = raised_by Known l subtype (record {
  starts = λ g row there can q. record { opened = q.opened };
  stops = λ g row action there is stops gets q. record { opened = q.opened };
}) (with_moment f moment) caller (record { opened = h.opened })
known_effect l f moment step h = record { opened = h.opened }

-- ## Settling

lasts : (l : Limits) → Keeps l Known (λ plan. Unit {0})
lasts l = record {
  enters = λ g plan n words entry h. record {
    opened = opened_mapped (started_if n (process_for g (host g n))) g.services g.handles (same_number n (process_for g (host g n)))
        h.opened;
  };
  tries = λ g plan n entry q. tt;
  drops = λ plan n rest code q. tt;
  meets = λ plan services q. tt;
}

known_settled : (l : Limits) (g : Flat) → Known g → Known (settled l g)
known_settled l g h =
    let end = (keeps_all l Known (λ plan. Unit {0}) (lasts l) g g.plans h (all_units g.plans)).flat in
    record { opened = end.opened }

-- ## The end of a step

known_left : (g : Flat) (plan : ℕ) (code : Option ℕ) → Known g → Known (left_by g plan code)
known_left g plan None h = h
known_left g plan (Some code) h = record { opened = h.opened }

known_finished : (g : Flat) (told : Answer) → Known g → Known (finished g told).flat
known_finished g (answer.Begun plan) h = known_left g plan (code_of g.plans plan) h
known_finished g told h = h

stays_one : (handles : List HandleRow) (rows : List Service) (kind : HandleKind)
    → ((n : ℕ) → kind ≡ kinds.Service n → list_any (λ (handle : HandleRow). is_of_service n handle.kind) handles ≡ true)
    → IsOfOne rows kind → IsOfOne (filter (λ (row : Service). not (leaves handles row)) rows) kind
stays_one handles rows (kinds.Service n) there is =
    ap (λ (o : Option Service). is_some o) (find_filter (λ (row : Service). row.number == n) (λ (row : Service). not (leaves handles row))
    (λ row e. stays_by row.marked (row.status.state == 1) _ (subst (λ m. list_any
    (λ (handle : HandleRow). is_of_service m handle.kind) handles ≡ true) (sym (eqb-true row.number n e)) (there n refl))) rows) ∙ is
  where
    stays_by : (m s h : Bool) → h ≡ true → not (m && s && not h) ≡ true
    stays_by true true true e = refl
    stays_by true true false e = absurd cc
    stays_by true false h e = refl
    stays_by false s h e = refl
stays_one handles rows kind there is = tt

of_itself : (n : ℕ) (kind : HandleKind) → kind ≡ kinds.Service n → is_of_service n kind ≡ true
of_itself n kind e = subst (λ (k : HandleKind). is_of_service n k ≡ true) (sym e) (eq-eqb n n refl)

pub known : (l : Limits) (f : Flat) (moment : ℕ) (step : Step) → Known f → Known (step_of l f moment step).flat
known l f moment step was =
    let done = effect_of l (at_moment f moment step) step in
    let g = (finished_step l f moment step).flat in
    let h : Known g = known_finished (settled l done.flat) done.answer (known_settled l done.flat (known_effect l f moment step was)) in
    record {
      opened = λ k d lt. stays_one g.handles g.services (get_or g.handles k d).kind
          (λ n e. any_at (λ (handle : HandleRow). is_of_service n handle.kind) g.handles k d lt (of_itself n (get_or g.handles k d).kind e))
          (h.opened k d lt);
    }
