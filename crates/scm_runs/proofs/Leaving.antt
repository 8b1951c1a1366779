-- The law of leaving.
use Rattle.std.proofs.Common.{ℕ, zero, suc, ◌≡◌, ◌⊎◌, ◌<◌, ◌≤◌, ◌∙◌, ◌==◌, ◌||◌, ◌&&◌, Bool, true, false, not, cond, IsTrue, List, [], ◌∷◌}
use Rattle.std.proofs.Common.{◌++◌}
use Rattle.std.proofs.Common.{Option, Some, filter, length, map, take, drop, ap, sym, refl, subst, arith, eq-eqb, get_or}
use Rattle.std.proofs.Common.{ne_eqb, inl, inr}
use Rattle.std.specs.Prelude.{All}
use Rattle.std.specs.List.{AllZip}
use Rattle.std.proofs.lemmas.List.{append-nil, drop_all, drop_at, length-map, map-append, map-id, take-append-le, take_all}
use Rattle.std.proofs.lemmas.List.Elements.{All-cons, All-filter, All-head, All-nil, All-tail, filter_passes}
use Rattle.scm_model.specs.declared.flat.Config.{Config}
use Rattle.scm_model.specs.declared.flat.Flat.{Flat}
use Rattle.scm_model.specs.declared.flat.Limits.{Limits}
use Rattle.scm_model.specs.declared.flat.Process.{Process}
use Rattle.scm_model.specs.declared.flat.Service.{Service}
use Rattle.scm_model.specs.declared.flat.Status.{Status}
use Rattle.scm_model.specs.declared.calls.NewService.{NewService}
use Rattle.scm_model.specs.declared.calls.Reply.TheVariants as reply
use Rattle.scm_model.specs.declared.calls.Request.{Request}
use Rattle.scm_model.specs.declared.calls.Request.TheVariants as request
use Rattle.scm_model.specs.declared.steps.Answer.{Answer}
use Rattle.scm_model.specs.declared.steps.Answer.TheVariants as answer
use Rattle.scm_model.specs.declared.steps.Kept.{Kept}
use Rattle.scm_model.specs.declared.steps.Step.{Step}
use Rattle.scm_model.specs.declared.steps.Step.TheVariants.{Call, ControlTaken, LaunchFailed, Report, Ended, Tick, Raised}
use Rattle.scm_model.specs.Changes.{configured_if, marked_if, with_moment}
use Rattle.scm_model.specs.Purge.{leaves}
use Rattle.start_plan.specs.Entered.{starting_in}
use Rattle.start_plan.specs.Settle.{settled}
use Rattle.status_machine.specs.Moves.{take_end}
use Rattle.scm_rules.specs.Change.{new_config, configured_in}
use Rattle.scm_rules.specs.Change2.{level_config}
use Rattle.scm_rules.specs.Delete.{delete_done}
use Rattle.scm_rules.specs.Controls.{first_asked, unasked_if, unasked_in}
use Rattle.scm_rules.specs.Launches.{currents, fallen_if, is_by, with_fallen}
use Rattle.scm_rules.specs.Reports.{is_reporter, notified_of_report, process_in_state, released_by, reported_if, reported_in, reporting}
use Rattle.scm_rules.specs.Reports.{with_report_of}
use Rattle.scm_model.specs.declared.codes.TheConstants.{SERVICE_STOPPED}
use Rattle.scm_rules.specs.Steps.{at_moment, effect_of, may, step_of}
use Rattle.scm_rules.specs.Valid.{has_process}
use Rattle.scm_rules.specs.Verdicts.{call_of, done_of, told_refused, verdict}
use Rattle.scm_runs.specs.Leaving.{IsFresh, IsSameService, LawOfLeaving, before_leaving, configures, created, fails, marks, numbers}
use Rattle.scm_runs.specs.Leaving.{is_report, is_handle_of, is_number_of, secures}
use Rattle.scm_runs.proofs.Along.{Gives}
use Rattle.scm_runs.proofs.Calls.{by_verdict, of_effect}
use Rattle.scm_runs.proofs.Configured.{HasText, name, name_kept, names_found, number_kept}
use Rattle.scm_runs.proofs.Effects.{step_settled}
use Rattle.scm_runs.proofs.Frames.{finished_keeps}
use Rattle.scm_runs.proofs.Levels.{name_left}
use Rattle.scm_runs.proofs.Lists.{alone, found_passes, map_both, map_same, passes_not}
use Rattle.scm_runs.proofs.Rows.{by_parts, fallen_or, kind_taken, reported_or, unasked_or}
use Rattle.scm_runs.proofs.Settling.{AreSettled, IsSettled}
use Rattle.scm_runs.proofs.Sound.{Sound, found_alone}
use Rattle.scm_rules.proofs.Needed.{replaced}
use Rattle.scm_model.proofs.Found.{found_keeps, found_either}
use Rattle.scm_runs.proofs.Founds.{opened_keeps, secured_keeps, started_keeps, notify_apart}
use Rattle.scm_rules.specs.Security.{asked_security, descriptor_in, secured_if, secured_in}
use Rattle.scm_rules.proofs.Secured.{secured_or}
use Rattle.scm_model.specs.Rows.{held_service}
use Rattle.scm_rules.proofs.Held.{held_is}
use Rattle.failure_actions.specs.Failing.{on_failure}
use Rattle.scm_rules.specs.Ends.{with_end}
use Rattle.scm_rules.specs.Failures.{counted_if, failed_by, is_failure}
use Rattle.scm_model.specs.Found.{if_found}
use Rattle.scm_runs.proofs.Failing.{all_failing_keeps, counted_or, failed_is, failing_keeps}
use Rattle.scm_runs.proofs.Unasked.{raised_apart, ticked_apart}

-- the process that ends by a step, or that can't be launched, or 0
abbrev ended_by : Step → ℕ
ended_by (LaunchFailed process code) = process
ended_by (Ended process) = process
ended_by step = 0

-- what an effect makes of a service: unless it reports or its process ends, it keeps that
record Remains (f : Flat) (step : Step) (told : Answer) (old new : Service) : Type 0 where
  same : IsSameService f step told old new
  process : is_report f step old ≡ false → (new.process ≡ old.process) ⊎ (old.process ≡ ended_by step)

-- what is known of the services after an effect
record Stood (f : Flat) (step : Step) (told : Answer) (after : List Service) : Type 0 where
  stood : numbers after ≡ numbers f.services ++ created f step told
  rows : AllZip (Remains f step told) f.services (take (length f.services) after)
  fresh : All IsFresh (drop (length f.services) after)
  numbered : All (λ (row : Service). f.next.service ≤ row.number) (drop (length f.services) after)

-- ## Rows

none_more : (rows : List ℕ) → rows ≡ rows ++ []
none_more rows = sym (append-nil rows)

or_false : (b : Bool) → b ≡ (b || false)
or_false true = refl
or_false false = refl

zip_map : {X : Type 0} (R : X → X → Type 0) (g : X → X) (xs : List X) → All (λ x. R x (g x)) xs → AllZip R xs (map g xs)
zip_map R g [] each = tt
zip_map R g (x ∷ xs) each = (All-head (λ y. R y (g y)) x xs each, zip_map R g xs (All-tail (λ y. R y (g y)) x xs each))

-- ## Services

-- a service that changes only in whether it is marked, which the step says, and in whether it is to be told to start
remains : (f : Flat) (step : Step) (told : Answer) (row : Service) (marked asked : Bool)
    → marked ≡ (row.marked || marks f step told row.number)
    → Remains f step told row (record row { marked = marked; asked = asked })
remains f step told row marked asked is = record {
  same = record {
    row = ap (λ (m : Bool). record row { marked = m; asked = asked }) is;
    state = λ same quiet. refl;
    config = λ other. (refl, refl);
    security = λ other. refl;
    name = refl;
    failures = λ fine. (refl, refl);
  };
  process = λ quiet. inl refl;
}

same_row : (f : Flat) (step : Step) (told : Answer) (row : Service) → marks f step told row.number ≡ false
    → Remains f step told row row
same_row f step told row unmarked =
    remains f step told row row.marked row.asked (or_false row.marked ∙ ap (λ marked. row.marked || marked) (sym unmarked))

-- a step that changes rows one by one
stood_mapped : (f : Flat) (step : Step) (told : Answer) (g : Service → Service) → ((row : Service) → (g row).number ≡ row.number)
    → created f step told ≡ []
    → All (λ row. Remains f step told row (g row)) f.services → Stood f step told (map g f.services)
stood_mapped f step told g same none each =
    let long : length (map g f.services) ≤ length f.services = (let e = length-map f.services g in omega arith) in
    record {
      stood = map_same g (λ (row : Service). row.number) same f.services ∙ none_more (numbers f.services)
          ∙ ap (λ more. numbers f.services ++ more) (sym none);
      rows = subst (λ rows. AllZip (Remains f step told) f.services rows) (sym (take_all (length f.services) (map g f.services) long))
          (zip_map (Remains f step told) g f.services each);
      fresh = subst (λ rows. All IsFresh rows) (sym (drop_all (length f.services) (map g f.services) long)) (All-nil IsFresh);
      numbered = subst (λ rows. All (λ (row : Service). f.next.service ≤ row.number) rows)
          (sym (drop_all (length f.services) (map g f.services) long)) (All-nil (λ (row : Service). f.next.service ≤ row.number));
    }

-- a step that changes no row
stood_same : (f : Flat) (step : Step) (told : Answer) → created f step told ≡ [] → ((number : ℕ) → marks f step told number ≡ false)
    → Stood f step told f.services
stood_same f step told none unmarked =
    subst (λ rows. Stood f step told rows) (map-id f.services) (stood_mapped f step told (λ row. row) (λ row. refl) none
    (λ k d lt. same_row f step told _ (unmarked _)))

-- a step that adds a row
stood_added : (f : Flat) (step : Step) (told : Answer) (row : Service) → created f step told ≡ row.number ∷ []
    → ((number : ℕ) → marks f step told number ≡ false) → IsFresh row → f.next.service ≤ row.number
    → Stood f step told (f.services ++ row ∷ [])
stood_added f step told row one unmarked fresh up = record {
  stood = map-append (λ (r : Service). r.number) f.services (row ∷ []) ∙ ap (λ more. numbers f.services ++ more) (sym one);
  rows = subst (λ rows. AllZip (Remains f step told) f.services rows)
      (sym (take-append-le (length f.services) f.services (row ∷ []) (omega arith) ∙ take_all (length f.services) f.services (omega arith)))
      (subst (λ rows. AllZip (Remains f step told) f.services rows) (map-id f.services)
      (zip_map (Remains f step told) (λ r. r) f.services (λ k d lt. same_row f step told _ (unmarked _))));
  fresh = subst (λ rows. All IsFresh rows) (sym (drop_at f.services (row ∷ []) (length f.services) refl))
      (All-cons IsFresh row [] fresh (All-nil IsFresh));
  numbered = subst (λ rows. All (λ (r : Service). f.next.service ≤ r.number) rows)
      (sym (drop_at f.services (row ∷ []) (length f.services) refl))
      (All-cons (λ (r : Service). f.next.service ≤ r.number) row [] up (All-nil (λ (r : Service). f.next.service ≤ r.number)));
}

-- ## Configurations

-- a step that does nothing to services but to give one of them another configuration
record Configures (f : Flat) (step : Step) (told : Answer) (caller handle : ℕ) : Type 0 where
  none : created f step told ≡ []
  unmarked : (number : ℕ) → marks f step told number ≡ false
  which : (number : ℕ) → configures f step told number ≡ is_handle_of f caller handle number

configured_same : (f : Flat) (step : Step) (told : Answer) (caller handle : ℕ) (config : Config) (one row : Service)
    → Configures f step told caller handle → held_service f caller handle ≡ Some one
    → HasText one.number name config.name row → IsSameService f step told row (configured_if one.number config row)
configured_same f step told caller handle config one row does is has =
    let number = one.number in
    let stays : row.marked ≡ (row.marked || marks f step told row.number) = or_false row.marked
    ∙ ap (λ marked. row.marked || marked) (sym (does.unmarked row.number)) in
    record {
      row = elim (row.number == number) as (λ b. cond b (replaced config row) row ≡ record row {
        config = (cond b (replaced config row) row).config;
        status = (cond b (replaced config row) row).status;
        process = (cond b (replaced config row) row).process;
        failures = (cond b (replaced config row) row).failures;
        last_failure = (cond b (replaced config row) row).last_failure;
        asked = (cond b (replaced config row) row).asked;
        security = (cond b (replaced config row) row).security;
        marked = row.marked || marks f step told row.number;
      }) [
        | true ↦ ap (λ (marked : Bool). record (replaced config row) { marked = marked }) stays
        | false ↦ ap (λ (marked : Bool). record row { marked = marked }) stays
      ];
      state = elim (row.number == number) as (λ b. (cond b (replaced config row) row).process ≡ row.process
          → is_report f step row ≡ false → (cond b (replaced config row) row).status ≡
          record row.status { kind = (cond b (replaced config row) row).status.kind }) [
            | true ↦ λ same quiet. refl
            | false ↦ λ same quiet. refl
          ];
      config = λ other. elim (row.number == number) as (λ b. b ≡ false → ((cond b (replaced config row) row).config ≡ row.config)
          × ((cond b (replaced config row) row).status.kind ≡ row.status.kind))
          [ true ↦ λ e. absurd (cc) | false ↦ λ e. (refl, refl) ] (ap (λ found. is_number_of found row.number) (sym is)
          ∙ sym (does.which row.number) ∙ other);
      security = λ other. elim (row.number == number) as (λ b. (cond b (replaced config row) row).security ≡ row.security)
          [ true ↦ refl | false ↦ refl ];
      name = name_kept number config row has;
      failures = λ fine. elim (row.number == number) as (λ b. ((cond b (replaced config row) row).failures ≡ row.failures)
          × ((cond b (replaced config row) row).last_failure ≡ row.last_failure))
          [ true ↦ (refl, refl) | false ↦ (refl, refl) ];
    }

configured_row : (f : Flat) (step : Step) (told : Answer) (caller handle : ℕ) (config : Config) (one row : Service)
    → Configures f step told caller handle → held_service f caller handle ≡ Some one
    → HasText one.number name config.name row → Remains f step told row (configured_if one.number config row)
configured_row f step told caller handle config one row does is has = record {
  same = configured_same f step told caller handle config one row does is has;
  process = λ quiet. inl (elim (row.number == one.number) as (λ b. (cond b (replaced config row) row).process ≡ row.process)
      [ true ↦ refl | false ↦ refl ]);
}

stood_configured : (f : Flat) (step : Step) (told : Answer) (caller handle : ℕ) (new : Service → Config)
    → Configures f step told caller handle → ((row : Service) → (new row).name ≡ row.config.name)
    → Sound f → Stood f step told (configured_in new (held_service f caller handle) f.services)
stood_configured f step told caller handle new does named s =
    found_keeps (Stood f step told) (λ (row : Service). map (configured_if row.number (new row))) (held_service f caller handle) f.services
    (stood_same f step told does.none does.unmarked)
    (λ row is. stood_mapped f step told (configured_if row.number (new row)) (number_kept row.number (new row)) does.none
    (λ k d lt. configured_row f step told caller handle (new row) row _ does is
    (names_found f row.number row (new row) s.services (held_is f caller handle row is) (named row) k d lt)))

-- ## Security descriptors

-- a step that does nothing to services but to give one of them a security descriptor
record Secures (f : Flat) (step : Step) (told : Answer) (caller handle : ℕ) : Type 0 where
  none : created f step told ≡ []
  unmarked : (number : ℕ) → marks f step told number ≡ false
  which : (number : ℕ) → secures f step told number ≡ is_handle_of f caller handle number

secured_row : (f : Flat) (step : Step) (told : Answer) (caller handle : ℕ) (security : List ℕ) (one row : Service)
    → Secures f step told caller handle → held_service f caller handle ≡ Some one
    → Remains f step told row (secured_if one.number security row)
secured_row f step told caller handle security one row does is =
    elim (row.number == one.number) as (λ b. (row.number == one.number) ≡ b
    → Remains f step told row (cond b (record row { security = security }) row)) [
      | true ↦ λ here. record {
        same = record {
          row = ap (λ (marked : Bool). record row { security = security; marked = marked })
              (or_false row.marked ∙ ap (λ marked. row.marked || marked) (sym (does.unmarked row.number)));
          state = λ same quiet. refl;
          config = λ other. (refl, refl);
          security = λ other. absurd (
              let wrong : true ≡ false = sym here ∙ ap (λ found. is_number_of found row.number) (sym is)
              ∙ sym (does.which row.number) ∙ other in cc);
          name = refl;
          failures = λ fine. (refl, refl);
        };
        process = λ quiet. inl refl;
      }
      | false ↦ λ apart. same_row f step told row (does.unmarked row.number)
    ] refl

stood_secured : (f : Flat) (step : Step) (told : Answer) (caller handle : ℕ) (asked : Option (List ℕ)) → Secures f step told caller handle
    → Stood f step told (if_found (secured_in (held_service f caller handle)) asked f.services)
stood_secured f step told caller handle asked does =
    secured_keeps (Stood f step told) (held_service f caller handle) asked f.services (stood_same f step told does.none does.unmarked)
    (λ one security is. stood_mapped f step told (secured_if one.number security)
    (λ row. secured_or (λ new. new.number ≡ row.number) one.number security row refl refl) does.none
    (λ k d lt. secured_row f step told caller handle security one (get_or f.services k d) does is))

-- ## Reports

-- no row but that of a service that reports has its number
abbrev IsQuiet : Flat → Step → ℕ → Service → Type 0
IsQuiet f step number row = is_report f step row ≡ false → (row.number == number) ≡ false

all_quiet : (f : Flat) (step : Step) (one : Service) → All (λ (row : Service). row.number ≡ one.number → row ≡ one) f.services
    → is_report f step one ≡ true → All (IsQuiet f step one.number) f.services
all_quiet f step one only reporting k d lt quiet =
    ne_eqb (get_or f.services k d).number one.number (λ same. absurd (let is = only k d lt same in
    let too : is_report f step (get_or f.services k d) ≡ true = ap (is_report f step) is ∙ reporting in cc))

reported_row : (f : Flat) (step : Step) (told : Answer) (number : ℕ) (report : Status) (row : Service)
    → ((number : ℕ) → marks f step told number ≡ false) → IsQuiet f step number row
    → Remains f step told row (reported_if number report row)
reported_row f step told number report row unmarked other =
    reported_or (Remains f step told row) number report row
    (λ is taken. record {
      same = record {
        row = ap (λ (marked : Bool). record row {
          status = report;
          process = process_in_state report.state row.process;
          asked = row.asked && not (report.state == SERVICE_STOPPED);
          marked = marked;
        }) (or_false row.marked ∙ ap (λ marked. row.marked || marked) (sym (unmarked row.number)));
        state = λ same quiet. absurd (let isnt = other quiet in cc);
        config = λ kept. (refl, kind_taken row.status report taken);
        security = λ other. refl;
        name = refl;
        failures = λ fine. (refl, refl);
      };
      process = λ quiet. absurd (let isnt = other quiet in cc);
    }) (same_row f step told row (unmarked row.number))

number_told : (number : ℕ) (report : Status) (row : Service) → (reported_if number report row).number ≡ row.number
number_told number report row = reported_or (λ new. new.number ≡ row.number) number report row (λ e t. refl) refl

stood_reported : (f : Flat) (step : Step) (told : Answer) (number : ℕ) (report : Status) → created f step told ≡ []
    → ((number : ℕ) → marks f step told number ≡ false) → All (IsQuiet f step number) f.services
    → Stood f step told (map (reported_if number report) f.services)
stood_reported f step told number report none unmarked other =
    stood_mapped f step told (reported_if number report) (number_told number report) none
    (λ k d lt. reported_row f step told number report (get_or f.services k d) unmarked (other k d lt))

-- ## Failures

-- no row but that of a service that fails has its number
abbrev IsSpared : Flat → Step → ℕ → Service → Type 0
IsSpared f step number row = fails f step row ≡ false → (row.number == number) ≡ false

all_spared : (f : Flat) (step : Step) (one : Service) → All (λ (row : Service). row.number ≡ one.number → row ≡ one) f.services
    → fails f step one ≡ true → All (IsSpared f step one.number) f.services
all_spared f step one only failing k d lt fine =
    ne_eqb (get_or f.services k d).number one.number (λ same. absurd (let is = only k d lt same in
    let too : fails f step (get_or f.services k d) ≡ true = ap (fails f step) is ∙ failing in cc))

-- a failure is counted behind another change
counted_row : (f : Flat) (step : Step) (told : Answer) (number moment : ℕ) (old mid : Service) → IsSpared f step number old
    → mid.number ≡ old.number → Remains f step told old mid
    → Remains f step told old (counted_if number moment mid)
counted_row f step told number moment old mid spared same is =
    let new = record mid { failures = (on_failure mid.config mid.failures mid.last_failure moment).failures; last_failure = moment } in
    elim (mid.number == number) as (λ b. (mid.number == number) ≡ b → Remains f step told old (cond b new mid)) [
      | true ↦ λ e. record {
        same = record {
          row = ap (λ (r : Service). record r {
            failures = (on_failure mid.config mid.failures mid.last_failure moment).failures;
            last_failure = moment;
          }) is.same.row;
          state = is.same.state;
          config = is.same.config;
          security = is.same.security;
          name = is.same.name;
          failures = λ fine. absurd (let other = spared fine in let here : (old.number == number) ≡ true = ap (λ n. n == number) (sym same)
              ∙ e in cc);
        };
        process = is.process;
      }
      | false ↦ λ e. is
    ] refl

stood_counted : (f : Flat) (step : Step) (told : Answer) (one : Service) (moment : ℕ) (g : Service → Service) → created f step told ≡ []
    → All (λ (row : Service). row.number ≡ one.number → row ≡ one) f.services
    → fails f step one ≡ true → ((row : Service) → (g row).number ≡ row.number)
    → All (λ row. Remains f step told row (g row)) f.services
    → Stood f step told (map (counted_if one.number moment) (map g f.services))
stood_counted f step told one moment g none only failing same each =
    let spared = all_spared f step one only failing in
    subst (λ rows. Stood f step told rows) (sym (map_both (counted_if one.number moment) g f.services))
    (stood_mapped f step told (λ row. counted_if one.number moment (g row))
    (λ row. counted_or (λ new. new.number ≡ row.number) one.number moment (g row) (λ failures last. same row)) none
    (λ k d lt. (let row = get_or f.services k d in counted_row f step told one.number moment row (g row) (spared k d lt) (same row)
    (each k d lt))))

-- what is known of a service that takes a report
record Takes (f : Flat) (step : Step) (found : Option Service) (report : Status) : Type 0 where
  only : (one : Service) → found ≡ Some one → All (λ (row : Service). row.number ≡ one.number → row ≡ one) f.services
  by : (one : Service) → found ≡ Some one → is_report f step one ≡ true
  failing : (one : Service) → found ≡ Some one → is_failure report one ≡ true → fails f step one ≡ true

-- the service that was found takes a report
stood_taken : (f : Flat) (step : Step) (told : Answer) (moment : ℕ) (found : Option Service) (report : Status) → created f step told ≡ []
    → ((number : ℕ) → marks f step told number ≡ false) → Takes f step found report
    → Stood f step told (with_report_of (with_moment f moment) found report).services
stood_taken f step told moment found report none unmarked t =
    let g = record (with_moment f moment) {
      services = reported_in report found f.services;
      processes = if_found (released_by report) found f.processes;
      registrations = notified_of_report f.processes report found f.registrations;
    } in
    failing_keeps (λ (h : Flat). Stood f step told h.services) (failed_by report found) g
    (found_keeps (Stood f step told) (λ (one : Service). map (reported_if one.number report)) found f.services
    (stood_same f step told none unmarked)
    (λ one is. stood_reported f step told one.number report none unmarked (all_quiet f step one (t.only one is) (t.by one is))))
    (λ one failed. (let is = failed_is report found one failed in
    subst (λ held. Stood f step told (map (counted_if one.number g.moment) (reported_in report held f.services))) (sym is.0)
    (stood_counted f step told one g.moment (reported_if one.number report) none (t.only one is.0) (t.failing one is.0 is.1)
    (number_told one.number report)
    (λ k d lt. reported_row f step told one.number report (get_or f.services k d) unmarked
    (all_quiet f step one (t.only one is.0) (t.by one is.0) k d lt)))))
    (λ service h at kind is stood. stood)

-- ## Calls

marked_row : (f : Flat) (caller handle : ℕ) (append : Kept) (one row : Service) → held_service f caller handle ≡ Some one
    → Remains f (Call caller (request.Delete handle) append) (answer.Reply (reply.Code 0)) row (marked_if one.number row)
marked_row f caller handle append one row is =
    remains f (Call caller (request.Delete handle) append) (answer.Reply (reply.Code 0)) row (row.marked || row.number == one.number)
    row.asked (ap (λ found. row.marked || is_number_of found row.number) (sym is))

stood_marked : (f : Flat) (moment caller handle : ℕ) (append : Kept) → Stood f (Call caller (request.Delete handle) append)
    (answer.Reply (reply.Code 0)) (delete_done (with_moment f moment) caller handle).flat.services
stood_marked f moment caller handle append =
    let told = answer.Reply (reply.Code 0) in
    let step = Call caller (request.Delete handle) append in
    found_either (Stood f step told) (λ (one : Service). map (marked_if one.number)) (held_service f caller handle) f.services
    (λ none. stood_same f _ _ refl (λ number. ap (λ found. is_number_of found number) none))
    (λ one is. stood_mapped f step told (marked_if one.number) (λ row. refl) refl (λ k d lt. marked_row f caller handle append one _ is))

-- a call that is refused adds none and marks none
not_marked : (f : Flat) (caller handle : ℕ) (append : Kept) (code : ℕ) → (code == 0) ≡ false
    → Stood f (Call caller (request.Delete handle) append) (answer.Reply (reply.Code code)) f.services
not_marked f caller handle append code e = stood_same f _ _ refl (λ number. ap (λ b. b && is_handle_of f caller handle number) e)

not_added : (f : Flat) (caller : ℕ) (new : NewService) (append : Kept) (tag : Option ℕ) (handle code : ℕ) → (code == 0) ≡ false
    → Stood f (Call caller (request.Create new) append) (answer.Reply (reply.Made tag handle code)) f.services
not_added f caller new append tag handle code e = stood_same f _ _ (ap (λ b. cond b (f.next.service ∷ []) []) e) (λ number. refl)

-- a report by a call
stood_told : (f : Flat) (moment caller handle : ℕ) (status : Status) (append : Kept) → Sound f
    → Stood f (Call caller (request.SetStatus handle status) append) (answer.Reply (reply.Code 0))
    (with_report_of (with_moment f moment) (held_service f caller handle) status).services
stood_told f moment caller handle status append s =
    let step = Call caller (request.SetStatus handle status) append in
    stood_taken f step (answer.Reply (reply.Code 0)) moment (held_service f caller handle) status refl (λ number. refl) (record {
      only = λ one is. found_alone f (λ (row : Service). row.number == one.number) one s (held_is f caller handle one is);
      by = λ one is. rw (is, eq-eqb one.number one.number refl) refl;
      failing = λ one is failing. rw (is, eq-eqb one.number one.number refl) failing;
    })

stood_call : (l : Limits) (f : Flat) (moment caller : ℕ) (asked : Request) (append : Kept) → Sound f
    → Stood f (Call caller asked append) (step_of l f moment (Call caller asked append)).answer
    (call_of l (with_moment f moment) caller asked append).flat.services
stood_call l f moment caller (request.Delete handle) append s =
    let g = with_moment f moment in
    let asked = request.Delete handle in
    let code = verdict l g caller asked append in
    by_verdict (λ r. Stood f (Call caller asked append) (answer.Reply r.reply) r.flat.services) code (told_refused g caller asked code) g
    (done_of l g caller asked)
    (λ e. stood_marked f moment caller handle append) (not_marked f caller handle append code)
stood_call l f moment caller (request.Change change) append s =
    let g = with_moment f moment in
    let asked = request.Change change in
    let code = verdict l g caller asked append in
    by_verdict (λ r. Stood f (Call caller asked append) (answer.Reply r.reply) r.flat.services) code (told_refused g caller asked code) g
    (done_of l g caller asked)
    (λ e. stood_configured f _ _ caller change.handle (new_config g change)
    (record { none = refl; unmarked = λ number. refl; which = λ number. refl }) (λ row. refl) s)
    (λ e. stood_same f _ _ refl (λ number. refl))
stood_call l f moment caller (request.Change2 handle level) append s =
    let g = with_moment f moment in
    let asked = request.Change2 handle level in
    let code = verdict l g caller asked append in
    by_verdict (λ r. Stood f (Call caller asked append) (answer.Reply r.reply) r.flat.services) code (told_refused g caller asked code) g
    (done_of l g caller asked)
    (λ e. stood_configured f _ _ caller handle (level_config level) (record {
      none = refl;
      unmarked = λ number. refl;
      which = λ number. refl;
    }) (name_left level) s)
    (λ e. stood_same f _ _ refl (λ number. refl))
stood_call l f moment caller (request.SetSecurity handle parts bytes) append s =
    let g = with_moment f moment in
    let asked = request.SetSecurity handle parts bytes in
    let code = verdict l g caller asked append in
    by_verdict (λ r. Stood f (Call caller asked append) (answer.Reply r.reply) r.flat.services) code (told_refused g caller asked code) g
    (done_of l g caller asked)
    (λ e. stood_secured f _ _ caller handle (asked_security g caller handle parts (descriptor_in bytes)) (record {
      none = refl;
      unmarked = λ number. refl;
      which = λ number. refl;
    }))
    (λ e. stood_same f _ _ refl (λ number. refl))
stood_call l f moment caller (request.Create new) append s =
    let g = with_moment f moment in
    let asked = request.Create new in
    let code = verdict l g caller asked append in
    by_verdict (λ r. Stood f (Call caller asked append) (answer.Reply r.reply) r.flat.services) code (told_refused g caller asked code) g
    (done_of l g caller asked)
    (λ e. stood_added f _ _ _ refl (λ number. refl) (record { state = refl; process = refl; marked = refl }) (omega arith))
    (not_added f caller new append new.tag 0 code)
stood_call l f moment caller (request.SetStatus handle status) append s =
    let g = with_moment f moment in
    let asked = request.SetStatus handle status in
    let code = verdict l g caller asked append in
    by_verdict (λ r. Stood f (Call caller asked append) (answer.Reply r.reply) r.flat.services) code (told_refused g caller asked code) g
    (done_of l g caller asked)
    (λ e. stood_told f moment caller handle status append s) (λ e. stood_same f _ _ refl (λ number. refl))
stood_call l f moment caller (request.OpenService handle name access) append s =
    let g = with_moment f moment in
    let asked = request.OpenService handle name access in
    let code = verdict l g caller asked append in
    let told = (step_of l f moment (Call caller asked append)).answer in
    by_verdict (λ r. Stood f (Call caller asked append) told r.flat.services) code (told_refused g caller asked code) g
    (done_of l g caller asked)
    (λ e. opened_keeps (λ (h : Flat). Stood f (Call caller asked append) told h.services) g caller name access
    (stood_same f _ _ refl (λ number. refl)) (λ row is. stood_same f _ _ refl (λ number. refl)))
    (λ e. stood_same f _ _ refl (λ number. refl))
stood_call l f moment caller (request.Start handle words) append s =
    let g = with_moment f moment in
    let asked = request.Start handle words in
    let code = verdict l g caller asked append in
    let told = (step_of l f moment (Call caller asked append)).answer in
    by_verdict (λ r. Stood f (Call caller asked append) told r.flat.services) code (told_refused g caller asked code) g
    (done_of l g caller asked)
    (λ e. started_keeps (λ (h : Flat). Stood f (Call caller asked append) told h.services) g caller handle words
    (stood_same f _ _ refl (λ number. refl)) (λ row is. stood_same f _ _ refl (λ number. refl)))
    (λ e. stood_same f _ _ refl (λ number. refl))
stood_call l f moment caller (request.Notify handle mask) append s =
    let g = with_moment f moment in
    let asked = request.Notify handle mask in
    let code = verdict l g caller asked append in
    let told = (step_of l f moment (Call caller asked append)).answer in
    by_verdict (λ r. Stood f (Call caller asked append) told r.flat.services) code (told_refused g caller asked code) g
    (done_of l g caller asked)
    (λ e. notify_apart (λ (h : Flat). Stood f (Call caller asked append) told h.services) g caller handle mask
    (λ rows next. stood_same f _ _ refl (λ number. refl)))
    (λ e. stood_same f _ _ refl (λ number. refl))
stood_call l f moment caller asked append s =
    let g = with_moment f moment in
    let code = verdict l g caller asked append in
    by_verdict (λ r. Stood f (Call caller asked append) (step_of l f moment (Call caller asked append)).answer r.flat.services) code
    (told_refused g caller asked code) g (done_of l g caller asked)
    (λ e. stood_same f _ _ refl (λ number. refl)) (λ e. stood_same f _ _ refl (λ number. refl))

-- ## A launch that failed

fallen_row : (f : Flat) (step : Step) (told : Answer) (process code : ℕ) (row : Service) → ((number : ℕ) → marks f step told number ≡ false)
    → process ≡ ended_by step → Remains f step told row (fallen_if process code row)
fallen_row f step told process code row unmarked ends =
    fallen_or (Remains f step told row) process code row
    (λ is. record {
      same = record {
        row = ap (λ (marked : Bool). record row { status = take_end row.status code; process = 0; asked = false; marked = marked })
            (or_false row.marked ∙ ap (λ marked. row.marked || marked) (sym (unmarked row.number)));
        state = λ none quiet. absurd (let by = by_parts process row is in let zero = eq-eqb process 0 (sym by.1 ∙ sym none) in
            let some = by.0 in cc);
        config = λ other. (refl, refl);
        security = λ other. refl;
        name = refl;
        failures = λ fine. (refl, refl);
      };
      process = λ quiet. inr ((by_parts process row is).1 ∙ ends);
    }) (same_row f step told row (unmarked row.number))

-- ## Reports and ends of processes

number_fallen : (process code : ℕ) (row : Service) → (fallen_if process code row).number ≡ row.number
number_fallen process code row = fallen_or (λ new. new.number ≡ row.number) process code row (λ e. refl) refl

stood_own : (f : Flat) (moment process service : ℕ) (status : Status) (told : Answer) → Sound f
    → Stood f (Report process service status) told (with_report_of (with_moment f moment) (reporting f process service) status).services
stood_own f moment process service status told s =
    stood_taken f (Report process service status) told moment (reporting f process service) status refl (λ number. refl) (record {
      only = λ one is. found_alone f (is_reporter f process service) one s is;
      by = λ one is. found_passes (is_reporter f process service) one f.services is;
      failing = λ one is failing. rw (found_passes (is_reporter f process service) one f.services is) failing;
    })

-- rows one by one, each the same service
zip_long : {X : Type 0} (R : X → X → Type 0) (xs ys : List X) → AllZip R xs ys → length ys ≡ length xs
zip_long R [] [] each = refl
zip_long R [] (y ∷ ys) each = absurd each
zip_long R (x ∷ xs) [] each = absurd each
zip_long R (x ∷ xs) (y ∷ ys) each = ap suc (zip_long R xs ys each.1)

zip_numbers : (f : Flat) (step : Step) (told : Answer) (olds news : List Service) → AllZip (Remains f step told) olds news
    → numbers news ≡ numbers olds
zip_numbers f step told [] [] each = refl
zip_numbers f step told [] (new ∷ news) each = absurd each
zip_numbers f step told (old ∷ olds) [] each = absurd each
zip_numbers f step told (old ∷ olds) (new ∷ news) each =
    ap (λ n. n ∷ numbers news) (ap (λ (r : Service). r.number) each.0.same.row)
    ∙ ap (λ ns. old.number ∷ ns) (zip_numbers f step told olds news each.1)

stood_zipped : (f : Flat) (step : Step) (told : Answer) (rows : List Service) → created f step told ≡ []
    → AllZip (Remains f step told) f.services rows → Stood f step told rows
stood_zipped f step told rows none each =
    let long : length rows ≤ length f.services = (let e = zip_long (Remains f step told) f.services rows each in omega arith) in
    record {
      stood = zip_numbers f step told f.services rows each ∙ none_more (numbers f.services)
          ∙ ap (λ more. numbers f.services ++ more) (sym none);
      rows = subst (λ news. AllZip (Remains f step told) f.services news) (sym (take_all (length f.services) rows long)) each;
      fresh = subst (λ news. All IsFresh news) (sym (drop_all (length f.services) rows long)) (All-nil IsFresh);
      numbered = subst (λ news. All (λ (row : Service). f.next.service ≤ row.number) news)
          (sym (drop_all (length f.services) rows long)) (All-nil (λ (row : Service). f.next.service ≤ row.number));
    }

zip_counted : (f : Flat) (step : Step) (told : Answer) (number moment : ℕ) (olds news : List Service)
    → All (IsSpared f step number) olds → AllZip (Remains f step told) olds news
    → AllZip (Remains f step told) olds (map (counted_if number moment) news)
zip_counted f step told number moment [] [] spared each = tt
zip_counted f step told number moment [] (new ∷ news) spared each = absurd each
zip_counted f step told number moment (old ∷ olds) [] spared each = absurd each
zip_counted f step told number moment (old ∷ olds) (new ∷ news) spared each = (
  counted_row f step told number moment old new (All-head (IsSpared f step number) old olds spared)
      (ap (λ (r : Service). r.number) each.0.same.row) each.0,
  zip_counted f step told number moment olds news (All-tail (IsSpared f step number) old olds spared) each.1,
)

stood_ended : (f : Flat) (moment process : ℕ) (told : Answer) → Sound f
    → Stood f (Ended process) told (with_end (with_moment f moment) process).services
stood_ended f moment process told s =
    let step = Ended process in
    let alone_each = All-filter (is_by process) (λ (row : Service). All (λ (other : Service). other.number ≡ row.number
    → other ≡ row) f.services)
    f.services (alone (λ (row : Service). row.number) f.services s.services.numbered.rising) in
    stood_zipped f step told (with_end (with_moment f moment) process).services refl
    (all_failing_keeps (λ (h : Flat). AllZip (Remains f step told) f.services h.services)
    (λ (one : Service). All (IsSpared f step one.number) f.services) (currents process f.services)
    (with_fallen (with_moment f moment) process 1067)
    (λ k d lt. all_spared f step (get_or (currents process f.services) k d) (alone_each k d lt)
    (filter_passes (is_by process) f.services k d lt))
    (zip_map (Remains f step told) (fallen_if process 1067) f.services
    (λ k d lt. fallen_row f step told process 1067 (get_or f.services k d) (λ number. refl) refl))
    (λ one h spared each. zip_counted f step told one.number h.moment f.services h.services spared each)
    (λ service h at kind is each. each))

-- ## Services that are asked no more

unasked_row : (f : Flat) (step : Step) (told : Answer) (number : ℕ) (row : Service) → ((number : ℕ) → marks f step told number ≡ false)
    → Remains f step told row (unasked_if number row)
unasked_row f step told number row unmarked =
    unasked_or (Remains f step told row) number row
    (remains f step told row row.marked false (or_false row.marked ∙ ap (λ marked. row.marked || marked) (sym (unmarked row.number))))
    (same_row f step told row (unmarked row.number))

stood_sent : (f : Flat) (process : ℕ) (told : Answer) → Stood f (ControlTaken process) told (unasked_in (first_asked f process) f.services)
stood_sent f process told =
    let step = ControlTaken process in
    found_keeps (Stood f step told) (λ (row : Service). map (unasked_if row.number)) (first_asked f process) f.services
    (stood_same f step told refl (λ number. refl))
    (λ one is. stood_mapped f step told (unasked_if one.number)
    (λ row. unasked_or (λ new. new.number ≡ row.number) one.number row refl refl) refl
    (λ k d lt. unasked_row f step told one.number (get_or f.services k d) (λ number. refl)))

-- ## Effects

stood_effect : (l : Limits) (f : Flat) (moment : ℕ) (step : Step) → Sound f → IsTrue (may l f moment step)
    → Stood f step (step_of l f moment step).answer (effect_of l (at_moment f moment step) step).flat.services
stood_effect l f moment (Call caller asked append) s ok = stood_call l f moment caller asked append s
stood_effect l f moment (LaunchFailed process code) s ok =
    stood_mapped f _ _ (fallen_if process code) (number_fallen process code) refl
    (λ k d lt. fallen_row f _ _ process code (get_or f.services k d) (λ number. refl) refl)
stood_effect l f moment (Report process service status) s ok = stood_own f moment process service status
    (step_of l f moment (Report process service status)).answer s
stood_effect l f moment (Ended process) s ok =
    stood_ended f moment process (step_of l f moment (Ended process)).answer s
stood_effect l f moment (ControlTaken process) s ok = stood_sent f process (step_of l f moment (ControlTaken process)).answer
stood_effect l f moment Tick s ok =
    let told = (step_of l f moment Tick).answer in
    ticked_apart (λ (g : Flat). Stood f Tick told g.services) l (with_moment f moment) (stood_same f Tick told refl (λ number. refl))
stood_effect l f moment (Raised caller subtype) s ok =
    let step = Raised caller subtype in
    let told = (step_of l f moment step).answer in
    raised_apart (λ (g : Flat). Stood f step told g.services) l (with_moment f moment) caller subtype
    (stood_same f step told refl (λ number. refl))
stood_effect l f moment step s ok = stood_same f _ _ refl (λ number. refl)

-- ## Settling

zip_take : {X : Type 0} (R : X → X → Type 0) (n : ℕ) (xs ys : List X) → AllZip R xs ys → AllZip R (take n xs) (take n ys)
zip_take R zero xs ys each = tt
zip_take R (suc n) [] [] each = tt
zip_take R (suc n) [] (y ∷ ys) each = absurd each
zip_take R (suc n) (x ∷ xs) [] each = absurd each
zip_take R (suc n) (x ∷ xs) (y ∷ ys) each = (each.0, zip_take R n xs ys each.1)

zip_drop : {X : Type 0} (R : X → X → Type 0) (n : ℕ) (xs ys : List X) → AllZip R xs ys → AllZip R (drop n xs) (drop n ys)
zip_drop R zero xs ys each = each
zip_drop R (suc n) [] [] each = tt
zip_drop R (suc n) [] (y ∷ ys) each = absurd each
zip_drop R (suc n) (x ∷ xs) [] each = absurd each
zip_drop R (suc n) (x ∷ xs) (y ∷ ys) each = zip_drop R n xs ys each.1

-- one relation after another, where each of the first has a fact
zip_then : {X : Type 0} (P : X → Type 0) (R S T : X → X → Type 0) → ((x y z : X) → P x → R x y → S y z → T x z) → (xs ys zs : List X)
    → All P xs → AllZip R xs ys → AllZip S ys zs → AllZip T xs zs
zip_then P R S T chain [] [] [] all r s = tt
zip_then P R S T chain [] [] (z ∷ zs) all r s = s
zip_then P R S T chain [] (y ∷ ys) zs all r s = absurd r
zip_then P R S T chain (x ∷ xs) [] zs all r s = absurd r
zip_then P R S T chain (x ∷ xs) (y ∷ ys) [] all r s = absurd s
zip_then P R S T chain (x ∷ xs) (y ∷ ys) (z ∷ zs) all r s =
    (chain x y z (All-head P x xs all) r.0 s.0, zip_then P R S T chain xs ys zs (All-tail P x xs all) r.1 s.1)

zip_all : {X : Type 0} (P Q : X → Type 0) (R : X → X → Type 0) → ((x y : X) → P x → R x y → Q y) → (xs ys : List X) → All P xs
    → AllZip R xs ys → All Q ys
zip_all P Q R keeps [] [] all r = All-nil Q
zip_all P Q R keeps [] (y ∷ ys) all r = absurd r
zip_all P Q R keeps (x ∷ xs) [] all r = absurd r
zip_all P Q R keeps (x ∷ xs) (y ∷ ys) all r = All-cons Q y ys (keeps x y (All-head P x xs all) r.0)
    (zip_all P Q R keeps xs ys (All-tail P x xs all) r.1)

settled_number : (next bound : ℕ) (listed : List Process) (before after : Service) → IsSettled next bound listed before after
    → after.number ≡ before.number
settled_number next bound listed before after (inl same) = ap (λ (r : Service). r.number) same
settled_number next bound listed before after (inr is) = ap (λ (r : Service). r.number) is.entered

pub settled_numbers : (next bound : ℕ) (listed : List Process) (befores afters : List Service) → AreSettled next bound listed befores afters
    → numbers afters ≡ numbers befores
settled_numbers next bound listed [] [] each = refl
settled_numbers next bound listed [] (after ∷ afters) each = absurd each
settled_numbers next bound listed (before ∷ befores) [] each = absurd each
settled_numbers next bound listed (before ∷ befores) (after ∷ afters) each =
    ap (λ n. n ∷ numbers afters) (settled_number next bound listed before after each.0)
    ∙ ap (λ ns. before.number ∷ ns) (settled_numbers next bound listed befores afters each.1)

-- after an effect neither 0 nor a process that ended is listed
record IsGone (step : Step) (listed : List Process) : Type 0 where
  zero : has_process listed 0 ≡ false
  ended : has_process listed (ended_by step) ≡ false

-- a service that is entered by a listed process didn't have that before, unless it reported
not_back : (f : Flat) (step : Step) (told : Answer) (next : ℕ) (listed : List Process) (old mid new : Service) → IsGone step listed
    → old.process < next → is_report f step old ≡ false → Remains f step told old mid → mid.process ≡ 0
    → (next ≤ new.process) ⊎ (has_process listed new.process ≡ true) → new.process ≡ old.process → ⊥
not_back f step told next listed old mid new gone small quiet is none (inl up) same = omega (arith, up, same, small)
not_back f step told next listed old mid new gone small quiet is none (inr there) same =
    elim (is.process quiet) as (λ _. ⊥) [
      | inl stays ↦ (let zero = gone.zero in
          let is_there : has_process listed 0 ≡ true = subst (λ n. has_process listed n ≡ true) (same ∙ sym stays ∙ none) there in
          absurd cc)
      | inr ended ↦ (let out = gone.ended in
          let is_there : has_process listed (ended_by step) ≡ true = subst (λ n. has_process listed n ≡ true) (same ∙ ended) there in
          absurd cc)
    ]

-- the row before a step, after its effect, and after settling
settled_row : (f : Flat) (step : Step) (told : Answer) (next bound : ℕ) (listed : List Process) → IsGone step listed
    → (old mid new : Service) → old.process < next → Remains f step told old mid → IsSettled next bound listed mid new
    → IsSameService f step told old new
settled_row f step told next bound listed gone old mid new small is (inl same) = subst (IsSameService f step told old) (sym same) is.same
settled_row f step told next bound listed gone old mid new small is (inr entered) =
    let e = entered.entered in
    let config : new.config ≡ mid.config = ap (λ (r : Service). r.config) e in
    let kind : new.status.kind ≡ mid.status.kind = ap (λ (r : Service). r.status.kind) e in
    record {
      row = e ∙ ap (starting_in new.process) is.same.row
          ∙ ap (λ (r : Service). record old {
            config = r.config;
            status = r.status;
            process = new.process;
            failures = r.failures;
            last_failure = r.last_failure;
            asked = r.asked;
            security = r.security;
            marked = old.marked || marks f step told old.number;
          }) (sym e);
      state = λ same quiet.
          absurd (not_back f step told next listed old mid new gone small quiet is entered.none entered.process same);
      config = λ other. (let was = is.same.config other in (config ∙ was.0, kind ∙ was.1));
      security = λ other. ap (λ (r : Service). r.security) e ∙ is.same.security other;
      name = ap (λ (c : Config). c.name) config ∙ is.same.name;
      failures = λ fine. (let was = is.same.failures fine in (
        ap (λ (r : Service). r.failures) e ∙ was.0,
        ap (λ (r : Service). r.last_failure) e
            ∙ was.1,
      ));
    }

-- a service that was just added isn't entered
still_fresh : (next bound : ℕ) (listed : List Process) (mid new : Service) → (IsFresh mid × (bound ≤ mid.number))
    → IsSettled next bound listed mid new → IsFresh new
still_fresh next bound listed mid new is (inl same) = subst IsFresh (sym same) is.0
still_fresh next bound listed mid new is (inr entered) = absurd (let up = is.1 in let small = entered.number in omega (arith, up, small))

-- what the law says of the services before some of them leave
record Settled (f : Flat) (step : Step) (told : Answer) (after : List Service) : Type 0 where
  stood : numbers after ≡ numbers f.services ++ created f step told
  rows : AllZip (IsSameService f step told) f.services (take (length f.services) after)
  fresh : All IsFresh (drop (length f.services) after)

settled_stood : (f : Flat) (step : Step) (told : Answer) (next : ℕ) (listed : List Process) (mids news : List Service) → IsGone step listed
    → All (λ (row : Service). row.process < next) f.services → Stood f step told mids → AreSettled next f.next.service listed mids news
    → Settled f step told news
settled_stood f step told next listed mids news gone small stood each =
    let n = length f.services in
    let R = IsSettled next f.next.service listed in
    record {
      stood = settled_numbers next f.next.service listed mids news each ∙ stood.stood;
      rows = zip_then (λ (row : Service). row.process < next) (Remains f step told) R (IsSameService f step told)
          (settled_row f step told next f.next.service listed gone) f.services (take n mids) (take n news) small stood.rows
          (zip_take R n mids news each);
      fresh = zip_all (λ (row : Service). IsFresh row × (f.next.service ≤ row.number)) IsFresh R
          (still_fresh next f.next.service listed) (drop n mids) (drop n news)
          (λ k d lt. (stood.fresh k d lt, stood.numbered k d lt)) (zip_drop R n mids news each);
    }

-- ## What ended

pub without_it : (number : ℕ) (rows : List Process)
    → has_process (filter (λ (row : Process). not (row.number == number)) rows) number ≡ false
without_it number [] = refl
without_it number (row ∷ rows) =
    let p = λ (r : Process). not (r.number == number) in
    elim (row.number == number) as (λ b. (row.number == number) ≡ b
    → has_process (cond (not b) (row ∷ filter p rows) (filter p rows)) number ≡ false) [
      | true ↦ λ e. without_it number rows
      | false ↦ λ e. rw e (without_it number rows)
    ] refl

without_zero : (rows : List Process) → All (λ (row : Process). 1 ≤ row.number) rows → has_process rows 0 ≡ false
without_zero [] above = refl
without_zero (row ∷ rows) above =
    let first = All-head (λ (r : Process). 1 ≤ r.number) row rows above in
    rw (ne_eqb row.number 0 (λ e. absurd (omega (arith, e, first)))) (without_zero rows
    (All-tail (λ (r : Process). 1 ≤ r.number) row rows above))

ended_gone : (l : Limits) (f : Flat) (moment : ℕ) (step : Step)
    → has_process (effect_of l (at_moment f moment step) step).flat.processes 0 ≡ false
    → has_process (effect_of l (at_moment f moment step) step).flat.processes (ended_by step) ≡ false
ended_gone l f moment (LaunchFailed process code) none = without_it process f.processes
ended_gone l f moment (Ended process) none = without_it process (with_end (with_moment f moment) process).processes
ended_gone l f moment step none = none

-- ## Steps

settled_step : (l : Limits) (f : Flat) (moment : ℕ) (step : Step) → Sound f → IsTrue (may l f moment step)
    → Settled f step (step_of l f moment step).answer (before_leaving l f (moment, step)).services
settled_step l f moment step s ok =
    let done = effect_of l (at_moment f moment step) step in
    let told = (step_of l f moment step).answer in
    let zero = without_zero done.flat.processes (of_effect l f moment step s ok).processes.numbered.positive in
    finished_keeps (λ (g : Flat). Settled f step told g.services) (λ g plans is. is) (settled l done.flat) done.answer
    (settled_stood f step told f.next.process done.flat.processes done.flat.services (settled l done.flat).services
    (record { zero = zero; ended = ended_gone l f moment step zero }) s.services.current
    (stood_effect l f moment step s ok) (step_settled l f moment step s ok))

pub gives : (l : Limits) → Gives Sound (LawOfLeaving l) l
gives l f e s ok =
    let after = settled_step l f e.0 e.1 s ok in
    record {
      stood = after.stood;
      rows = after.rows;
      fresh = after.fresh;
      left = refl;
      none = passes_not (leaves (before_leaving l f e).handles) (before_leaving l f e).services;
    }
