-- A step leaves the services that a process is still to be sent to start, unless it rings its bell.
use Rattle.std.proofs.Common.{ℕ, ◌≡◌, ◌∙◌, ◌<◌, ◌≤◌, ◌==◌, ◌&&◌, Bool, true, false, not, cond, List, [], ◌∷◌, ◌++◌, Option, Some, filter}
use Rattle.std.proofs.Common.{find}
use Rattle.std.proofs.Common.{◌⊎◌, inl, inr, map, get_or, ap, sym, refl, subst, arith, eq-eqb, eqb-true, ne_eqb}
use Rattle.std.proofs.lemmas.Bool.{and_left, and_parts, and_right}
use Rattle.std.proofs.lemmas.List.Elements.{All-head, All-map, All-push, All-tail, All-weaker}
use Rattle.std.specs.Prelude.{All, AllPairs, option_map}
use Rattle.std.specs.List.{list_any}
use Rattle.scm_model.specs.declared.calls.Request.{Request}
use Rattle.scm_model.specs.declared.calls.Request.TheVariants as request
use Rattle.scm_model.specs.declared.codes.TheConstants.{ERROR_PROCESS_ABORTED, SERVICE_STOPPED}
use Rattle.scm_model.specs.declared.flat.Config.{Config}
use Rattle.scm_model.specs.declared.flat.Flat.{Flat}
use Rattle.scm_model.specs.declared.flat.HandleRow.{HandleRow}
use Rattle.scm_model.specs.declared.flat.Limits.{Limits}
use Rattle.scm_model.specs.declared.flat.Process.{Process}
use Rattle.scm_model.specs.declared.flat.Service.{Service}
use Rattle.scm_model.specs.declared.flat.Status.{Status}
use Rattle.scm_model.specs.declared.steps.Kept.{Kept}
use Rattle.scm_model.specs.declared.steps.Step.{Step}
use Rattle.scm_model.specs.declared.steps.Step.TheVariants.{Call, LaunchFailed, Report, Ended, ControlTaken, Tick, Raised}
use Rattle.scm_model.specs.Changes.{configured_if, marked_if, with_moment}
use Rattle.scm_model.specs.Entries.{with_kept}
use Rattle.scm_model.specs.Processes.{is_shared}
use Rattle.scm_model.specs.Purge.{leaves}
use Rattle.scm_model.specs.Rows.{held_service, service_of}
use Rattle.scm_model.proofs.Found.{found_keeps}
use Rattle.start_plan.specs.Decided.{is_any_undecided}
use Rattle.start_plan.specs.Entered.{is_shared_by, started_if, starting_in, wanted_process}
use Rattle.start_plan.specs.Settle.{Turns, settle_all, settled}
use Rattle.start_plan.proofs.Hosts.{IsHost, entered_keeps}
use Rattle.start_plan.proofs.Keeps.{Keeps, keeps_flat}
use Rattle.start_plan.proofs.Rows.{started_or}
use Rattle.scm_rules.specs.Change.{new_config}
use Rattle.scm_rules.specs.Change2.{level_config}
use Rattle.scm_rules.specs.Controls.{first_asked, is_asked_by, unasked_if}
use Rattle.scm_rules.specs.Failures.{counted_if, failed_by}
use Rattle.scm_rules.specs.Launches.{currents, fallen, fallen_if, is_by, process_of, with_fallen}
use Rattle.scm_rules.specs.Reports.{is_reporter, reported_if, reported_in, reporting, with_report_of}
use Rattle.scm_rules.specs.Steps.{at_moment, effect_of, finished_step, step_of}
use Rattle.scm_rules.specs.Valid.{IsAskedRight, IsValid}
use Rattle.scm_rules.specs.Verdicts.{call_of, done_of, told_refused, verdict}
use Rattle.scm_runs.proofs.Calls.{by_verdict}
use Rattle.scm_runs.proofs.Effects.{process_up}
use Rattle.scm_runs.proofs.Failing.{any_failing_keeps, counted_or, failing_keeps}
use Rattle.scm_runs.proofs.Founds.{notify_apart, opened_keeps, secured_keeps, started_keeps}
use Rattle.scm_runs.proofs.Frames.{finished_keeps}
use Rattle.scm_runs.proofs.Lists.{alone, found_has, found_passes}
use Rattle.scm_runs.proofs.Processes.{no_current, not_in}
use Rattle.scm_runs.proofs.Rows.{by_parts, fallen_or, reported_or}
use Rattle.scm_runs.proofs.Sound.{reporting_by}
use Rattle.scm_runs.proofs.Unasked.{ticked_apart}
use Rattle.scm_rules.proofs.Held.{held_is}
use Rattle.scm_history.proofs.Finds.{find_push}
use Rattle.scm_history.proofs.Processes.{has}
use Rattle.scm_book.specs.declared.bells.Children.{Children}
use Rattle.scm_book.specs.Ringing.{AsksNoOther, asked_of, begins_plans, children_rung, controls_rung, effect_rung, if_stopped, is_rung}
use Rattle.scm_book.specs.Ringing.{may_host, rings_common, shared_or_nobody}
use Rattle.scm_book.proofs.Hosting.{decided_still, stays_alone, why_none}
use Rattle.scm_book.proofs.Stirring.{effect_leaves, still}
use Rattle.scm_book.proofs.Unstirred.{IsAside, aside_by, rung_kept, stops_another, stirs_no_other}
use Rattle.scm_rules.specs.Security.{asked_security, descriptor_in, secured_if}
use Rattle.scm_rules.proofs.Secured.{secured_or}

-- ## Services in order

-- those among these that a process is still to be sent to start
abbrev asked_in : ℕ → List Service → List ℕ
asked_in process rows = map (λ (row : Service). row.number) (filter (is_asked_by process) rows)

-- a service isn't STOPPED if this is its current process
abbrev IsUpIn : ℕ → Service → Type 0
IsUpIn process row = is_by process row ≡ true → (row.status.state == 1) ≡ false

-- what a process is still to be sent, where its services are not STOPPED
record Asks (process : ℕ) (numbers : List ℕ) (rows : List Service) : Type 0 where
  asked : asked_in process rows ≡ numbers
  up : All (IsUpIn process) rows

-- a service as the process knows it
record IsAlike (process : ℕ) (old new : Service) : Type 0 where
  number : new.number ≡ old.number
  asked : is_asked_by process new ≡ is_asked_by process old
  up : IsUpIn process old → IsUpIn process new

same : (process : ℕ) (row : Service) → IsAlike process row row
same process row = record { number = refl; asked = refl; up = λ up. up }

-- a service of another process, before and after
others : (process : ℕ) (old new : Service) → new.number ≡ old.number → is_by process old ≡ false → is_by process new ≡ false
    → IsAlike process old new
others process old new number was is = record {
  number = number;
  asked = and_left (is_by process new) new.asked is ∙ sym (and_left (is_by process old) old.asked was);
  up = λ up by. absurd (let no : false ≡ true = sym is ∙ by in cc);
}

of_another : (process one : ℕ) (row : Service) → row.process ≡ one → (process == one) ≡ false → is_by process row ≡ false
of_another process one row is other = not_in row.process process (λ e. absurd (let both = eq-eqb process one (sym e ∙ is) in cc))

asked_changed : (process : ℕ) (change : Service → Service) (rows : List Service)
    → All (λ (row : Service). IsAlike process row (change row)) rows
    → asked_in process (map change rows) ≡ asked_in process rows
asked_changed process change [] alike = refl
asked_changed process change (row ∷ rows) alike =
    let number_of = λ (r : Service). r.number in
    let here : IsAlike process row (change row) = All-head (λ (r : Service). IsAlike process r (change r)) row rows alike in
    let rest = filter (is_asked_by process) (map change rows) in
    let later : map number_of rest ≡ asked_in process rows = asked_changed process change rows
    (All-tail (λ (r : Service). IsAlike process r (change r)) row rows alike) in
    ap (λ b. map number_of (cond b (change row ∷ rest) rest)) here.asked
    ∙ elim (is_asked_by process row) as (λ b. map number_of (cond b (change row ∷ rest) rest)
    ≡ map number_of (cond b (row ∷ filter (is_asked_by process) rows) (filter (is_asked_by process) rows))) [
      | true ↦ ap (λ n. n ∷ map number_of rest) here.number ∙ ap (λ ns. row.number ∷ ns) later
      | false ↦ later
    ]

changed : (process : ℕ) (numbers : List ℕ) (change : Service → Service) (rows : List Service)
    → All (λ (row : Service). IsAlike process row (change row)) rows → Asks process numbers rows → Asks process numbers (map change rows)
changed process numbers change rows alike asks = record {
  asked = asked_changed process change rows alike ∙ asks.asked;
  up = All-map (IsUpIn process) change rows (λ k d lt. (alike k d lt).up (asks.up k d lt));
}

asked_more : (process : ℕ) (rows : List Service) (row : Service) → is_asked_by process row ≡ false
    → asked_in process (rows ++ row ∷ []) ≡ asked_in process rows
asked_more process [] row none = rw none refl
asked_more process (first ∷ rows) row none =
    let number_of = λ (r : Service). r.number in
    let rest = filter (is_asked_by process) (rows ++ row ∷ []) in
    elim (is_asked_by process first) as (λ b. map number_of (cond b (first ∷ rest) rest)
    ≡ map number_of (cond b (first ∷ filter (is_asked_by process) rows) (filter (is_asked_by process) rows))) [
      | true ↦ ap (λ ns. first.number ∷ ns) (asked_more process rows row none)
      | false ↦ asked_more process rows row none
    ]

-- a service more that has no process
more : (process : ℕ) (numbers : List ℕ) (rows : List Service) (row : Service) → row.process ≡ 0 → Asks process numbers rows
    → Asks process numbers (rows ++ row ∷ [])
more process numbers rows row none asks =
    let out : is_by process row ≡ false = ap (λ n. not (process == 0) && n == process) none ∙ no_current process in
    record {
      asked = asked_more process rows row (and_left (is_by process row) row.asked out) ∙ asks.asked;
      up = All-push (IsUpIn process) rows row asks.up (λ by. absurd (let no : false ≡ true = sym out ∙ by in cc));
    }

-- ## Changes of services

counted_alike : (process number moment : ℕ) (row : Service) → IsAlike process row (counted_if number moment row)
counted_alike process number moment row = counted_or (IsAlike process row) number moment row
    (λ failures last. record { number = refl; asked = refl; up = λ up. up })

counted : (process : ℕ) (numbers : List ℕ) (number moment : ℕ) (rows : List Service) → Asks process numbers rows
    → Asks process numbers (map (counted_if number moment) rows)
counted process numbers number moment rows asks = changed process numbers (counted_if number moment) rows
    (λ k d lt. counted_alike process number moment (get_or rows k d)) asks

configured : (process : ℕ) (numbers : List ℕ) (number : ℕ) (config : Config) (rows : List Service) → Asks process numbers rows
    → Asks process numbers (map (configured_if number config) rows)
configured process numbers number config rows asks = changed process numbers (configured_if number config) rows
    (λ k d lt. by (get_or rows k d)) asks
  where
    by : (row : Service) → IsAlike process row (configured_if number config row)
    by row = elim (row.number == number) as (λ b. IsAlike process row (cond b (record row {
      config = config;
      status = record row.status { kind = config.kind };
    }) row)) [ true ↦ record { number = refl; asked = refl; up = λ up. up } | false ↦ same process row ]

marked : (process : ℕ) (numbers : List ℕ) (number : ℕ) (rows : List Service) → Asks process numbers rows
    → Asks process numbers (map (marked_if number) rows)
marked process numbers number rows asks = changed process numbers (marked_if number) rows
    (λ k d lt. record { number = refl; asked = refl; up = λ up. up }) asks

secured : (process : ℕ) (numbers : List ℕ) (number : ℕ) (security : List ℕ) (rows : List Service) → Asks process numbers rows
    → Asks process numbers (map (secured_if number security) rows)
secured process numbers number security rows asks = changed process numbers (secured_if number security) rows
    (λ k d lt. (let row = get_or rows k d in secured_or (IsAlike process row) number security row
    (record { number = refl; asked = refl; up = λ up. up }) (same process row))) asks

-- services of another process fall
fell : (process : ℕ) (numbers : List ℕ) (one code : ℕ) (rows : List Service) → (process == one) ≡ false → Asks process numbers rows
    → Asks process numbers (map (fallen_if one code) rows)
fell process numbers one code rows other asks = changed process numbers (fallen_if one code) rows
    (λ k d lt. (let row = get_or rows k d in fallen_or (IsAlike process row) one code row
    (λ by. others process row (fallen code row) refl (of_another process one row (by_parts one row by).1 other) (no_current process))
    (same process row))) asks

-- a service is STOPPED that the process wasn't to be sent
stopped : (process : ℕ) (report : Status) (row : Service) → (row.asked ≡ true → is_by process row ≡ false)
    → IsAlike process row (record row { status = report; process = 0; asked = row.asked && false })
stopped process report row unsent = record {
  number = refl;
  asked = and_left _ (row.asked && false) (no_current process) ∙ sym unlisted;
  up = λ up by. absurd (let no : false ≡ true = sym (no_current process) ∙ by in cc);
}
  where
    unlisted : is_asked_by process row ≡ false
    unlisted = elim row.asked as (λ b. row.asked ≡ b → (is_by process row && b) ≡ false) [
      | true ↦ λ e. and_left (is_by process row) true (unsent e)
      | false ↦ λ e. and_right (is_by process row) false refl
    ] refl

-- a service takes a report that doesn't stop it, that is of another process, or of one that isn't shared
reported : (f : Flat) (process : ℕ) (numbers : List ℕ) (number one : ℕ) (report : Status)
    → is_rung (if_stopped report (shared_or_nobody f (Some one))) process ≡ false → All (IsAskedRight f.processes) f.services
    → All (λ (row : Service). row.number ≡ number → row.process ≡ one) f.services → Asks process numbers f.services
    → Asks process numbers (map (reported_if number report) f.services)
reported f process numbers number one report quiet right lives asks = changed process numbers (reported_if number report) f.services
    (λ k d lt. by (get_or f.services k d) (right k d lt) (lives k d lt)) asks
  where
    by : (row : Service) → IsAskedRight f.processes row → (row.number ≡ number → row.process ≡ one)
        → IsAlike process row (reported_if number report row)
    by row right lives = reported_or (IsAlike process row) number report row (λ e t. elim (report.state == SERVICE_STOPPED) as
        (λ b. (report.state == SERVICE_STOPPED) ≡ b → IsAlike process row (record row {
          status = report;
          process = cond b 0 row.process;
          asked = row.asked && not b;
        })) [
          | true ↦ λ stops. stopped process report row (λ asked. (let lives = lives (eqb-true row.number number e) in
              of_another process one row lives (stops_another f report process one quiet stops
              (subst (λ n. is_shared (process_of f n) ≡ true) lives (right asked)))))
          | false ↦ λ runs. record {
            number = refl;
            asked = elim row.asked as (λ b. (is_by process row && (b && true)) ≡ (is_by process row && b)) [ true ↦ refl | false ↦ refl ];
            up = λ up by. runs;
          }
        ] refl) (same process row)

-- a service of another process is asked no more
unasked : (process : ℕ) (numbers : List ℕ) (number one : ℕ) (rows : List Service) → (process == one) ≡ false
    → All (λ (row : Service). row.number ≡ number → row.process ≡ one) rows → Asks process numbers rows
    → Asks process numbers (map (unasked_if number) rows)
unasked process numbers number one rows other lives asks = changed process numbers (unasked_if number) rows
    (λ k d lt. by (get_or rows k d) (lives k d lt)) asks
  where
    by : (row : Service) → (row.number ≡ number → row.process ≡ one) → IsAlike process row (unasked_if number row)
    by row lives = elim (row.number == number) as (λ b. (row.number == number) ≡ b
        → IsAlike process row (cond b (record row { asked = false }) row)) [
          | true ↦ λ e. (let out = of_another process one row (lives (eqb-true row.number number e)) other in
              others process row (record row { asked = false }) refl out out)
          | false ↦ λ e. same process row
        ] refl

-- a service is entered that was STOPPED, by another process
entered : (process : ℕ) (numbers : List ℕ) (service one : ℕ) (rows : List Service) → (one ≡ process → ⊥) → Asks process numbers rows
    → Asks process numbers (map (started_if service one) rows)
entered process numbers service one rows other asks = changed process numbers (started_if service one) rows
    (λ k d lt. by (get_or rows k d) (asks.up k d lt)) asks
  where
    by : (row : Service) → IsUpIn process row → IsAlike process row (started_if service one row)
    by row up = started_or (IsAlike process row) service one row (λ stopped. others process row (starting_in one row) refl
        (elim (is_by process row) as (λ b. is_by process row ≡ b → b ≡ false) [
          | true ↦ λ e. absurd (let no = up e in let yes = eq-eqb row.status.state 1 stopped in cc)
          | false ↦ λ e. refl
        ] refl) (not_in one process other)) (same process row)

-- who leaves is STOPPED
left : (process : ℕ) (handles : List HandleRow) (rows : List Service) → All (IsUpIn process) rows
    → asked_in process (filter (λ (row : Service). not (leaves handles row)) rows) ≡ asked_in process rows
left process handles [] up = refl
left process handles (row ∷ rows) up =
    let number_of = λ (r : Service). r.number in
    let asked = is_asked_by process in
    let rest = filter (λ (r : Service). not (leaves handles r)) rows in
    let later : asked_in process rest ≡ asked_in process rows = left process handles rows (All-tail (IsUpIn process) row rows up) in
    elim (leaves handles row) as (λ b. leaves handles row ≡ b → map number_of (filter asked (cond (not b) (row ∷ rest) rest))
    ≡ map number_of (cond (asked row) (row ∷ filter asked rows) (filter asked rows))) [
      | true ↦ λ e. rw (and_left (is_by process row) row.asked (unlisted row (All-head (IsUpIn process) row rows up) e)) later
      | false ↦ λ e. elim (asked row) as (λ b. map number_of (cond b (row ∷ filter asked rest) (filter asked rest))
          ≡ map number_of (cond b (row ∷ filter asked rows) (filter asked rows))) [
            | true ↦ ap (λ ns. row.number ∷ ns) later
            | false ↦ later
          ]
    ] refl
  where
    unlisted : (row : Service) → IsUpIn process row → leaves handles row ≡ true → is_by process row ≡ false
    unlisted row up e = elim (is_by process row) as (λ b. is_by process row ≡ b → b ≡ false) [
      | true ↦ λ by. absurd (let no = up by in let yes : (row.status.state == 1) ≡ true =
          (and_parts row.marked (row.status.state == 1) (and_parts _ _ e).0).1 in cc)
      | false ↦ λ by. refl
    ] refl

-- ## Calls

-- who has the number of the service that was found has its process
lives_so : (rows : List Service) (p : Service → Bool) (one : Service) → AllPairs (λ (a b : Service). a.number < b.number) rows
    → find p rows ≡ Some one → All (λ (row : Service). row.number ≡ one.number → row.process ≡ one.process) rows
lives_so rows p one rising is =
    All-weaker (λ (row : Service). row.number ≡ one.number → row ≡ one) (λ (row : Service). row.number ≡ one.number
    → row.process ≡ one.process)
    (λ row only e. ap (λ (r : Service). r.process) (only e)) rows
    (found_has (λ (row : Service). All (λ (other : Service). other.number ≡ row.number → other ≡ row) rows) p one rows
    (alone (λ (row : Service). row.number) rows rising) is)

-- the service that was found takes a report
report_asks : (process : ℕ) (numbers : List ℕ) (f : Flat) (found : Option Service) (report : Status)
    → ((row : Service) → found ≡ Some row → is_rung (if_stopped report (shared_or_nobody f (Some row.process))) process ≡ false)
    → All (IsAskedRight f.processes) f.services
    → ((row : Service) → found ≡ Some row → All (λ (r : Service). r.number ≡ row.number → r.process ≡ row.process) f.services)
    → Asks process numbers f.services → Asks process numbers (with_report_of f found report).services
report_asks process numbers f found report quiet right lives asks =
    let taken : Asks process numbers (reported_in report found f.services) =
    found_keeps (Asks process numbers) (λ (row : Service). map (reported_if row.number report)) found f.services asks
    (λ row is. reported f process numbers row.number row.process report (quiet row is) right (lives row is) asks) in
    failing_keeps (λ (g : Flat). Asks process numbers g.services) (failed_by report found) _ taken
    (λ row is. counted process numbers row.number f.moment (reported_in report found f.services) taken)
    (λ service g moment kind is asks. asks)

done_asks : (l : Limits) (f : Flat) (caller : ℕ) (asked : Request) (process : ℕ) (numbers : List ℕ)
    → AllPairs (λ (a b : Service). a.number < b.number) f.services
    → All (IsAskedRight f.processes) f.services → is_rung (controls_rung f caller asked) process ≡ false
    → Asks process numbers f.services → Asks process numbers (done_of l f caller asked).flat.services
done_asks l f caller (request.Delete handle) process numbers rising right quiet asks =
    found_keeps (Asks process numbers) (λ (row : Service). map (marked_if row.number)) (held_service f caller handle) f.services asks
    (λ row is. marked process numbers row.number f.services asks)
done_asks l f caller (request.SetStatus handle status) process numbers rising right quiet asks =
    report_asks process numbers f (held_service f caller handle) status
    (λ row is. subst (λ (found : Option Service).
    is_rung (if_stopped status (shared_or_nobody f (option_map (λ (r : Service). r.process) found))) process ≡ false) is quiet) right
    (λ row is. lives_so f.services (λ (r : Service). r.number == row.number) row rising (held_is f caller handle row is)) asks
done_asks l f caller (request.Change change) process numbers rising right quiet asks =
    found_keeps (Asks process numbers) (λ (row : Service). map (configured_if row.number (new_config f change row)))
    (held_service f caller change.handle) f.services asks
    (λ row is. configured process numbers row.number (new_config f change row) f.services asks)
done_asks l f caller (request.Change2 handle asked) process numbers rising right quiet asks =
    found_keeps (Asks process numbers) (λ (row : Service). map (configured_if row.number (level_config asked row)))
    (held_service f caller handle) f.services asks
    (λ row is. configured process numbers row.number (level_config asked row) f.services asks)
done_asks l f caller (request.SetSecurity handle parts bytes) process numbers rising right quiet asks =
    secured_keeps (Asks process numbers) (held_service f caller handle) (asked_security f caller handle parts (descriptor_in bytes))
    f.services asks (λ row security is. secured process numbers row.number security f.services asks)
done_asks l f caller (request.OpenService handle name access) process numbers rising right quiet asks =
    opened_keeps (λ (g : Flat). Asks process numbers g.services) f caller name access asks (λ row is. asks)
done_asks l f caller (request.Start handle words) process numbers rising right quiet asks =
    started_keeps (λ (g : Flat). Asks process numbers g.services) f caller handle words asks (λ row is. asks)
done_asks l f caller (request.Create new) process numbers rising right quiet asks = more process numbers f.services _ refl asks
done_asks l f caller (request.Notify handle mask) process numbers rising right quiet asks =
    notify_apart (λ (g : Flat). Asks process numbers g.services) f caller handle mask (λ rows next. asks)
done_asks l f caller asked process numbers rising right quiet asks = asks

call_asks : (l : Limits) (f : Flat) (caller : ℕ) (asked : Request) (append : Kept) (process : ℕ) (numbers : List ℕ)
    → AllPairs (λ (a b : Service). a.number < b.number) f.services
    → All (IsAskedRight f.processes) f.services → is_rung (controls_rung f caller asked) process ≡ false
    → Asks process numbers f.services → Asks process numbers (call_of l f caller asked append).flat.services
call_asks l f caller asked append process numbers rising right quiet asks =
    by_verdict (λ r. Asks process numbers r.flat.services) (verdict l f caller asked append)
    (told_refused f caller asked (verdict l f caller asked append)) f (done_of l f caller asked)
    (λ e. done_asks l f caller asked process numbers rising right quiet asks) (λ e. asks)

-- ## Steps

effect_asks : (l : Limits) (f : Flat) (moment : ℕ) (step : Step) (process : ℕ) (numbers : List ℕ)
    → AllPairs (λ (a b : Service). a.number < b.number) f.services
    → All (IsAskedRight f.processes) f.services → is_rung (effect_rung f step) process ≡ false
    → Asks process numbers f.services → Asks process numbers (effect_of l (at_moment f moment step) step).flat.services
effect_asks l f moment (Call caller asked append) process numbers rising right quiet asks =
    call_asks l (with_moment f moment) caller asked append process numbers rising right quiet asks
effect_asks l f moment (LaunchFailed one code) process numbers rising right quiet asks = fell process numbers one code f.services quiet asks
effect_asks l f moment (Report one service status) process numbers rising right quiet asks =
    report_asks process numbers (with_moment f moment) (reporting f one service) status
    (λ row is. subst (λ n. is_rung (if_stopped status (shared_or_nobody f (Some n))) process ≡ false)
    (sym (by_parts one row (reporting_by f one service row is).1).1) quiet) right
    (λ row is. lives_so f.services (is_reporter f one service) row rising is) asks
effect_asks l f moment (Ended one) process numbers rising right quiet asks =
    any_failing_keeps (λ (g : Flat). Asks process numbers g.services) (currents one f.services)
    (with_fallen (with_moment f moment) one ERROR_PROCESS_ABORTED) (fell process numbers one ERROR_PROCESS_ABORTED f.services quiet asks)
    (λ row g asks. counted process numbers row.number g.moment g.services asks) (λ service g moment kind is asks. asks)
effect_asks l f moment (ControlTaken one) process numbers rising right quiet asks =
    found_keeps (Asks process numbers) (λ (row : Service). map (unasked_if row.number)) (first_asked f one) f.services asks
    (λ row is. (let of : row.process ≡ one = (by_parts one row (and_parts _ _ (found_passes (is_asked_by one) row f.services is)).0).1 in
    unasked process numbers row.number row.process f.services (ap (λ n. process == n) of ∙ quiet)
    (lives_so f.services (is_asked_by one) row rising is) asks))
effect_asks l f moment Tick process numbers rising right quiet asks =
    ticked_apart (λ (g : Flat). Asks process numbers g.services) l (with_moment f moment) asks
effect_asks l f moment (Raised caller subtype) process numbers rising right quiet asks = absurd cc
effect_asks l f moment step process numbers rising right quiet asks = asks

-- a state that gave no number below the bound anew, and doesn't share the process
record AsksStill (bound process : ℕ) (numbers : List ℕ) (g : Flat) : Type 0 where
  up : bound ≤ g.next.process
  alone : is_shared (process_of g process) ≡ false
  asks : Asks process numbers g.services

asks_still : (l : Limits) (bound process : ℕ) (numbers : List ℕ) → process < bound
    → Keeps l (AsksStill bound process numbers) (λ plan. Unit {0})
asks_still l bound process numbers low = record {
  enters = λ g plan service words entry is. entered_keeps (AsksStill bound process numbers) g service words
      (λ none. record {
        up = (let up = is.up in omega arith);
        alone =
            let wanted = wanted_process g.next.process service (is_shared_by (service_of g service)) in
            ap is_shared (find_push (has process) g.processes wanted
            (ne_eqb g.next.process process (λ e. absurd (let up = is.up in omega (arith, e, up, low))))) ∙ is.alone;
        asks = entered process numbers service g.next.process g.services
            (λ e. absurd (let up = is.up in omega (arith, e, up, low))) is.asks;
      })
      (λ one host. record {
        up = is.up;
        alone = is.alone;
        asks = entered process numbers service one g.services (another g one host is.alone) is.asks;
      });
  tries = λ g plan service entry q. tt;
  drops = λ plan service rest code q. tt;
  meets = λ plan services q. tt;
}
  where
    another : (g : Flat) {service : ℕ} (one : ℕ) → IsHost g service one → is_shared (process_of g process) ≡ false → one ≡ process → ⊥
    another g one host alone same =
        let shared : is_shared (process_of g process) ≡ true = subst (λ n. is_shared (process_of g n) ≡ true) same host.shared in cc

-- settling asks nothing more of a process that the step doesn't ring
settled_asks : (l : Limits) (f : Flat) (moment : ℕ) (step : Step) (process : ℕ) (numbers : List ℕ) → IsValid l f
    → process < f.next.process → (rings_common step && may_host f step) ≡ false
    → Asks process numbers (effect_of l (at_moment f moment step) step).flat.services
    → Asks process numbers (settled l (effect_of l (at_moment f moment step) step).flat).services
settled_asks l f moment step process numbers valid low none asks = by (why_none f step none)
  where
    g : Flat
    g = (effect_of l (at_moment f moment step) step).flat

    rested : settle_all l g g.plans ≡ record { flat = g; plans = g.plans; hosted = [] }
        → Asks process numbers (settle_all l g g.plans).flat.services
    rested same = subst (λ (end : Turns). Asks process numbers end.flat.services) (sym same) asks

    by : (rings_common step ≡ false) ⊎ ((list_any (λ (row : Process). row.shared) f.processes ≡ false) ⊎ ((begins_plans step ≡ false)
        × (is_any_undecided f.plans ≡ false))) → Asks process numbers (settle_all l g g.plans).flat.services
    by (inl quiet) = rested (still l f g (effect_leaves l f moment step quiet) valid.settled)
    by (inr (inl alone)) = (keeps_flat l (AsksStill f.next.process process numbers) (asks_still l f.next.process process numbers low)
        g g.plans (record {
          up = process_up l f moment step;
          alone = stays_alone l f moment step process low alone;
          asks = asks;
        })).asks
    by (inr (inr decided)) = rested (decided_still l f moment step decided.0 decided.1)

step_asks : (l : Limits) (f : Flat) (moment : ℕ) (step : Step) (process : ℕ) → IsValid l f → process < f.next.process
    → is_rung (children_rung f step) process ≡ false → asked_of (step_of l f moment step).flat process ≡ asked_of f process
step_asks l f moment step process valid low quiet =
    let numbers = asked_of f process in
    let done = effect_of l (at_moment f moment step) step in
    let aside : IsAside f step process = aside_by f step process quiet in
    let begins : Asks process numbers f.services = record {
      asked = refl;
      up = λ k d lt by. (let row = get_or f.services k d in let is = by_parts process row by in
          valid.stopped k d lt ∙ ap (λ n. n == 0) is.1 ∙ is.0);
    } in
    let kept : Asks process numbers (settled l done.flat).services = settled_asks l f moment step process numbers valid low aside.hosts
    (effect_asks l f moment step process numbers valid.services.rising valid.asked aside.effect begins) in
    let finished : Asks process numbers (finished_step l f moment step).flat.services =
    finished_keeps (λ (g : Flat). Asks process numbers g.services) (λ g plans asks. asks) (settled l done.flat) done.answer kept in
    left process (finished_step l f moment step).flat.handles (finished_step l f moment step).flat.services finished.up ∙ finished.asked

pub asks_no_other : (f : Flat) (step : Step) (rung : Children) → rung ≡ children_rung f step → AsksNoOther f step rung
asks_no_other f step rung is l moment append process valid low quiet =
    step_asks l f moment (with_kept step append) process valid low
    (ap (λ (r : Children). is_rung r process) (rung_kept f step append ∙ sym is) ∙ quiet)

-- no other process is asked or rung
pub ruleset no_other = (stirs_no_other, asks_no_other)
