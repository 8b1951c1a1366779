-- The law of notices.
use Rattle.std.proofs.Common.{ℕ, ◌≡◌, ◌∙◌, ◌⊎◌, ◌==◌, ◌&&◌, ◌||◌, ◌++◌, ◌≤◌, not, Bool, true, false, cond, List, [], ◌∷◌, Option, None}
use Rattle.std.proofs.Common.{Some, filter, get_or, map, ap, sym, refl, subst, eq-eqb, eqb-true, inl, inr, is_none, arith, append_assoc}
use Rattle.std.specs.Prelude.{All, Contains, option_and_then, option_map, unwrap_or, nat_le, nat_lt}
use Rattle.std.specs.List.{list_any}
use Rattle.std.proofs.lemmas.Bool.{or_right}
use Rattle.std.proofs.lemmas.Bool.Decides.{nat_tests}
use Rattle.std.proofs.lemmas.List.Elements.{All-contains_itself, All-filter, All-map, All-weaker, filter_passes, All-nil, All-cons}
use Rattle.std.proofs.lemmas.List.Folds.{list_any-append}
use Rattle.scm_model.specs.Changes.{with_handle, with_moment}
use Rattle.scm_model.specs.Entries.{Entry}
use Rattle.scm_model.specs.Notices.{Event, event_of_state, new_registration, noted, notified, pid_of, put_in, taken_once, takes_event}
use Rattle.scm_model.specs.Rows.{handle_of, held_service, opened_at, opened_by, service_of}
use Rattle.scm_model.specs.declared.calls.Request.{Request}
use Rattle.scm_model.specs.declared.calls.Request.TheVariants as request
use Rattle.scm_model.specs.declared.flat.Flat.{Flat}
use Rattle.scm_model.specs.declared.flat.HandleKind.{HandleKind}
use Rattle.scm_model.specs.declared.flat.HandleKind.TheVariants as kinds
use Rattle.scm_model.specs.declared.flat.HandleRow.{HandleRow}
use Rattle.scm_model.specs.declared.flat.Limits.{Limits}
use Rattle.scm_model.specs.declared.flat.Opened.{Opened}
use Rattle.scm_model.specs.declared.flat.Registration.{Registration}
use Rattle.scm_model.specs.declared.flat.Service.{Service}
use Rattle.scm_model.specs.declared.calls.Reply.TheVariants as reply
use Rattle.scm_model.specs.declared.steps.Answer.{Answer}
use Rattle.scm_model.specs.declared.steps.Answer.TheVariants as answers
use Rattle.scm_model.specs.declared.steps.Kept.{Kept}
use Rattle.scm_model.specs.declared.steps.Step.{Step}
use Rattle.scm_model.specs.declared.steps.Step.TheVariants.{Call, Gone}
use Rattle.scm_rules.specs.Named.{is_it}
use Rattle.scm_rules.specs.Notify.{notify_done, notify_of, registered, initial_notification, watched, notify_target, watched_by}
use Rattle.scm_rules.specs.Steps.{at_moment, effect_of, stages_of, step_of}
use Rattle.scm_rules.specs.Verdicts.{call_of, done_of, told_refused, verdict}
use Rattle.scm_runs.specs.Leaving.{has_zero, succeeds}
use Rattle.scm_runs.proofs.Along.{Gives}
use Rattle.scm_runs.proofs.Calls.{by_verdict}
use Rattle.scm_runs.proofs.Founds.{notify_keeps}
use Rattle.scm_runs.proofs.Lists.{found_has, found_passes, has_own, same_some}
use Rattle.scm_runs.proofs.Registered.{all_put, taken_or}
use Rattle.scm_runs.proofs.Sound.{Sound}
use Rattle.scm_runs.proofs.Told.{notified_or}
use Rattle.scm_moves.proofs.Whole.{Whole}
use Rattle.scm_history.specs.Once.{is_in_rows, has_registration}
use Rattle.scm_history.proofs.Registrations.{Stands, made_number, of_step, watching_row}
use Rattle.scm_notices.specs.Events.{Notifies, NotifiesEach, changes_registrations, events_between, events_of_step, is_about_registrations}
use Rattle.scm_notices.specs.Events.{notified_between, notified_first}
use Rattle.scm_notices.specs.Notices.{HasComeFrom, IsFrom, IsMade, LawOfNotices, asked_row, unregisters, event_at_once, events_at_once}
use Rattle.scm_notices.specs.Notices.{taken_from, takes_result}
use Rattle.scm_notices.proofs.Between.{no_events, unmoved}
use Rattle.scm_notices.proofs.Events.{takes}
use Rattle.scm_notices.proofs.Firsts.{in_turn, maps_nothing, one_by_one, same_number, same_service, takes_none}
use Rattle.scm_notices.proofs.Whole.{each_stage}

-- ## Events after others

unmet : (b : Bool) → b ≡ true → b ≡ false → ⊥
unmet true e g = cc
unmet false e g = cc

untrue : (b : Bool) → not b ≡ true → b ≡ false
untrue true e = absurd cc
untrue false e = refl

-- once its result was taken it is told nothing
spent_stays : (events : List Event) (row : Registration) → row.spent ≡ true → notified_first events row ≡ row
spent_stays events row spent = takes_none row events (λ k d lt.
    let event = get_or events k d in
    elim (takes_event event row) as (λ b. takes_event event row ≡ b → b ≡ false) [
      | true ↦ λ e. absurd (let unspent = (takes event row e).unspent in cc)
      | false ↦ λ e. refl
    ] refl)

-- a stage after others
abbrev stage : (ℕ → List Event) → Registration → Registration
stage later row = notified_first (later row.service) row

more_told : (f : Flat) (step : Step) (answer : Answer) (events later : ℕ → List Event) (row : Registration)
    → HasComeFrom events f step answer row
    → HasComeFrom (λ n. events n ++ later n) f step answer (stage later row)
more_told f step answer events later row (inl is) = inl (record {
  old = is.old;
  stood = is.stood;
  from = record {
    stays = is.from.stays;
    taken = λ e. (let same = is.from.taken e in spent_stays (later row.service) row (ap (λ (r : Registration). r.spent) same) ∙ same);
    told = λ e. (let same = is.from.told e in
        ap (λ (r : Registration). notified_first (later r.service) r) same
        ∙ ap (λ n. notified_first (later n) (notified_first (events is.old.service) is.old)) (same_service (events is.old.service) is.old)
        ∙ sym (in_turn (events is.old.service) (later is.old.service) is.old));
  };
})
more_told f step answer events later row (inr is) =
    let front = events_at_once f is.asked.service ++ events is.asked.service in
    inr (record {
      asked = is.asked;
      by = is.by;
      granted = is.granted;
      told =
          ap (λ (r : Registration). notified_first (later r.service) r) is.told
          ∙ ap (λ n. notified_first (later n) (notified_first front is.asked)) (same_service front is.asked)
          ∙ sym (in_turn front (later is.asked.service) is.asked)
          ∙ ap (λ es. notified_first es is.asked)
          (append_assoc (events_at_once f is.asked.service) (events is.asked.service) (later is.asked.service));
    })

all_more_told : (f : Flat) (step : Step) (answer : Answer) (events later : ℕ → List Event) (rows : List Registration)
    → All (HasComeFrom events f step answer) rows
    → All (HasComeFrom (λ n. events n ++ later n) f step answer) (map (stage later) rows)
all_more_told f step answer events later rows all =
    All-map (HasComeFrom (λ n. events n ++ later n) f step answer) (stage later) rows
    (λ k d lt. more_told f step answer events later (get_or rows k d) (all k d lt))

-- ## What the effect leaves

-- a step that neither takes what it was told nor closes it
as_it_was : (events : ℕ → List Event) (f : Flat) (step : Step) (old new : Registration) → unregisters f step old ≡ false
    → takes_result f step old ≡ false → new ≡ notified_first (events old.service) old
    → IsFrom events f step old new
as_it_was events f step old new stays quiet told = record
    { stays = stays; taken = λ e. absurd (unmet (takes_result f step old) e quiet); told = λ e. told }

stayed : (events : ℕ → List Event) (f : Flat) (step : Step) (answer : Answer) (old new : Registration) → Contains f.registrations old
    → IsFrom events f step old new → HasComeFrom events f step answer new
stayed events f step answer old new there is = inl (record { old = old; stood = there; from = is })

-- no call asks anything of registrations
quiet_call : (f : Flat) (caller : ℕ) (asked : Request) (append : Kept) (row : Registration) → is_about_registrations asked ≡ false
    → (unregisters f (Call caller asked append) row ≡ false) × (takes_result f (Call caller asked append) row ≡ false)
quiet_call f caller (request.GetNotify handle) append row quiet = absurd cc
quiet_call f caller (request.CloseNotify handle) append row quiet = absurd cc
quiet_call f caller asked append row quiet = (refl, refl)

quiet_step : (f : Flat) (step : Step) (row : Registration) → changes_registrations step ≡ false
    → (unregisters f step row ≡ false) × (takes_result f step row ≡ false)
quiet_step f (Call caller asked append) row quiet = quiet_call f caller asked append row quiet
quiet_step f (Gone caller) row quiet = absurd cc
quiet_step f step row quiet = (refl, refl)

quiet_stood : (f g : Flat) (step : Step) (answer : Answer) → changes_registrations step ≡ false → Notifies f g
    → All (HasComeFrom (events_between f g) f step answer) g.registrations
quiet_stood f g step answer quiet told =
    subst (All (HasComeFrom (events_between f g) f step answer)) (sym told)
    (All-map (HasComeFrom (events_between f g) f step answer) (notified_between f g) f.registrations
    (λ k d lt. (let row = get_or f.registrations k d in
    let tests = quiet_step f step row quiet in
    stayed (events_between f g) f step answer row (notified_between f g row) (All-contains_itself f.registrations k d lt)
    (as_it_was (events_between f g) f step row (notified_between f g row) tests.0 tests.1 refl))))

-- ## What a step leaves that changes registrations

abbrev none : ℕ → List Event
none n = []

-- rows as they were
all_were : (f : Flat) (step : Step) (answer : Answer)
    → ((row : Registration) → (unregisters f step row ≡ false) × (takes_result f step row ≡ false))
    → All (HasComeFrom none f step answer) f.registrations
all_were f step answer tests k d lt =
    let row = get_or f.registrations k d in
    stayed none f step answer row row (All-contains_itself f.registrations k d lt)
    (as_it_was none f step row row (tests row).0 (tests row).1 refl)

-- those that pass a test
some_were : (f : Flat) (step : Step) (answer : Answer) (p : Registration → Bool)
    → ((row : Registration) → p row ≡ true → (unregisters f step row ≡ false) × (takes_result f step row ≡ false))
    → All (HasComeFrom none f step answer) (filter p f.registrations)
some_were f step answer p tests k d lt =
    let row = get_or (filter p f.registrations) k d in
    let both = tests row (filter_passes p f.registrations k d lt) in
    stayed none f step answer row row (All-filter p (Contains f.registrations) f.registrations (All-contains_itself f.registrations) k d lt)
    (as_it_was none f step row row both.0 both.1 refl)

-- the service that a handle is of is the one that it watches
held_at : (f : Flat) (row : HandleRow) (of : Opened) → Sound f → watched_by row ≡ Some of
    → option_and_then (λ (one : Opened). service_of f one.service) (opened_by row) ≡ service_of f of.service
held_at f row of s is =
    elim row.kind as (λ (kind : HandleKind). notify_target kind row.granted ≡ Some of
    → option_and_then (λ (one : Opened). service_of f one.service) (opened_at kind row.granted) ≡ service_of f of.service) [
      | kinds.Manager ↦ λ e. sym (ap (λ (one : Opened). service_of f one.service)
          (sym (same_some (record { service = 0; granted = row.granted }) of e)) ∙ nobody_has f s)
      | kinds.Service number ↦ λ e. ap (λ (one : Opened). service_of f one.service)
          (same_some (record { service = number; granted = row.granted }) of e)
      | kinds.Lock ↦ λ e. absurd cc
      | kinds.Notify number ↦ λ e. absurd cc
    ] is
  where
    nobody_has : (g : Flat) → Sound g → service_of g 0 ≡ None
    nobody_has g sound = at (service_of g 0) refl
      where
        at : (found : Option Service) → service_of g 0 ≡ found → found ≡ None
        at None e = refl
        at (Some one) e = absurd (
            let zero = eqb-true one.number 0 (found_passes (λ (r : Service). r.number == 0) one g.services e) in
            let first = found_has (λ (r : Service). 1 ≤ r.number)
            (λ (r : Service). r.number == 0) one g.services sound.services.numbered.positive e in
            omega (arith, zero, first))

held_watched : (f : Flat) (caller handle : ℕ) (of : Opened) → Sound f → watched f caller handle ≡ Some of
    → held_service f caller handle ≡ service_of f of.service
held_watched f caller handle of s is = at (handle_of f caller handle) is
  where
    at : (found : Option HandleRow) → option_and_then watched_by found ≡ Some of
        → option_and_then (λ (one : Opened). service_of f one.service) (option_and_then opened_by found) ≡ service_of f of.service
    at None e = absurd cc
    at (Some row) e = held_at f row of s e

-- its state counts at once
at_once : (f : Flat) (found : Option Service) (row : Registration)
    → initial_notification f found row ≡ notified_first (event_at_once f.processes found ++ []) row
at_once f None row = refl
at_once f (Some one) row = sym (one_by_one (event_of_state (pid_of f.processes one) one) [] row)

made : (f : Flat) (caller handle mask : ℕ) (append : Kept) (of : Opened) → Sound f → watched f caller handle ≡ Some of
    → IsMade none f (Call caller (request.Notify handle mask) append) (answers.Reply (reply.Handle f.next.handle 0))
    (watching_row f caller handle mask of)
made f caller handle mask append of s is =
    let asked = new_registration f.next.registration caller of.service mask in
    record {
      asked = asked;
      by = ap (option_map (λ (one : Opened). new_registration f.next.registration caller one.service mask)) is;
      granted = refl;
      told = ap (λ (found : Option Service). initial_notification f found asked) (held_watched f caller handle of s is)
          ∙ at_once f (service_of f of.service) asked;
    }

-- a GetNotify takes what its registration was told
got : (f : Flat) (caller handle number : ℕ) (append : Kept) (row : Registration) → notify_of f caller handle ≡ Some number
    → IsFrom none f (Call caller (request.GetNotify handle) append) row (taken_once number row)
got f caller handle number append row is =
    let its : (is_it row.number (notify_of f caller handle) && not (row.fired == 0)) ≡
    (row.number == number && not (row.fired == 0)) = ap (λ (o : Option ℕ). is_it row.number o && not (row.fired == 0)) is in
    record {
      stays = refl;
      taken = λ e. ap (λ b. cond b (taken_from row) row) (sym its ∙ e);
      told = λ e. ap (λ b. cond b (taken_from row) row) (sym its ∙ e);
    }

-- of a handle of a registration, its number
by_number : (Q : ℕ → Type 0) (found : Option ℕ) → ◌≡◌ {A = ℕ} (cond (is_none found) 6 0) 0
    → ((number : ℕ) → found ≡ Some number → Q number) → Q (unwrap_or found 0)
by_number Q None passes each = absurd cc
by_number Q (Some number) passes each = each number refl

nobody : (found : Option ℕ) → (cond (is_none found) 6 0 == 0) ≡ false → found ≡ None
nobody None e = refl
nobody (Some number) e = absurd cc

call_stood : (l : Limits) (f : Flat) (moment caller : ℕ) (asked : Request) (append : Kept) → Sound f → is_about_registrations asked ≡ true
    → All (HasComeFrom none f (Call caller asked append) (answers.Reply (call_of l (with_moment f moment) caller asked append).reply))
    (call_of l (with_moment f moment) caller asked append).flat.registrations
call_stood l f moment caller (request.Notify handle mask) append s about =
    let g = with_moment f moment in
    let step = Call caller (request.Notify handle mask) append in
    let code = verdict l g caller (request.Notify handle mask) append in
    let given = answers.Reply (reply.Handle g.next.handle 0) in
    let refusal = answers.Reply (told_refused g caller (request.Notify handle mask) code) in
    by_verdict (λ d. All (HasComeFrom none f step (answers.Reply d.reply)) d.flat.registrations) code
    (told_refused g caller (request.Notify handle mask) code) g
    (done_of l g caller (request.Notify handle mask))
    (λ e. notify_keeps (λ (h : Flat). All (HasComeFrom none f step given) h.registrations) g caller handle mask
    (all_were f step given (λ row. (refl, refl)))
    (λ of is. all_put (HasComeFrom none f step given) (watching_row f caller handle mask of) f.registrations
    (all_were f step given (λ row. (refl, refl)))
    (inr (made f caller handle mask append of s is))))
    (λ e. all_were f step refusal (λ row. (refl, refl)))
call_stood l f moment caller (request.GetNotify handle) append s about =
    let g = with_moment f moment in
    let step = Call caller (request.GetNotify handle) append in
    let code = verdict l g caller (request.GetNotify handle) append in
    let given = answers.Reply (done_of l g caller (request.GetNotify handle)).reply in
    let refusal = answers.Reply (told_refused g caller (request.GetNotify handle) code) in
    by_verdict (λ d. All (HasComeFrom none f step (answers.Reply d.reply)) d.flat.registrations) code
    (told_refused g caller (request.GetNotify handle) code) g
    (done_of l g caller (request.GetNotify handle))
    (λ e. by_number (λ n. All (HasComeFrom none f step given) (map (taken_once n) f.registrations)) (notify_of f caller handle) e
    (λ number is. All-map (HasComeFrom none f step given) (taken_once number) f.registrations
    (λ k d lt. (let row = get_or f.registrations k d in
    stayed none f step given row (taken_once number row) (All-contains_itself f.registrations k d lt)
    (got f caller handle number append row is)))))
    (λ e. all_were f step refusal (λ row. (
      refl,
      ap (λ (o : Option ℕ). is_it row.number o && not (row.fired == 0))
          (nobody (notify_of f caller handle) e),
    )))
call_stood l f moment caller (request.CloseNotify handle) append s about =
    let g = with_moment f moment in
    let step = Call caller (request.CloseNotify handle) append in
    let code = verdict l g caller (request.CloseNotify handle) append in
    let given = answers.Reply (done_of l g caller (request.CloseNotify handle)).reply in
    let refusal = answers.Reply (told_refused g caller (request.CloseNotify handle) code) in
    by_verdict (λ d. All (HasComeFrom none f step (answers.Reply d.reply)) d.flat.registrations) code
    (told_refused g caller (request.CloseNotify handle) code) g
    (done_of l g caller (request.CloseNotify handle))
    (λ e. by_number (λ n. All (HasComeFrom none f step given) (filter (λ (row : Registration). not (row.number == n)) f.registrations))
    (notify_of f caller handle) e
    (λ number is. some_were f step given (λ (row : Registration). not (row.number == number))
    (λ row other. (ap (is_it row.number) is ∙ untrue (row.number == number) other, refl))))
    (λ e. all_were f step refusal (λ row. (ap (is_it row.number) (nobody (notify_of f caller handle) e), refl)))
call_stood l f moment caller asked append s about = absurd cc

step_stood : (l : Limits) (f : Flat) (moment : ℕ) (step : Step) → Sound f → changes_registrations step ≡ true
    → All (HasComeFrom none f step (step_of l f moment step).answer) (effect_of l (at_moment f moment step) step).flat.registrations
step_stood l f moment (Call caller (request.Notify handle mask) append) s about = call_stood l f moment caller
    (request.Notify handle mask) append s about
step_stood l f moment (Call caller (request.GetNotify handle) append) s about = call_stood l f moment caller
    (request.GetNotify handle) append s about
step_stood l f moment (Call caller (request.CloseNotify handle) append) s about = call_stood l f moment caller
    (request.CloseNotify handle) append s about
step_stood l f moment (Gone caller) s about =
    some_were f (Gone caller) answers.Done (λ (row : Registration). not (row.caller == caller))
    (λ row other. (untrue (row.caller == caller) other, refl))
step_stood l f moment step s about = absurd cc

-- no service changed meanwhile
nothing_between : (f g : Flat) → g.services ≡ f.services → (n : ℕ) → events_between f g n ≡ []
nothing_between f g services n = no_events f g (λ row. row) (λ row. refl)
    (services ∙ sym (maps_nothing (λ (row : Service). row) (λ row. refl) f.services)) (λ k d lt. unmoved (get_or f.services k d)) n

other_events : (events later : ℕ → List Event) → ((n : ℕ) → events n ≡ later n)
    → (f : Flat) (step : Step) (answer : Answer) (row : Registration)
    → HasComeFrom events f step answer row → HasComeFrom later f step answer row
other_events events later same f step answer row (inl is) = inl (record {
  old = is.old;
  stood = is.stood;
  from = record {
    stays = is.from.stays;
    taken = is.from.taken;
    told = λ e. is.from.told e
        ∙ ap (λ es. notified_first es is.old) (same is.old.service);
  };
})
other_events events later same f step answer row (inr is) = inr (record {
  asked = is.asked;
  by = is.by;
  granted = is.granted;
  told = is.told ∙ ap (λ es. notified_first (events_at_once f is.asked.service ++ es) is.asked) (same is.asked.service);
})

effect_stood : (l : Limits) (f : Flat) (e : Entry) → Sound f → NotifiesEach f e.1 (stages_of l f e.0 e.1)
    → All (HasComeFrom (events_between f (effect_of l (at_moment f e.0 e.1) e.1).flat) f e.1 (step_of l f e.0 e.1).answer)
    (effect_of l (at_moment f e.0 e.1) e.1).flat.registrations
effect_stood l f e s each =
    let g = (effect_of l (at_moment f e.0 e.1) e.1).flat in
    elim (changes_registrations e.1) as
    (λ b. changes_registrations e.1 ≡ b → All (HasComeFrom (events_between f g) f e.1 (step_of l f e.0 e.1).answer) g.registrations) [
      | true ↦ λ about. All-weaker (HasComeFrom none f e.1 (step_of l f e.0 e.1).answer)
          (HasComeFrom (events_between f g) f e.1 (step_of l f e.0 e.1).answer)
          (other_events none (events_between f g) (λ n. sym (nothing_between f g (each.services about) n)) f e.1
          (step_of l f e.0 e.1).answer) g.registrations
          (step_stood l f e.0 e.1 s about)
      | false ↦ λ quiet. quiet_stood f g e.1 (step_of l f e.0 e.1).answer quiet (each.effect quiet)
    ] refl

rows_stand : (l : Limits) (f : Flat) (e : Entry) → Sound f → NotifiesEach f e.1 (stages_of l f e.0 e.1)
    → All (HasComeFrom (events_of_step l f e) f e.1 (step_of l f e.0 e.1).answer) (stages_of l f e.0 e.1).purged.registrations
rows_stand l f e s each =
    let st = stages_of l f e.0 e.1 in
    let first = events_between f st.effect in
    let second = events_between st.effect st.settled in
    let settled = subst (All (HasComeFrom (λ n. first n ++ second n) f e.1 (step_of l f e.0 e.1).answer)) (sym each.settled)
    (all_more_told f e.1 (step_of l f e.0 e.1).answer first second st.effect.registrations (effect_stood l f e s each)) in
    subst (All (HasComeFrom (events_of_step l f e) f e.1 (step_of l f e.0 e.1).answer)) (sym each.purged)
    (all_more_told f e.1 (step_of l f e.0 e.1).answer (λ n. first n ++ second n)
    (events_between st.settled st.purged) st.settled.registrations settled)

-- ## Who stays

abbrev number_of : Registration → ℕ
number_of row = row.number

has_mapped : (change : Registration → Registration) → ((row : Registration) → (change row).number ≡ row.number)
    → (number : ℕ) (rows : List Registration) → is_in_rows number_of number (map change rows) ≡ is_in_rows number_of number rows
has_mapped change same number [] = refl
has_mapped change same number (row ∷ rows) =
    ap (λ n. (n == number) || is_in_rows number_of number (map change rows)) (same row)
    ∙ ap (λ b. (row.number == number) || b) (has_mapped change same number rows)

-- who passes is among those that pass
has_filtered : (p : Registration → Bool) (rows : List Registration)
    → All (λ (row : Registration). p row ≡ true → is_in_rows number_of row.number (filter p rows) ≡ true) rows
has_filtered p [] = All-nil (λ (row : Registration). p row ≡ true → is_in_rows number_of row.number [] ≡ true)
has_filtered p (first ∷ rows) =
    All-cons (λ (row : Registration). p row ≡ true → is_in_rows number_of row.number (filter p (first ∷ rows)) ≡ true) first rows
    (λ e. rw e (rw (eq-eqb first.number first.number refl) refl))
    (All-weaker (λ (row : Registration). p row ≡ true → is_in_rows number_of row.number (filter p rows) ≡ true)
    (λ (row : Registration). p row ≡ true → is_in_rows number_of row.number (filter p (first ∷ rows)) ≡ true)
    (λ row there e. elim (p first) as
    (λ b. is_in_rows number_of row.number (cond b (first ∷ filter p rows) (filter p rows)) ≡ true)
    [ true ↦ or_right (first.number == row.number) _ (there e) | false ↦ there e ]) rows (has_filtered p rows))

by_test : (t rest both : Bool) → (t || rest) ≡ true → (rest ≡ true → both ≡ true) → (t ≡ true) ⊎ (both ≡ true)
by_test true rest both e later = inl refl
by_test false rest both e later = inr (later e)

first_any : (t a b : Bool) → (t ≡ true) ⊎ ((a || b) ≡ true) → ((t || a) || b) ≡ true
first_any true a b h = refl
first_any false a b (inl e) = absurd cc
first_any false a b (inr e) = e

second_any : (t a b : Bool) → (t ≡ true) ⊎ ((a || b) ≡ true) → (a || (t || b)) ≡ true
second_any true true b h = refl
second_any true false b h = refl
second_any false a b (inl e) = absurd cc
second_any false a b (inr e) = e

either_any : (t a b : Bool) → (t ≡ true) ⊎ ((a || b) ≡ true) → ((t || a) || (t || b)) ≡ true
either_any true a b h = refl
either_any false a b (inl e) = absurd cc
either_any false a b (inr e) = e

-- two parts that have all between them have whom the list has
has_parts : (test p q : Registration → Bool) → ((row : Registration) → (p row || q row) ≡ true) → (rows : List Registration)
    → list_any test rows ≡ true → (list_any test (filter p rows) || list_any test (filter q rows)) ≡ true
has_parts test p q whole [] e = absurd cc
has_parts test p q whole (row ∷ rows) e =
    let firsts = filter p rows in
    let others = filter q rows in
    let h = by_test (test row) (list_any test rows) (list_any test firsts || list_any test others) e (has_parts test p q whole rows) in
    elim (p row) as (λ b. (b || q row) ≡ true
    → (list_any test (cond b (row ∷ firsts) firsts) || list_any test (cond (q row) (row ∷ others) others)) ≡ true) [
      | true ↦ λ w. elim (q row) as (λ c. (list_any test (row ∷ firsts) || list_any test (cond c (row ∷ others) others)) ≡ true) [
        | true ↦ either_any (test row) (list_any test firsts) (list_any test others) h
        | false ↦ first_any (test row)
            (list_any test firsts) (list_any test others) h
      ]
      | false ↦ λ w. elim (q row) as (λ c. c ≡ true → (list_any test firsts || list_any test (cond c (row ∷ others) others)) ≡ true)
          [ true ↦ λ y. second_any (test row) (list_any test firsts) (list_any test others) h | false ↦ λ y. absurd cc ] w
    ] (whole row)

one_or_other : (a b : ℕ) → (nat_le a b || nat_lt b a) ≡ true
one_or_other a b = grind (arith, nat_tests)

between : (a new b : Bool) → (a || b) ≡ true → (a || (new || b)) ≡ true
between true new b e = refl
between false new true e = or_right new true refl
between false new false e = absurd cc

pub put_has : (number : ℕ) (new : Registration) (rows : List Registration) → is_in_rows number_of number rows ≡ true
    → is_in_rows number_of number (put_in new rows) ≡ true
put_has number new rows e =
    let test = λ (row : Registration). row.number == number in
    let before = λ (row : Registration). nat_le row.service new.service in
    let behind = λ (row : Registration). nat_lt new.service row.service in
    list_any-append test (filter before rows) (new ∷ filter behind rows)
    ∙ between (list_any test (filter before rows)) (test new) (list_any test (filter behind rows))
    (has_parts test before behind (λ row. one_or_other row.service new.service) rows e)

abbrev StaysThere : Flat → Step → List Registration → Type 0
StaysThere f step rows = All (λ (row : Registration). unregisters f step row ≡ false → is_in_rows number_of row.number rows ≡ true)
    f.registrations

-- whoever was there
there_still : (f : Flat) (step : Step) (rows : List Registration)
    → ((number : ℕ) → is_in_rows number_of number f.registrations ≡ true → is_in_rows number_of number rows ≡ true) → StaysThere f step rows
there_still f step rows keeps =
    All-weaker (λ (row : Registration). is_in_rows number_of row.number f.registrations ≡ true)
    (λ (row : Registration). unregisters f step row ≡ false → is_in_rows number_of row.number rows ≡ true)
    (λ row there stays. keeps row.number there) f.registrations (has_own number_of f.registrations)

-- whoever passes
passing_still : (f : Flat) (step : Step) (p : Registration → Bool) → ((row : Registration) → unregisters f step row ≡ false → p row ≡ true)
    → StaysThere f step (filter p f.registrations)
passing_still f step p passes =
    All-weaker (λ (row : Registration). p row ≡ true → is_in_rows number_of row.number (filter p f.registrations) ≡ true)
    (λ (row : Registration). unregisters f step row ≡ false → is_in_rows number_of row.number (filter p f.registrations) ≡ true)
    (λ row there stays. there (passes row stays)) f.registrations (has_filtered p f.registrations)

they_stay : (f : Flat) (step : Step) → Stands (StaysThere f step) f step
they_stay f step = record {
  tells = λ event rows proper all.
      All-weaker (λ (row : Registration). unregisters f step row ≡ false → is_in_rows number_of row.number rows ≡ true)
      (λ (row : Registration). unregisters f step row ≡ false → is_in_rows number_of row.number (noted event rows) ≡ true)
      (λ row there stays. has_mapped (notified event)
      (λ one. notified_or (λ new. new.number ≡ one.number) event one (λ e. refl) refl) row.number rows ∙ there stays) f.registrations
      all;
  was = λ quiet. there_still f step f.registrations (λ number there. there);
  comes = λ caller handle mask append of e is. there_still f step _
      (λ number there. put_has number (watching_row f caller handle mask of) f.registrations there);
  taken = λ caller handle number append e is. there_still f step _
      (λ n there. has_mapped (taken_once number)
      (λ one. taken_or (λ new. new.number ≡ one.number) number one (λ e. refl) refl) n f.registrations ∙ there);
  closed = λ caller handle number append e is. passing_still f step (λ (row : Registration). not (row.number == number))
      (λ row stays. ap not (sym (ap (is_it row.number) is) ∙ subst (λ (st : Step). unregisters f st row ≡ false) e stays));
  gone = λ caller e. passing_still f step (λ (row : Registration). not (row.caller == caller))
      (λ row stays. ap not (subst (λ (st : Step). unregisters f st row ≡ false) e stays));
}

-- ## Who comes

has_new : (new : Registration) (rows : List Registration) → is_in_rows number_of new.number (put_in new rows) ≡ true
has_new new rows =
    let test = λ (row : Registration). row.number == new.number in
    let before = filter (λ (row : Registration). nat_le row.service new.service) rows in
    let behind = filter (λ (row : Registration). nat_lt new.service row.service) rows in
    list_any-append test before (new ∷ behind)
    ∙ or_right (list_any test before) (list_any test (new ∷ behind))
    (ap (λ b. b || list_any test behind) (eq-eqb new.number new.number refl))

asked_there : (l : Limits) (f : Flat) (caller handle mask : ℕ) (append : Kept) (asked : Registration)
    → asked_row f (Call caller (request.Notify handle mask) append) ≡ Some asked
    → has_zero (call_of l f caller (request.Notify handle mask) append).reply ≡ true
    → is_in_rows number_of asked.number (call_of l f caller (request.Notify handle mask) append).flat.registrations ≡ true
asked_there l f caller handle mask append asked by =
    let code = verdict l f caller (request.Notify handle mask) append in
    by_verdict (λ d. has_zero d.reply ≡ true → is_in_rows number_of asked.number d.flat.registrations ≡ true) code
    (told_refused f caller (request.Notify handle mask) code) f
    (done_of l f caller (request.Notify handle mask))
    (λ e zero. at (watched f caller handle) refl)
    (λ e zero. absurd (unmet (code == 0) zero e))
  where
    at : (found : Option Opened) → watched f caller handle ≡ found
        → is_in_rows number_of asked.number (notify_done f caller handle mask).flat.registrations ≡ true
    at None is = absurd (
        let nothing : asked_row f (Call caller (request.Notify handle mask) append) ≡ None = ap
        (option_map (λ (one : Opened). new_registration f.next.registration caller one.service mask)) is in
        cc)
    at (Some of) is =
        let new = new_registration f.next.registration caller of.service mask in
        let same : new ≡ asked = same_some new asked
        (sym (ap (option_map (λ (one : Opened). new_registration f.next.registration caller one.service mask)) is) ∙ by) in
        let number : (watching_row f caller handle mask of).number ≡ asked.number = made_number f caller handle mask of
        ∙ ap (λ (r : Registration). r.number) same in
        ap (λ (found : Option Opened). is_in_rows number_of asked.number
        (with_handle (registered f caller handle mask found) caller (kinds.Notify f.next.registration) 0).registrations) is
        ∙ subst (λ n. is_in_rows number_of n (put_in (watching_row f caller handle mask of) f.registrations) ≡ true) number
        (has_new (watching_row f caller handle mask of) f.registrations)

-- notifying changes no number
still_numbered : (later : ℕ → List Event) (number : ℕ) (rows : List Registration)
    → is_in_rows number_of number (map (stage later) rows) ≡ is_in_rows number_of number rows
still_numbered later number rows = has_mapped (stage later) (λ row. same_number (later row.service) row) number rows

comes : (l : Limits) (f : Flat) (moment : ℕ) (step : Step) → NotifiesEach f step (stages_of l f moment step) → (asked : Registration)
    → asked_row f step ≡ Some asked
    → succeeds (step_of l f moment step).answer ≡ true → has_registration asked.number (step_of l f moment step).flat ≡ true
comes l f moment (Call caller (request.Notify handle mask) append) each asked by told =
    let st = stages_of l f moment (Call caller (request.Notify handle mask) append) in
    ap (is_in_rows number_of asked.number) each.purged
    ∙ still_numbered (events_between st.settled st.purged) asked.number st.settled.registrations
    ∙ ap (is_in_rows number_of asked.number) each.settled
    ∙ still_numbered (events_between st.effect st.settled) asked.number st.effect.registrations
    ∙ asked_there l (with_moment f moment) caller handle mask append asked by told
comes l f moment (Call caller other append) each asked by told = absurd cc
comes l f moment step each asked by told = absurd cc

-- ## The law

pub gives : (l : Limits) → Gives (Whole l) (LawOfNotices l) l
gives l f e whole ok =
    let s = whole.clear.sound in
    let each = each_stage l f e s ok in
    record {
      rows = rows_stand l f e s each;
      stay = of_step l (StaysThere f e.1) f e.0 e.1 (they_stay f e.1) s ok;
      made = comes l f e.0 e.1 each;
    }
