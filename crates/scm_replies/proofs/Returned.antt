-- Each reply to a call returns the sizes that are needed.
use Rattle.std.proofs.Common.{ℕ, ◌≡◌, ◌≤◌, ◌^◌, ◌∙◌, ◌==◌, ◌||◌, ◌++◌, Bool, true, false, cond, List, [], Option, None, Some, length, refl}
use Rattle.std.proofs.Common.{ap, sym, subst, arith, append-nil, length-append, ◌<◌}
use Rattle.std.specs.Prelude.{All, option_and_then}
use Rattle.std.proofs.lemmas.List.Elements.{All-filter}
use Rattle.scm_model.specs.declared.flat.Flat.{Flat}
use Rattle.scm_model.specs.declared.flat.Limits.{Limits}
use Rattle.scm_model.specs.declared.flat.Registration.{Registration}
use Rattle.scm_model.specs.declared.calls.Reply.{Reply}
use Rattle.scm_model.specs.declared.calls.Reply.TheVariants as reply
use Rattle.scm_model.specs.declared.calls.Request.{Request}
use Rattle.scm_model.specs.declared.calls.Request.TheVariants as request
use Rattle.scm_model.specs.declared.steps.Answer.{Answer}
use Rattle.scm_model.specs.declared.steps.Kept.{Kept}
use Rattle.scm_model.specs.declared.steps.Step.{Step}
use Rattle.scm_model.specs.declared.steps.Step.TheVariants.{Call}
use Rattle.scm_model.specs.Changes.{with_moment}
use Rattle.scm_model.specs.Entries.{Entry}
use Rattle.scm_model.specs.Notices.{registration_of}
use Rattle.scm_model.specs.Refused.{zero_process_status}
use Rattle.scm_model.specs.Rows.{held_service}
use Rattle.service_listing.specs.Layout.{listing_size}
use Rattle.service_listing.specs.Pages.{page_in}
use Rattle.start_plan.specs.Decided.{code_of}
use Rattle.start_plan.specs.Settle.{settled}
use Rattle.scm_rules.specs.EnumDependents.{dependents_by}
use Rattle.scm_rules.specs.EnumServices.{page_of, services_asked}
use Rattle.scm_rules.specs.Histories.{Legal, state}
use Rattle.scm_rules.specs.Locks.{lock_owner, lock_size}
use Rattle.scm_rules.specs.Notify.{notice_in, notify_of}
use Rattle.scm_rules.specs.Opening.{IsOpening}
use Rattle.scm_rules.specs.OtherName.{display_by_name, name_by_display, units_of}
use Rattle.scm_rules.specs.QueryConfig.{shown_by, size_in}
use Rattle.scm_rules.specs.QueryConfig2.{level_by}
use Rattle.scm_rules.specs.Start.{start_verdict}
use Rattle.scm_rules.specs.Steps.{answered_by, call_answer, finished, step_of}
use Rattle.scm_rules.specs.Verdicts.{call_of, done_of, told_refused, verdict}
use Rattle.scm_runs.proofs.Along.{Gives}
use Rattle.scm_runs.proofs.Calls.{by_verdict}
use Rattle.scm_runs.proofs.Histories.{state_is}
use Rattle.scm_replies.specs.Replies.{reply_code}
use Rattle.scm_replies.specs.Sizes.{AnswerReturnsSizes, AreSmall, HasUuids, LawOfNeededSizes, ReturnsSizes, StepReturnsSizes, config_size}
use Rattle.scm_replies.specs.Sizes.{name_units, needed_size, reply_resume, reply_size, resume_index, returns_size}
use Rattle.scm_replies.proofs.Counted.{IsFew, next_begun, next_run}
use Rattle.scm_replies.proofs.Listings.{IsLow, all_paged, listing_least, resume_whole}
use Rattle.scm_replies.proofs.Needed.{IsWithinLimits, config_returned, display_returned, fits, greatest, held, held_whole, name_returned}
use Rattle.scm_replies.proofs.Needed.{within_limits}
use Rattle.scm_rules.specs.Security.{security_by}

abbrev ReturnsSize : Flat → ℕ → Request → Reply → Type 0
ReturnsSize f caller asked told = reply_size told ≡ cond (returns_size asked (reply_code told)) (needed_size f caller asked) 0

abbrev ReturnsIndex : Flat → Request → Reply → Type 0
ReturnsIndex f asked told = reply_resume told ≡ resume_index f asked (reply_code told)

-- ## Refusals

no_size : (b : Bool) → ◌≡◌ {A = ℕ} 0 (cond b 0 0)
no_size true = refl
no_size false = refl

-- a size that is returned with success, too
refused_size : (code returned size : ℕ) → (code == 0) ≡ false → returned ≡ size
    → cond (code == 122) returned 0 ≡ cond (code == 0 || code == 122) size 0
refused_size code returned size some same = rw (some, same) refl

-- an enumeration that doesn't fit
page_size : (f : Flat) (caller handle kinds states size : ℕ) (resume : Option ℕ) (code : ℕ)
    → let asked = request.EnumServices handle kinds states size resume in ReturnsSize f caller asked (told_refused f caller asked code)
page_size f caller handle kinds states size resume code =
    let asked = request.EnumServices handle kinds states size resume in
    let page = page_of size resume (services_asked f kinds states resume) in
    elim (code == 234) as (λ b. (code == 234) ≡ b → ReturnsSize f caller asked (cond b page (reply.Page size [] 0 0 resume code))) [
      | true ↦ λ e. refl
      | false ↦ λ e. rw e refl
    ] refl

page_index : (f : Flat) (caller handle kinds states size : ℕ) (resume : Option ℕ) (code : ℕ) → IsWithinLimits f → (code == 0) ≡ false
    → let asked = request.EnumServices handle kinds states size resume in ReturnsIndex f asked (told_refused f caller asked code)
page_index f caller handle kinds states size resume code within some =
    let asked = request.EnumServices handle kinds states size resume in
    let rows = services_asked f kinds states resume in
    let low = all_paged IsLow size rows (All-filter _ IsLow f.services within.low) in
    let page = page_of size resume rows in
    elim (code == 234) as (λ b. (code == 234) ≡ b → ReturnsIndex f asked (cond b page (reply.Page size [] 0 0 resume code))) [
      | true ↦ λ e. resume_whole resume (page_in size rows) low
      | false ↦ λ e. rw (e, some) refl
    ] refl

size_refused : (f : Flat) (caller : ℕ) (asked : Request) (code : ℕ) → IsWithinLimits f → (code == 0) ≡ false
    → ReturnsSize f caller asked (told_refused f caller asked code)
size_refused f caller (request.EnumDependents handle states size) code within some =
    let rows = dependents_by f caller handle states in
    ap (λ n. cond (code == 234) n 0) (held_whole (listing_size rows) (held f caller (request.EnumDependents handle states size) within))
size_refused f caller (request.EnumServices handle kinds states size resume) code within some =
    page_size f caller handle kinds states size resume code
size_refused f caller (request.QueryConfig handle size) code within some =
    refused_size code (size_in (shown_by f caller handle)) (config_size (held_service f caller handle)) some
    (config_returned f caller handle within)
size_refused f caller (request.QueryLock handle size) code within some =
    refused_size code (lock_size (lock_owner f)) (lock_size (lock_owner f)) some refl
size_refused f caller (request.DisplayName handle name size) code within some =
    refused_size code (units_of (display_by_name f name)) (name_units (display_by_name f name)) some (display_returned f name within)
size_refused f caller (request.KeyName handle display size) code within some =
    refused_size code (units_of (name_by_display f display)) (name_units (name_by_display f display)) some (name_returned f display within)
size_refused f caller (request.QueryConfig2 handle level size) code within some =
    let bytes = level_by f caller handle level in
    ap (λ n. cond (code == 122) n 0) (held_whole (length bytes) (held f caller (request.QueryConfig2 handle level size) within))
size_refused f caller (request.QueryStatusEx handle level size) code within some = refl
size_refused f caller (request.QuerySecurity handle parts size) code within some =
    let bytes = security_by f caller handle parts in
    ap (λ n. cond (code == 122) n 0) (held_whole (length bytes) (held f caller (request.QuerySecurity handle parts size) within))
size_refused f caller asked code within some = no_size (code == 0 || code == 122)

index_refused : (f : Flat) (caller : ℕ) (asked : Request) (code : ℕ) → IsWithinLimits f → (code == 0) ≡ false
    → ReturnsIndex f asked (told_refused f caller asked code)
index_refused f caller (request.EnumServices handle kinds states size resume) code within some =
    page_index f caller handle kinds states size resume code within some
index_refused f caller asked code within some = refl

-- ## Effects

-- a notice has neither
abbrev HasNeither : Reply → Type 0
HasNeither told = (reply_size told ≡ 0) × (reply_resume told ≡ None)

notice_returned : (found : Option Registration) → HasNeither (notice_in found)
notice_returned None = (refl, refl)
notice_returned (Some row) =
    let none = reply.Notice 0 zero_process_status None 0 in
    let one = reply.Notice row.fired row.status (Some row.name) 0 in
    elim (row.fired == 0) as (λ b. HasNeither (cond b none one)) [ true ↦ (refl, refl) | false ↦ (refl, refl) ]

size_done : (l : Limits) (f : Flat) (caller : ℕ) (asked : Request) → IsWithinLimits f
    → ReturnsSize f caller asked (done_of l f caller asked).reply
size_done l f caller (request.QueryConfig handle size) within = config_returned f caller handle within
size_done l f caller (request.DisplayName handle name size) within = display_returned f name within
size_done l f caller (request.KeyName handle display size) within = name_returned f display within
size_done l f caller (request.GetNotify handle) within =
    let found = option_and_then (registration_of f) (notify_of f caller handle) in
    (notice_returned found).0 ∙ no_size (returns_size (request.GetNotify handle) (reply_code (notice_in found)))
size_done l f caller asked within = refl

index_done : (l : Limits) (f : Flat) (caller : ℕ) (asked : Request) → ReturnsIndex f asked (done_of l f caller asked).reply
index_done l f caller (request.GetNotify handle) =
    (notice_returned (option_and_then (registration_of f) (notify_of f caller handle))).1
index_done l f caller asked = refl

-- ## Calls

returns_sizes : (f : Flat) (caller : ℕ) (asked : Request) (told : Reply) → IsWithinLimits f → ReturnsSize f caller asked told
    → ReturnsIndex f asked told → ReturnsSizes f caller asked told
returns_sizes f caller asked told within size resume = record {
  size = size;
  greatest = greatest f caller asked within;
  fits = fits asked;
  resume = resume;
  numbers = within.low;
  ranges = λ few. omega (arith, listing_least f.services within.short, few);
}

of_call : (l : Limits) (f : Flat) (caller : ℕ) (asked : Request) (append : Kept) → IsWithinLimits f
    → ReturnsSizes f caller asked (call_of l f caller asked append).reply
of_call l f caller asked append within =
    let code = verdict l f caller asked append in
    let told = told_refused f caller asked code in
    let done = done_of l f caller asked in
    by_verdict (λ r. ReturnsSizes f caller asked r.reply) code told f done
    (λ e. returns_sizes f caller asked done.reply within (size_done l f caller asked within) (index_done l f caller asked))
    (λ e. returns_sizes f caller asked told within (size_refused f caller asked code within e) (index_refused f caller asked code within e))

-- a start that is decided is answered a code
of_code : (f : Flat) (caller handle : ℕ) (words : Option (List (List ℕ))) (code : ℕ) → IsWithinLimits f
    → ReturnsSizes f caller (request.Start handle words) (reply.Code code)
of_code f caller handle words code within =
    returns_sizes f caller (request.Start handle words) (reply.Code code) within (no_size (code == 0 || code == 122)) refl

by_decision : (f : Flat) (caller handle : ℕ) (words : Option (List (List ℕ))) (plan : ℕ) (code : Option ℕ) → IsWithinLimits f
    → AnswerReturnsSizes f caller (request.Start handle words) (answered_by plan code)
by_decision f caller handle words plan None within = tt
by_decision f caller handle words plan (Some code) within = of_code f caller handle words code within

of_start : (f g : Flat) (caller handle : ℕ) (words : Option (List (List ℕ))) (begins : Bool) (plan : ℕ) (told : Reply) → IsWithinLimits f
    → ReturnsSizes f caller (request.Start handle words) told
    → AnswerReturnsSizes f caller (request.Start handle words) (finished g (call_answer begins plan told)).answer
of_start f g caller handle words true plan told within is = by_decision f caller handle words plan (code_of g.plans plan) within
of_start f g caller handle words false plan told within is = is

-- ## Steps

moved : (f : Flat) (moment : ℕ) → IsWithinLimits f → IsWithinLimits (with_moment f moment)
moved f moment is =
    record { few = is.few; short = is.short; whole = is.whole; levels = is.levels; low = is.low; uuids = is.uuids; secured = is.secured }

returned_then : (f : Flat) (moment caller : ℕ) (asked : Request) (told : Reply) → ReturnsSizes (with_moment f moment) caller asked told
    → ReturnsSizes f caller asked told
returned_then f moment caller asked told is =
    record { size = is.size; greatest = is.greatest; fits = is.fits; resume = is.resume; numbers = is.numbers; ranges = is.ranges }

of_asked : (l : Limits) (f : Flat) (moment caller : ℕ) (asked : Request) (append : Kept) → IsWithinLimits f
    → AnswerReturnsSizes f caller asked (step_of l f moment (Call caller asked append)).answer
of_asked l f moment caller (request.Start handle words) append within =
    let g = with_moment f moment in
    let asked = request.Start handle words in
    let done = call_of l g caller asked append in
    of_start f (settled l done.flat) caller handle words (start_verdict g caller handle words == 0) g.next.plan done.reply within
    (returned_then f moment caller asked done.reply (of_call l g caller asked append (moved f moment within)))
of_asked l f moment caller asked append within =
    returned_then f moment caller asked _ (of_call l (with_moment f moment) caller asked append (moved f moment within))

of_step : (l : Limits) (f : Flat) (moment : ℕ) (step : Step) → IsWithinLimits f → StepReturnsSizes f step (step_of l f moment step).answer
of_step l f moment (Call caller asked append) within = of_asked l f moment caller asked append within
of_step l f moment step within = tt

-- if 32 bits hold the numbers of services that were given, and triggers have UUIDs
abbrev pub ReturnsThere : Flat → Entry → Answer → Flat → Type 0
ReturnsThere before e told after = before.next.service ≤ 2 ^ 32 → All HasUuids before.services → LawOfNeededSizes before e told after

pub gives : (l : Limits) → l.services ≤ 1024 → Gives (IsFew l) ReturnsThere l
gives l most f e is ok next uuids = of_step l f e.0 e.1 (within_limits l most f is next uuids)

-- ## Histories

front_fits : (es front rest : List Entry) → es ≡ front ++ rest → length front ≤ length es
front_fits es front rest split =
    let all = ap (λ (l : List Entry). length l) split in
    omega (arith, all, length-append front rest)

-- a legal history is no longer than its limit
pub legal_small : (l : Limits) (f : Flat) (es : List Entry) → l.services ≤ 1024 → l.steps < 2 ^ 31 → Legal l f es → AreSmall l es
unfolding Legal
legal_small l f es few low legal =
    let fits = legal.fits es [] (sym (append-nil es)) in
    record { services = few; short = omega (arith, fits, low) }

-- after each front of a short history 32 bits hold them
pub low_front : (l : Limits) (f : Flat) (es front rest : List Entry) → AreSmall l es → IsOpening l f → es ≡ front ++ rest
    → (state l f front).next.service ≤ 2 ^ 32
low_front l f es front rest small begins split =
    let services = small.services in
    let short = small.short in
    subst (λ (g : Flat). g.next.service ≤ 2 ^ 32) (sym (state_is l f front))
    (omega (arith, next_run l f front, next_begun l f begins, front_fits es front rest split, services, short))
