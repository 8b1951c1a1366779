-- What a request is told answers it.
use Rattle.std.proofs.Common.{ℕ, ◌≡◌, ◌≤◌, ◌==◌, if◌then◌else◌, true, false, cond, IsTrue, List, [], ◌∷◌, length, Option, None, Some, find}
use Rattle.std.proofs.Common.{refl, arith, ltb-false}
use Rattle.std.specs.Prelude.{All, IfSome, Bool, option_and_then}
use Rattle.std.proofs.lemmas.Bool.{leb-true}
use Rattle.std.proofs.lemmas.List.Elements.{All-head, All-tail}
use Rattle.scm_text.specs.Fold.{same_text}
use Rattle.scm_model.specs.declared.flat.Flat.{Flat}
use Rattle.scm_model.specs.declared.flat.Limits.{Limits}
use Rattle.scm_model.specs.declared.flat.LockRow.{LockRow}
use Rattle.scm_model.specs.declared.flat.Principal.{Principal}
use Rattle.scm_model.specs.declared.flat.Principal.TheVariants.{Admin, User}
use Rattle.scm_model.specs.declared.codes.TheConstants.{ERROR_MORE_DATA}
use Rattle.scm_model.specs.declared.flat.Registration.{Registration}
use Rattle.scm_model.specs.declared.flat.Service.{Service}
use Rattle.scm_model.specs.declared.calls.Reply.TheVariants as reply
use Rattle.scm_model.specs.declared.calls.Request.{Request}
use Rattle.scm_model.specs.declared.calls.Request.TheVariants as request
use Rattle.scm_model.specs.declared.calls.Shown.{Shown}
use Rattle.scm_model.specs.declared.steps.Kept.{Kept}
use Rattle.scm_model.specs.Ranges.{in_range}
use Rattle.scm_model.specs.Notices.{registration_of}
use Rattle.scm_model.specs.Refused.{refused, zero_process_status}
use Rattle.scm_model.specs.Rows.{displayed, named}
use Rattle.scm_calls.specs.Replies.{IsWhole, bytes_needed}
use Rattle.scm_bodies.specs.Replies.{Answers}
use Rattle.scm_rules.specs.Locks.{principal_name, owner_of}
use Rattle.scm_rules.specs.OtherName.{display_in, name_in, name_or_empty}
use Rattle.scm_rules.specs.QueryConfig.{query_config_refusals, query_config_verdict, shown_by, size_in}
use Rattle.scm_rules.specs.QueryConfig2.{level_by, level_size, query_config2_refusals, query_config2_verdict}
use Rattle.service_listing.specs.Layout.{listing_bytes, listing_size, process_status_bytes}
use Rattle.service_listing.specs.Pages.{page_in}
use Rattle.service_listing.proofs.Lengths.{length_listing, length_status, page_fits}
use Rattle.scm_rules.specs.EnumDependents.{dependents_by, enum_dependents_refusals, enum_dependents_verdict}
use Rattle.scm_rules.specs.EnumServices.{enum_services_refusals, enum_services_verdict, page_of, services_asked}
use Rattle.scm_rules.specs.Notify.{notice_in, notify_of}
use Rattle.scm_rules.specs.QueryStatusEx.{process_status_by, query_ex_refusals, query_ex_verdict}
use Rattle.scm_rules.specs.Security.{query_security_refusals, query_security_verdict, security_by, security_size}
use Rattle.scm_rules.specs.Valid.{HasShortName}
use Rattle.scm_rules.specs.Verdicts.{call_of, done_of, told_refused, verdict}
use Rattle.scm_runs.proofs.Calls.{all_pass, by_verdict}
use Rattle.scm_runs.proofs.Sizes.{AreShort}

-- every text of a configuration is short
abbrev pub AllShort : Flat → Type 0
AllShort f = All (λ (row : Service). AreShort row.config) f.services

-- no bytes fit in every size, and what has a size fits in a greater one
no_bytes : (size : ℕ) → IsWhole size size []
no_bytes size = record { is = refl; whole = omega arith }

bytes_of : (size length_of : ℕ) (bytes : List ℕ) → length bytes ≡ length_of → length_of ≤ size → IsWhole size size bytes
bytes_of size length_of bytes same le = record { is = refl; whole = omega (arith, same, le) }

listing_fits : (size : ℕ) (rows : List Service) → listing_size rows ≤ size → IsWhole size size (listing_bytes rows)
listing_fits size rows le = bytes_of size (listing_size rows) (listing_bytes rows) (length_listing rows) le

-- ## Refusals

pub of_refused : (asked : Request) (code : ℕ) → Answers asked (refused asked code)
of_refused (request.EnumDependents handle states size) code = (refl, no_bytes size)
of_refused (request.EnumServices handle kinds states size resume) code = (refl, no_bytes size)
of_refused (request.QueryConfig2 handle level size) code = (refl, no_bytes size)
of_refused (request.QueryStatusEx handle level size) code = (refl, no_bytes size)
of_refused (request.QuerySecurity handle parts size) code = (refl, no_bytes size)
of_refused (request.DisplayName handle name size) code = (refl, omega arith)
of_refused (request.KeyName handle name size) code = (refl, omega arith)
of_refused asked code = (refl, tt)

-- a page has what fits
page_told : (handle kinds states size : ℕ) (resume : Option ℕ) (rows : List Service) (code : ℕ) (more : Bool)
    → Answers (request.EnumServices handle kinds states size resume) (if more then page_of size resume rows
    else reply.Page size [] 0 0 resume code)
page_told handle kinds states size resume rows code true = (refl, listing_fits size (page_in size rows) (page_fits size rows))
page_told handle kinds states size resume rows code false = (refl, no_bytes size)

of_told : (f : Flat) (caller : ℕ) (asked : Request) (code : ℕ) → Answers asked (told_refused f caller asked code)
of_told f caller (request.DisplayName handle name size) code = (refl, omega arith)
of_told f caller (request.KeyName handle name size) code = (refl, omega arith)
of_told f caller (request.EnumDependents handle states size) code = (refl, no_bytes size)
of_told f caller (request.EnumServices handle kinds states size resume) code =
    page_told handle kinds states size resume (services_asked f kinds states resume) code (code == ERROR_MORE_DATA)
of_told f caller (request.QueryConfig2 handle level size) code = (refl, no_bytes size)
of_told f caller (request.QueryStatusEx handle level size) code = (refl, no_bytes size)
of_told f caller (request.QuerySecurity handle parts size) code = (refl, no_bytes size)
of_told f caller asked code = (refl, tt)

-- ## What is told whole

-- what fits in a size that is read is told whole
fits : (shown : Option Shown) (size : ℕ) → size ≤ 8192 → size_in shown ≤ size → IfSome shown (λ s. bytes_needed s ≤ size)
fits None size most le = tt
fits (Some s) size most le = omega (arith, most, le)

shown_fits : (f : Flat) (caller handle size : ℕ) → size ≤ 8192 → query_config_verdict f caller handle size ≡ 0
    → IfSome (shown_by f caller handle) (λ s. bytes_needed s ≤ size)
shown_fits f caller handle size most e =
    let p = all_pass (query_config_refusals f caller handle size) (refl, (refl, (refl, tt))) e in
    fits (shown_by f caller handle) size most (ltb-false size (size_in (shown_by f caller handle)) p.1.1.0)

-- so is a level of a configuration
level_fits : (f : Flat) (caller handle level size : ℕ) → size ≤ 8192 → query_config2_verdict f caller handle level size ≡ 0
    → IsWhole size size (level_by f caller handle level)
level_fits f caller handle level size most e =
    let p = all_pass (query_config2_refusals f caller handle level size) (refl, (refl, (refl, (refl, tt)))) e in
    let le = ltb-false size (level_size f caller handle level) p.1.1.1.0 in
    record { is = refl; whole = omega (arith, most, le) }

-- so is a security descriptor
security_fits : (f : Flat) (caller handle parts size : ℕ) → size ≤ 262144 → query_security_verdict f caller handle parts size ≡ 0
    → IsWhole size size (security_by f caller handle parts)
security_fits f caller handle parts size most e =
    let p = all_pass (query_security_refusals f caller handle parts size) (refl, (refl, (refl, (refl, tt)))) e in
    let le = ltb-false size (security_size f caller handle parts) p.1.1.1.0 in
    record { is = refl; whole = omega (arith, most, le) }

-- so are services, and a status with its process
dependents_fit : (f : Flat) (caller handle states size : ℕ) → enum_dependents_verdict f caller handle states size ≡ 0
    → listing_size (dependents_by f caller handle states) ≤ size
dependents_fit f caller handle states size e =
    let p = all_pass (enum_dependents_refusals f caller handle states size) (refl, (refl, (refl, (refl, tt)))) e in
    ltb-false size (listing_size (dependents_by f caller handle states)) p.1.1.1.0

services_fit : (f : Flat) (caller handle kinds states size : ℕ) (resume : Option ℕ)
    → enum_services_verdict f caller handle kinds states size resume ≡ 0 → listing_size (services_asked f kinds states resume) ≤ size
services_fit f caller handle kinds states size resume e =
    let p = all_pass (enum_services_refusals f caller handle kinds states size resume) (refl, (refl, (refl, (refl, tt)))) e in
    ltb-false size (listing_size (services_asked f kinds states resume)) p.1.1.1.0

status_fits : (f : Flat) (caller handle level size : ℕ) → query_ex_verdict f caller handle level size ≡ 0 → 36 ≤ size
status_fits f caller handle level size e =
    let p = all_pass (query_ex_refusals f caller handle level size) (refl, (refl, (refl, (refl, tt)))) e in
    ltb-false size 36 p.1.1.1.0

-- a row that is found has what all have
found_has : {X : Type 0} (P : X → Type 0) (p : X → Bool) (xs : List X) → All P xs → IfSome (find p xs) P
found_has P p [] all = tt
found_has P p (x ∷ xs) all =
    elim (p x) as (λ b. IfSome (cond b (Some x) (find p xs)) P) [
      | true ↦ All-head P x xs all
      | false ↦ found_has P p xs (All-tail P x xs all)
    ]

short_display : (found : Option Service) → IfSome found (λ row. AreShort row.config) → length (name_or_empty (display_in found)) ≤ 256
short_display None short = omega arith
short_display (Some row) short = short.display

short_name : (found : Option Service) → IfSome found (λ row. AreShort row.config) → length (name_or_empty (name_in found)) ≤ 256
short_name None short = omega arith
short_name (Some row) short = short.name

-- the name of a principal is short
short_principal : (principal : Principal) → length (principal_name principal) ≤ 256
short_principal Admin = omega arith
short_principal User = omega arith

short_owner : (f : Flat) (held : Option LockRow) → length (owner_of f held) ≤ 256
short_owner f None = omega arith
short_owner f (Some row) = short_principal _

-- what a registration was told has a short name
short_notice : (handle : ℕ) (found : Option Registration) → IfSome found HasShortName → Answers (request.GetNotify handle) (notice_in found)
short_notice handle None short = (refl, tt)
short_notice handle (Some row) short =
    elim (row.fired == 0) as (λ b. Answers (request.GetNotify handle) (if b then reply.Notice 0 zero_process_status None 0
    else reply.Notice row.fired row.status (Some row.name) 0)) [
      | true ↦ (refl, tt)
      | false ↦ (refl, short)
    ]

short_found : (f : Flat) (number : Option ℕ) → All HasShortName f.registrations
    → IfSome (option_and_then (registration_of f) number) HasShortName
short_found f None told = tt
short_found f (Some number) told = found_has HasShortName (λ (row : Registration). row.number == number) f.registrations told

-- ## Calls

of_done : (l : Limits) (f : Flat) (caller : ℕ) (asked : Request) (append : Kept) → AllShort f → All HasShortName f.registrations
    → IsTrue (in_range asked) → verdict l f caller asked append ≡ 0 → Answers asked (done_of l f caller asked).reply
of_done l f caller (request.QueryConfig handle size) append short told range e =
    (refl, shown_fits f caller handle size (leb-true size 8192 range) e)
of_done l f caller (request.QueryConfig2 handle level size) append short told range e =
    (refl, level_fits f caller handle level size (leb-true size 8192 range) e)
of_done l f caller (request.QueryLock handle size) append short told range e = (refl, short_owner f f.lock)
of_done l f caller (request.DisplayName handle name size) append short told range e = (
  refl,
  short_display (named f name) (found_has (λ (row : Service). AreShort row.config)
      (λ (row : Service). same_text row.config.name name) f.services short),
)
of_done l f caller (request.KeyName handle name size) append short told range e = (
  refl,
  short_name (displayed f name) (found_has (λ (row : Service). AreShort row.config)
      (λ (row : Service). same_text row.config.display name) f.services short),
)
of_done l f caller (request.EnumDependents handle states size) append short told range e =
    (refl, listing_fits size (dependents_by f caller handle states) (dependents_fit f caller handle states size e))
of_done l f caller (request.EnumServices handle kinds states size resume) append short told range e =
    (refl, listing_fits size (services_asked f kinds states resume) (services_fit f caller handle kinds states size resume e))
of_done l f caller (request.QueryStatusEx handle level size) append short told range e =
    let status = process_status_by f caller handle in
    (refl, bytes_of size 36 (process_status_bytes status) (length_status status) (status_fits f caller handle level size e))
of_done l f caller (request.QuerySecurity handle parts size) append short told range e =
    (refl, security_fits f caller handle parts size (leb-true size 262144 range) e)
of_done l f caller (request.GetNotify handle) append short told range e =
    short_notice handle (option_and_then (registration_of f) (notify_of f caller handle)) (short_found f (notify_of f caller handle) told)
of_done l f caller asked append short told range e = (refl, tt)

pub of_call : (l : Limits) (f : Flat) (caller : ℕ) (asked : Request) (append : Kept) → AllShort f → All HasShortName f.registrations
    → IsTrue (in_range asked) → Answers asked (call_of l f caller asked append).reply
of_call l f caller asked append short told range =
    by_verdict (λ r. Answers asked r.reply) (verdict l f caller asked append)
    (told_refused f caller asked (verdict l f caller asked append)) f (done_of l f caller asked)
    (of_done l f caller asked append short told range)
    (λ e. of_told f caller asked (verdict l f caller asked append))
