-- How much room services take in a listing, and which numbers pages end with.
use Rattle.std.proofs.Common.{ℕ, ◌≡◌, ◌≤◌, ◌<◌, ◌^◌, ◌-◌, ◌*◌, ◌∙◌, ◌==◌, suc, Bool, true, false, not, cond, List, [], ◌∷◌, Option, None}
use Rattle.std.proofs.Common.{Some, filter, find, length, refl, ap, arith}
use Rattle.std.specs.Prelude.{All, IfSome, min, nat_le, option_and_then, option_map}
use Rattle.std.specs.List.{cons_option}
use Rattle.std.proofs.lemmas.List.Elements.{All-cons, All-filter, All-head, All-nil, All-tail}
use Rattle.std.proofs.lemmas.List.Filters.{length-filter_both}
use Rattle.scm_model.specs.declared.flat.Flat.{Flat}
use Rattle.scm_model.specs.declared.flat.Opened.{Opened}
use Rattle.scm_model.specs.declared.flat.Service.{Service}
use Rattle.scm_model.specs.Rows.{held_service, opened, service_of}
use Rattle.service_listing.specs.Layout.{listing_size, size_of}
use Rattle.service_listing.specs.Pages.{page_in}
use Rattle.scm_rules.specs.EnumDependents.{dependents_by, is_in_states, listed_for, services_of, stop_order}
use Rattle.scm_rules.specs.EnumServices.{last_number}
use Rattle.scm_runs.proofs.Lists.{found_has}
use Rattle.scm_runs.proofs.Sizes.{AreShort}
use Rattle.scm_replies.specs.Sizes.{number_of_last}
use Rattle.scm_replies.proofs.Dependents.{few_stopped}

-- its texts are short
abbrev pub IsShort : Service → Type 0
IsShort row = AreShort row.config

-- 32 bits hold its number
abbrev pub IsLow : Service → Type 0
IsLow row = row.number < 2 ^ 32

pub fewer : {X : Type 0} (p : X → Bool) (xs : List X) → length (filter p xs) ≤ length xs
fewer p xs = omega (arith, length-filter_both p (λ x. not (p x)) (λ x. refl) xs)

-- ## What is found

pub found_some : (P : Service → Type 0) (p : Service → Bool) (rows : List Service) → All P rows → IfSome (find p rows) P
found_some P p rows all =
    elim (find p rows) as (λ o. find p rows ≡ o → IfSome o P) [ None ↦ λ is. tt | Some row ↦ λ is. found_has P p row rows all is ] refl

pub held_some : (P : Service → Type 0) (f : Flat) (caller handle : ℕ) → All P f.services → IfSome (held_service f caller handle) P
held_some P f caller handle all =
    elim (opened f caller handle) as (λ o. IfSome (option_and_then (λ (of : Opened). service_of f of.service) o) P) [
      | None ↦ tt
      | Some of ↦ found_some P (λ (row : Service). row.number == of.service) f.services all
    ]

-- ## Room

-- a record of 36 bytes, and two names of at most 256 units, each with its zero
pub listing_least : (rows : List Service) → All IsShort rows → listing_size rows ≤ 1064 * length rows
listing_least [] short = omega arith
listing_least (row ∷ rows) short =
    let here = All-head IsShort row rows short in
    let name = here.name in
    let display = here.display in
    omega (arith, name, display, listing_least rows (All-tail IsShort row rows short))

-- ## Dependents

few_found : (f : Flat) (ns : List ℕ) → length (services_of f ns) ≤ length ns
few_found f [] = omega arith
few_found f (n ∷ ns) =
    elim (service_of f n) as (λ o. length (cons_option o (services_of f ns)) ≤ suc (length ns)) [
      | None ↦ omega (arith, few_found f ns)
      | Some row ↦ omega (arith, few_found f ns)
    ]

all_found : (P : Service → Type 0) (f : Flat) (ns : List ℕ) → All P f.services → All P (services_of f ns)
all_found P f [] all = All-nil P
all_found P f (n ∷ ns) all =
    elim (service_of f n) as (λ o. service_of f n ≡ o → All P (cons_option o (services_of f ns))) [
      | None ↦ λ is. all_found P f ns all
      | Some row ↦ λ is.
          All-cons P row (services_of f ns) (found_has P (λ (r : Service). r.number == n) row f.services all is) (all_found P f ns all)
    ] refl

listed_least : (f : Flat) (states : ℕ) (of : Option Opened) → All IsShort f.services
    → listing_size (listed_for f states of) ≤ 1064 * length f.services
listed_least f states None short = omega arith
listed_least f states (Some of) short =
    let rows = services_of f (stop_order f of.service) in
    let each = all_found IsShort f (stop_order f of.service) short in
    let room = listing_least (filter (is_in_states states) rows) (All-filter (is_in_states states) IsShort rows each) in
    omega (arith, room, fewer (is_in_states states) rows, few_found f (stop_order f of.service), few_stopped f of.service)

pub dependents_least : (f : Flat) (caller handle states : ℕ) → All IsShort f.services
    → listing_size (dependents_by f caller handle states) ≤ 1064 * length f.services
dependents_least f caller handle states short = listed_least f states (opened f caller handle) short

-- ## Pages

pub all_paged : (P : Service → Type 0) (room : ℕ) (rows : List Service) → All P rows → All P (page_in room rows)
all_paged P room [] all = All-nil P
all_paged P room (row ∷ rows) all =
    let rest = all_paged P (room - size_of row) rows (All-tail P row rows all) in
    elim (nat_le (size_of row) room) as (λ b. All P (cond b (row ∷ page_in (room - size_of row) rows) [])) [
      | true ↦ All-cons P row (page_in (room - size_of row) rows) (All-head P row rows all) rest
      | false ↦ All-nil P
    ]

is_low : (n : ℕ) → n < 2 ^ 32 → min (2 ^ 32 - 1) n ≡ n
is_low n low = omega (arith, low)

last_whole : (none : ℕ) (rows : List Service) → All IsLow rows → last_number none rows ≡ number_of_last none rows
last_whole none [] low = refl
last_whole none (row ∷ rows) low =
    ap (λ n. last_number n rows) (is_low row.number (All-head IsLow row rows low))
    ∙ last_whole row.number rows (All-tail IsLow row rows low)

pub resume_whole : (resume : Option ℕ) (rows : List Service) → All IsLow rows
    → option_map (λ read. last_number read rows) resume ≡ option_map (λ read. number_of_last read rows) resume
resume_whole None rows low = refl
resume_whole (Some read) rows low = ap (λ n. Some n) (last_whole read rows low)
