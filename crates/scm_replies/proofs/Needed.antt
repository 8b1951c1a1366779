-- Within the limits 32 bits hold every size that is needed, so it is returned as it is.
use Rattle.std.proofs.Common.{ℕ, ◌≡◌, ◌<◌, ◌≤◌, ◌^◌, ◌-◌, List, Option, None, Some, length, refl, arith}
use Rattle.std.specs.Prelude.{All, IfSome, min}
use Rattle.std.proofs.lemmas.List.Elements.{All-weaker}
use Rattle.scm_text.specs.Fold.{same_text}
use Rattle.scm_model.specs.declared.flat.Flat.{Flat}
use Rattle.scm_model.specs.declared.flat.Limits.{Limits}
use Rattle.scm_model.specs.declared.flat.LockRow.{LockRow}
use Rattle.scm_model.specs.declared.flat.Principal.{Principal}
use Rattle.scm_model.specs.declared.flat.Principal.TheVariants.{Admin, User}
use Rattle.scm_model.specs.declared.flat.Service.{Service}
use Rattle.scm_model.specs.declared.calls.Request.{Request}
use Rattle.scm_model.specs.declared.calls.Request.TheVariants as request
use Rattle.scm_model.specs.Rows.{displayed, held_service, named}
use Rattle.service_listing.specs.Layout.{listing_size}
use Rattle.service_record.specs.Checks.{check_new}
use Rattle.scm_rules.specs.EnumDependents.{dependents_by}
use Rattle.scm_rules.specs.Locks.{lock_size, owner_of, principal_name}
use Rattle.scm_rules.specs.OtherName.{display_by_name, display_in, name_by_display, name_in, units_of}
use Rattle.scm_rules.specs.QueryConfig.{shown_by, shown_in, size_in}
use Rattle.scm_rules.specs.QueryConfig2.{level_in}
use Rattle.scm_runs.specs.Sizes.{IsToldWhole}
use Rattle.scm_runs.proofs.Sizes.{all_short, told_whole}
use Rattle.scm_replies.specs.Sizes.{HasUuids, config_size, greatest_size, services_left, name_units, needed_size}
use Rattle.scm_replies.proofs.Counted.{IsFew}
use Rattle.scm_replies.proofs.Levels.{HasShortLevels, level_fits, levels_short}
use Rattle.scm_replies.proofs.Listings.{IsLow, IsShort, dependents_least, found_some, held_some}
use Rattle.scm_rules.specs.Security.{IsSecured}
use Rattle.scm_rules.proofs.Written.{security_least}

-- few services, with short texts, low numbers and written security descriptors
pub record IsWithinLimits (f : Flat) : Type 0 where
  pub few : length f.services ≤ 1024
  pub short : All IsShort f.services
  pub whole : All IsToldWhole f.services
  pub levels : All (λ (row : Service). HasShortLevels row.config) f.services
  pub low : All IsLow f.services
  pub uuids : All HasUuids f.services
  pub secured : All IsSecured f.services

pub within_limits : (l : Limits) → l.services ≤ 1024 → (f : Flat) → IsFew l f → f.next.service ≤ 2 ^ 32 → All HasUuids f.services
    → IsWithinLimits f
within_limits l most f is next uuids =
    let services = is.sound.services in
    record {
      few = (let few = is.few in omega (arith, few, most));
      short = all_short f is.sound;
      whole = told_whole f is.sound;
      levels = All-weaker (λ (row : Service). check_new row.config None ≡ 0) (λ (row : Service). HasShortLevels row.config)
          (λ row e. levels_short row.config e) f.services services.configs;
      low = All-weaker (λ (row : Service). row.number < f.next.service) IsLow (λ row less. omega (arith, less, next)) f.services
          services.numbered.below;
      uuids = uuids;
      secured = services.secured;
    }

-- ## How great the sizes are

config_least : (found : Option Service) → IfSome found IsShort → config_size found ≤ 269380
config_least None short = omega arith
config_least (Some row) short =
    let path = short.path in
    let group = short.group in
    let needs = short.needs in
    let display = short.display in
    omega (arith, path, group, needs, display)

level_least : (level : ℕ) (found : Option Service) → IfSome found (λ row. HasShortLevels row.config) → IfSome found HasUuids
    → length (level_in level found) ≤ 4630
level_least level None short uuids = omega arith
level_least level (Some row) short uuids = level_fits level row.config short uuids

principal_least : (principal : Principal) → lock_size (principal_name principal) ≤ 24
principal_least Admin = omega arith
principal_least User = omega arith

lock_least : (f : Flat) (held : Option LockRow) → lock_size (owner_of f held) ≤ 24
lock_least f None = omega arith
lock_least f (Some row) = principal_least _

display_least : (found : Option Service) → IfSome found IsShort → name_units (display_in found) ≤ 256
display_least None short = omega arith
display_least (Some row) short = short.display

name_least : (found : Option Service) → IfSome found IsShort → name_units (name_in found) ≤ 256
name_least None short = omega arith
name_least (Some row) short = short.name

enumeration_least : (n : ℕ) → min 262144 n ≤ 262144
enumeration_least n = omega arith

few_dependents_least : (f : Flat) (caller handle states : ℕ) → IsWithinLimits f
    → listing_size (dependents_by f caller handle states) ≤ 1089536
few_dependents_least f caller handle states within =
    let few = within.few in
    omega (arith, dependents_least f caller handle states within.short, few)

pub greatest : (f : Flat) (caller : ℕ) (asked : Request) → IsWithinLimits f → needed_size f caller asked ≤ greatest_size asked
greatest f caller (request.EnumDependents handle states size) within = few_dependents_least f caller handle states within
greatest f caller (request.EnumServices handle kinds states size resume) within =
    enumeration_least (listing_size (services_left f kinds states size resume))
greatest f caller (request.QueryConfig handle size) within =
    config_least (held_service f caller handle) (held_some IsShort f caller handle within.short)
greatest f caller (request.QueryLock handle size) within = lock_least f f.lock
greatest f caller (request.DisplayName handle name size) within =
    display_least (named f name) (found_some IsShort (λ (row : Service). same_text row.config.name name) f.services within.short)
greatest f caller (request.KeyName handle display size) within =
    name_least (displayed f display) (found_some IsShort (λ (row : Service). same_text row.config.display display) f.services within.short)
greatest f caller (request.QueryConfig2 handle level size) within =
    level_least level (held_service f caller handle)
    (held_some (λ (row : Service). HasShortLevels row.config) f caller handle within.levels)
    (held_some HasUuids f caller handle within.uuids)
greatest f caller (request.QueryStatusEx handle level size) within = omega arith
greatest f caller (request.QuerySecurity handle parts size) within =
    security_least parts (held_service f caller handle) (held_some IsSecured f caller handle within.secured)
greatest f caller asked within = omega arith

pub fits : (asked : Request) → greatest_size asked < 2 ^ 32
fits (request.EnumDependents handle states size) = omega arith
fits (request.EnumServices handle kinds states size resume) = enumeration_held 262144 (omega arith)
  where
    enumeration_held : (n : ℕ) → n ≤ 262144 → n < 2 ^ 32
    enumeration_held n most = omega (arith, most)
fits (request.QueryConfig handle size) = omega arith
fits (request.QueryLock handle size) = omega arith
fits (request.DisplayName handle name size) = omega arith
fits (request.KeyName handle display size) = omega arith
fits (request.QueryConfig2 handle level size) = omega arith
fits (request.QueryStatusEx handle level size) = omega arith
fits (request.QuerySecurity handle parts size) = omega arith
fits asked = omega arith

pub held : (f : Flat) (caller : ℕ) (asked : Request) → IsWithinLimits f → needed_size f caller asked < 2 ^ 32
held f caller asked within = omega (arith, greatest f caller asked within, fits asked)

-- ## So they are returned whole

-- a number that 32 bits hold isn't cut off
pub held_whole : (n : ℕ) → n < 2 ^ 32 → min (2 ^ 32 - 1) n ≡ n
held_whole n low = omega (arith, low)

config_whole : (found : Option Service) → IfSome found IsToldWhole → size_in (shown_in found) ≡ config_size found
config_whole None whole = refl
config_whole (Some row) whole = whole.config

display_whole : (found : Option Service) → IfSome found IsToldWhole → units_of (display_in found) ≡ name_units (display_in found)
display_whole None whole = refl
display_whole (Some row) whole = whole.display

name_whole : (found : Option Service) → IfSome found IsToldWhole → units_of (name_in found) ≡ name_units (name_in found)
name_whole None whole = refl
name_whole (Some row) whole = whole.name

pub config_returned : (f : Flat) (caller handle : ℕ) → IsWithinLimits f
    → size_in (shown_by f caller handle) ≡ config_size (held_service f caller handle)
config_returned f caller handle within = config_whole (held_service f caller handle) (held_some IsToldWhole f caller handle within.whole)

pub display_returned : (f : Flat) (name : List ℕ) → IsWithinLimits f
    → units_of (display_by_name f name) ≡ name_units (display_by_name f name)
display_returned f name within =
    display_whole (named f name) (found_some IsToldWhole (λ (row : Service). same_text row.config.name name) f.services within.whole)

pub name_returned : (f : Flat) (display : List ℕ) → IsWithinLimits f
    → units_of (name_by_display f display) ≡ name_units (name_by_display f display)
name_returned f display within =
    name_whole (displayed f display)
    (found_some IsToldWhole (λ (row : Service). same_text row.config.display display) f.services within.whole)
