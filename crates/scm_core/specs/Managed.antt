-- What contracts see of a manager.
use Rattle.std.specs.Prelude.{ℕ, ◌≡◌, ◌≤◌, ◌<◌, ◌+◌, ◌^◌, List, Option, None, Some, option_map}
use Rattle.scm_text.specs.TextWithRoom.{TextWithRoom}
use Rattle.scm_model.specs.declared.flat.Flat.{Flat}
use Rattle.scm_model.specs.declared.flat.Limits.{Limits}
use Rattle.scm_model.specs.declared.flat.Service.{Service}
use Rattle.scm_model.specs.declared.steps.Step.{Step}
use Rattle.scm_model.specs.declared.steps.Step.TheVariants.{Joined, Call, LaunchTaken, Raised, Tick}
use Rattle.scm_model.specs.Entries.{unkept}
use Rattle.scm_model.specs.Rows.{held_service}
use Rattle.scm_rules.specs.Launches.{first_wanted}
use Rattle.scm_rules.specs.Steps.{step_of}
use Rattle.scm_tables.specs.Lines.{first_line}

-- the flat state, the limits, how many steps were made and how much text they had, and the step that room was made for
pub record Managed : Type 0 where
  pub flat : Flat
  pub limits : Limits
  pub steps : ℕ
  pub text : ℕ
  pub room : Option Step

-- room was made for the step, where it may add a row or begin what is due or raised; the others use none
abbrev pub WasMadeFor : Option Step → Step → Type 0
WasMadeFor room (Joined principal) = room ≡ Some (Joined principal)
WasMadeFor room (Call caller asked append) = room ≡ Some (unkept (Call caller asked append))
WasMadeFor room Tick = room ≡ Some Tick
WasMadeFor room (Raised caller subtype) = room ≡ Some (Raised caller subtype)
WasMadeFor room step = Unit {0}

-- no limit is greater than these; a step gives at most 2^12 of any number, and a number has 64 bits, so there are fewer than 2^50 steps
pub record AreSmall (limits : Limits) : Type 0 where
  pub services : limits.services ≤ 1024
  pub handles : limits.handles ≤ 1024
  pub registrations : limits.registrations ≤ 64
  pub callers : limits.callers ≤ 64
  pub processes : limits.processes ≤ 128
  pub controls : limits.controls ≤ 16
  pub steps : limits.steps < 2 ^ 50
  pub text : limits.text ≤ 2 ^ 62

-- the process of the service that a caller's handle is of
abbrev pub process_held : Flat → ℕ → ℕ → Option ℕ
process_held f caller handle = option_map (λ (row : Service). row.process) (held_service f caller handle)

-- ## A launch that is taken with its line

-- nothing is wanted, and nothing changes; or the launch that is wanted first is taken in a step, and its line handed out
abbrev pub TakesLaunch : Managed → Managed → ℕ → TextWithRoom → TextWithRoom → Option (ℕ × List (List ℕ)) → Type 0
TakesLaunch old new moment path path_now None = (first_wanted old.flat.wanted ≡ None) × (new ≡ old) × (path_now ≡ path)
TakesLaunch old new moment path path_now (Some taken) =
    (first_wanted old.flat.wanted ≡ Some taken.0)
    × (path_now ≡ record { units = (first_line old.flat old.flat.wanted).0; room = path.room })
    × (taken.1 ≡ (first_line old.flat old.flat.wanted).1)
    × (new ≡ record old { flat = (step_of old.limits old.flat moment LaunchTaken).flat; steps = old.steps + 1; room = None })
