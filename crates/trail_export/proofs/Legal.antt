-- What is written of a legal history is answered as legal.
use Rattle.std.proofs.Common.{ℕ, ◌≡◌, ◌<◌, ◌^◌, ◌&&◌, Bool, true, false, List, [], ◌∷◌, refl, arith}
use Rattle.std.specs.Prelude.{All, IsTrue, Some}
use Rattle.std.specs.List.{AllByRecursion}
use Rattle.std.proofs.lemmas.List.Elements.{recursion_from_All}
use Rattle.scm_model.specs.declared.flat.Config.{Config}
use Rattle.scm_model.specs.declared.flat.Flat.{Flat}
use Rattle.scm_model.specs.declared.flat.Limits.{Limits}
use Rattle.scm_model.specs.declared.steps.Step.{Step}
use Rattle.scm_model.specs.declared.steps.Step.TheVariants.{Call}
use Rattle.scm_model.specs.Entries.{Entry, text_in}
use Rattle.scm_model.specs.Ranges.{in_range}
use Rattle.scm_model.specs.Rows.{is_caller}
use Rattle.scm_rules.specs.Histories.{Legal}
use Rattle.scm_rules.specs.Opening.{CanOpen}
use Rattle.scm_rules.specs.Runs.{IsLegal}
use Rattle.scm_rules.specs.Steps.{keeps_right, may, step_of}
use Rattle.scm_trail.specs.Segments.{IsCoded}
use Rattle.service_record.specs.Spelling.{IsUnit}
use Rattle.scm_lines.specs.Entries.{HasLine}
use Rattle.opening_lines.specs.declared.opening.Opening.{Opening}
use Rattle.opening_lines.specs.Heads.{AreInRange, HasRecord, config_at, config_line, group_at, group_line}
use Rattle.opening_lines.proofs.Again.{config_again, group_again, limits_again, moment_again}
use Rattle.trail_text.specs.Histories.{AreAuditable, TellsLegal, first_of, told}
use Rattle.trail_text.proofs.Right.{exported}
use Rattle.trail_export.specs.Readable.{IsFitting, IsReadable}
use Rattle.trail_export.proofs.Parts.{legal_made}
use Rattle.trail_export.proofs.Said.{IsRanged, line_of_code}

in_range_of : (l : Limits) → AreAuditable l → AreInRange l
in_range_of l small = record {
  services = omega (arith, small.services);
  handles = omega (arith, small.handles);
  registrations = omega (arith, small.registrations);
  callers = omega (arith, small.callers);
  processes = omega (arith, small.processes);
  controls = omega (arith, small.controls);
  steps = omega (arith, small.steps);
  text = omega (arith, small.text);
}

groups_again : (groups : List (List ℕ)) → AllByRecursion (λ group. All IsUnit group) groups
    → AllByRecursion (λ group. group_at (group_line group) ≡ Some group) groups
groups_again [] units = tt
groups_again (group ∷ groups) units = (group_again group units.0, groups_again groups units.1)

configs_again : (configs : List Config) → AllByRecursion HasRecord configs
    → AllByRecursion (λ config. config_at (config_line config) ≡ Some config) configs
configs_again [] records = tt
configs_again (config ∷ configs) records = (config_again config records.0.0 records.0.1, configs_again configs records.1)

-- the text tells it, if its lines can be read
pub tells : (o : Opening) (h : List Entry) → AreAuditable o.limits → CanOpen o.limits o.configs → Legal o.limits (first_of o) h
    → IsReadable o h → TellsLegal o h (told o h)
tells o h small can legal readable = exported o h
    (record {
      small = small;
      can = can;
      limits = limits_again o.limits (in_range_of o.limits small);
      moment = moment_again o.moment readable.moment;
      groups = groups_again o.groups readable.groups;
      configs = configs_again o.configs readable.configs;
    }) legal readable.entries

-- ## They can be

first_true : (a b : Bool) → (a && b) ≡ true → a ≡ true
first_true true b is = refl
first_true false b is = absurd cc

last_true : (a b : Bool) → (a && b) ≡ true → b ≡ true
last_true true b is = is
last_true false b is = absurd cc

-- a request that may come is in its ranges
ranged : (l : Limits) (f : Flat) (moment : ℕ) (step : Step) → IsTrue (may l f moment step) → IsRanged step
ranged l f moment (Call caller asked append) is = last_true (is_caller f caller) (in_range asked)
    (first_true (is_caller f caller && in_range asked) (keeps_right l f (Call caller asked append)) is)
ranged l f moment _ is = tt

lines_of : (l : Limits) (f : Flat) (h : List Entry) → IsLegal l f h → AllByRecursion IsCoded h → text_in h < 2 ^ 32
    → AllByRecursion HasLine h
lines_of l f [] made coded small = tt
lines_of l f (e ∷ es) made coded small = (
  line_of_code e coded.0 (omega (arith, small)) (ranged l f e.0 e.1 made.0),
  lines_of l (step_of l f e.0 e.1).flat es made.1 coded.1 (omega (arith, small)),
)

readable : (o : Opening) (h : List Entry) → Legal o.limits (first_of o) h → IsFitting o → text_in h < 2 ^ 32 → All IsCoded h
    → IsReadable o h
readable o h legal fits small coded = record {
  moment = fits.moment;
  groups = recursion_from_All (All IsUnit) o.groups fits.groups;
  configs = recursion_from_All HasRecord o.configs fits.configs;
  entries = lines_of o.limits (first_of o) h (legal_made o.limits (first_of o) h legal) (recursion_from_All IsCoded h coded) small;
}

-- and so the text tells it
pub tells_coded : (o : Opening) (h : List Entry) → AreAuditable o.limits → CanOpen o.limits o.configs → Legal o.limits (first_of o) h
    → IsFitting o → text_in h < 2 ^ 32 → All IsCoded h → TellsLegal o h (told o h)
tells_coded o h small can legal fits text coded = tells o h small can legal (readable o h legal fits text coded)
