-- What the lines of an opening lead to, before the first entry.
use Rattle.std.specs.Prelude.{ℕ, ◌≡◌, Bool, true, false, List, [], length, Option, None, Some}
use Rattle.std.specs.Option.{option_or}
use Rattle.scm_model.specs.declared.flat.Limits.{Limits}
use Rattle.scm_lines.specs.Words.{◌>>=◌}
use Rattle.scm_rules.specs.Opening.{CanOpen}
use Rattle.opening_lines.specs.declared.opening.Opening.{Opening}
use Rattle.trail_text.specs.Audits.{At, BeforeLimits, BeforeMoment, InConfigs, InGroups, config_next, group_next, next, step_next}
use Rattle.trail_text.specs.Histories.{AreAuditable, first_of}
use Rattle.trail_audit.specs.declared.head.Head.{Head}
use Rattle.trail_audit.specs.declared.head.Lists.{Lists}
use Rattle.trail_audit.specs.declared.head.Stage.{Stage}
use Rattle.trail_audit.specs.declared.head.Stage.TheVariants as stages
use Rattle.trail_audit.specs.declared.head.Start.{Start}

-- ## Where they lead

abbrev pub opening_of : Start → Lists → Opening
opening_of start lists = record {
  limits = start.limits;
  moment = start.moment;
  groups = lists.groups;
  configs = lists.configs;
}

abbrev pub stage_at : Stage → Lists → At
stage_at stages.BeforeLimits lists = BeforeLimits
stage_at (stages.BeforeMoment limits) lists = BeforeMoment limits
stage_at (stages.InGroups start) lists = InGroups (opening_of start lists)
stage_at (stages.InConfigs start) lists = InConfigs (opening_of start lists)

abbrev pub head_at : Head → At
head_at head = stage_at head.stage head.lists

-- the lists begin after the moment
abbrev pub start_of : Stage → Option Start
start_of stages.BeforeLimits = None
start_of (stages.BeforeMoment limits) = None
start_of (stages.InGroups start) = Some start
start_of (stages.InConfigs start) = Some start

-- ## Which lines may come

-- where a line of the opening leads
abbrev pub head_next : At → List ℕ → Option At
head_next (InGroups o) line = option_or (group_next o line) (config_next o line)
head_next (InConfigs o) line = config_next o line
head_next at line = next at line

-- where the line of the first entry leads
abbrev pub first_next : Opening → List ℕ → Option At
first_next o line = step_next o.limits 0 (first_of o) line

-- ## What holds

-- nothing is listed
pub record IsUnlisted (lists : Lists) : Type 0 where
  pub groups : lists.groups ≡ []
  pub configs : lists.configs ≡ []
  pub services : lists.services ≡ 0

-- a manager can begin with what is listed
pub record CanStart (limits : Limits) (lists : Lists) : Type 0 where
  pub small : AreAuditable limits
  pub can : CanOpen limits lists.configs
  pub services : lists.services ≡ length lists.configs

abbrev pub IsSoundAt : Stage → Lists → Type 0
IsSoundAt stages.BeforeLimits lists = IsUnlisted lists
IsSoundAt (stages.BeforeMoment limits) lists = AreAuditable limits × IsUnlisted lists
IsSoundAt (stages.InGroups start) lists = CanStart start.limits lists
IsSoundAt (stages.InConfigs start) lists = CanStart start.limits lists

abbrev pub IsSound : Head → Type 0
IsSound head = IsSoundAt head.stage head.lists

-- a line that may come is taken, and any other changes nothing
abbrev pub Takes : Option At → (old new : Head) → (right : Bool) → Type 0
Takes led old new true = (led ≡ Some (head_at new)) × IsSound new
Takes led old new false = (led ≡ None) × (new ≡ old)
