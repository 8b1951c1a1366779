-- Where some lines lead that are right so far, and what may come next.
use Rattle.std.specs.Prelude.{ℕ, ◌+◌, ◌&&◌, nat_le, nat_lt, Bool, List, [], ◌∷◌, ◌++◌, length, Option, None, Some, bytes_eq, is_none}
use Rattle.std.specs.Prelude.{option_map}
use Rattle.std.specs.Prelude.{if◌then◌else◌}
use Rattle.std.specs.Option.{option_or}
use Rattle.scm_model.specs.declared.flat.Config.{Config}
use Rattle.scm_model.specs.declared.flat.Flat.{Flat}
use Rattle.scm_model.specs.declared.flat.Limits.{Limits}
use Rattle.scm_model.specs.declared.steps.Change.TheVariants.{Created}
use Rattle.scm_model.specs.Entries.{Entry}
use Rattle.record_journal.specs.Entries.{can_replay}
use Rattle.scm_rules.specs.Owed.{owed}
use Rattle.scm_rules.specs.Steps.{may, step_of}
use Rattle.scm_rules.specs.Verdicts.{change_of}
use Rattle.scm_lines.specs.declared.line.Line.{Line}
use Rattle.scm_lines.specs.Entries.{line_of}
use Rattle.scm_lines.specs.Lines.{line_at}
use Rattle.scm_lines.specs.Words.{◌>>=◌}
use Rattle.scm_replay.specs.Outcomes.{step_in}
use Rattle.opening_lines.specs.declared.opening.Opening.{Opening}
use Rattle.opening_lines.specs.Heads.{config_at, group_at, limits_at, moment_at}
use Rattle.trail_text.specs.Histories.{answer_line, first_of}

-- before the limits, the moment, or a group or what follows the groups, and so on; before an answer with the line that is due
pub data At : Type 0 where
  BeforeLimits : At
  BeforeMoment : Limits → At
  InGroups : Opening → At
  InConfigs : Opening → At
  InEntries : Limits → (steps : ℕ) → Flat → At
  BeforeAnswer : (due : List ℕ) → Limits → (steps : ℕ) → Flat → At

-- ## The head

-- no limit is greater than the program's
abbrev pub are_small : Limits → Bool
are_small l =
    nat_le l.services 1024 && nat_le l.handles 1024 && nat_le l.registrations 64 && nat_le l.callers 64
    && nat_le l.processes 128 && nat_le l.controls 16 && nat_le l.steps 16777216 && nat_le l.text 268435456

abbrev pub if_small : Limits → Option At
if_small l = if are_small l then Some (BeforeMoment l) else None

abbrev pub from_moment : Limits → ℕ → Opening
from_moment l moment = record { limits = l; groups = []; configs = []; moment = moment }

abbrev pub with_group : Opening → List ℕ → Opening
with_group o group = record o { groups = o.groups ++ group ∷ [] }

abbrev pub with_config : Opening → Config → Opening
with_config o config = record o { configs = o.configs ++ config ∷ [] }

-- a service more that a manager can begin with
abbrev pub can_add : Opening → Config → Bool
can_add o config = can_replay o.configs (Created config) && nat_lt (length o.configs) o.limits.services

abbrev pub if_added : Opening → Config → Option At
if_added o config = if can_add o config then Some (InConfigs (with_config o config)) else None

abbrev pub config_next : Opening → List ℕ → Option At
config_next o line = config_at line >>= if_added o

abbrev pub group_next : Opening → List ℕ → Option At
group_next o line = option_map (λ group. InGroups (with_group o group)) (group_at line)

-- ## Entries

-- an entry that may come and leaves room for what is owed, if it is the one that the line says
abbrev pub entry_next : Limits → ℕ → Flat → List ℕ → Entry → Option At
entry_next l steps f line e =
    let done = step_of l f e.0 e.1 in
    if bytes_eq (line_of e) line && may l f e.0 e.1 && nat_le (steps + 1 + owed done.flat) l.steps
    then Some (BeforeAnswer (answer_line l f e) l (steps + 1) done.flat) else None

-- the entry that a line says in a state; a failed append is told of a change alone
abbrev pub entry_in : Limits → Flat → Line → Option Entry
entry_in l f line =
    if line.fails && is_none (change_of l f line.step) then None else Some (line.moment, step_in l f line)

abbrev pub step_next : Limits → ℕ → Flat → List ℕ → Option At
step_next l steps f line = line_at line >>= entry_in l f >>= entry_next l steps f line

-- ## Lines

abbrev pub next : At → List ℕ → Option At
next BeforeLimits line = limits_at line >>= if_small
next (BeforeMoment l) line = option_map (λ moment. InGroups (from_moment l moment)) (moment_at line)
next (InGroups o) line = option_or (group_next o line) (option_or (config_next o line) (step_next o.limits 0 (first_of o) line))
next (InConfigs o) line = option_or (config_next o line) (step_next o.limits 0 (first_of o) line)
next (InEntries l steps f) line = step_next l steps f line
next (BeforeAnswer due l steps f) line = if bytes_eq due line then Some (InEntries l steps f) else None

abbrev pub reached_from : At → List (List ℕ) → Option At
reached_from at [] = Some at
reached_from at (line ∷ lines) = next at line >>= λ now. reached_from now lines

-- where lines lead, if each is right after those before it
abbrev pub reached : List (List ℕ) → Option At
reached lines = reached_from BeforeLimits lines

-- how many entries a text has that ends there: none ends before its limits, its moment or an answer
abbrev pub entries_at : At → Option ℕ
entries_at (InGroups o) = Some 0
entries_at (InConfigs o) = Some 0
entries_at (InEntries l steps f) = Some steps
entries_at at = None

-- how many entries some lines tell, if they are a whole text
abbrev pub entries_told : List (List ℕ) → Option ℕ
entries_told lines = reached lines >>= entries_at
