-- Reports and ends of processes that are no service's current one.
use Rattle.std.specs.Prelude.{Bool, ◌≡◌, ◌↔◌, true, false, is_none, not}
use Rattle.std.specs.List.{list_any}
use Rattle.scm_model.specs.declared.flat.Flat.{Flat}
use Rattle.scm_model.specs.declared.steps.Answer.{Answer}
use Rattle.scm_model.specs.declared.steps.Answer.TheVariants as answer
use Rattle.scm_model.specs.declared.steps.Step.{Step}
use Rattle.scm_model.specs.declared.steps.Step.TheVariants.{Report, Ended}
use Rattle.scm_model.specs.Entries.{Entry}
use Rattle.scm_model.specs.Processes.{is_by}
use Rattle.scm_rules.specs.Reports.{reporting}

-- whether a step is a report that names no service whose current process it is, or an end of a process that is no service's current one
abbrev pub is_stale : Flat → Step → Bool
is_stale f (Report process service status) = is_none (reporting f process service)
is_stale f (Ended process) = not (list_any (is_by process) f.services)
is_stale f step = false

-- the answer to such a step, and to no other, is that it is stale; it changes no service
pub record LawOfStale (before : Flat) (e : Entry) (told : Answer) (after : Flat) : Type 0 where
  pub stale : (told ≡ answer.Stale) ↔ (is_stale before e.1 ≡ true)
  pub services : is_stale before e.1 ≡ true → after.services ≡ before.services
