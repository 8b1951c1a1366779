use Rattle.std.proofs.Common.{◌∙◌, ap, refl}
use Rattle.scm_rules.specs.Launches.{process_of}
use Rattle.scm_tables.specs.Tabled.{Tabled}
use Rattle.scm_tables.proofs.Keeping.{other_processes}
use Rattle.scm_tables.proofs.tables.Tables.remove_process.Goals as goal

pub returns-clause-flat : goal.returns-clause-flat
returns-clause-flat c = rw (← c.self.view_is, c.remove.ensures.left) refl

pub returns-clause-absent : goal.returns-clause-absent
returns-clause-absent c = λ none.
    rw (← c.self.view_is, c.remove.ensures.absent (ap (λ (t : Tabled). process_of t.flat c.args.process) c.self.view_is ∙ none)) refl

pub invariant_of-self : goal.invariant_of-self
invariant_of-self c = other_processes c.self.invariant c.remove.new.self c.remove.ensures.left refl refl
