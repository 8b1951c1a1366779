use Rattle.std.proofs.Common.{◌∙◌, ap, refl}
use Rattle.scm_tables.specs.Inside.{tabled}
use Rattle.scm_tables.specs.Lines.{first_line}
use Rattle.scm_tables.specs.Tabled.{Tabled}
use Rattle.scm_tables.proofs.Wording.{first_words}
use Rattle.scm_tables.proofs.Keeping.{other_processes}
use Rattle.scm_tables.proofs.tables.Tables.take_words.Goals as goal

pub returns-clause-words : goal.returns-clause-words
returns-clause-words c =
    c.take_words.ensures.words ∙ first_words (tabled c.self.inside).flat c.self.inside.processes.wanted
    ∙ ap (λ (t : Tabled). (first_line t.flat t.flat.wanted).1) c.self.view_is

pub invariant_of-self : goal.invariant_of-self
invariant_of-self c = other_processes c.self.invariant c.take_words.new.self c.take_words.ensures.left refl refl
