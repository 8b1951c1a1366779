use Rattle.std.proofs.Common.{◌∙◌, ap}
use Rattle.scm_model.specs.Rows.{service_of}
use Rattle.scm_tables.specs.Failed.{is_taken_by}
use Rattle.scm_tables.specs.Tabled.{Tabled}
use Rattle.scm_tables.proofs.Numbered.{in_order}
use Rattle.scm_tables.proofs.tables.Tables.is_taken_by.Goals as goal

pub returns-in-Some-clause-taken : goal.returns-in-Some-clause-taken
returns-in-Some-clause-taken c =
    c.takes.ensures
    ∙ ap (is_taken_by c.args.report.now) (c.in-Some.ensures ∙ ap (λ (t : Tabled). service_of t.flat c.args.service) c.self.view_is)

pub returns-in-Some-clause-rising : goal.returns-in-Some-clause-rising
returns-in-Some-clause-rising c = in_order c.self.invariant c.self.view_is

pub returns-in-None-clause-rising : goal.returns-in-None-clause-rising
returns-in-None-clause-rising c = in_order c.self.invariant c.self.view_is
