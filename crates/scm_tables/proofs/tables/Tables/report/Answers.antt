use Rattle.std.proofs.Common.{◌≢◌, ◌∙◌, Option, ap, subst, sym}
use Rattle.scm_model.specs.declared.flat.Service.{Service}
use Rattle.scm_model.specs.declared.steps.Answer.TheVariants as answer
use Rattle.scm_rules.specs.Reports.{report_told, with_report_of}
use Rattle.scm_tables.proofs.tables.Tables.report.Goals as goal

pub returns-in-Some-clause-flat : goal.returns-in-Some-clause-flat
returns-in-Some-clause-flat c =
    c.report_of.ensures.flat
    ∙ ap (λ (o : Option Service). with_report_of c.args.self.now.flat o c.args.report.now) c.in-Some.ensures

pub returns-in-None-clause-flat : goal.returns-in-None-clause-flat
returns-in-None-clause-flat c = ap (λ (o : Option Service). with_report_of c.args.self.now.flat o c.args.report.now) c.in-None.ensures

pub returns-in-Some-clause-untaken : goal.returns-in-Some-clause-untaken
returns-in-Some-clause-untaken c = λ untaken.
    c.report_of.ensures.untaken (subst (λ (o : Option Service). report_told o c.args.report.now ≢ answer.Done) (sym c.in-Some.ensures)
    untaken)
