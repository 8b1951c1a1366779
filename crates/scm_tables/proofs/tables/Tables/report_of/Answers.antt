use Rattle.std.proofs.Common.{◌==◌, refl, sym}
use Rattle.scm_model.specs.declared.flat.Service.{Service}
use Rattle.scm_model.specs.Rows.{service_of}
use Rattle.scm_tables.proofs.Failures.{taken_listed}
use Rattle.scm_tables.proofs.Refusing.{taken_told, untaken_stays}
use Rattle.scm_tables.proofs.tables.Tables.report_of.Goals as goal

pub fail-requires-clause-service : goal.fail-requires-clause-service
fail-requires-clause-service c =
    rw (c.failure_of-failed.ensures, c.failed_by.ensures, c.service.ensures, c.take_report_of.ensures.flat)
    (taken_listed c.self.inside.moment c.args.report.now (λ (row : Service). row.number == c.args.service) c.args.self.now.flat.services _
    refl)

pub returns-then-not-is_taken_by-clause-flat : goal.returns-then-not-is_taken_by-clause-flat
returns-then-not-is_taken_by-clause-flat c =
    sym (untaken_stays c.args.report.now c.args.self.now.flat c.args.service c.if-not-is_taken_by.ensures.rising
    (sym c.if-not-is_taken_by.ensures.taken))

pub returns-clause-untaken : goal.returns-clause-untaken
returns-clause-untaken c = λ untaken.
    absurd (untaken (taken_told c.args.report.now (service_of c.args.self.now.flat c.args.service)
    (sym c.if-not-is_taken_by.ensures.taken)))
