use Rattle.std.proofs.Common.{ℕ, ◌==◌, ◌&&◌, ◌∙◌, ap, find}
use Rattle.scm_model.specs.declared.flat.Service.{Service}
use Rattle.scm_model.specs.Processes.{is_by}
use Rattle.scm_rules.specs.Reports.{is_reporter}
use Rattle.scm_tables.specs.Tabled.{Tabled}
use Rattle.scm_tables.proofs.tables.Tables.reporting.Goals as goal

pub current_with-requires : goal.current_with-requires
current_with-requires c = c.self.invariant.rising.rising

pub returns : goal.returns
returns c =
    let process = c.args.process in
    c.current_with.ensures
    ∙ ap (λ (n : ℕ). find (λ (row : Service). row.number == n && is_by process row) c.self.inside.services.services) c.reporter.ensures
    ∙ ap (λ (t : Tabled). find (is_reporter c.args.self.now.flat process c.args.service) t.flat.services) c.self.view_is
