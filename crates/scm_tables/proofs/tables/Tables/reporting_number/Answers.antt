use Rattle.std.proofs.Common.{ℕ, ◌≡◌, ◌==◌, ◌&&◌, ◌∙◌, Some, ap, find, sym}
use Rattle.scm_model.specs.declared.flat.Service.{Service}
use Rattle.scm_model.specs.Processes.{is_by}
use Rattle.scm_rules.specs.Reports.{is_reporter, reporting}
use Rattle.scm_tables.specs.Tabled.{Tabled}
use Rattle.scm_tables.proofs.Currents.{found_again}
use Rattle.scm_tables.proofs.Numbered.{in_order}
use Rattle.scm_tables.proofs.tables.Tables.reporting_number.Goals as goal

pub current_with-requires : goal.current_with-requires
current_with-requires c = c.self.invariant.rising.rising

pub returns-in-Some : goal.returns-in-Some
returns-in-Some c =
    let f = c.args.self.now.flat in
    let process = c.args.process in
    let found : Some c.in-Some.row.now ≡ reporting f process c.args.service =
    c.in-Some.ensures
    ∙ ap (λ (n : ℕ). find (λ (row : Service). row.number == n && is_by process row) c.self.inside.services.services) c.reporter.ensures
    ∙ ap (λ (t : Tabled). find (is_reporter f process c.args.service) t.flat.services) c.self.view_is in
    found_again f.services (in_order c.self.invariant c.self.view_is) (is_reporter f process c.args.service) c.in-Some.row.now (sym found)
    ∙ found

pub returns-in-None : goal.returns-in-None
returns-in-None c =
    let process = c.args.process in
    c.in-None.ensures
    ∙ ap (λ (n : ℕ). find (λ (row : Service). row.number == n && is_by process row) c.self.inside.services.services) c.reporter.ensures
    ∙ ap (λ (t : Tabled). find (is_reporter c.args.self.now.flat process c.args.service) t.flat.services) c.self.view_is
