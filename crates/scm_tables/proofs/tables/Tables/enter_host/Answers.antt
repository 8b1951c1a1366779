use Rattle.std.proofs.Common.{ℕ, ◌∙◌, ap, map}
use Rattle.scm_model.specs.Notices.{pid_in}
use Rattle.scm_model.specs.Processes.{is_launched, process_of}
use Rattle.scm_model.specs.Rows.{service_of}
use Rattle.start_plan.specs.Entered.{notified_of_start, started_if}
use Rattle.scm_tables.specs.Tabled.{Tabled}
use Rattle.scm_tables.proofs.tables.Tables.enter_host.Goals as goal

pub returns-clause-launched : goal.returns-clause-launched
returns-clause-launched c =
    c.is_launched-launched.ensures ∙ ap (λ (t : Tabled). is_launched (process_of t.flat c.args.host)) c.self.view_is

pub returns-clause-flat : goal.returns-clause-flat
returns-clause-flat c = λ words.
    let f = c.args.self.now.flat in
    let number = c.args.service in
    c.start_by.ensures.flat
    ∙ ap (λ (pid : ℕ). record f {
      services = map (started_if number c.args.host) f.services;
      registrations = notified_of_start number c.args.host pid (service_of f number) f.registrations;
    }) (c.pid_of-pid.ensures ∙ ap (λ (t : Tabled). pid_in (process_of t.flat c.args.host)) c.self.view_is)
