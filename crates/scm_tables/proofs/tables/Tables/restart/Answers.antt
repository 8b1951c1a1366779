use Rattle.std.proofs.Common.{◌==◌, refl}
use Rattle.scm_model.specs.declared.flat.Service.{Service}
use Rattle.scm_tables.proofs.Fired.{found_startable}
use Rattle.scm_tables.proofs.tables.Tables.restart.Goals as goal

pub begin_any-requires-clause-listed : goal.begin_any-requires-clause-listed
begin_any-requires-clause-listed c =
    rw (c.startable-target.ensures, c.service.ensures) (found_startable c.args.self.now.flat
    (λ (row : Service). row.number == c.args.service) _ refl)
