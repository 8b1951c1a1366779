use Rattle.std.proofs.Common.{◌∙◌, refl}
use Rattle.std.specs.Prelude.{slice_get}
use Rattle.scm_tables.proofs.Fired.{begun_as, got_startable}
use Rattle.scm_tables.proofs.tables.Tables.restart_at.Goals as goal

pub begin_any-requires-clause-listed : goal.begin_any-requires-clause-listed
begin_any-requires-clause-listed c =
    rw (c.startable-target.ensures, c.row_at.ensures.row) (got_startable c.args.self.now.flat c.args.place _ refl)

pub returns-clause-flat : goal.returns-clause-flat
returns-clause-flat c =
    c.begin_any.ensures.flat ∙ (rw (c.startable-target.ensures, c.row_at.ensures.row)
    (begun_as (slice_get c.args.self.now.flat.services c.args.place) c.args.self.now.flat))
