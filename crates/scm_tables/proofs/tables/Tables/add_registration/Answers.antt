use Rattle.std.proofs.Common.{refl}
use Rattle.scm_tables.specs.Tabled.{HasShort}
use Rattle.scm_tables.proofs.Wording.{held_has}
use Rattle.scm_tables.proofs.tables.Tables.add_registration.Goals as goal

pub register_in-requires-clause-short : goal.register_in-requires-clause-short
register_in-requires-clause-short c =
    rw c.row_in.ensures (held_has HasShort c.self.inside.services.services c.opened-opened.result c.self.invariant.texts)

pub returns-clause-flat : goal.returns-clause-flat
returns-clause-flat c =
    rw (c.register_in.ensures, c.row_in.ensures, c.opened-opened.ensures, ← c.self.view_is) refl
