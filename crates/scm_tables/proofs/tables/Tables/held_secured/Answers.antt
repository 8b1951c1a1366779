use Rattle.scm_rules.specs.Security.{IsSecured}
use Rattle.scm_tables.proofs.Wording.{held_has}
use Rattle.scm_tables.proofs.tables.Tables.held_secured.Goals as goal

pub returns-clause-secured : goal.returns-clause-secured
returns-clause-secured c =
    rw c.row_in.ensures (held_has IsSecured c.self.inside.services.services c.opened-opened.result c.self.invariant.secured)
