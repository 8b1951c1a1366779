use Rattle.record_table.specs.Recorded.{is_named}
use Rattle.scm_rules.specs.Security.{IsSecured}
use Rattle.scm_tables.proofs.Wording.{found_has}
use Rattle.scm_tables.proofs.tables.Tables.named_secured.Goals as goal

pub returns-clause-secured : goal.returns-clause-secured
returns-clause-secured c =
    rw c.named_in.ensures (found_has IsSecured (is_named c.args.name.now) c.self.inside.services.services c.self.invariant.secured)
