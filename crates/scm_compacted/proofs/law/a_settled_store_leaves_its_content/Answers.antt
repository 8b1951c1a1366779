use Rattle.journal_store.proofs.Keepers.{only_settled}
use Rattle.scm_compacted.proofs.law.a_settled_store_leaves_its_content.Goals as goal

pub returns : goal.returns
returns g c = only_settled (g.D.Disk.state c.args.store.now)
