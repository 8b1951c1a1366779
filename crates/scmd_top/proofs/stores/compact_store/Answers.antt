use Rattle.std.proofs.Common.{sym, ◌∙◌}
use Rattle.journal_store.specs.Compacting.{IsOnly}
use Rattle.scmd_top.proofs.Ends.{not_of_compact}
use Rattle.std.proofs.Common.{Some}
use Rattle.scmd_top.proofs.Filed.{opens_compact}
use Rattle.scmd_top.proofs.ByStatus.{compact_only, compact_settled}
use Rattle.scmd_top.proofs.stores.compact_store.Goals as goal

pub returns-clause-ran : goal.returns-clause-ran
returns-clause-ran g c = λ is. not_of_compact c.compact.result (sym c.status_of_compact.ensures ∙ is)

pub returns-clause-compacted : goal.returns-clause-compacted
returns-clause-compacted g c = record {
  how = c.compact.result;
  status_is = c.status_of_compact.ensures;
  compacted = c.compact.ensures.compacted;
  cause = c.compact.ensures.cause;
}

pub returns-clause-only : goal.returns-clause-only
returns-clause-only g c = λ done.
    compact_only (g.Q.Keeper.faults c.args.store.now) (g.Q.Keeper.faults c.compact.new.store)
    (IsOnly (g.Q.Keeper.held c.compact.new.store) (g.Q.Keeper.crashes c.compact.new.store).leaves) (g.Q.Keeper.settled c.compact.new.store)
    c.compact.result c.compact.ensures.only (sym c.status_of_compact.ensures ∙ done)

pub returns-clause-settled : goal.returns-clause-settled
returns-clause-settled g c = λ other.
    compact_settled (g.Q.Keeper.faults c.args.store.now) (g.Q.Keeper.faults c.compact.new.store)
    (IsOnly (g.Q.Keeper.held c.compact.new.store) (g.Q.Keeper.crashes c.compact.new.store).leaves) (g.Q.Keeper.settled c.compact.new.store)
    c.compact.result c.compact.ensures.only (λ done. other (c.status_of_compact.ensures ∙ done))

pub returns-clause-file : goal.returns-clause-file
returns-clause-file g c =
    rw c.status_of_compact.ensures
    (opens_compact (Some c.args.path.now) (g.Q.Keeper.asked c.args.store.now) (g.Q.Keeper.asked c.compact.new.store) c.compact.result
    c.compact.ensures.asked)
