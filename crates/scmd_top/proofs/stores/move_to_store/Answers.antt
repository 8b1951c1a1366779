use Rattle.std.proofs.Common.{sym, ◌∙◌}
use Rattle.journal_store.specs.Compacting.{IsOnly}
use Rattle.scmd_top.proofs.Ends.{not_of_move}
use Rattle.std.proofs.Common.{Some}
use Rattle.scmd_top.proofs.Filed.{opens_last, opens_moved}
use Rattle.scmd_top.proofs.ByStatus.{keeper_settled, move_only, move_settled}
use Rattle.scmd_top.proofs.stores.move_to_store.Goals as goal

pub returns-clause-ran : goal.returns-clause-ran
returns-clause-ran g c = λ is. not_of_move c.move_journal.result (sym c.status_of_move.ensures ∙ is)

pub returns-clause-moved : goal.returns-clause-moved
returns-clause-moved g c = record {
  how = c.move_journal.result;
  status_is = c.status_of_move.ensures;
  journal = c.move_journal.ensures.journal;
  moved = c.move_journal.ensures.moved;
  keeper_cause = c.move_journal.ensures.keeper_cause;
  store_cause = c.move_journal.ensures.store_cause;
}

pub returns-clause-keeper_settled : goal.returns-clause-keeper_settled
returns-clause-keeper_settled g c =
    keeper_settled (g.K.Keeper.faults c.args.keeper.now) (g.K.Keeper.faults c.move_journal.new.keeper)
    (g.K.Keeper.settled c.move_journal.new.keeper) c.move_journal.result c.move_journal.ensures.keeper_settled

pub returns-clause-only : goal.returns-clause-only
returns-clause-only g c = λ done.
    move_only (g.Q.Keeper.faults c.args.store.now) (g.Q.Keeper.faults c.move_journal.new.store)
    (IsOnly (g.Q.Keeper.held c.move_journal.new.store) (g.Q.Keeper.crashes c.move_journal.new.store).leaves)
    (g.Q.Keeper.settled c.move_journal.new.store) c.move_journal.result c.move_journal.ensures.only (sym c.status_of_move.ensures ∙ done)

pub returns-clause-settled : goal.returns-clause-settled
returns-clause-settled g c = λ other was.
    move_settled g.Q.Keeper.settled c.args.store.now c.move_journal.new.store (g.Q.Keeper.faults c.args.store.now)
    (g.Q.Keeper.faults c.move_journal.new.store)
    (IsOnly (g.Q.Keeper.held c.move_journal.new.store) (g.Q.Keeper.crashes c.move_journal.new.store).leaves) c.move_journal.result
    c.move_journal.ensures.only c.move_journal.ensures.order (λ done. other (c.status_of_move.ensures ∙ done)) was

pub returns-clause-file : goal.returns-clause-file
returns-clause-file g c =
    rw c.status_of_move.ensures
    (opens_moved (Some c.args.from.now) (g.K.Keeper.asked c.args.keeper.now) (g.K.Keeper.asked c.move_journal.new.keeper)
    c.move_journal.result c.move_journal.ensures.keeper_asked)

pub returns-clause-store_file : goal.returns-clause-store_file
returns-clause-store_file g c =
    rw c.status_of_move.ensures
    (opens_last (Some c.args.to.now) (g.Q.Keeper.asked c.args.store.now) (g.Q.Keeper.asked c.move_journal.new.store)
    c.move_journal.result c.move_journal.ensures.asked)
