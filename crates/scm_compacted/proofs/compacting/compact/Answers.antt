use Rattle.std.proofs.Common.{List, ℕ, Err, Some, subst, sym}
use Rattle.std.proofs.lemmas.Result.{err_from_is_err_and}
use Rattle.record_journal.specs.Opening.{AsksAt}
use Rattle.record_journal.specs.declared.opening.JournalFault.{JournalFault}
use Rattle.scm_compacted.proofs.Asking.{asks_still}
use Rattle.scm_compacted.proofs.Opened.{Reads, not_compacted, not_replaced, replaced}
use Rattle.scm_compacted.proofs.Leaving.{compacting, only_opened}
use Rattle.scm_compacted.proofs.compacting.compact.Goals as goal

pub returns-in_err-text-clause-compacted : goal.returns-in_err-text-clause-compacted
returns-in_err-text-clause-compacted g c =
    let p = err_from_is_err_and c.from_residual.result c.from_residual.ensures.1 in
    let old = g.Q.Keeper.held c.args.store.now in
    let now = g.Q.Keeper.held c.compact_text_at.new.keeper in
    rw p.1
    (not_compacted old now p.0
    (subst (λ (fault : JournalFault). Reads (Err fault) old now) (sym p.2) c.in_err-text.ensures.journal))

pub returns-in-Ok-clause-compacted : goal.returns-in-Ok-clause-compacted
returns-in-Ok-clause-compacted g c =
    replaced (g.Q.Keeper.held c.args.store.now) (g.Q.Keeper.held c.compact_text_at.new.keeper) (g.Q.Keeper.held c.replace-how.new.self) _
    c.in_ok-text.ensures.text c.in_ok-text.ensures.journal (rw (← c.as_slice.ensures) c.in-Ok.ensures.bytes)

pub returns-in-Err-clause-compacted : goal.returns-in-Err-clause-compacted
returns-in-Err-clause-compacted g c =
    not_replaced (g.Q.Keeper.held c.args.store.now) (g.Q.Keeper.held c.compact_text_at.new.keeper)
    (g.Q.Keeper.held c.replace-how.new.self) _ _ c.in_ok-text.ensures.text c.in_ok-text.ensures.journal
    (rw (← c.as_slice.ensures) c.in-Err.ensures.bytes)

pub returns-in_err-text-clause-moments : goal.returns-in_err-text-clause-moments
returns-in_err-text-clause-moments g c =
    only_opened (g.Q.Keeper.held c.args.store.now) (g.Q.Keeper.crashes c.args.store.now) (g.Q.Keeper.crashes c.compact_text_at.new.keeper)
    c.compact_text_at.ensures.moments

pub returns-in-Ok-clause-moments : goal.returns-in-Ok-clause-moments
returns-in-Ok-clause-moments g c =
    compacting (g.Q.Keeper.held c.args.store.now) (g.Q.Keeper.held c.compact_text_at.new.keeper) c.in_ok-text.text
    (g.Q.Keeper.crashes c.args.store.now) (g.Q.Keeper.crashes c.compact_text_at.new.keeper) (g.Q.Keeper.crashes c.replace-how.new.self)
    c.in_ok-text.ensures.text c.in_ok-text.ensures.journal c.compact_text_at.ensures.moments
    (rw (← c.as_slice.ensures) c.replace-how.ensures.moments)

pub returns-in-Err-clause-moments : goal.returns-in-Err-clause-moments
returns-in-Err-clause-moments g c =
    compacting (g.Q.Keeper.held c.args.store.now) (g.Q.Keeper.held c.compact_text_at.new.keeper) c.in_ok-text.text
    (g.Q.Keeper.crashes c.args.store.now) (g.Q.Keeper.crashes c.compact_text_at.new.keeper) (g.Q.Keeper.crashes c.replace-how.new.self)
    c.in_ok-text.ensures.text c.in_ok-text.ensures.journal c.compact_text_at.ensures.moments
    (rw (← c.as_slice.ensures) c.replace-how.ensures.moments)

pub returns-in_err-text-clause-asked : goal.returns-in_err-text-clause-asked
returns-in_err-text-clause-asked g c =
    let p = err_from_is_err_and c.from_residual.result c.from_residual.ensures.1 in
    let path = Some c.args.path.now in
    let old = g.Q.Keeper.asked c.args.store.now in
    let now = g.Q.Keeper.asked c.compact_text_at.new.keeper in
    rw p.1
    (asks_still (List ℕ) (Unit {0}) path old now p.0
    (subst (λ (fault : JournalFault). AsksAt {T = List ℕ} path old now (Err fault)) (sym p.2) c.in_err-text.ensures.asked))
