use Rattle.std.proofs.Common.{List, Option, ℕ, Err, IfSome, Some, refl, subst, sym}
use Rattle.std.proofs.lemmas.Result.{err_from_is_err_and}
use Rattle.record_journal.specs.Opening.{AsksAt, LeavesAll, Restores}
use Rattle.record_journal.specs.declared.opening.JournalFault.{JournalFault}
use Rattle.record_journal.specs.declared.opening.Restored.{Restored}
use Rattle.scm_compacted.proofs.Asking.{asks_still}
use Rattle.scm_compacted.proofs.Opened.{compact_of, not_opened, opened_well, opened_without_memory}
use Rattle.scm_compacted.proofs.compacting.compact_text_at.Goals as goal

pub returns-in_err-configs-clause-journal : goal.returns-in_err-configs-clause-journal
returns-in_err-configs-clause-journal g c =
    let p = err_from_is_err_and c.from_residual.result c.from_residual.ensures.1 in
    let old = g.K.Keeper.held c.args.keeper.now in
    let now = g.K.Keeper.held c.open_journal.new.keeper in
    rw p.1
    (not_opened old now p.0
    (subst (λ (fault : JournalFault). IfSome old (λ bytes. Restores bytes (Err fault))) (sym p.2) c.in_err-configs.ensures.answer)
    (subst (λ (fault : JournalFault). LeavesAll old now (Err fault)) (sym p.2) c.in_err-configs.ensures.leaves))

pub returns-in-Ok-clause-text : goal.returns-in-Ok-clause-text
returns-in-Ok-clause-text g c =
    compact_of (g.K.Keeper.held c.args.keeper.now) c.in_ok-configs.field-0 _ c.in_ok-configs.ensures.answer c.in_ok-configs.ensures.begins
    (c.in-Ok.ensures.fits refl) c.in-Ok.ensures.text

pub returns-in-Ok-clause-journal : goal.returns-in-Ok-clause-journal
returns-in-Ok-clause-journal g c =
    opened_well (g.K.Keeper.held c.args.keeper.now) (g.K.Keeper.held c.open_journal.new.keeper) c.in_ok-configs.field-0 c.in-Ok.text
    c.in_ok-configs.ensures.answer c.in_ok-configs.ensures.leaves

pub returns-in-Err-clause-journal : goal.returns-in-Err-clause-journal
returns-in-Err-clause-journal g c =
    opened_without_memory (g.K.Keeper.held c.args.keeper.now) (g.K.Keeper.held c.open_journal.new.keeper) c.in_ok-configs.field-0
    c.in_ok-configs.ensures.answer c.in_ok-configs.ensures.leaves

pub returns-in_err-configs-clause-asked : goal.returns-in_err-configs-clause-asked
returns-in_err-configs-clause-asked g c =
    let p = err_from_is_err_and c.from_residual.result c.from_residual.ensures.1 in
    let path = Some c.args.path.now in
    let old = g.K.Keeper.asked c.args.keeper.now in
    let now = g.K.Keeper.asked c.open_journal.new.keeper in
    rw p.1
    (asks_still Restored (List ℕ) path old now p.0
    (subst (λ (fault : JournalFault). AsksAt {T = Restored} path old now (Err fault)) (sym p.2) c.in_err-configs.ensures.asked))
