use Rattle.std.proofs.Common.{Err, subst, sym}
use Rattle.std.proofs.lemmas.Result.{err_from_is_err_and}
use Rattle.outside.specs.Asked.{text_of}
use Rattle.record_journal.specs.Opening.{AsksAt}
use Rattle.record_journal.specs.declared.opening.JournalFault.{JournalFault}
use Rattle.record_journal.specs.declared.opening.Restored.{Restored}
use Rattle.scm_restored.specs.declared.Opened.{Opened}
use Rattle.scm_restored.proofs.Asking.{asks_still}
use Rattle.scm_restored.proofs.open_manager.Goals as goal

pub returns-in-Ok-new-clause-opens : goal.returns-in-Ok-new-clause-opens
returns-in-Ok-new-clause-opens g c = record {
  groups = c.args.groups;
  configs = c.in_ok-journal.field-0.configs;
  moment = c.args.moment;
  can = c.in_ok-journal.ensures.begins.under c.args.limits c.requires.places;
  is = c.in-Ok-new.ensures.flat;
}

pub returns-in_err-journal-clause-asked : goal.returns-in_err-journal-clause-asked
returns-in_err-journal-clause-asked g c =
    let p = err_from_is_err_and c.from_residual.result c.from_residual.ensures.1 in
    let old = g.K.Keeper.asked c.args.keeper.now in
    let now = g.K.Keeper.asked c.open_journal.new.keeper in
    rw p.1
    (asks_still Restored Opened (text_of c.args.path) old now p.0
    (subst (λ (fault : JournalFault). AsksAt {T = Restored} (text_of c.args.path) old now (Err fault)) (sym p.2)
    c.in_err-journal.ensures.asked))
