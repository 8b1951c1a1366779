use Rattle.std.proofs.Common.{◌∙◌, ◌<◌, List, ap, length, subst, sym}
use Rattle.scm_rules.specs.Owed.{owed_in_phase}
use Rattle.scm_tables.specs.Processed.{owed_in}
use Rattle.scm_tables.specs.declared.process_rows.ProcessRow.{ProcessRow}
use Rattle.scm_tables.proofs.Counting.{owed_enough, owed_without}
use Rattle.scm_tables.proofs.Bisecting.{gone_at, nothing_gone}
use Rattle.scm_tables.proofs.Changing.{number_of}
use Rattle.scm_tables.proofs.process_rows.drop_process.Goals as goal

pub place_of-requires : goal.place_of-requires
place_of-requires c = rw c.as_slice.ensures.value c.requires.rising

pub returns-in-None-clause-rows : goal.returns-in-None-clause-rows
returns-in-None-clause-rows c = nothing_gone number_of c.args.number c.as_slice.ensures.value c.in-None.ensures.none

pub returns-in-Some-clause-rows : goal.returns-in-Some-clause-rows
returns-in-Some-clause-rows c =
    c.remove-gone.ensures.items ∙ gone_at number_of c.args.number c.as_slice.ensures.value c.in-Some.ensures.within c.in-Some.ensures.found
    c.requires.rising c.remove-gone.result

pub overflow_sub-result : goal.overflow_sub-result
overflow_sub-result c =
    let rows = c.args.rows.now.items in
    let within = subst (λ (rs : List ProcessRow). c.in-Some.place < length rs) c.as_slice.ensures.value c.in-Some.ensures.within in
    owed_enough rows c.in-Some.place c.remove-gone.result within c.requires.owed (c.owed_in_phase.ensures
    ∙ ap (λ (row : ProcessRow). owed_in_phase row.phase) c.remove-gone.ensures.value)

pub returns-in-Some-clause-owed : goal.returns-in-Some-clause-owed
returns-in-Some-clause-owed c =
    let rows = c.args.rows.now.items in
    let within = subst (λ (rs : List ProcessRow). c.in-Some.place < length rs) c.as_slice.ensures.value c.in-Some.ensures.within in
    owed_without rows c.in-Some.place c.remove-gone.result within c.requires.owed (c.owed_in_phase.ensures
    ∙ ap (λ (row : ProcessRow). owed_in_phase row.phase) c.remove-gone.ensures.value)
    ∙ sym (ap owed_in c.remove-gone.ensures.items)
