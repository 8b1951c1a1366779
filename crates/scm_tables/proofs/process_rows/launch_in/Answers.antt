use Rattle.std.proofs.Common.{◌<◌, ◌∙◌, ◌^◌, List, ap, arith, length, subst, sym}
use Rattle.scm_rules.specs.Launches.{launched_if}
use Rattle.scm_rules.specs.Owed.{owed_in_phase}
use Rattle.scm_tables.specs.Listed.{listed_as}
use Rattle.scm_tables.specs.declared.process_rows.ProcessRow.{ProcessRow}
use Rattle.scm_tables.proofs.Bisecting.{changed_at, unchanged}
use Rattle.scm_tables.proofs.Changing.{number_of, launched, launched_elsewhere, launched_here}
use Rattle.scm_tables.proofs.Counting.{owed_after, owed_enough, owed_fits}
use Rattle.scm_tables.proofs.process_rows.launch_in.Goals as goal

pub place_of-requires : goal.place_of-requires
place_of-requires c = rw c.as_slice.ensures.value c.requires.rising

pub overflow_sub-result : goal.overflow_sub-result
overflow_sub-result c =
    let rows = c.args.rows.now.items in
    let within = subst (λ (rs : List ProcessRow). c.in-Some.place < length rs) c.as_slice.ensures.value c.in-Some.ensures.within in
    owed_enough rows c.in-Some.place c.index.result.now within c.requires.owed (c.owed_in_phase-before.ensures
    ∙ ap (λ (row : ProcessRow). owed_in_phase row.phase) c.index.ensures)

pub overflow_add-result : goal.overflow_add-result
overflow_add-result c =
    let short = subst (λ (rs : List ProcessRow). length rs < 2 ^ 64) c.as_slice.ensures.value c.in-Some.ensures.few in
    omega (
      arith,
      owed_fits c.args.rows.now.items c.args.owed c.owed_in_phase-before.result c.owed_in_phase.result short c.requires.owed
          (omega (arith, c.owed_in_phase.ensures)),
    )

pub returns-in-Some-clause-owed : goal.returns-in-Some-clause-owed
returns-in-Some-clause-owed c =
    let rows = c.args.rows.now.items in
    let within = subst (λ (rs : List ProcessRow). c.in-Some.place < length rs) c.as_slice.ensures.value c.in-Some.ensures.within in
    owed_after rows c.in-Some.place c.index.result.now within c.requires.owed (c.owed_in_phase-before.ensures
    ∙ ap (λ (row : ProcessRow). owed_in_phase row.phase) c.index.ensures)
    c.launch_row.new.row (c.owed_in_phase.ensures ∙ sym (ap (λ (row : ProcessRow). owed_in_phase row.phase) c.launch_row.ensures))

pub returns-in-None-clause-rows : goal.returns-in-None-clause-rows
returns-in-None-clause-rows c =
    unchanged number_of c.args.number (listed_as (launched_if c.args.number c.args.pid))
    (launched_elsewhere c.args.number c.args.pid) c.as_slice.ensures.value c.in-None.ensures.none

pub returns-in-Some-clause-rows : goal.returns-in-Some-clause-rows
returns-in-Some-clause-rows c =
    rw (c.launch_row.ensures, c.index_mut.ensures.value)
    (changed_at number_of c.args.number (listed_as (launched_if c.args.number c.args.pid)) (launched_elsewhere c.args.number c.args.pid)
    (launched c.args.pid) (launched_here c.args.number c.args.pid) c.as_slice.ensures.value c.in-Some.ensures.within
    c.in-Some.ensures.found c.requires.rising c.index_mut.result.now)
