use Rattle.std.proofs.Common.{◌∙◌, ap, sym}
use Rattle.std.specs.Prelude.{position, set}
use Rattle.scm_tables.specs.declared.process_rows.ProcessRow.{ProcessRow}
use Rattle.scm_tables.specs.Lined.{words_told}
use Rattle.scm_tables.specs.Listed.{is_wanted_row, processes_in, wanted_in, without_words, next_words}
use Rattle.scm_tables.proofs.Wording.{emptied, first_of, none_wanted, processes_at, without_at, words_at}
use Rattle.scm_tables.proofs.process_rows.take_words.Goals as goal

pub returns-in-Some-clause-words : goal.returns-in-Some-clause-words
returns-in-Some-clause-words c =
    let rows = c.args.rows.now.items in
    let at = first_of rows c.in-Some.place c.index_mut.result.now (ap (position is_wanted_row) (sym c.as_slice.ensures.value)
    ∙ sym c.in-Some.ensures) in
    c.take_words.ensures.words ∙ ap (λ (row : ProcessRow). words_told row.line) c.index_mut.ensures.value
    ∙ sym (words_at rows c.in-Some.place c.index_mut.result.now at)

pub returns-in-Some-clause-wanted : goal.returns-in-Some-clause-wanted
returns-in-Some-clause-wanted c =
    let rows = c.args.rows.now.items in
    let at = first_of rows c.in-Some.place c.index_mut.result.now (ap (position is_wanted_row) (sym c.as_slice.ensures.value)
    ∙ sym c.in-Some.ensures) in
    rw (c.take_words.ensures.left) (ap (λ (row : ProcessRow). wanted_in (set rows c.in-Some.place (emptied row))) c.index_mut.ensures.value)
    ∙ without_at rows c.in-Some.place c.index_mut.result.now at

pub returns-in-Some-clause-processes : goal.returns-in-Some-clause-processes
returns-in-Some-clause-processes c =
    let rows = c.args.rows.now.items in
    rw (c.take_words.ensures.left) (ap (λ (row : ProcessRow). processes_in (set rows c.in-Some.place (emptied row)))
    c.index_mut.ensures.value) ∙ processes_at rows c.in-Some.place c.index_mut.result.now

pub returns-in-None-clause-words : goal.returns-in-None-clause-words
returns-in-None-clause-words c =
    let none = none_wanted c.args.rows.now.items (ap (position is_wanted_row) (sym c.as_slice.ensures.value) ∙ sym c.in-None.ensures) in
    c.new.ensures ∙ sym (ap next_words none)

pub returns-in-None-clause-wanted : goal.returns-in-None-clause-wanted
returns-in-None-clause-wanted c =
    let none = none_wanted c.args.rows.now.items (ap (position is_wanted_row) (sym c.as_slice.ensures.value) ∙ sym c.in-None.ensures) in
    none ∙ sym (ap without_words none)
