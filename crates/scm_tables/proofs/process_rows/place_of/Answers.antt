use Rattle.std.proofs.Common.{rules}
use Rattle.std.proofs.lemmas.List.Sorted.{answers_always}
use Rattle.scm_tables.specs.declared.process_rows.ProcessRow.{ProcessRow}
use Rattle.scm_tables.proofs.Bisecting.{placed}
use Rattle.scm_tables.proofs.process_rows.place_of.Goals as goal

pub returns : goal.returns
returns c =
    let facts = c.binary_search_by_key.ensures in
    let by_number = facts.position (λ (row : ProcessRow). row.number) (answers_always _ _ _ (λ f a r g called. search rules)) in
    let place = placed (λ (row : ProcessRow). row.number) c.args.rows.now c.args.number c.requires _ facts.bound by_number in
    rw c.ok.ensures.value (record { found = place.found; within = place.within; none = place.none; few = search rules })
