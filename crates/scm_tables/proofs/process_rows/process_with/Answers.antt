use Rattle.std.proofs.Common.{◌∙◌, Some, ap, sym}
use Rattle.scm_tables.specs.declared.process_rows.ProcessRow.{ProcessRow}
use Rattle.scm_tables.proofs.Bisecting.{found_here, found_nowhere, number_at}
use Rattle.scm_tables.proofs.process_rows.process_with.Goals as goal

pub returns-in_err-place : goal.returns-in_err-place
returns-in_err-place c = rw c.from_residual.ensures (sym (found_nowhere
    (λ (r : ProcessRow). r.number) c.args.rows.now c.args.number c.in_err-place.ensures.none))

pub returns : goal.returns
returns c =
    let row = c.index-rows-place.result in
    let within = c.in_ok-place.ensures.within in
    ap (λ (r : ProcessRow). Some r) c.index-rows-place.is
    ∙ sym (found_here (λ (r : ProcessRow). r.number) c.args.rows.now c.in_ok-place.place c.args.number row c.requires within
    (number_at (λ (r : ProcessRow). r.number) c.args.number c.args.rows.now c.in_ok-place.place row within c.in_ok-place.ensures.found))
