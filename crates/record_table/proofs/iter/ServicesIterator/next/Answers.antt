use Rattle.std.proofs.Common.{◌∙◌, ◌∷◌, ◌+◌, ap, drop, sym}
use Rattle.std.proofs.lemmas.List.{drop_more}
use Rattle.std.proofs.lemmas.Option.{get_or_from_slice_get, slice_get_within}
use Rattle.scm_model.specs.declared.flat.Service.{Service}
use Rattle.record_table.proofs.iter.ServicesIterator.next.Goals as goal

pub returns-clause-steps : goal.returns-clause-steps
returns-clause-steps c =
    let rows = c.self.inside.table.now.services in
    let place = c.self.inside.place in
    let row = c.in_ok-row.row.now in
    let here = sym c.in_ok-row.ensures in
    sym c.self.view_is ∙ drop_more rows place row (slice_get_within rows place row here)
    ∙ ap (λ (first : Service). first ∷ drop (place + 1) rows) (get_or_from_slice_get rows place row row here)
