use Rattle.std.proofs.Common.{◌∙◌, Option, ap, subst, sym}
use Rattle.std.specs.Prelude.{IfSome, slice_get}
use Rattle.scm_model.specs.declared.flat.Service.{Service}
use Rattle.scm_tables.specs.Tabled.{Tabled}
use Rattle.scm_tables.proofs.Numbered.{IsFound, each_found, found_at, in_order}
use Rattle.scm_tables.proofs.tables.Tables.row_at.Goals as goal

pub returns-clause-found : goal.returns-clause-found
returns-clause-found c =
    let rows = c.args.self.now.flat.services in
    let is = c.at.ensures ∙ ap (λ (t : Tabled). slice_get t.flat.services c.args.place) c.self.view_is in
    subst (λ (o : Option Service). IfSome o (IsFound rows)) (sym is) (found_at rows rows c.args.place
    (each_found rows (in_order c.self.invariant c.self.view_is)))
