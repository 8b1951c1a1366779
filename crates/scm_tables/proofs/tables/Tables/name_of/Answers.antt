use Rattle.std.proofs.Common.{◌==◌, Option, subst, sym}
use Rattle.std.specs.Prelude.{IfSome}
use Rattle.scm_model.specs.declared.flat.Service.{Service}
use Rattle.scm_tables.specs.Tabled.{HasShort}
use Rattle.scm_tables.proofs.Wording.{found_has}
use Rattle.scm_tables.proofs.tables.Tables.name_of.Goals as goal

pub returns-in-Some-clause-short : goal.returns-in-Some-clause-short
returns-in-Some-clause-short c =
    let found = c.in-Some.ensures in
    (subst (λ (o : Option Service). IfSome o HasShort) (sym found) (found_has HasShort (λ (row : Service). row.number == c.args.service)
    c.self.inside.services.services c.self.invariant.texts)).name
