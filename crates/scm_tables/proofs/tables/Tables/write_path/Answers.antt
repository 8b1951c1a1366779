use Rattle.std.proofs.Common.{◌∙◌, ap, sym, subst, arith}
use Rattle.std.specs.Prelude.{Option, IfSome, option_and_then}
use Rattle.scm_model.specs.declared.flat.Service.{Service}
use Rattle.scm_model.specs.Rows.{service_of}
use Rattle.scm_tables.specs.Inside.{tabled}
use Rattle.scm_tables.specs.Tabled.{HasShort, Tabled}
use Rattle.scm_tables.proofs.Wording.{short_with}
use Rattle.scm_tables.proofs.tables.Tables.write_path.Goals as goal

pub set-requires : goal.set-requires
set-requires c =
    let found = short_with (tabled c.self.inside).flat c.args.service c.self.invariant.texts in
    let same = ap (λ (t : Tabled). option_and_then (service_of t.flat) c.args.service) c.self.view_is ∙ sym c.in-Some.ensures in
    let short : HasShort c.in-Some.row.now = subst (λ (o : Option Service). IfSome o HasShort) same found in
    omega (arith, short.path, c.requires)
