use Rattle.std.proofs.Common.{List, ◌∙◌, ap, arith, inl, length}
use Rattle.scm_model.specs.declared.flat.Service.{Service}
use Rattle.scm_tables.proofs.service_rows.running_in.Goals as goal

pub count-requires-clause-fits : goal.count-requires-clause-fits
count-requires-clause-fits c = inl (omega (
  arith,
  ap (λ (rows : List Service). length rows) (c.filter.ensures.source
      ∙ c.iter.ensures.items),
  c.iter.ensures.small,
))
