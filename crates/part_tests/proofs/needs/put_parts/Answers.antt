use Rattle.std.proofs.Common.{List, ap, refl, subst, sym}
use Rattle.scm_model.specs.declared.flat.NeedRow.{NeedRow}
use Rattle.dependency_index.specs.Indexed.{Indexed}
use Rattle.scm_model.specs.Needs.{needs_of}
use Rattle.scm_model.specs.Walks.{IsAcyclic}
use Rattle.part_tests.proofs.needs.put_parts.Goals as goal

pub returns : goal.returns
returns c =
    let rows = ap (λ (index : Indexed). index.rows) c.set_needs.ensures in
    subst (λ (rows : List NeedRow). IsAcyclic (needs_of rows)) (sym rows) (c.if-would_cycle.ensures.no refl)
