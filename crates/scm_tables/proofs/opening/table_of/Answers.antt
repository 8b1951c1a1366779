use Rattle.std.proofs.Common.{◌<◌, ◌∙◌, ◌++◌, List, ap, subst, sym}
use Rattle.std.specs.Prelude.{AllPairs}
use Rattle.scm_model.specs.declared.flat.Service.{Service}
use Rattle.scm_tables.proofs.Turns.{all_below}
use Rattle.scm_tables.proofs.opening.table_of.Goals as goal

pub put_in-requires : goal.put_in-requires
put_in-requires c =
    let before = c.loop-service.table.services in
    let all = ap (λ (rest : List Service). before ++ rest) (sym c.in-Some.ensures.steps.0) ∙ c.loop-service.invariant in
    all_below before c.in-Some.service c.next.new.self.rest.items (subst (AllPairs (λ (a b : Service). a.number < b.number))
    (sym all) c.requires)
