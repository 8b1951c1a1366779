use Rattle.std.proofs.Common.{◌∙◌, ap, subst, sym, length, ◌<◌}
use Rattle.scm_model.specs.declared.flat.Flat.{Flat}
use Rattle.scm_model.specs.Processes.{currents}
use Rattle.scm_rules.specs.Launches.{with_fallen}
use Rattle.scm_tables.proofs.Exits.{falls_done, falls_next}
use Rattle.scm_tables.proofs.tables.Tables.fall.Goals as goal

pub loop-number-preserved : goal.loop-number-preserved
loop-number-preserved c =
    let f = c.loop-number.self.flat in
    let process = c.args.process in
    let code = c.args.code in
    let next = falls_next f process code c.in-Some.number c.in-Some.ensures.rising c.in-Some.ensures.number in
    record {
      fallen = ap (λ (g : Flat). with_fallen g process code) c.fall_one.ensures.flat ∙ next.same ∙ c.loop-number.invariant.fallen;
      limits = c.fall_one.ensures.limits ∙ c.loop-number.invariant.limits;
    }

pub loop-number-smaller : goal.loop-number-smaller
loop-number-smaller c =
    let f = c.loop-number.self.flat in
    let process = c.args.process in
    let next = falls_next f process c.args.code c.in-Some.number c.in-Some.ensures.rising c.in-Some.ensures.number in
    subst (λ (g : Flat). length (currents process g.services) < length (currents process f.services))
    (sym c.fall_one.ensures.flat) next.fewer

pub returns-clause-flat : goal.returns-clause-flat
returns-clause-flat c =
    sym (falls_done c.loop-number.self.flat c.args.process c.args.code c.in_default.ensures.number) ∙ c.loop-number.invariant.fallen
