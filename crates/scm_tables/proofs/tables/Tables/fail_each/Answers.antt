use Rattle.std.proofs.Common.{◌≡◌, ◌+◌, ◌∙◌, arith, map, refl, subst, sym}
use Rattle.number_pairs.specs.declared.pairs.Pair.{Pair}
use Rattle.scm_model.specs.declared.flat.Flat.{Flat}
use Rattle.scm_model.specs.Processes.{currents_in}
use Rattle.scm_tables.specs.Tabled.{Tabled}
use Rattle.scm_tables.proofs.Exits.{FailsFrom, all_done, due_fits, fails_next, none_failed, pairs_count, rising_currents}
use Rattle.scm_tables.proofs.Numbered.{in_order}
use Rattle.scm_tables.proofs.tables.Tables.fail_each.Goals as goal

pub loop-place-init : goal.loop-place-init
loop-place-init c = record { fails = none_failed c.args.process c.args.self.now.flat c.requires; limits = refl }

pub fail_at-requires : goal.fail_at-requires
fail_at-requires c =
    let old = c.args.self.now.flat in
    let process = c.args.process in
    let pairs = c.of_process-place-end.result.now in
    let numbers = subst (λ (t : Tabled). map (λ (pair : Pair). pair.number) pairs ≡ currents_in process t.flat.services)
    c.self.view_is c.of_process-place-end.ensures in
    let count = pairs_count process old.services pairs numbers in
    due_fits process c.loop-place.place old c.loop-place.self.flat (omega (arith, count))
    c.loop-place.invariant.fails

pub loop-place-preserved : goal.loop-place-preserved
loop-place-preserved c =
    let old = c.args.self.now.flat in
    let process = c.args.process in
    let place = c.loop-place.place in
    let pairs = c.of_process-place-end.result.now in
    let numbers = subst (λ (t : Tabled). map (λ (pair : Pair). pair.number) pairs ≡ currents_in process t.flat.services)
    c.self.view_is c.of_process-place-end.ensures in
    let count = pairs_count process old.services pairs numbers in
    let rising = rising_currents process old.services (in_order c.self.invariant c.self.view_is) in
    record {
      fails = subst (λ (f : Flat). FailsFrom process (place + 1) old f) (sym c.fail_at.ensures.flat)
          (fails_next process place old c.loop-place.self.flat rising (omega (arith, count))
          c.loop-place.invariant.fails);
      limits = c.fail_at.ensures.limits ∙ c.loop-place.invariant.limits;
    }

pub returns-clause-flat : goal.returns-clause-flat
returns-clause-flat c =
    let old = c.args.self.now.flat in
    let process = c.args.process in
    let pairs = c.of_process-place-end.result.now in
    let numbers = subst (λ (t : Tabled). map (λ (pair : Pair). pair.number) pairs ≡ currents_in process t.flat.services)
    c.self.view_is c.of_process-place-end.ensures in
    let count = pairs_count process old.services pairs numbers in
    all_done process c.loop-place.place old c.loop-place.self.flat (omega (arith, count))
    c.loop-place.invariant.fails
