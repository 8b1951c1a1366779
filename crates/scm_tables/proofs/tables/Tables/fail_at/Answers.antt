use Rattle.std.proofs.Common.{◌≡◌, ◌∙◌, ◌==◌, None, Option, Some, ap, map, refl, subst, sym}
use Rattle.number_pairs.specs.declared.pairs.Pair.{Pair}
use Rattle.std.specs.Prelude.{option_map}
use Rattle.std.proofs.lemmas.Option.{slice_get_past, slice_get_read}
use Rattle.scm_model.specs.declared.flat.Service.{Service}
use Rattle.scm_model.specs.Found.{if_found}
use Rattle.scm_model.specs.Processes.{currents_in}
use Rattle.scm_tables.specs.Failed.{failed_at, with_failed}
use Rattle.scm_tables.specs.Tabled.{Tabled}
use Rattle.scm_tables.specs.declared.failing.Failed.{Failed}
use Rattle.scm_tables.proofs.Exits.{failed_there}
use Rattle.scm_tables.proofs.Failures.{failure_there}
use Rattle.scm_tables.proofs.Numbered.{in_order, with_number}
use Rattle.scm_tables.proofs.tables.Tables.fail_at.Goals as goal

pub fail-requires-clause-service : goal.fail-requires-clause-service
fail-requires-clause-service c =
    rw (← c.self.view_is, c.failure_of-failed.ensures, c.get-2.ensures)
    (failure_there c.self.inside.moment (λ (row : Service). row.number == c.in-Some.pair.now.number) c.self.inside.services.services _ refl)

pub returns-clause-flat : goal.returns-clause-flat
returns-clause-flat c =
    let f = c.args.self.now.flat in
    let pairs = c.of_process.result.now in
    let numbers = subst (λ (t : Tabled). map (λ (pair : Pair). pair.number) pairs ≡ currents_in c.args.process t.flat.services)
    c.self.view_is c.of_process.ensures in
    let failed = c.failure_of-failed.ensures ∙ ap (λ (o : Option Service). option_map (failed_at c.self.inside.moment) o) c.get-2.ensures
    ∙ ap (λ (t : Tabled). option_map (failed_at t.flat.moment) (with_number t.flat.services c.in-Some.pair.now.number)) c.self.view_is in
    c.fail.ensures.flat
    ∙ ap (λ (o : Option Failed). if_found with_failed o f) failed
    ∙ failed_there f (in_order c.self.invariant c.self.view_is) c.args.process c.args.place pairs numbers (Some c.in-Some.pair.now)
    (sym (slice_get_read pairs _ c.args.place c.in-Some.pair.now refl c.in-Some.ensures.lookup.3.0 c.in-Some.ensures.lookup.1))

pub returns-in_default-clause-flat : goal.returns-in_default-clause-flat
returns-in_default-clause-flat c =
    let pairs = c.of_process.result.now in
    let numbers = subst (λ (t : Tabled). map (λ (pair : Pair). pair.number) pairs ≡ currents_in c.args.process t.flat.services)
    c.self.view_is c.of_process.ensures in
    failed_there c.args.self.now.flat (in_order c.self.invariant c.self.view_is) c.args.process c.args.place pairs numbers None
    (sym (slice_get_past pairs c.args.place c.in_default.ensures.lookup.3))
