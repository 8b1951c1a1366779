use Rattle.std.proofs.Common.{ℕ, ◌≡◌, ◌∙◌, false, Option, None, Some, is_some, ap, refl, sym}
use Rattle.scm_model.specs.declared.flat.Flat.{Flat}
use Rattle.scm_rules.specs.Launches.{with_fallen}
use Rattle.scm_tables.proofs.Falling.{fails_first}
use Rattle.scm_tables.proofs.Refusing.{ended_stays, none_found}
use Rattle.scm_tables.proofs.tables.Tables.process_exited.Goals as goal

pub returns-clause-flat : goal.returns-clause-flat
returns-clause-flat c =
    c.fall.ensures.flat ∙ ap (λ (f : Flat). with_fallen f c.args.process 1067) c.fail_each.ensures.flat
    ∙ fails_first c.args.self.now.flat c.args.process

nothing : (found : Option ℕ) → is_some found ≡ false → None ≡ found
nothing None e = refl
nothing (Some number) e = absurd (cc e)

pub returns-then-is_none-clause-flat : goal.returns-then-is_none-clause-flat
returns-then-is_none-clause-flat c =
    sym (ended_stays c.args.self.now.flat c.args.process (nothing c.first_current.result c.if-is_none.ensures
    ∙ c.first_current.ensures.number))

pub returns-clause-stale : goal.returns-clause-stale
returns-clause-stale c = λ stale.
    let none = none_found c.args.process c.args.self.now.flat.services stale in
    absurd (cc (sym c.if-is_none.ensures ∙ ap is_some (c.first_current.ensures.number ∙ sym none)))
