use Rattle.std.proofs.Common.{◌≡◌, true, refl, subst, sym}
use Rattle.std.specs.List.{list_any}
use Rattle.scm_model.specs.declared.flat.Service.{Service}
use Rattle.scm_rules.specs.Due.{is_due_of}
use Rattle.scm_tables.specs.Tabled.{Tabled}
use Rattle.scm_tables.proofs.Keeping.{other_plans}
use Rattle.scm_tables.proofs.Placed.{kind_fits, kind_keeps}
use Rattle.scm_tables.proofs.tables.Tables.put_due.Goals as goal

pub add-number-requires-clause-room : goal.add-number-requires-clause-room
add-number-requires-clause-room c =
    let there = subst (λ (t : Tabled). list_any (λ (row : Service). is_due_of row.number c.args.kind) t.flat.services ≡ true)
    (sym c.self.view_is) c.requires.service in
    kind_fits c.args.kind there c.self.invariant.dues

pub invariant_of-self : goal.invariant_of-self
invariant_of-self c =
    let kept = c.self.invariant in
    let there = subst (λ (t : Tabled). list_any (λ (row : Service). is_due_of row.number c.args.kind) t.flat.services ≡ true)
    (sym c.self.view_is) c.requires.service in
    other_plans kept refl refl refl refl refl refl refl refl refl refl refl kept.plans kept.pending
    (rw c.add-number.ensures.after (kind_keeps c.args.kind _ _ there kept.dues))
