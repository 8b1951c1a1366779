use Rattle.std.proofs.Common.{◌≡◌, ◌∙◌, ◌==◌, ap, refl, subst, sym, Option, Some}
use Rattle.std.specs.Prelude.{IfSome}
use Rattle.scm_model.specs.declared.flat.Service.{Service}
use Rattle.scm_model.specs.Rows.{service_of}
use Rattle.scm_rules.specs.Ticks.{with_wanted_command}
use Rattle.scm_tables.specs.Firing.{runs}
use Rattle.scm_tables.specs.Tabled.{HasShort, Tabled}
use Rattle.scm_tables.proofs.Fired.{runs_one}
use Rattle.scm_tables.proofs.Wording.{found_has}
use Rattle.scm_tables.proofs.Keeping.{other_rooms}
use Rattle.scm_tables.proofs.tables.Tables.run_command.Goals as goal

pub of_command-line-requires-clause-command : goal.of_command-line-requires-clause-command
of_command-line-requires-clause-command c =
    let found = c.in-Some.ensures in
    let short : HasShort c.in-Some.row.now = subst (λ (o : Option Service). IfSome o HasShort) (sym found)
    (found_has HasShort (λ (row : Service). row.number == c.args.service) c.self.inside.services.services c.self.invariant.texts) in
    short.command

pub returns-clause-flat : goal.returns-clause-flat
returns-clause-flat c =
    let row = c.in-Some.row.now in
    let before = c.args.self.now in
    let found = c.in-Some.ensures in
    let is = subst (λ (t : Tabled). service_of t.flat c.args.service ≡ Some row) c.self.view_is (sym found) in
    let can = sym (c.can_run.ensures ∙ ap (runs before.limits before.flat) c.service.ensures) ∙ c.if-not-can_run.false in
    let runs = ap (λ (t : Tabled). with_wanted_command row.config.command t.flat) c.self.view_is
    ∙ runs_one before.limits before.flat (service_of before.flat c.args.service) row is can in
    rw (c.list.ensures, c.of_command-line.ensures) runs

pub invariant_of-self : goal.invariant_of-self
invariant_of-self c =
    let kept = c.self.invariant in
    other_rooms kept refl refl kept.marks (rw c.list.ensures kept.room) (record {
      starts_fit = kept.rooms.starts_fit;
      commands_fit = c.take_command_room.ensures.rooms;
    })
