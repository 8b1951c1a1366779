use Rattle.std.proofs.Common.{◌∙◌, Option, ap, find}
use Rattle.scm_model.specs.declared.flat.Service.{Service}
use Rattle.scm_rules.specs.Controls.{controls_of, first_control, is_asked_by, next_by}
use Rattle.scm_tables.specs.Tabled.{Tabled}
use Rattle.scm_tables.proofs.tables.Tables.next_order.Goals as goal

pub first_asked_in-requires : goal.first_asked_in-requires
first_asked_in-requires c = c.self.invariant.rising.rising

pub returns-in-Some : goal.returns-in-Some
returns-in-Some c =
    let process = c.args.process in
    ap (λ (o : Option Service). next_by o (first_control (controls_of c.args.self.now.flat process)))
    (c.in-Some.ensures ∙ ap (λ (t : Tabled). find (is_asked_by process) t.flat.services) c.self.view_is)

pub returns-in-None : goal.returns-in-None
returns-in-None c =
    let process = c.args.process in
    c.first_control.ensures
    ∙ ap (λ (t : Tabled). first_control (controls_of t.flat process)) c.self.view_is
    ∙ ap (λ (o : Option Service). next_by o (first_control (controls_of c.args.self.now.flat process)))
    (c.in-None.ensures ∙ ap (λ (t : Tabled). find (is_asked_by process) t.flat.services) c.self.view_is)
