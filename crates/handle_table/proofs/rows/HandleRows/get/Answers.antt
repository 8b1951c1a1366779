use Rattle.std.proofs.Common.{◌∙◌, ap}
use Rattle.std.specs.Prelude.{option_map}
use Rattle.handle_table.proofs.Chains.{row_found, row_part}
use Rattle.handle_table.proofs.rows.HandleRows.get.Goals as goal

pub returns-in-Some : goal.returns-in-Some
returns-in-Some c =
    rw (← c.self.view_is) (ap (option_map row_part) c.in-Some.ensures.value
    ∙ row_found c.self.inside.nodes.entries c.self.inside.newest.entries c.args.number c.self.invariant)

pub returns-in-None : goal.returns-in-None
returns-in-None c =
    rw (← c.self.view_is) (ap (option_map row_part) c.in-None.ensures.value
    ∙ row_found c.self.inside.nodes.entries c.self.inside.newest.entries c.args.number c.self.invariant)
