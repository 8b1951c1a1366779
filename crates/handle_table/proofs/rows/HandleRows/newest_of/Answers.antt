use Rattle.std.proofs.Common.{◌∙◌}
use Rattle.handle_table.proofs.Chains.{newest_has, no_newest_has}
use Rattle.handle_table.proofs.rows.HandleRows.newest_of.Goals as goal

pub returns-clause-some : goal.returns-clause-some
returns-clause-some c =
    rw (← c.self.view_is) (newest_has c.self.inside.nodes.entries c.self.inside.newest.entries c.args.caller c.copied.result
    c.self.invariant (c.copied.ensures ∙ c.get.ensures.value))

pub returns-clause-none : goal.returns-clause-none
returns-clause-none c =
    rw (← c.self.view_is) (no_newest_has c.self.inside.nodes.entries c.self.inside.newest.entries c.args.caller c.copied.result
    c.self.invariant (c.copied.ensures ∙ c.get.ensures.value))
