use Rattle.std.proofs.Common.{◌∙◌, arith}
use Rattle.handle_table.proofs.Chains.{added, is_added, when_ok}
use Rattle.handle_table.proofs.rows.HandleRows.push.Goals as goal

pub invariant_of-self : goal.invariant_of-self
invariant_of-self c =
    let room = rw (← c.self.view_is) at c.requires.room in
    added c.self.inside.nodes.entries c.set_newer.new.nodes.entries c.insert-node.new.self.entries c.self.inside.newest.entries
    c.insert-before.new.self.entries c.args.row c.copied-older.result
    c.self.invariant (rw (← c.self.view_is) at c.requires.above) (c.copied-older.ensures ∙ c.get.ensures.value) c.set_newer.ensures.nodes
    (when_ok c.insert-node.result c.insert-node.ensures.updates (c.insert-node.ensures.succeeds
    (omega (arith, room, c.set_newer.ensures.room)))).0 c.insert-node.ensures.unique
    (when_ok c.insert-before.result c.insert-before.ensures.updates (c.insert-before.ensures.succeeds (omega (arith, room)))).0

pub returns : goal.returns
returns c =
    let room = rw (← c.self.view_is) at c.requires.room in
    rw (← c.self.view_is)
    (is_added c.self.inside.nodes.entries c.set_newer.new.nodes.entries c.insert-node.new.self.entries c.self.inside.newest.entries
    c.insert-before.new.self.entries c.args.row c.copied-older.result
    c.self.invariant (rw (← c.self.view_is) at c.requires.above) (c.copied-older.ensures ∙ c.get.ensures.value) c.set_newer.ensures.nodes
    (when_ok c.insert-node.result c.insert-node.ensures.updates (c.insert-node.ensures.succeeds
    (omega (arith, room, c.set_newer.ensures.room)))).0 c.insert-node.ensures.unique)
