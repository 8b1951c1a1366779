use Rattle.std.proofs.Common.{◌∙◌, ap, eqb, subst, sym}
use Rattle.std.specs.List.{IsDistinct}
use Rattle.std.specs.Prelude.{option_map}
use Rattle.handle_table.specs.Chained.{rows_of}
use Rattle.handle_table.specs.Handled.{matches}
use Rattle.handle_table.specs.Numbered.{ordered}
use Rattle.handle_table.proofs.Chains.{Nodes, has_newest, is_removed, removed, row_found, row_part}
use Rattle.handle_table.proofs.Counting.{stays_none}
use Rattle.handle_table.proofs.rows.HandleRows.remove.Goals as goal

pub returns-in_err-node-clause-row : goal.returns-in_err-node-clause-row
returns-in_err-node-clause-row c =
    rw (c.from_residual.ensures, ← c.self.view_is) (ap (option_map row_part) c.in_err-node.ensures.value
    ∙ row_found c.self.inside.nodes.entries c.self.inside.newest.entries c.args.number c.self.invariant)

pub returns-in_err-node-clause-items : goal.returns-in_err-node-clause-items
returns-in_err-node-clause-items c =
    let none = ap (option_map row_part) c.in_err-node.ensures.value
    ∙ row_found c.self.inside.nodes.entries c.self.inside.newest.entries c.args.number c.self.invariant in
    rw (← c.self.view_is) (ap (λ (nodes : Nodes). ordered (rows_of nodes)) c.in_err-node.ensures.unchanged
    ∙ sym (stays_none (matches c.args.number) (ordered (rows_of c.self.inside.nodes.entries)) (sym none)))

pub leave_newest-requires : goal.leave_newest-requires
leave_newest-requires c =
    has_newest c.self.inside.nodes.entries c.swap_remove.new.self.entries c.set_newer.new.nodes.entries c.set_older.new.nodes.entries
    c.self.inside.newest.entries c.args.number c.in_ok-node.node c.self.invariant
    (sym c.in_ok-node.ensures.value) c.in_ok-node.ensures.updates.0 c.set_newer.ensures.nodes c.set_older.ensures.nodes
    (subst (IsDistinct eqb) (sym (c.set_older.ensures.keys ∙ c.set_newer.ensures.keys)) c.in_ok-node.ensures.unique)

pub invariant_of-self-2 : goal.invariant_of-self-2
invariant_of-self-2 c =
    removed c.self.inside.nodes.entries c.swap_remove.new.self.entries c.set_newer.new.nodes.entries c.set_older.new.nodes.entries
    c.self.inside.newest.entries c.args.number c.in_ok-node.node c.self.invariant
    (sym c.in_ok-node.ensures.value) c.in_ok-node.ensures.updates.0 c.set_newer.ensures.nodes c.set_older.ensures.nodes
    (subst (IsDistinct eqb) (sym (c.set_older.ensures.keys ∙ c.set_newer.ensures.keys)) c.in_ok-node.ensures.unique)
    c.leave_newest.new.newest.entries c.leave_newest.ensures.newest

pub returns-clause-row : goal.returns-clause-row
returns-clause-row c =
    rw (← c.self.view_is) (ap (option_map row_part) c.in_ok-node.ensures.value
    ∙ row_found c.self.inside.nodes.entries c.self.inside.newest.entries c.args.number c.self.invariant)

pub returns-clause-items : goal.returns-clause-items
returns-clause-items c =
    rw (← c.self.view_is)
    (is_removed c.self.inside.nodes.entries c.swap_remove.new.self.entries c.set_newer.new.nodes.entries c.set_older.new.nodes.entries
    c.self.inside.newest.entries c.args.number c.in_ok-node.node c.self.invariant
    (sym c.in_ok-node.ensures.value) c.in_ok-node.ensures.updates.0 c.set_newer.ensures.nodes c.set_older.ensures.nodes
    (subst (IsDistinct eqb) (sym (c.set_older.ensures.keys ∙ c.set_newer.ensures.keys)) c.in_ok-node.ensures.unique))
