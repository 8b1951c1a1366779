use Rattle.std.proofs.Common.{Bool, ap, subst, ◌∙◌}
use Rattle.child_link.specs.Lines.{ordered}
use Rattle.demo_service.specs.Doing.{ReadsLine, SharedPoint, point_at, shared_at}
use Rattle.demo_service.proofs.Obeying.{obeyed_line}
use Rattle.demo_service.proofs.sharing.obey_next.Goals as goal

pub returns-clause-obeys : goal.returns-clause-obeys
returns-clause-obeys g c =
    let a : SharedPoint = shared_at c.args.running.now.items (point_at (g.I.Source.left c.args.input.now) (g.O.Sink.held c.args.output.now))
    in
    let b : SharedPoint = shared_at c.obey.new.running.items (point_at (g.I.Source.left c.read_line.new.input)
    (g.O.Sink.held c.obey.new.output)) in
    obeyed_line a b c.read_line.new.line c.read_order_line.result
    (subst (λ (on : Bool). ReadsLine a.at.left b.at.left c.read_line.new.line on) c.if-not-branch.false c.in_ok-read_line.ensures.read)
    (c.read_order_line.ensures ∙ ap ordered c.line.ensures)
    c.in_ok-obey.ensures.runs c.in_ok-obey.ensures.told
