use Rattle.std.proofs.Common.{Bool, ap, subst, ◌∙◌}
use Rattle.child_link.specs.Lines.{handed_on}
use Rattle.demo_service.specs.Doing.{Point, ReadsLine, point_at}
use Rattle.demo_service.proofs.Lines.{heard_if}
use Rattle.demo_service.proofs.waiting.answer_next.Goals as goal

pub returns-clause-hears : goal.returns-clause-hears
returns-clause-hears g c =
    let a : Point = point_at (g.I.Source.left c.args.input.now) (g.O.Sink.held c.args.output.now) in
    let b : Point = point_at (g.I.Source.left c.read_line.new.input) (g.O.Sink.held c.answer.new.output) in
    heard_if a b c.read_line.new.line c.read_control_line.result c.answer.result
    (subst (λ (on : Bool). ReadsLine a.left b.left c.read_line.new.line on) c.if-not-branch.false c.in_ok-read_line.ensures.read)
    (c.read_control_line.ensures ∙ ap handed_on c.line.ensures)
    c.answer.ensures.on c.answer.ensures.told
