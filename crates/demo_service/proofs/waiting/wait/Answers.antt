use Rattle.std.proofs.Common.{Bool, arith, subst, true, ◌++◌, ◌∷◌, []}
use Rattle.std.proofs.lemmas.List.{length-append}
use Rattle.demo_service.specs.Doing.{Hears, HearsOne, Point, point_at}
use Rattle.demo_service.proofs.Folds.{folds_more}
use Rattle.demo_service.proofs.waiting.wait.Goals as goal

pub loop-preserved : goal.loop-preserved
loop-preserved g c =
    let before = c.loop.invariant in
    let a : Point = point_at (g.I.Source.left c.args.input.now) (g.O.Sink.held c.args.output.now) in
    let m : Point = point_at (g.I.Source.left c.loop.input) (g.O.Sink.held c.loop.output) in
    let b : Point = point_at (g.I.Source.left c.answer_next.new.input) (g.O.Sink.held c.answer_next.new.output) in
    let now = subst (λ (on : Bool). HearsOne m on b) c.in-Ok-true.field-0-test c.in-Ok-true.ensures.hears in
    record {
      fronts = before.fronts ++ now.0 ∷ [];
      count = omega (arith, before.count, length-append before.fronts (now.0 ∷ []));
      hears = folds_more (Hears true) a before.fronts m now.0 b before.hears now.1;
      input = omega (arith, before.input, c.in-Ok-true.ensures.input);
      output = omega (arith, before.output, c.in-Ok-true.ensures.output);
    }
