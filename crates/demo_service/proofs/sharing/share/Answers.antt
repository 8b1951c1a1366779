use Rattle.std.proofs.Common.{Bool, arith, subst, ◌++◌, ◌∷◌, []}
use Rattle.std.proofs.lemmas.List.{length-append}
use Rattle.demo_service.specs.Doing.{Obeys, ObeysOne, SharedPoint, point_at, shared_at}
use Rattle.demo_service.proofs.Folds.{folds_more}
use Rattle.demo_service.proofs.sharing.share.Goals as goal

pub loop-preserved : goal.loop-preserved
loop-preserved g c =
    let before = c.loop.invariant in
    let a : SharedPoint = shared_at [] (point_at (g.I.Source.left c.args.input.now) (g.O.Sink.held c.args.output.now)) in
    let m : SharedPoint = shared_at c.loop.running.items (point_at (g.I.Source.left c.loop.input) (g.O.Sink.held c.loop.output)) in
    let b : SharedPoint = shared_at c.obey_next.new.running.items
    (point_at (g.I.Source.left c.obey_next.new.input) (g.O.Sink.held c.obey_next.new.output)) in
    let now = subst (λ (on : Bool). ObeysOne m on b) c.in-Ok-true.field-0-test c.in-Ok-true.ensures.obeys in
    record {
      fronts = before.fronts ++ now.0 ∷ [];
      count = omega (arith, before.count, length-append before.fronts (now.0 ∷ []));
      obeys = folds_more Obeys a before.fronts m now.0 b before.obeys now.1;
      input = omega (arith, before.input, c.in-Ok-true.ensures.input);
      output = omega (arith, before.output, c.in-Ok-true.ensures.output);
    }
