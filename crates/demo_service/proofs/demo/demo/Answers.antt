use Rattle.std.proofs.Common.{List, arith, subst, ℕ}
use Rattle.demo_service.specs.Doing.{Does, Point, WearsAt, point_at}
use Rattle.demo_service.proofs.Folds.{folds_next}
use Rattle.demo_service.proofs.Wearing.{wears_there}
use Rattle.demo_service.proofs.demo.demo.Goals as goal

pub loop-text-preserved : goal.loop-text-preserved
loop-text-preserved g c =
    let before = c.loop-text.invariant in
    let a : Point = point_at (g.I.Source.left c.args.input.now) (g.O.Sink.held c.args.output.now) in
    let m : Point = point_at (g.I.Source.left c.loop-text.input) (g.O.Sink.held c.loop-text.output) in
    let b : Point = point_at (g.I.Source.left c.do_text.new.input) (g.O.Sink.held c.do_text.new.output) in
    record {
      does = folds_next Does a c.args.texts.now c.loop-text.text-index c.text-item.result m b c.loop-text-test.true before.does
          (subst (λ (text : List ℕ). Does m text b) c.text-item.is c.in-Ok.ensures.does);
      input = omega (arith, before.input, c.in-Ok.ensures.input);
      output = omega (arith, before.output, c.in-Ok.ensures.output);
    }

pub returns-in-Err-clause-worn : goal.returns-in-Err-clause-worn
returns-in-Err-clause-worn g c = λ worn.
    let a : Point = point_at (g.I.Source.left c.args.input.now) (g.O.Sink.held c.args.output.now) in
    let m : Point = point_at (g.I.Source.left c.loop-text.input) (g.O.Sink.held c.loop-text.output) in
    let b : Point = point_at (g.I.Source.left c.do_text.new.input) (g.O.Sink.held c.do_text.new.output) in
    wears_there a c.args.texts.now c.loop-text.text-index c.text-item.result m b c.loop-text-test.true c.loop-text.invariant.does
    (subst (λ (text : List ℕ). WearsAt m text b) c.text-item.is (c.in-Err.ensures.worn cc))
