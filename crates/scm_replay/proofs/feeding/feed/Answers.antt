use Rattle.std.proofs.Common.{◌∙◌, ap, arith, drop, length, length-drop, refl, subst, take}
use Rattle.std.proofs.lemmas.List.{take_rest}
use Rattle.scm_replay.specs.Along.{Point, GoesOn, HaltsIn, point}
use Rattle.scm_replay.proofs.Stretches.{goes_nowhere, front_more, rest_stops, keeps_more}
use Rattle.scm_replay.proofs.feeding.feed.Goals as goal

pub loop-taken-init : goal.loop-taken-init
loop-taken-init g c =
    let a : Point = point c.args.manager.now c.args.reading.now (g.O.Sink.held c.args.output.now) in
    record {
      within = omega arith;
      on = goes_nowhere c.args.manager.now.limits a c.requires.clean;
      keeps = record { limits = refl; text = λ small. small; steps = omega arith };
      number = omega arith;
      faults = refl;
    }

pub returns-in-Err-clause-fed : goal.returns-in-Err-clause-fed
returns-in-Err-clause-fed g c =
    let l = c.args.manager.now.limits in
    let before = c.loop-taken.invariant in
    let a : Point = point c.args.manager.now c.args.reading.now (g.O.Sink.held c.args.output.now) in
    let m : Point = point c.loop-taken.manager c.loop-taken.reading (g.O.Sink.held c.loop-taken.output) in
    let b : Point = point c.take.new.manager c.take.new.reading (g.O.Sink.held c.take.new.output) in
    rest_stops l c.args.piece.now c.loop-taken.taken a m b c.in-Err.stop before.on
    (subst (λ k. HaltsIn k (drop c.loop-taken.taken c.args.piece.now) m b c.in-Err.stop) before.keeps.limits
    (subst (λ xs. HaltsIn c.loop-taken.manager.limits xs m b c.in-Err.stop)
    (take_rest c.args.piece.now c.loop-taken.taken) c.in-Err.ensures.fed))

pub loop-taken-preserved : goal.loop-taken-preserved
loop-taken-preserved g c =
    let l = c.args.manager.now.limits in
    let before = c.loop-taken.invariant in
    let a : Point = point c.args.manager.now c.args.reading.now (g.O.Sink.held c.args.output.now) in
    let m : Point = point c.loop-taken.manager c.loop-taken.reading (g.O.Sink.held c.loop-taken.output) in
    let b : Point = point c.take.new.manager c.take.new.reading (g.O.Sink.held c.take.new.output) in
    let (some, within, on) = c.in-Ok.ensures.fed in
    let left = take_rest c.args.piece.now c.loop-taken.taken in
    record {
      within = omega (arith, within, before.within, ap length left, length-drop c.loop-taken.taken c.args.piece.now);
      on = front_more l c.args.piece.now c.loop-taken.taken c.in-Ok.more a m b before.on
          (subst (λ k. GoesOn k (take c.in-Ok.more (drop c.loop-taken.taken c.args.piece.now)) m b) before.keeps.limits
          (subst (λ xs. GoesOn c.loop-taken.manager.limits (take c.in-Ok.more xs) m b) left on));
      keeps = keeps_more c.args.manager.now c.loop-taken.manager c.take.new.manager c.loop-taken.taken c.in-Ok.more before.keeps
          (record {
            limits = c.in-Ok.ensures.keeps.limits;
            text = c.in-Ok.ensures.keeps.text;
            steps = omega (arith, c.in-Ok.ensures.keeps.steps, some);
          });
      number = omega (arith, before.number, c.in-Ok.ensures.number, some);
      faults = c.in-Ok.ensures.cause.caused ∙ before.faults;
    }
