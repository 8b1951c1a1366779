use Rattle.std.proofs.Common.{◌+◌, ap, arith, drop, length, length-drop, subst, take}
use Rattle.std.proofs.lemmas.List.{take_all, take_rest}
use Rattle.trail_audit.specs.Along.{GoesOn, Point, StopsIn, point}
use Rattle.trail_audit.proofs.Stretches.{front_more, goes_nowhere, rest_stops}
use Rattle.trail_audit.proofs.feeding.feed.Goals as goal

pub loop-taken-init : goal.loop-taken-init
loop-taken-init c =
    let a : Point = point c.args.auditor.now c.args.reading.now in
    record {
      within = omega arith;
      on = goes_nowhere a c.requires.clean;
      can = c.requires.on;
      number = omega arith;
    }

pub take-requires-clause-may : goal.take-requires-clause-may
take-requires-clause-may c =
    let before = c.loop-taken.invariant in
    record {
      on = before.can;
      clean = before.on.clean;
      lines = omega (arith, before.number, before.within, c.requires.lines, c.loop-taken-test.true);
    }

pub returns-in-Err-clause-fed : goal.returns-in-Err-clause-fed
returns-in-Err-clause-fed c =
    let a : Point = point c.args.auditor.now c.args.reading.now in
    let m : Point = point c.loop-taken.auditor c.loop-taken.reading in
    rest_stops c.args.piece.now c.loop-taken.taken a m c.in-Err.stop c.loop-taken.invariant.on
    (subst (λ xs. StopsIn xs m c.in-Err.stop) (take_rest c.args.piece.now c.loop-taken.taken) c.in-Err.ensures.fed)

pub loop-taken-preserved : goal.loop-taken-preserved
loop-taken-preserved c =
    let before = c.loop-taken.invariant in
    let a : Point = point c.args.auditor.now c.args.reading.now in
    let m : Point = point c.loop-taken.auditor c.loop-taken.reading in
    let b : Point = point c.take.new.auditor c.take.new.reading in
    let (some, within, on) = c.in-Ok.ensures.fed in
    let left = take_rest c.args.piece.now c.loop-taken.taken in
    record {
      within = omega (arith, within, before.within, ap length left, length-drop c.loop-taken.taken c.args.piece.now);
      on = front_more c.args.piece.now c.loop-taken.taken c.in-Ok.more a m b before.on
          (subst (λ xs. GoesOn (take c.in-Ok.more xs) m b) left on);
      can = c.in-Ok.ensures.on.on;
      number = omega (arith, before.number, c.in-Ok.ensures.number, some);
    }

pub returns-clause-fed : goal.returns-clause-fed
returns-clause-fed c =
    let before = c.loop-taken.invariant in
    let a : Point = point c.args.auditor.now c.args.reading.now in
    let b : Point = point c.loop-taken.auditor c.loop-taken.reading in
    subst (λ xs. GoesOn xs a b) (take_all c.loop-taken.taken c.args.piece.now (omega (arith, c.loop-taken-test.false))) before.on

pub returns-clause-on : goal.returns-clause-on
returns-clause-on c =
    let before = c.loop-taken.invariant in
    record {
      on = before.can;
      clean = before.on.clean;
      lines = omega (arith, before.number, before.within, c.requires.lines);
    }
