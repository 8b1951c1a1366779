use Rattle.std.proofs.Common.{◌≡◌, ◌-◌, arith, subst, sym}
use Rattle.scm_generate.specs.Listed.{all_runs}
use Rattle.scm_generate.specs.Progress.{IsOpenTo, Makes}
use Rattle.scm_generate.proofs.Along.{open_start, open_starts, starts_more, starts_none}
use Rattle.scm_generate.proofs.Units.{line_short}
use Rattle.scm_generate.proofs.starting.start_all.Goals as goal

pub loop-before-init : goal.loop-before-init
loop-before-init c =
    let all : c.args.services - 0 ≡ c.args.services = omega arith in
    record {
      few = omega arith;
      still = subst (λ n. IsOpenTo c.args.run.now (all_runs n 1 1)) (sym all) c.requires.open;
      whole = λ now rest. subst (λ n. Makes c.args.run.now (all_runs n 1 1) now) all rest;
    }

pub start-requires-clause-small : goal.start-requires-clause-small
start-requires-clause-small c =
    let short = line_short (c.args.services - c.loop-before.before) (omega (arith, c.requires.few)) in
    omega (arith, short, c.loop-before.invariant.few, c.requires.few, c.loop-before-test.true)

pub start-requires-clause-open : goal.start-requires-clause-open
start-requires-clause-open c =
    open_start c.loop-before.run c.args.services c.loop-before.before c.loop-before.process _ c.loop-before-test.true
    c.loop-before.invariant.still

pub loop-before-preserved : goal.loop-before-preserved
loop-before-preserved c =
    let before = c.loop-before.invariant in
    let short = line_short (c.args.services - c.loop-before.before) (omega (arith, c.requires.few)) in
    record {
      few = omega (arith, short, before.few, c.in-Ok.ensures.next);
      still = open_starts c.loop-before.run c.start.new.run c.args.services c.loop-before.before c.loop-before.process c.in-Ok.next
          c.loop-before-test.true c.in-Ok.ensures.made c.in-Ok.ensures.next before.still;
      whole = λ now rest.
          before.whole now
          (starts_more c.loop-before.run c.start.new.run now c.args.services c.loop-before.before c.loop-before.process c.in-Ok.next
          c.loop-before-test.true
          c.in-Ok.ensures.made c.in-Ok.ensures.next rest);
    }

pub returns : goal.returns
returns c =
    c.loop-before.invariant.whole c.loop-before.run
    (starts_none c.loop-before.run c.args.services c.loop-before.before c.loop-before.process _
    (omega (arith, c.loop-before-test.false, c.loop-before.auto.before-end)))
