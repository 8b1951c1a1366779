use Rattle.std.proofs.Common.{[], ◌∷◌, ◌++◌, arith}
use Rattle.scm_model.specs.declared.steps.Step.TheVariants.{EndStart}
use Rattle.scm_generate.specs.Listed.{asked_start, at_once, depth_of, downs, ups}
use Rattle.scm_generate.proofs.Along.{open_left, open_right, open_started, started_all}
use Rattle.scm_generate.proofs.starting.start.Goals as goal

pub ask-requires : goal.ask-requires
ask-requires c =
    let d = depth_of c.args.number in
    open_left c.args.run.now (asked_start c.args.number ∷ []) (ups c.args.process d
    ++ (at_once (EndStart 1 c.args.plan) ∷ downs c.args.process d)) c.requires.open

pub ups-requires-clause-small : goal.ups-requires-clause-small
ups-requires-clause-small c = omega (arith, c.requires.small, c.line_of-count.ensures.value)

pub ups-requires-clause-open : goal.ups-requires-clause-open
ups-requires-clause-open c =
    let k = c.line_of-count.result in
    open_left c.ask.new.run (ups c.args.process k) (at_once (EndStart 1 c.args.plan) ∷ downs c.args.process k)
    (open_started c.args.run.now c.ask.new.run c.args.number c.args.process c.args.plan k c.line_of-count.ensures.value c.in_ok-ask.ensures
    c.requires.open)

pub make-requires : goal.make-requires
make-requires c =
    let k = c.line_of-count.result in
    open_left c.ups.new.run (at_once (EndStart 1 c.args.plan) ∷ []) (downs c.args.process k)
    (open_right c.ask.new.run c.ups.new.run (ups c.args.process k) (at_once (EndStart 1 c.args.plan) ∷ downs c.args.process k)
    c.in_ok-ups.ensures
    (open_started c.args.run.now c.ask.new.run c.args.number c.args.process c.args.plan k c.line_of-count.ensures.value c.in_ok-ask.ensures
    c.requires.open))

pub downs-requires-clause-small : goal.downs-requires-clause-small
downs-requires-clause-small c = omega (arith, c.requires.small, c.line_of-count.ensures.value)

pub downs-requires-clause-open : goal.downs-requires-clause-open
downs-requires-clause-open c =
    let k = c.line_of-count.result in
    open_right c.ups.new.run c.make.new.self (at_once (EndStart 1 c.args.plan) ∷ []) (downs c.args.process k) c.in_ok-make.ensures
    (open_right c.ask.new.run c.ups.new.run (ups c.args.process k) (at_once (EndStart 1 c.args.plan) ∷ downs c.args.process k)
    c.in_ok-ups.ensures
    (open_started c.args.run.now c.ask.new.run c.args.number c.args.process c.args.plan k c.line_of-count.ensures.value c.in_ok-ask.ensures
    c.requires.open))

pub returns-clause-made : goal.returns-clause-made
returns-clause-made c =
    started_all c.args.run.now c.ask.new.run c.ups.new.run c.make.new.self c.downs.new.run c.args.number c.args.process c.args.plan
    c.line_of-count.result
    c.line_of-count.ensures.value c.in_ok-ask.ensures c.in_ok-ups.ensures c.in_ok-make.ensures c.in_ok-downs.ensures
