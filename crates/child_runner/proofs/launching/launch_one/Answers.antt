use Rattle.std.proofs.Common.{ℕ, subst}
use Rattle.scm_model.specs.declared.steps.Step.TheVariants.{LaunchFailed, Launched}
use Rattle.child_runner.specs.Launches.{TakesAndTells}
use Rattle.child_runner.proofs.Telling.{takes_and_tells}
use Rattle.child_runner.proofs.launching.launch_one.Goals as goal

pub returns-in-Ok-clause-launches : goal.returns-in-Ok-clause-launches
returns-in-Ok-clause-launches g c =
    let line = c.take_launch.new.room in (
      (line.path.units, line.words),
      subst (λ (pid : ℕ). TakesAndTells c.args.book.now.opening (g.C.Clock.tells c.args.clock.now) c.args.pass.now c.in-Launch.process
          (line.path.units, line.words)
          (Launched c.in-Launch.process pid) c.launched.new.pass) c.id.ensures
          (takes_and_tells c.args.book.now.opening (g.C.Clock.tells c.args.clock.now) c.args.pass.now c.take_launch.new.pass
          c.launched.new.pass c.now.result c.now-in-Ok.result c.in-Launch.process
          c.args.room.now.path line.path line.words (Launched c.in-Launch.process c.id.result) c.now.ensures c.now-in-Ok.ensures
          c.in-Launch.ensures.look.0 c.launched.ensures.made c.launched.ensures.rest),
      c.launched.ensures.process,
      c.in-Ok.ensures.comes,
      c.in-Ok.ensures.given,
    )

pub returns-in-Err-clause-launches : goal.returns-in-Err-clause-launches
returns-in-Err-clause-launches g c =
    let line = c.take_launch.new.room in (
      (line.path.units, line.words),
      takes_and_tells c.args.book.now.opening (g.C.Clock.tells c.args.clock.now) c.args.pass.now c.take_launch.new.pass
          c.launch_failed.new.pass c.now.result c.now-in-Err.result c.in-Launch.process
          c.args.room.now.path line.path line.words (LaunchFailed c.in-Launch.process c.code-code.result) c.now.ensures c.now-in-Err.ensures
          c.in-Launch.ensures.look.0 c.launch_failed.ensures.made c.launch_failed.ensures.rest,
      c.in-Err.fault,
      c.code-code.ensures.code,
      c.in-Err.ensures.comes,
    )
