use Rattle.std.proofs.Common.{refl}
use Rattle.child_runner.specs.Launches.{spawning_of}
use Rattle.scm_launcher.proofs.Handing.{is_handed, is_launched}
use Rattle.scm_launcher.proofs.children.launch_next.Goals as goal

pub returns-in-Started-clause-looks : goal.returns-in-Started-clause-looks
returns-in-Started-clause-looks g c =
    is_launched c.args.book.now.opening (g.C.Clock.tells c.args.clock.now) g.P.Link.Link.pid
    (g.P.Spawner.gives c.args.spawner.now) c.args.by.now
    (spawning_of (g.P.Spawner.started c.args.spawner.now) (g.P.Spawner.started c.launch_one.new.spawner)
    (g.P.Spawner.faults c.args.spawner.now) (g.P.Spawner.faults c.launch_one.new.spawner))
    c.in-Started.process c.in-Started.link c.in-Started.feed
    c.launch_one.new.pass c.join_runner-other.new.by c.join_runner-next.new.by c.replace-taken.result c.join_runner-other.result
    c.join_runner-next.result c.replace-taken.new.dest
    c.in-Started.ensures.launches c.join_runner-other.ensures.runner c.join_runner-other.ensures.by c.join_runner-next.ensures.runner
    c.join_runner-next.ensures.by
    c.replace-taken.ensures.value c.replace-taken.ensures.after

pub returns-in-Started-clause-hands : goal.returns-in-Started-clause-hands
returns-in-Started-clause-hands g c =
    is_handed c.args.book.now.opening (g.C.Clock.tells c.args.clock.now) g.P.Link.Link.pid
    (g.P.Spawner.gives c.args.spawner.now) c.args.by.now
    (spawning_of (g.P.Spawner.started c.args.spawner.now) (g.P.Spawner.started c.launch_one.new.spawner)
    (g.P.Spawner.faults c.args.spawner.now) (g.P.Spawner.faults c.launch_one.new.spawner))
    c.in-Started.process c.in-Started.link c.in-Started.feed
    c.launch_one.new.pass c.join_runner-other.new.by c.join_runner-next.new.by c.replace-taken.result c.join_runner-other.result
    c.join_runner-next.result c.replace-taken.new.dest
    c.in-Started.ensures.launches c.join_runner-other.ensures.runner c.join_runner-other.ensures.by c.join_runner-next.ensures.runner
    c.join_runner-next.ensures.by
    c.replace-taken.ensures.value c.replace-taken.ensures.after c.args.book.now refl c.launch_one.ensures.book c.requires.nobody
