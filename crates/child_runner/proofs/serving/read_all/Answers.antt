use Rattle.child_runner.proofs.Coming.{behind_full, behind_no_memory}
use Rattle.child_runner.proofs.serving.read_all.Goals as goal

pub returns-in-Full-clause-reads : goal.returns-in-Full-clause-reads
returns-in-Full-clause-reads g c =
    behind_full (g.C.Clock.tells c.args.clock.now) c.args.book.now.opening c.args.process c.args.pass.now c.make_reports.new.pass
    (g.L.Source.left c.args.link.now) (g.L.Source.left c.make_reports.new.link)
    (g.L.Source.left c.pass_over-in-Full.new.link) c.make_reports.new.count
    (g.L.Source.faults c.args.link.now) (g.L.Source.faults c.make_reports.new.link) (g.L.Source.faults c.pass_over-in-Full.new.link)
    c.in-Full.ensures.cause c.pass_over-in-Full.ensures c.in-Full.ensures.makes

pub returns-in-OutOfMemory-clause-reads : goal.returns-in-OutOfMemory-clause-reads
returns-in-OutOfMemory-clause-reads g c =
    behind_no_memory (g.C.Clock.tells c.args.clock.now) c.args.book.now.opening c.args.process c.args.pass.now c.make_reports.new.pass
    (g.L.Source.left c.args.link.now) (g.L.Source.left c.make_reports.new.link)
    (g.L.Source.left c.pass_over-in-OutOfMemory.new.link) c.make_reports.new.count
    (g.L.Source.faults c.args.link.now) (g.L.Source.faults c.make_reports.new.link) (g.L.Source.faults c.pass_over-in-OutOfMemory.new.link)
    c.in-OutOfMemory.ensures.cause c.pass_over-in-OutOfMemory.ensures c.in-OutOfMemory.ensures.makes
