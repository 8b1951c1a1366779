use Rattle.std.proofs.Common.{sym, ap, ◌∙◌}
use Rattle.scm_book.specs.Joins.{accompanied, fresh}
use Rattle.scm_book.proofs.Forks.{accompanied_is, beside_waits, fresh_is, new_waits}
use Rattle.scm_book.proofs.turning.Shared.accompany.Goals as goal

pub fork-runner-requires : goal.fork-runner-requires
fork-runner-requires g c = c.sit-mine.ensures.waits.of

pub stand-requires : goal.stand-requires
stand-requires g c = beside_waits c.args.self.now.turn c.sit-mine.result c.fork-runner.new.seat c.fork-runner.result
    c.sit-mine.ensures.waits c.fork-runner.ensures

pub stand-badge-requires : goal.stand-badge-requires
stand-badge-requires g c = new_waits c.args.self.now.turn c.sit-mine.result c.fork-runner.new.seat c.fork-runner.result
    c.sit-mine.ensures.waits c.fork-runner.ensures

pub returns-clause-by : goal.returns-clause-by
returns-clause-by g c =
    sym c.stand.ensures.knows ∙ (accompanied_is c.sit-mine.result c.fork-runner.new.seat c.fork-runner.result c.fork-runner.ensures
    ∙ ap accompanied (sym c.sit-mine.ensures.knows))

pub returns-clause-runner : goal.returns-clause-runner
returns-clause-runner g c =
    sym c.stand-badge.ensures.knows ∙ (fresh_is c.sit-mine.result c.fork-runner.new.seat c.fork-runner.result c.fork-runner.ensures
    ∙ ap fresh (sym c.sit-mine.ensures.knows))
