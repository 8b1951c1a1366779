use Rattle.std.proofs.Common.{sym, subst}
use Rattle.scm_book.specs.Ghosts.{ghosts_of}
use Rattle.scm_book.specs.Joins.{TakesIn}
use Rattle.scm_book.specs.Passes.{KeepsAll, Known}
use Rattle.scm_book.specs.Turns.{known, of_badge}
use Rattle.scm_book.proofs.Forks.{merged_keeps, merged_waits, takes_in}
use Rattle.scm_book.proofs.Passes.{as_tokens}
use Rattle.scm_book.proofs.turning.Shared.take_in.Goals as goal

pub stand-requires : goal.stand-requires
stand-requires g c = merged_waits c.args.self.now.turn c.sit-mine.result c.merge.new.seat c.sit-other.result c.sit-mine.ensures.waits
    c.merge.ensures.seat

pub returns-clause-keeps : goal.returns-clause-keeps
returns-clause-keeps g c =
    let ghosts = ghosts_of g.K.Keeper.held g.K.Keeper.faults g.K.Keeper.settled g.K.Keeper.crashes
    g.K.Keeper.are_crashes g.K.Keeper.asked in
    as_tokens (λ (k k' : Known). KeepsAll c.args.self.now.turn.opening k k') c.sit-mine.ensures.knows c.stand.ensures.knows
    (merged_keeps ghosts c.args.self.now.turn c.requires.opens c.sit-mine.result
    c.merge.new.seat
    c.sit-other.result c.merge.ensures.seat c.merge.ensures.claims)

pub returns-clause-takes : goal.returns-clause-takes
returns-clause-takes g c =
    as_tokens (λ (k k' : Known). TakesIn k (of_badge c.args.spent) k') c.sit-mine.ensures.knows c.stand.ensures.knows
    (subst (λ (k : Known). TakesIn (known c.sit-mine.result) k (known c.merge.new.seat)) (sym c.sit-other.ensures.knows)
    (takes_in c.sit-mine.result c.merge.new.seat c.sit-other.result c.merge.ensures.seat))
