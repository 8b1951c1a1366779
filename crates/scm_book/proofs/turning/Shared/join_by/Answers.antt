use Rattle.scm_book.specs.Joins.{JoinEnds}
use Rattle.scm_book.specs.Passes.{Known}
use Rattle.scm_book.proofs.Passes.{as_tokens}
use Rattle.scm_book.proofs.turning.Shared.join_by.Goals as goal

pub returns-clause-ends : goal.returns-clause-ends
returns-clause-ends g c =
    as_tokens (λ (k k' : Known). JoinEnds c.args.self.now.turn.opening k c.args.moment c.args.principal k' c.join_at-joined.result)
    c.sit-seat.ensures.knows c.stand.ensures.knows c.join_at-joined.ensures.ends
