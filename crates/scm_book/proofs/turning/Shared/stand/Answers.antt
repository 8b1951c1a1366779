use Rattle.scm_book.proofs.Passes.{known_back, seated_back}
use Rattle.scm_book.proofs.turning.Shared.stand.Goals as goal

pub returns-clause-seated : goal.returns-clause-seated
returns-clause-seated g c = seated_back c.args.self.now.turn c.into_badge.result c.args.seat c.into_badge.ensures.0 c.into_badge.ensures.2
    c.requires

pub returns-clause-knows : goal.returns-clause-knows
returns-clause-knows g c = known_back c.args.self.now.turn c.into_badge.result c.args.seat c.into_badge.ensures.0 c.into_badge.ensures.2
