use Rattle.scm_book.proofs.Passes.{known_is, seat_waits}
use Rattle.scm_book.proofs.turning.Shared.sit.Goals as goal

pub returns-clause-waits : goal.returns-clause-waits
returns-clause-waits g c =
    seat_waits c.args.self.now.turn c.args.badge.now c.replace.result c.into_seat.result c.replace.ensures.value c.requires
    c.into_seat.ensures.0 c.into_seat.ensures.2 c.into_seat.ensures.3

pub returns-clause-knows : goal.returns-clause-knows
returns-clause-knows g c = known_is c.args.self.now.turn c.args.badge.now c.replace.result c.into_seat.result c.replace.ensures.value
    c.requires c.into_seat.ensures.0 c.into_seat.ensures.2
