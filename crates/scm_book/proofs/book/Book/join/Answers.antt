use Rattle.scm_book.specs.Turns.{of_badge}
use Rattle.scm_book.proofs.JoinsMade.{joins_some}
use Rattle.scm_book.proofs.book.Book.join.Goals as goal

pub returns-clause-caller : goal.returns-clause-caller
returns-clause-caller g c =
    joins_some c.self.inside.shared.turn.opening c.self.invariant (of_badge c.by.inside.badge)
    (of_badge c.join_beside.new.by) c.args.moment c.args.principal c.join_beside.result c.join_beside.ensures.joins
