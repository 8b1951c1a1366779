use Rattle.std.proofs.Common.{subst}
use Rattle.book_rule.specs.Seats.{Identity}
use Rattle.scm_book.specs.Holds.{Opens}
use Rattle.scm_book.proofs.book.Book.opens.Goals as goal

pub returns : goal.returns
returns g c = subst (λ (b : Identity). Opens b.opening) c.self.view_is c.self.invariant
