use Rattle.book_calls.proofs.Coming.{taken_of}
use Rattle.book_calls.proofs.books.leaves.Goals as goal

pub returns : goal.returns
returns g c = taken_of c.args.book.now c.args.by.now c.gone-spent.result c.leave.new.by c.requires.by c.leave.ensures.takes
