use Rattle.book_calls.proofs.Coming.{accompanied_of, fresh_of}
use Rattle.book_calls.proofs.books.runner.Goals as goal

pub returns-clause-by : goal.returns-clause-by
returns-clause-by c = accompanied_of c.args.book.now c.args.by.now c.join_runner.new.by c.requires c.join_runner.ensures.by

pub returns-clause-runner : goal.returns-clause-runner
returns-clause-runner c = fresh_of c.args.book.now c.args.by.now c.join_runner.result c.requires c.join_runner.ensures.runner
