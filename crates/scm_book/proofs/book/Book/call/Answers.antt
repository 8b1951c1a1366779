use Rattle.scm_book.proofs.CallsMade.{reply_taken, replied_into}
use Rattle.scm_book.proofs.book.Book.call.Goals as goal

pub reply_of-requires : goal.reply_of-requires
reply_of-requires g c =
    replied_into c.args.self.now.opening c.args.pass.now c.call_into.new.pass c.args.moment c.args.request c.call_into.new.answer
    c.in-Ok.ensures.calls

pub returns-in-Ok-clause-calls : goal.returns-in-Ok-clause-calls
returns-in-Ok-clause-calls g c =
    reply_taken c.args.self.now.opening c.args.pass.now c.call_into.new.pass c.args.moment c.args.request c.call_into.new.answer
    c.reply_of.result c.reply_of.ensures c.in-Ok.ensures.calls
