use Rattle.book_calls.proofs.Coming.{calls_stay, some_still}
use Rattle.book_calls.proofs.asking.call.Goals as goal

pub returns-clause-caller : goal.returns-clause-caller
returns-clause-caller g c =
    some_still c.args.pass.now.caller c.call.new.pass.caller (calls_stay c.args.book.now.opening c.args.pass.now c.args.moment
    c.args.request c.call.new.pass c.call.result c.call.ensures.calls) c.requires.caller
