use Rattle.book_calls.proofs.Coming.{raises_stay, some_still}
use Rattle.book_calls.proofs.asking.raise.Goals as goal

pub returns-clause-caller : goal.returns-clause-caller
returns-clause-caller g c =
    some_still c.args.pass.now.caller c.raise.new.pass.caller (raises_stay c.args.book.now.opening c.args.pass.now c.args.moment
    c.args.subtype c.raise.new.pass c.raise.result c.raise.ensures.raises) c.requires.caller
