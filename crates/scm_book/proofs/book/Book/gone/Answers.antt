use Rattle.std.proofs.Common.{subst}
use Rattle.book_rule.specs.Seats.{Identity}
use Rattle.scm_book.specs.Calls.{Goes}
use Rattle.scm_book.specs.Turns.{of_badge}
use Rattle.scm_book.proofs.Closing.{goes_away}
use Rattle.scm_book.proofs.book.Book.gone.Goals as goal

pub returns-clause-goes : goal.returns-clause-goes
returns-clause-goes g c =
    subst (λ (b : Identity). Goes b.opening c.args.pass c.args.moment (of_badge c.owe_by-done.new.badge)) c.self.view_is
    (goes_away c.self.inside.shared.turn.opening c.self.invariant c.args.pass (of_badge c.pass.inside.badge)
    (of_badge c.owe_by-done.new.badge) c.args.moment c.pass.inside.caller c.owe_by-done.result c.pass.view_is
    c.pass.invariant.whose c.if-caller-eq0.false c.owe_by-done.ensures.made)
