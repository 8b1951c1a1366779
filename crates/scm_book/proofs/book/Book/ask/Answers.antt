use Rattle.std.proofs.Common.{subst, sym, ◌∙◌}
use Rattle.book_rule.specs.Seats.{Identity}
use Rattle.scm_book.specs.Holds.{Opens}
use Rattle.scm_book.specs.Passes.{Known}
use Rattle.scm_book.specs.Turns.{AlwaysMay, call_told, of_badge}
use Rattle.scm_book.proofs.CallsMade.{asks_so, caller_still}
use Rattle.scm_book.proofs.Coming.{may_lack}
use Rattle.scm_book.proofs.InHand.{seen_outside}
use Rattle.scm_book.proofs.book.Book.ask.Goals as goal

pub call_by-requires-clause-may : goal.call_by-requires-clause-may
call_by-requires-clause-may g c =
    seen_outside (λ (x : Identity) (y : Known). AlwaysMay x.opening y c.args.moment c.args.call.now.step) c.args.self.now
    c.self.inside.shared.turn c.args.pass.now (of_badge c.pass.inside.badge)
    (sym c.self.view_is) (sym c.pass.view_is) c.requires.may

pub call_by-requires-clause-none : goal.call_by-requires-clause-none
call_by-requires-clause-none g c =
    may_lack c.self.inside.shared.turn.opening c.args.pass.now (of_badge c.pass.inside.badge) c.pass.view_is c.args.moment
    c.pass.inside.caller c.pass.invariant.whose c.requires.caller

pub invariant_of-pass : goal.invariant_of-pass
invariant_of-pass g c =
    let same = caller_still c.self.inside.shared.turn.opening (of_badge c.pass.inside.badge)
    (of_badge c.call_by.new.badge) c.args.moment c.pass.inside.caller c.args.call.now.step c.requires.stays
    (call_told c.call_by.result c.call_by.new.answer) c.call_by.ensures.ends in
    record { rests = c.call_by.ensures.badge.rests; whose = c.pass.invariant.whose ∙ sym same }

pub returns-clause-opens : goal.returns-clause-opens
returns-clause-opens g c = subst (λ (b : Identity). Opens b.opening) c.self.view_is c.self.invariant

pub returns-clause-asks : goal.returns-clause-asks
returns-clause-asks g c =
    asks_so c.self.inside.shared.turn c.args.self.now (of_badge c.pass.inside.badge) c.args.pass.now
    (of_badge c.call_by.new.badge) c.self.view_is c.pass.view_is c.args.moment c.pass.inside.caller
    c.pass.invariant.whose c.args.call.now.step
    (call_told c.call_by.result c.call_by.new.answer) c.call_by.ensures.ends
