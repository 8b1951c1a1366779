use Rattle.book_rule.specs.Seats.{Identity}
use Rattle.scm_book.specs.Passes.{KeepsAll, Known, Learnt}
use Rattle.scm_book.specs.Turns.{of_badge}
use Rattle.scm_book.proofs.InHand.{seen_outside}
use Rattle.scm_book.proofs.InHandStill.{learnt_keeps}
use Rattle.scm_book.proofs.book.Book.record.Goals as goal

pub returns-clause-learnt : goal.returns-clause-learnt
returns-clause-learnt g c =
    let k' : Known = of_badge c.record_by.new.badge in
    seen_outside (λ (b : Identity) (k : Known). Learnt b.opening k k') c.self.inside.shared.turn c.args.self.now
    (of_badge c.pass.inside.badge) c.args.pass.now c.self.view_is c.pass.view_is c.record_by.ensures.learnt

pub returns-clause-keeps : goal.returns-clause-keeps
returns-clause-keeps g c =
    let k' : Known = of_badge c.record_by.new.badge in
    seen_outside (λ (b : Identity) (k : Known). KeepsAll b.opening k k') c.self.inside.shared.turn c.args.self.now
    (of_badge c.pass.inside.badge) c.args.pass.now c.self.view_is c.pass.view_is
    (learnt_keeps c.self.inside.shared.turn.opening c.self.invariant (of_badge c.pass.inside.badge) k' c.record_by.ensures.learnt)
