use Rattle.std.proofs.Common.{subst, sym}
use Rattle.book_rule.specs.Seats.{Identity}
use Rattle.scm_book.specs.declared.controlling.ControlLook.{ControlLook}
use Rattle.scm_book.specs.Holds.{Opens}
use Rattle.scm_book.specs.Passes.{Known}
use Rattle.scm_book.specs.Reporting.{ControlEnds, LooksFor}
use Rattle.scm_book.specs.Turns.{of_badge}
use Rattle.scm_book.proofs.InHand.{seen_outside}
use Rattle.scm_book.proofs.ReportsMade.{controls_keep, ends_control, same_large}
use Rattle.scm_book.proofs.book.Book.take_control.Goals as goal

pub returns-clause-ends : goal.returns-clause-ends
returns-clause-ends g c =
    let opens = subst (λ (b : Identity). Opens b.opening) c.self.view_is c.self.invariant in
    let looks = seen_outside (λ (b : Identity) (k : Known). LooksFor b.opening k c.args.moment c.args.process
    c.args.room.now.name c.control_by-looked.new.name (of_badge c.control_by-looked.new.badge) c.control_by-looked.result)
    c.self.inside.shared.turn c.args.self.now (of_badge c.pass.inside.badge) c.args.pass.now c.self.view_is c.pass.view_is
    c.control_by-looked.ensures.looks in
    subst (λ (look : ControlLook). ControlEnds c.args.self.now.opening c.args.pass.now c.args.moment c.args.process c.args.room.now
    (record { name = c.control_by-looked.new.name }) look (of_badge c.control_by-looked.new.badge)) (sym c.look_of.ensures)
    (ends_control c.args.self.now.opening opens c.args.pass.now (of_badge c.control_by-looked.new.badge) c.args.moment c.args.process
    c.args.room.now (record { name = c.control_by-looked.new.name }) c.control_by-looked.result.ended
    c.control_by-looked.result.waiting looks.ends looks.waiting)

pub returns-clause-name : goal.returns-clause-name
returns-clause-name g c =
    let opens = subst (λ (b : Identity). Opens b.opening) c.self.view_is c.self.invariant in
    same_large c.args.self.now.opening opens c.args.pass.now (of_badge c.control_by-looked.new.badge) c.args.moment c.args.process
    c.args.room.now (record { name = c.control_by-looked.new.name }) c.look_of.result (returns-clause-ends g c)

pub returns-clause-keeps : goal.returns-clause-keeps
returns-clause-keeps g c =
    let opens = subst (λ (b : Identity). Opens b.opening) c.self.view_is c.self.invariant in
    controls_keep c.args.self.now.opening opens c.args.pass.now (of_badge c.control_by-looked.new.badge) c.args.moment c.args.process
    c.args.room.now (record { name = c.control_by-looked.new.name }) c.look_of.result (returns-clause-ends g c)
