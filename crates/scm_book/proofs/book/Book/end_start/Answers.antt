use Rattle.std.proofs.Common.{subst, sym}
use Rattle.book_rule.specs.Seats.{Identity}
use Rattle.scm_book.specs.Passes.{HasPlan, Known}
use Rattle.scm_book.specs.Starts.{EndKeeps, EndLooks}
use Rattle.scm_book.specs.Turns.{of_badge}
use Rattle.scm_book.proofs.StartsMade.{always_there, end_told, looks_keep, looks_so}
use Rattle.scm_book.proofs.book.Book.end_start.Goals as goal

pub end_by-ended-requires-clause-there : goal.end_by-ended-requires-clause-there
end_by-ended-requires-clause-there g c =
    always_there c.self.inside.shared.turn.opening c.self.invariant (of_badge c.pass.inside.badge) c.pass.inside.caller c.args.plan
    c.pass.invariant.whose (subst (λ (x : Known). HasPlan c.self.inside.shared.turn.opening x c.args.plan) (sym c.pass.view_is)
    (subst (λ (b : Identity). HasPlan b.opening c.args.pass.now c.args.plan) (sym c.self.view_is) c.requires.plan))

pub end_look-requires : goal.end_look-requires
end_look-requires g c =
    end_told c.self.inside.shared.turn.opening c.self.invariant (of_badge c.pass.inside.badge)
    (of_badge c.end_by-ended.new.badge) c.args.moment c.pass.inside.caller c.args.plan c.pass.invariant.whose c.end_by-ended.result
    c.end_by-ended.ensures.ends

pub returns-clause-ends : goal.returns-clause-ends
returns-clause-ends g c =
    subst (λ (b : Identity). EndLooks b.opening c.args.pass.now c.args.moment c.args.plan
    (of_badge c.end_by-ended.new.badge) c.end_look.result) c.self.view_is
    (subst (λ (x : Known). EndLooks c.self.inside.shared.turn.opening x c.args.moment c.args.plan
    (of_badge c.end_by-ended.new.badge) c.end_look.result) c.pass.view_is
    (looks_so c.self.inside.shared.turn.opening c.self.invariant (of_badge c.pass.inside.badge)
    (of_badge c.end_by-ended.new.badge) c.args.moment c.pass.inside.caller c.args.plan c.pass.invariant.whose c.end_by-ended.result
    c.end_look.result c.end_by-ended.ensures.ends c.end_look.ensures))

pub returns-clause-keeps : goal.returns-clause-keeps
returns-clause-keeps g c =
    subst (λ (b : Identity). EndKeeps b.opening c.args.plan c.args.pass.now (of_badge c.end_by-ended.new.badge) c.end_look.result)
    c.self.view_is
    (looks_keep c.self.inside.shared.turn.opening c.self.invariant c.args.pass.now
    (of_badge c.end_by-ended.new.badge) c.args.moment c.args.plan c.end_look.result
    (subst (λ (x : Known). EndLooks c.self.inside.shared.turn.opening x c.args.moment c.args.plan
    (of_badge c.end_by-ended.new.badge) c.end_look.result) c.pass.view_is
    (looks_so c.self.inside.shared.turn.opening c.self.invariant (of_badge c.pass.inside.badge)
    (of_badge c.end_by-ended.new.badge) c.args.moment c.pass.inside.caller c.args.plan c.pass.invariant.whose c.end_by-ended.result
    c.end_look.result c.end_by-ended.ensures.ends c.end_look.ensures)))
