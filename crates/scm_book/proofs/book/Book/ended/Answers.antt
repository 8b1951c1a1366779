use Rattle.std.proofs.Common.{refl, subst}
use Rattle.scm_model.specs.declared.flat.Phase.TheVariants as phases
use Rattle.scm_model.specs.declared.steps.Answer.{Answer}
use Rattle.scm_model.specs.declared.steps.Step.TheVariants.{Ended}
use Rattle.book_rule.specs.Seats.{Identity}
use Rattle.scm_book.specs.Passes.{Known, Made}
use Rattle.scm_book.specs.Processes.{EndedSo, KeepsAllBut}
use Rattle.scm_book.specs.Turns.{of_badge}
use Rattle.scm_book.proofs.InHand.{always_ended, ended_so, held_inside, keeps_but, seen_outside, told_ended}
use Rattle.scm_book.proofs.book.Book.ended.Goals as goal

pub owe_by-told-requires-clause-may : goal.owe_by-told-requires-clause-may
owe_by-told-requires-clause-may g c =
    always_ended c.self.inside.shared.turn.opening (of_badge c.pass.inside.badge) c.args.moment c.args.process
    (held_inside c.self.inside.shared.turn c.args.self.now (of_badge c.pass.inside.badge) c.args.pass.now c.args.process phases.Launched
    c.self.view_is c.pass.view_is c.requires.process)

pub end_of-requires : goal.end_of-requires
end_of-requires g c = told_ended c.self.inside.shared.turn.opening c.self.invariant (of_badge c.pass.inside.badge)
    (of_badge c.owe_by-told.new.badge) c.args.moment c.args.process c.owe_by-told.result c.owe_by-told.ensures.made

pub returns-clause-ended : goal.returns-clause-ended
returns-clause-ended g c =
    seen_outside (λ (b : Identity) (k : Known). EndedSo b.opening k c.args.moment c.args.process c.end_of.result
    (of_badge c.owe_by-told.new.badge))
    c.self.inside.shared.turn c.args.self.now (of_badge c.pass.inside.badge) c.args.pass.now c.self.view_is c.pass.view_is
    (ended_so c.self.inside.shared.turn.opening c.self.invariant (of_badge c.pass.inside.badge)
    (of_badge c.owe_by-told.new.badge) c.args.moment c.args.process c.end_of.result
    (subst (λ (t : Answer). Made c.self.inside.shared.turn.opening (of_badge c.pass.inside.badge) c.args.moment (Ended c.args.process) t
    (of_badge c.owe_by-told.new.badge)) c.end_of.ensures c.owe_by-told.ensures.made))

pub returns-clause-rest : goal.returns-clause-rest
returns-clause-rest g c =
    seen_outside (λ (b : Identity) (k : Known). KeepsAllBut b.opening c.args.process k (of_badge c.owe_by-told.new.badge))
    c.self.inside.shared.turn c.args.self.now (of_badge c.pass.inside.badge) c.args.pass.now c.self.view_is c.pass.view_is
    (keeps_but c.self.inside.shared.turn.opening c.self.invariant (of_badge c.pass.inside.badge)
    (of_badge c.owe_by-told.new.badge) c.args.moment (Ended c.args.process) c.owe_by-told.result c.owe_by-told.ensures.made
    c.owe_by-told.ensures.made.caller c.args.process refl)
