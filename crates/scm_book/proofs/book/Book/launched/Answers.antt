use Rattle.std.proofs.Common.{refl, subst}
use Rattle.scm_model.specs.declared.flat.Phase.TheVariants as phases
use Rattle.scm_model.specs.declared.steps.Answer.TheVariants as answers
use Rattle.scm_model.specs.declared.steps.Step.TheVariants.{Launched}
use Rattle.book_rule.specs.Seats.{Identity}
use Rattle.scm_book.specs.Passes.{HoldsProcess, Known, Made}
use Rattle.scm_book.specs.Processes.{KeepsAllBut}
use Rattle.scm_book.specs.Turns.{of_badge}
use Rattle.scm_book.proofs.InHand.{always_launched, held_inside, holds_launched, keeps_but, seen_outside, told_launched}
use Rattle.scm_book.proofs.book.Book.launched.Goals as goal

pub owe_by-done-requires-clause-may : goal.owe_by-done-requires-clause-may
owe_by-done-requires-clause-may g c =
    always_launched c.self.inside.shared.turn.opening (of_badge c.pass.inside.badge) c.args.moment c.args.process c.args.pid
    (held_inside c.self.inside.shared.turn c.args.self.now (of_badge c.pass.inside.badge) c.args.pass.now c.args.process phases.Taken
    c.self.view_is c.pass.view_is c.requires.process)

pub returns-clause-made : goal.returns-clause-made
returns-clause-made g c =
    seen_outside (λ (b : Identity) (k : Known). Made b.opening k c.args.moment (Launched c.args.process c.args.pid) answers.Done
    (of_badge c.owe_by-done.new.badge))
    c.self.inside.shared.turn c.args.self.now (of_badge c.pass.inside.badge) c.args.pass.now c.self.view_is c.pass.view_is
    (told_launched c.self.inside.shared.turn.opening c.self.invariant (of_badge c.pass.inside.badge)
    (of_badge c.owe_by-done.new.badge) c.args.moment c.args.process c.args.pid c.owe_by-done.result c.owe_by-done.ensures.made)

pub returns-clause-process : goal.returns-clause-process
returns-clause-process g c =
    subst (λ (b : Identity). HoldsProcess b.opening (of_badge c.owe_by-done.new.badge) c.args.process phases.Launched) c.self.view_is
    (holds_launched c.self.inside.shared.turn.opening c.self.invariant (of_badge c.pass.inside.badge)
    (of_badge c.owe_by-done.new.badge) c.args.moment c.args.process c.args.pid c.owe_by-done.result c.owe_by-done.ensures.made
    (held_inside c.self.inside.shared.turn c.args.self.now (of_badge c.pass.inside.badge) c.args.pass.now c.args.process phases.Taken
    c.self.view_is c.pass.view_is c.requires.process))

pub returns-clause-rest : goal.returns-clause-rest
returns-clause-rest g c =
    seen_outside (λ (b : Identity) (k : Known). KeepsAllBut b.opening c.args.process k (of_badge c.owe_by-done.new.badge))
    c.self.inside.shared.turn c.args.self.now (of_badge c.pass.inside.badge) c.args.pass.now c.self.view_is c.pass.view_is
    (keeps_but c.self.inside.shared.turn.opening c.self.invariant (of_badge c.pass.inside.badge)
    (of_badge c.owe_by-done.new.badge) c.args.moment (Launched c.args.process c.args.pid) c.owe_by-done.result
    c.owe_by-done.ensures.made c.owe_by-done.ensures.made.caller c.args.process refl)
