use Rattle.std.proofs.Common.{refl}
use Rattle.scm_model.specs.declared.flat.Phase.TheVariants as phases
use Rattle.scm_model.specs.declared.steps.Answer.TheVariants as answers
use Rattle.scm_model.specs.declared.steps.Step.TheVariants.{LaunchFailed}
use Rattle.book_rule.specs.Seats.{Identity}
use Rattle.scm_book.specs.Passes.{Known, Made}
use Rattle.scm_book.specs.Processes.{KeepsAllBut}
use Rattle.scm_book.specs.Turns.{of_badge}
use Rattle.scm_book.proofs.InHand.{always_failed, held_inside, keeps_but, seen_outside, told_failed}
use Rattle.scm_book.proofs.book.Book.launch_failed.Goals as goal

pub owe_by-done-requires-clause-may : goal.owe_by-done-requires-clause-may
owe_by-done-requires-clause-may g c =
    always_failed c.self.inside.shared.turn.opening (of_badge c.pass.inside.badge) c.args.moment c.args.process c.args.code c.requires.code
    (held_inside c.self.inside.shared.turn c.args.self.now (of_badge c.pass.inside.badge) c.args.pass.now c.args.process phases.Taken
    c.self.view_is c.pass.view_is c.requires.process)

pub returns-clause-made : goal.returns-clause-made
returns-clause-made g c =
    seen_outside (λ (b : Identity) (k : Known). Made b.opening k c.args.moment (LaunchFailed c.args.process c.args.code) answers.Done
    (of_badge c.owe_by-done.new.badge))
    c.self.inside.shared.turn c.args.self.now (of_badge c.pass.inside.badge) c.args.pass.now c.self.view_is c.pass.view_is
    (told_failed c.self.inside.shared.turn.opening c.self.invariant (of_badge c.pass.inside.badge)
    (of_badge c.owe_by-done.new.badge) c.args.moment c.args.process c.args.code c.owe_by-done.result c.owe_by-done.ensures.made)

pub returns-clause-rest : goal.returns-clause-rest
returns-clause-rest g c =
    seen_outside (λ (b : Identity) (k : Known). KeepsAllBut b.opening c.args.process k (of_badge c.owe_by-done.new.badge))
    c.self.inside.shared.turn c.args.self.now (of_badge c.pass.inside.badge) c.args.pass.now c.self.view_is c.pass.view_is
    (keeps_but c.self.inside.shared.turn.opening c.self.invariant (of_badge c.pass.inside.badge)
    (of_badge c.owe_by-done.new.badge) c.args.moment (LaunchFailed c.args.process c.args.code) c.owe_by-done.result
    c.owe_by-done.ensures.made c.owe_by-done.ensures.made.caller c.args.process refl)
