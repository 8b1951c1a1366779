use Rattle.std.proofs.Common.{◌≡◌, ap, false, refl}
use Rattle.scm_text.specs.TextWithRoom.{TextWithRoom}
use Rattle.scm_model.specs.declared.flat.Phase.TheVariants as phases
use Rattle.scm_model.specs.declared.steps.Answer.TheVariants as answers
use Rattle.scm_model.specs.declared.steps.Step.TheVariants.{LaunchTaken}
use Rattle.book_rule.specs.Seats.{Identity}
use Rattle.scm_book.specs.Passes.{HoldsProcess, KeepsAll, Known, Learnt}
use Rattle.scm_book.specs.Processes.{TakesInHand, is_wanted_behind}
use Rattle.scm_book.specs.Turns.{of_badge}
use Rattle.scm_book.proofs.InHand.{hold_of_taking, keeps_every, seen_outside}
use Rattle.scm_book.proofs.InHandStill.{learnt_keeps}
use Rattle.scm_book.proofs.book.Book.take_launch.Goals as goal

pub returns-clause-look : goal.returns-clause-look
returns-clause-look g c =
    let k' : Known = of_badge c.take_by.new.badge in
    seen_outside (λ (b : Identity) (k : Known). TakesInHand b.opening k c.args.moment c.in-Some.taken.process c.args.room.now.path
    c.take_by.new.path c.in-Some.taken.words k'
    × HoldsProcess b.opening k' c.in-Some.taken.process phases.Taken)
    c.self.inside.shared.turn c.args.self.now (of_badge c.pass.inside.badge) c.args.pass.now c.self.view_is c.pass.view_is (
      c.in-Some.ensures.takes,
      hold_of_taking c.self.inside.shared.turn.opening c.self.invariant
          (of_badge c.pass.inside.badge) k' c.args.moment c.in-Some.taken.process c.args.room.now.path c.take_by.new.path
          c.in-Some.taken.words c.in-Some.ensures.takes,
    )

pub returns-clause-keeps : goal.returns-clause-keeps
returns-clause-keeps g c =
    let k' : Known = of_badge c.take_by.new.badge in
    let made = c.in-Some.ensures.takes.made in
    seen_outside (λ (b : Identity) (k : Known). KeepsAll b.opening k k') c.self.inside.shared.turn c.args.self.now
    (of_badge c.pass.inside.badge) c.args.pass.now c.self.view_is c.pass.view_is
    (keeps_every c.self.inside.shared.turn.opening c.self.invariant (of_badge c.pass.inside.badge) k' c.args.moment LaunchTaken
    (answers.Launch c.in-Some.taken.process) made made.caller refl)

pub returns-in_default-clause-keeps : goal.returns-in_default-clause-keeps
returns-in_default-clause-keeps g c =
    let k' : Known = of_badge c.take_by.new.badge in
    seen_outside (λ (b : Identity) (k : Known). KeepsAll b.opening k k') c.self.inside.shared.turn c.args.self.now
    (of_badge c.pass.inside.badge) c.args.pass.now c.self.view_is c.pass.view_is
    (learnt_keeps c.self.inside.shared.turn.opening c.self.invariant (of_badge c.pass.inside.badge) k' c.in_default.ensures.takes.0)

pub returns-in_default-clause-look : goal.returns-in_default-clause-look
returns-in_default-clause-look g c =
    let k' : Known = of_badge c.take_by.new.badge in
    seen_outside (λ (b : Identity) (k : Known). Learnt b.opening k k' × (is_wanted_behind b.opening k'.seen ≡ false)
    × (record c.args.room.now { path = c.take_by.new.path } ≡ c.args.room.now))
    c.self.inside.shared.turn c.args.self.now (of_badge c.pass.inside.badge) c.args.pass.now c.self.view_is c.pass.view_is (
      c.in_default.ensures.takes.0,
      c.in_default.ensures.takes.1,
      ap (λ (path : TextWithRoom). record c.args.room.now { path = path })
          c.in_default.ensures.takes.2,
    )
