use Rattle.std.proofs.Common.{refl, sym, subst}
use Rattle.scm_model.specs.declared.steps.Answer.TheVariants as answers
use Rattle.scm_model.specs.declared.steps.Step.TheVariants.{LaunchTaken}
use Rattle.book_rule.specs.Views.{having_made}
use Rattle.scm_book.specs.Ghosts.{ghosts_of}
use Rattle.scm_book.specs.declared.held.Held.{Held}
use Rattle.scm_book.specs.declared.held.Owed.TheVariants as owes
use Rattle.scm_book.specs.Holds.{Holds, way_of}
use Rattle.scm_book.proofs.Firsts.{launch_room, line_same}
use Rattle.scm_book.proofs.Passes.{settled_waits}
use Rattle.scm_book.proofs.Standing.{few_steps}
use Rattle.scm_book.proofs.Turns.{did_add, end_added, stands_added}
use Rattle.scm_book.proofs.turning.Shared.add_taken.Goals as goal

pub take_launch-requires-clause-steps : goal.take_launch-requires-clause-steps
take_launch-requires-clause-steps g c =
    let ghosts = ghosts_of g.K.Keeper.held g.K.Keeper.faults g.K.Keeper.settled g.K.Keeper.crashes
    g.K.Keeper.are_crashes g.K.Keeper.asked in
    let holds = subst (λ (x : Held _). Holds ghosts c.args.self.now.turn.opening
    c.args.seat.now.me.0.seen x)
    (sym c.deref_mut.ensures.value) c.requires.turn.holds in
    few_steps ghosts c.args.self.now.turn.opening c.args.seat.now.me.0.seen
    c.deref_mut.result.now holds
    c.requires.turn.runs

pub take_launch-requires-clause-room : goal.take_launch-requires-clause-room
take_launch-requires-clause-room g c =
    let ghosts = ghosts_of g.K.Keeper.held g.K.Keeper.faults g.K.Keeper.settled g.K.Keeper.crashes
    g.K.Keeper.are_crashes g.K.Keeper.asked in
    let holds = subst (λ (x : Held _). Holds ghosts c.args.self.now.turn.opening
    c.args.seat.now.me.0.seen x)
    (sym c.deref_mut.ensures.value) c.requires.turn.holds in
    launch_room ghosts c.args.self.now.turn.opening c.args.seat.now.me.0.seen
    c.deref_mut.result.now holds
    c.requires.turn.runs c.args.moment

pub commit-requires-clause-content : goal.commit-requires-clause-content
commit-requires-clause-content g c =
    let ghosts = ghosts_of g.K.Keeper.held g.K.Keeper.faults g.K.Keeper.settled g.K.Keeper.crashes
    g.K.Keeper.are_crashes g.K.Keeper.asked in
    let holds = subst (λ (x : Held _). Holds ghosts c.args.self.now.turn.opening
    c.args.seat.now.me.0.seen x)
    (sym c.deref_mut.ensures.value) c.requires.turn.holds in
    let p = stands_added ghosts c.args.self.now.turn c.args.seat.now.me.0
    c.deref_mut.result.now
    c.take_launch.new.self holds c.requires.turn.runs c.args.moment owes.LaunchTaken
    (answers.Launch c.in-Some.taken.process) c.in-Some.ensures.0 (λ n has. absurd has) in
    record { entry = p.entry; last = p.last; names = p.names; follows = p.follows; fits = p.fits }

pub returns-clause-did : goal.returns-clause-did
returns-clause-did g c =
    let ghosts = ghosts_of g.K.Keeper.held g.K.Keeper.faults g.K.Keeper.settled g.K.Keeper.crashes
    g.K.Keeper.are_crashes g.K.Keeper.asked in
    let holds = subst (λ (x : Held _). Holds ghosts c.args.self.now.turn.opening
    c.args.seat.now.me.0.seen x)
    (sym c.deref_mut.ensures.value) c.requires.turn.holds in
    let did = did_add ghosts c.args.self.now.turn c.args.seat.now.me.0 c.deref_mut.result.now
    c.take_launch.new.self holds c.requires.turn.runs c.args.moment owes.LaunchTaken
    (answers.Launch c.in-Some.taken.process) c.in-Some.ensures.0 c.args.seat.now c.commit.new.seat refl c.commit.ensures.table
    (c.commit.ensures.seat (c.args.moment, LaunchTaken) (end_added ghosts c.args.self.now.turn
    c.args.seat.now.me.0 c.deref_mut.result.now c.take_launch.new.self holds c.requires.turn.runs c.args.moment owes.LaunchTaken
    (answers.Launch c.in-Some.taken.process) c.in-Some.ensures.0)) in (
      did,
      line_same ghosts c.args.self.now.turn.opening c.args.seat.now.me.0.seen
          c.deref_mut.result.now holds
          c.args.path.now c.take_launch.new.path c.in-Some.taken.words c.in-Some.ensures.1,
    )

pub returns-clause-waits : goal.returns-clause-waits
returns-clause-waits g c =
    let ghosts = ghosts_of g.K.Keeper.held g.K.Keeper.faults g.K.Keeper.settled g.K.Keeper.crashes
    g.K.Keeper.are_crashes g.K.Keeper.asked in
    let holds = subst (λ (x : Held _). Holds ghosts c.args.self.now.turn.opening
    c.args.seat.now.me.0.seen x)
    (sym c.deref_mut.ensures.value) c.requires.turn.holds in
    let did = did_add ghosts c.args.self.now.turn c.args.seat.now.me.0 c.deref_mut.result.now
    c.take_launch.new.self holds c.requires.turn.runs c.args.moment owes.LaunchTaken
    (answers.Launch c.in-Some.taken.process) c.in-Some.ensures.0 c.args.seat.now c.commit.new.seat refl c.commit.ensures.table
    (c.commit.ensures.seat (c.args.moment, LaunchTaken) (end_added ghosts c.args.self.now.turn
    c.args.seat.now.me.0 c.deref_mut.result.now c.take_launch.new.self holds c.requires.turn.runs c.args.moment owes.LaunchTaken
    (answers.Launch c.in-Some.taken.process) c.in-Some.ensures.0)) in
    settled_waits c.args.self.now.turn c.args.seat.now c.commit.new.seat
    (having_made (way_of ghosts) c.args.self.now.turn.opening c.args.seat.now.me.0
    (c.args.moment, LaunchTaken)) c.requires.turn.seat did.table did.me refl
