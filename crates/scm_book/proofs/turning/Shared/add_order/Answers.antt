use Rattle.std.proofs.Common.{◌∙◌, refl, sym, subst}
use Rattle.scm_model.specs.declared.steps.Answer.TheVariants as answers
use Rattle.scm_model.specs.declared.steps.Step.TheVariants.{ControlTaken}
use Rattle.scm_model.specs.Entries.{with_kept}
use Rattle.book_rule.specs.Views.{having_made}
use Rattle.scm_book.specs.Ghosts.{ghosts_of}
use Rattle.scm_book.specs.declared.held.Held.{Held}
use Rattle.scm_book.specs.Holds.{Holds, way_of}
use Rattle.scm_book.proofs.Holdings.{holds_same}
use Rattle.scm_book.proofs.Standing.{come_same, is_small}
use Rattle.scm_book.proofs.Passes.{settled_waits}
use Rattle.scm_book.proofs.ReportsMade.{hands_same}
use Rattle.scm_book.proofs.Turns.{did_make, end_made, stands_made, why_same}
use Rattle.scm_book.proofs.turning.Shared.add_order.Goals as goal

pub take_control-requires-clause-may : goal.take_control-requires-clause-may
take_control-requires-clause-may g c =
    let ghosts = ghosts_of g.K.Keeper.held g.K.Keeper.faults g.K.Keeper.settled g.K.Keeper.crashes
    g.K.Keeper.are_crashes g.K.Keeper.asked in
    let holds = subst (λ (x : Held _). Holds ghosts c.args.self.now.turn.opening
    c.args.seat.now.me.0.seen x)
    (sym c.deref_mut.ensures.value) c.requires.turn.holds in
    come_same ghosts c.args.self.now.turn.opening c.args.seat.now.me.0.seen
    c.deref_mut.result.now holds
    c.args.moment (ControlTaken c.args.process) ∙ c.requires.may.may

pub take_control-requires-clause-small : goal.take_control-requires-clause-small
take_control-requires-clause-small g c =
    let ghosts = ghosts_of g.K.Keeper.held g.K.Keeper.faults g.K.Keeper.settled g.K.Keeper.crashes
    g.K.Keeper.are_crashes g.K.Keeper.asked in
    let holds = subst (λ (x : Held _). Holds ghosts c.args.self.now.turn.opening
    c.args.seat.now.me.0.seen x)
    (sym c.deref_mut.ensures.value) c.requires.turn.holds in
    is_small ghosts c.args.self.now.turn.opening c.args.seat.now.me.0.seen
    c.deref_mut.result.now holds
    c.requires.turn.runs

pub commit-requires-clause-content : goal.commit-requires-clause-content
commit-requires-clause-content g c =
    let ghosts = ghosts_of g.K.Keeper.held g.K.Keeper.faults g.K.Keeper.settled g.K.Keeper.crashes
    g.K.Keeper.are_crashes g.K.Keeper.asked in
    let holds = subst (λ (x : Held _). Holds ghosts c.args.self.now.turn.opening
    c.args.seat.now.me.0.seen x)
    (sym c.deref_mut.ensures.value) c.requires.turn.holds in
    let p = stands_made ghosts c.args.self.now.turn c.args.seat.now.me.0
    c.deref_mut.result.now
    c.take_control.new.self holds c.requires.turn.runs c.args.moment (ControlTaken c.args.process)
    (answers.Control c.in-Ok.handed.order) c.in-Ok.ensures.ok.0 c.requires.may.own in
    record { entry = p.entry; last = p.last; names = p.names; follows = p.follows; fits = p.fits }

pub returns-in-Ok-clause-ok : goal.returns-in-Ok-clause-ok
returns-in-Ok-clause-ok g c =
    let ghosts = ghosts_of g.K.Keeper.held g.K.Keeper.faults g.K.Keeper.settled g.K.Keeper.crashes
    g.K.Keeper.are_crashes g.K.Keeper.asked in
    let holds = subst (λ (x : Held _). Holds ghosts c.args.self.now.turn.opening
    c.args.seat.now.me.0.seen x)
    (sym c.deref_mut.ensures.value) c.requires.turn.holds in
    let step = ControlTaken c.args.process in
    let told = answers.Control c.in-Ok.handed.order in
    let makes = c.in-Ok.ensures.ok.0 in
    let did = did_make ghosts c.args.self.now.turn c.args.seat.now.me.0 c.deref_mut.result.now
    c.take_control.new.self holds c.requires.turn.runs c.args.moment step told makes c.args.seat.now c.commit.new.seat refl
    c.commit.ensures.table (c.commit.ensures.seat (c.args.moment, with_kept step makes.append)
    (end_made ghosts c.args.self.now.turn c.args.seat.now.me.0 c.deref_mut.result.now
    c.take_control.new.self
    holds c.requires.turn.runs c.args.moment step told makes)) in (
      did,
      hands_same ghosts c.args.self.now.turn.opening c.args.seat.now.me.0.seen
          c.deref_mut.result.now holds
          c.args.process c.args.name.now c.take_control.new.name c.in-Ok.handed c.in-Ok.ensures.ok.1,
    )

pub returns-in-Ok-clause-waits : goal.returns-in-Ok-clause-waits
returns-in-Ok-clause-waits g c =
    let ghosts = ghosts_of g.K.Keeper.held g.K.Keeper.faults g.K.Keeper.settled g.K.Keeper.crashes
    g.K.Keeper.are_crashes g.K.Keeper.asked in
    let holds = subst (λ (x : Held _). Holds ghosts c.args.self.now.turn.opening
    c.args.seat.now.me.0.seen x)
    (sym c.deref_mut.ensures.value) c.requires.turn.holds in
    let step = ControlTaken c.args.process in
    let told = answers.Control c.in-Ok.handed.order in
    let makes = c.in-Ok.ensures.ok.0 in
    let did = did_make ghosts c.args.self.now.turn c.args.seat.now.me.0 c.deref_mut.result.now
    c.take_control.new.self holds c.requires.turn.runs c.args.moment step told makes c.args.seat.now c.commit.new.seat refl
    c.commit.ensures.table (c.commit.ensures.seat (c.args.moment, with_kept step makes.append)
    (end_made ghosts c.args.self.now.turn c.args.seat.now.me.0 c.deref_mut.result.now
    c.take_control.new.self
    holds c.requires.turn.runs c.args.moment step told makes)) in
    settled_waits c.args.self.now.turn c.args.seat.now c.commit.new.seat
    (having_made (way_of ghosts) c.args.self.now.turn.opening c.args.seat.now.me.0
    (c.args.moment, with_kept step did.append)) c.requires.turn.seat did.did.table did.did.me refl

pub unlock-requires-clause-fits : goal.unlock-requires-clause-fits
unlock-requires-clause-fits g c =
    let ghosts = ghosts_of g.K.Keeper.held g.K.Keeper.faults g.K.Keeper.settled g.K.Keeper.crashes
    g.K.Keeper.are_crashes g.K.Keeper.asked in
    let holds = subst (λ (x : Held _). Holds ghosts c.args.self.now.turn.opening
    c.args.seat.now.me.0.seen x)
    (sym c.deref_mut.ensures.value) c.requires.turn.holds in
    holds_same ghosts c.args.self.now.turn.opening c.args.seat.now.me.0.seen
    c.deref_mut.result.now
    c.take_control.new.self holds c.in-Err.ensures.err

pub returns-in-Err-clause-why : goal.returns-in-Err-clause-why
returns-in-Err-clause-why g c =
    let ghosts = ghosts_of g.K.Keeper.held g.K.Keeper.faults g.K.Keeper.settled g.K.Keeper.crashes
    g.K.Keeper.are_crashes g.K.Keeper.asked in
    let holds = subst (λ (x : Held _). Holds ghosts c.args.self.now.turn.opening
    c.args.seat.now.me.0.seen x)
    (sym c.deref_mut.ensures.value) c.requires.turn.holds in
    why_same ghosts c.args.self.now.turn.opening c.args.seat.now.me.0.seen
    c.deref_mut.result.now holds
    (ControlTaken c.args.process) c.in-Err.fault c.in-Err.ensures.why

pub returns-in-Err-clause-waits : goal.returns-in-Err-clause-waits
returns-in-Err-clause-waits g c =
    settled_waits c.args.self.now.turn c.args.seat.now c.unlock.new.seat c.args.seat.now.me.0 c.requires.turn.seat c.unlock.ensures.table
    c.unlock.ensures.seat refl
