use Rattle.std.proofs.Common.{◌∙◌, refl, sym, subst}
use Rattle.scm_model.specs.Entries.{with_kept}
use Rattle.book_rule.specs.Views.{having_made}
use Rattle.scm_book.specs.Ghosts.{ghosts_of}
use Rattle.scm_book.specs.declared.held.Held.{Held}
use Rattle.scm_book.specs.Holds.{Holds, way_of}
use Rattle.scm_book.proofs.Holdings.{holds_same}
use Rattle.scm_book.proofs.Standing.{come_same, is_small}
use Rattle.scm_book.proofs.Passes.{settled_waits}
use Rattle.scm_book.proofs.Turns.{did_make, end_made, stands_made, why_same}
use Rattle.scm_book.proofs.turning.Shared.add_new.Goals as goal

pub make_pending-requires-clause-may : goal.make_pending-requires-clause-may
make_pending-requires-clause-may g c =
    let ghosts = ghosts_of g.K.Keeper.held g.K.Keeper.faults g.K.Keeper.settled g.K.Keeper.crashes
    g.K.Keeper.are_crashes g.K.Keeper.asked in
    let holds = subst (λ (x : Held _). Holds ghosts c.args.self.now.turn.opening
    c.args.seat.now.me.0.seen x)
    (sym c.deref_mut.ensures.value) c.requires.turn.holds in
    come_same ghosts c.args.self.now.turn.opening c.args.seat.now.me.0.seen
    c.deref_mut.result.now holds
    c.args.moment c.args.step.now.step ∙ c.requires.may.may

pub make_pending-requires-clause-small : goal.make_pending-requires-clause-small
make_pending-requires-clause-small g c =
    let ghosts = ghosts_of g.K.Keeper.held g.K.Keeper.faults g.K.Keeper.settled g.K.Keeper.crashes
    g.K.Keeper.are_crashes g.K.Keeper.asked in
    let holds = subst (λ (x : Held _). Holds ghosts c.args.self.now.turn.opening
    c.args.seat.now.me.0.seen x)
    (sym c.deref_mut.ensures.value) c.requires.turn.holds in
    is_small ghosts c.args.self.now.turn.opening c.args.seat.now.me.0.seen
    c.deref_mut.result.now holds
    c.requires.turn.runs

pub commit-requires-clause-content : goal.commit-requires-clause-content
commit-requires-clause-content g c =
    let ghosts = ghosts_of g.K.Keeper.held g.K.Keeper.faults g.K.Keeper.settled g.K.Keeper.crashes
    g.K.Keeper.are_crashes g.K.Keeper.asked in
    let holds = subst (λ (x : Held _). Holds ghosts c.args.self.now.turn.opening
    c.args.seat.now.me.0.seen x)
    (sym c.deref_mut.ensures.value) c.requires.turn.holds in
    let p = stands_made ghosts c.args.self.now.turn c.args.seat.now.me.0
    c.deref_mut.result.now
    c.make_pending.new.self holds c.requires.turn.runs c.args.moment c.args.step.now.step c.in-Ok.told c.in-Ok.ensures.ok
    c.requires.may.own in
    record { entry = p.entry; last = p.last; names = p.names; follows = p.follows; fits = p.fits }

pub returns-in-Ok-clause-ok : goal.returns-in-Ok-clause-ok
returns-in-Ok-clause-ok g c =
    let ghosts = ghosts_of g.K.Keeper.held g.K.Keeper.faults g.K.Keeper.settled g.K.Keeper.crashes
    g.K.Keeper.are_crashes g.K.Keeper.asked in
    let holds = subst (λ (x : Held _). Holds ghosts c.args.self.now.turn.opening
    c.args.seat.now.me.0.seen x)
    (sym c.deref_mut.ensures.value) c.requires.turn.holds in
    let did = did_make ghosts c.args.self.now.turn c.args.seat.now.me.0 c.deref_mut.result.now
    c.make_pending.new.self holds c.requires.turn.runs c.args.moment c.args.step.now.step c.in-Ok.told c.in-Ok.ensures.ok
    c.args.seat.now c.commit.new.seat refl c.commit.ensures.table (c.commit.ensures.seat
    (c.args.moment, with_kept c.args.step.now.step c.in-Ok.ensures.ok.append)
    (end_made ghosts c.args.self.now.turn c.args.seat.now.me.0 c.deref_mut.result.now
    c.make_pending.new.self
    holds c.requires.turn.runs c.args.moment c.args.step.now.step c.in-Ok.told c.in-Ok.ensures.ok)) in
    did

pub returns-in-Ok-clause-waits : goal.returns-in-Ok-clause-waits
returns-in-Ok-clause-waits g c =
    let ghosts = ghosts_of g.K.Keeper.held g.K.Keeper.faults g.K.Keeper.settled g.K.Keeper.crashes
    g.K.Keeper.are_crashes g.K.Keeper.asked in
    let holds = subst (λ (x : Held _). Holds ghosts c.args.self.now.turn.opening
    c.args.seat.now.me.0.seen x)
    (sym c.deref_mut.ensures.value) c.requires.turn.holds in
    let did = did_make ghosts c.args.self.now.turn c.args.seat.now.me.0 c.deref_mut.result.now
    c.make_pending.new.self holds c.requires.turn.runs c.args.moment c.args.step.now.step c.in-Ok.told c.in-Ok.ensures.ok
    c.args.seat.now c.commit.new.seat refl c.commit.ensures.table (c.commit.ensures.seat
    (c.args.moment, with_kept c.args.step.now.step c.in-Ok.ensures.ok.append)
    (end_made ghosts c.args.self.now.turn c.args.seat.now.me.0 c.deref_mut.result.now
    c.make_pending.new.self
    holds c.requires.turn.runs c.args.moment c.args.step.now.step c.in-Ok.told c.in-Ok.ensures.ok)) in
    settled_waits c.args.self.now.turn c.args.seat.now c.commit.new.seat
    (having_made (way_of ghosts) c.args.self.now.turn.opening c.args.seat.now.me.0
    (c.args.moment, with_kept c.args.step.now.step did.append)) c.requires.turn.seat did.did.table did.did.me refl

pub unlock-requires-clause-fits : goal.unlock-requires-clause-fits
unlock-requires-clause-fits g c =
    let ghosts = ghosts_of g.K.Keeper.held g.K.Keeper.faults g.K.Keeper.settled g.K.Keeper.crashes
    g.K.Keeper.are_crashes g.K.Keeper.asked in
    let holds = subst (λ (x : Held _). Holds ghosts c.args.self.now.turn.opening
    c.args.seat.now.me.0.seen x)
    (sym c.deref_mut.ensures.value) c.requires.turn.holds in
    holds_same ghosts c.args.self.now.turn.opening c.args.seat.now.me.0.seen
    c.deref_mut.result.now
    c.make_pending.new.self holds c.in-Err.ensures.err

pub returns-in-Err-clause-why : goal.returns-in-Err-clause-why
returns-in-Err-clause-why g c =
    let ghosts = ghosts_of g.K.Keeper.held g.K.Keeper.faults g.K.Keeper.settled g.K.Keeper.crashes
    g.K.Keeper.are_crashes g.K.Keeper.asked in
    let holds = subst (λ (x : Held _). Holds ghosts c.args.self.now.turn.opening
    c.args.seat.now.me.0.seen x)
    (sym c.deref_mut.ensures.value) c.requires.turn.holds in
    why_same ghosts c.args.self.now.turn.opening c.args.seat.now.me.0.seen
    c.deref_mut.result.now holds
    c.args.step.now.step c.in-Err.fault c.in-Err.ensures.why

pub returns-in-Err-clause-waits : goal.returns-in-Err-clause-waits
returns-in-Err-clause-waits g c =
    settled_waits c.args.self.now.turn c.args.seat.now c.unlock.new.seat c.args.seat.now.me.0 c.requires.turn.seat c.unlock.ensures.table
    c.unlock.ensures.seat refl
