use Rattle.std.proofs.Common.{◌∙◌, refl, sym, subst}
use Rattle.book_rule.specs.Views.{having_made}
use Rattle.scm_book.specs.Ghosts.{ghosts_of}
use Rattle.scm_book.specs.declared.held.Held.{Held}
use Rattle.scm_book.specs.Holds.{Holds, way_of}
use Rattle.scm_book.specs.Steps.{owed_step}
use Rattle.scm_book.proofs.Standing.{come_same, few_steps, little_text, owed_room}
use Rattle.scm_book.proofs.Passes.{settled_waits}
use Rattle.scm_book.proofs.Turns.{did_add, end_added, stands_added}
use Rattle.scm_book.proofs.turning.Shared.add_owed.Goals as goal

pub add-told-requires-clause-may : goal.add-told-requires-clause-may
add-told-requires-clause-may g c =
    let ghosts = ghosts_of g.K.Keeper.held g.K.Keeper.faults g.K.Keeper.settled g.K.Keeper.crashes
    g.K.Keeper.are_crashes g.K.Keeper.asked in
    let holds = subst (λ (x : Held _). Holds ghosts c.args.self.now.turn.opening
    c.args.seat.now.me.0.seen x)
    (sym c.deref_mut.ensures.value) c.requires.turn.holds in
    come_same ghosts c.args.self.now.turn.opening c.args.seat.now.me.0.seen
    c.deref_mut.result.now holds
    c.args.moment (owed_step c.args.owed) ∙ c.requires.may.may

pub add-told-requires-clause-steps : goal.add-told-requires-clause-steps
add-told-requires-clause-steps g c =
    let ghosts = ghosts_of g.K.Keeper.held g.K.Keeper.faults g.K.Keeper.settled g.K.Keeper.crashes
    g.K.Keeper.are_crashes g.K.Keeper.asked in
    let holds = subst (λ (x : Held _). Holds ghosts c.args.self.now.turn.opening
    c.args.seat.now.me.0.seen x)
    (sym c.deref_mut.ensures.value) c.requires.turn.holds in
    few_steps ghosts c.args.self.now.turn.opening c.args.seat.now.me.0.seen
    c.deref_mut.result.now holds
    c.requires.turn.runs

pub add-told-requires-clause-text : goal.add-told-requires-clause-text
add-told-requires-clause-text g c =
    let ghosts = ghosts_of g.K.Keeper.held g.K.Keeper.faults g.K.Keeper.settled g.K.Keeper.crashes
    g.K.Keeper.are_crashes g.K.Keeper.asked in
    let holds = subst (λ (x : Held _). Holds ghosts c.args.self.now.turn.opening
    c.args.seat.now.me.0.seen x)
    (sym c.deref_mut.ensures.value) c.requires.turn.holds in
    little_text ghosts c.args.self.now.turn.opening c.args.seat.now.me.0.seen
    c.deref_mut.result.now holds
    c.requires.turn.runs

pub add-told-requires-clause-room : goal.add-told-requires-clause-room
add-told-requires-clause-room g c =
    let ghosts = ghosts_of g.K.Keeper.held g.K.Keeper.faults g.K.Keeper.settled g.K.Keeper.crashes
    g.K.Keeper.are_crashes g.K.Keeper.asked in
    let holds = subst (λ (x : Held _). Holds ghosts c.args.self.now.turn.opening
    c.args.seat.now.me.0.seen x)
    (sym c.deref_mut.ensures.value) c.requires.turn.holds in
    owed_room ghosts c.args.self.now.turn.opening c.args.seat.now.me.0.seen
    c.deref_mut.result.now holds
    c.requires.turn.runs c.args.moment c.args.owed c.requires.may.may

pub commit-requires-clause-content : goal.commit-requires-clause-content
commit-requires-clause-content g c =
    let ghosts = ghosts_of g.K.Keeper.held g.K.Keeper.faults g.K.Keeper.settled g.K.Keeper.crashes
    g.K.Keeper.are_crashes g.K.Keeper.asked in
    let holds = subst (λ (x : Held _). Holds ghosts c.args.self.now.turn.opening
    c.args.seat.now.me.0.seen x)
    (sym c.deref_mut.ensures.value) c.requires.turn.holds in
    let p = stands_added ghosts c.args.self.now.turn c.args.seat.now.me.0
    c.deref_mut.result.now
    c.add-told.new.self holds c.requires.turn.runs c.args.moment c.args.owed c.add-told.result c.add-told.ensures c.requires.may.own in
    record { entry = p.entry; last = p.last; names = p.names; follows = p.follows; fits = p.fits }

pub returns-clause-did : goal.returns-clause-did
returns-clause-did g c =
    let ghosts = ghosts_of g.K.Keeper.held g.K.Keeper.faults g.K.Keeper.settled g.K.Keeper.crashes
    g.K.Keeper.are_crashes g.K.Keeper.asked in
    let holds = subst (λ (x : Held _). Holds ghosts c.args.self.now.turn.opening
    c.args.seat.now.me.0.seen x)
    (sym c.deref_mut.ensures.value) c.requires.turn.holds in
    let did = did_add ghosts c.args.self.now.turn c.args.seat.now.me.0 c.deref_mut.result.now
    c.add-told.new.self
    holds c.requires.turn.runs c.args.moment c.args.owed c.add-told.result c.add-told.ensures c.args.seat.now c.commit.new.seat refl
    c.commit.ensures.table (c.commit.ensures.seat (c.args.moment, owed_step c.args.owed)
    (end_added ghosts c.args.self.now.turn c.args.seat.now.me.0 c.deref_mut.result.now
    c.add-told.new.self
    holds c.requires.turn.runs c.args.moment c.args.owed c.add-told.result c.add-told.ensures)) in
    did

pub returns-clause-waits : goal.returns-clause-waits
returns-clause-waits g c =
    let ghosts = ghosts_of g.K.Keeper.held g.K.Keeper.faults g.K.Keeper.settled g.K.Keeper.crashes
    g.K.Keeper.are_crashes g.K.Keeper.asked in
    let holds = subst (λ (x : Held _). Holds ghosts c.args.self.now.turn.opening
    c.args.seat.now.me.0.seen x)
    (sym c.deref_mut.ensures.value) c.requires.turn.holds in
    let did = did_add ghosts c.args.self.now.turn c.args.seat.now.me.0 c.deref_mut.result.now
    c.add-told.new.self
    holds c.requires.turn.runs c.args.moment c.args.owed c.add-told.result c.add-told.ensures c.args.seat.now c.commit.new.seat refl
    c.commit.ensures.table (c.commit.ensures.seat (c.args.moment, owed_step c.args.owed)
    (end_added ghosts c.args.self.now.turn c.args.seat.now.me.0 c.deref_mut.result.now
    c.add-told.new.self
    holds c.requires.turn.runs c.args.moment c.args.owed c.add-told.result c.add-told.ensures)) in
    settled_waits c.args.self.now.turn c.args.seat.now c.commit.new.seat
    (having_made (way_of ghosts) c.args.self.now.turn.opening c.args.seat.now.me.0
    (c.args.moment, owed_step c.args.owed)) c.requires.turn.seat did.table did.me refl
