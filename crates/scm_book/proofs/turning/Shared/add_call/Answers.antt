use Rattle.std.proofs.Common.{refl, sym, subst}
use Rattle.scm_model.specs.Entries.{with_kept}
use Rattle.book_rule.specs.Views.{having_made}
use Rattle.scm_book.specs.Ghosts.{ghosts_of}
use Rattle.scm_book.specs.declared.held.Held.{Held}
use Rattle.scm_book.specs.Holds.{Holds, way_of}
use Rattle.scm_book.proofs.Passes.{settled_waits}
use Rattle.scm_book.proofs.Turns.{did_make, end_made, stands_made}
use Rattle.scm_book.proofs.turning.Shared.add_call.Goals as goal

pub commit-requires-clause-content : goal.commit-requires-clause-content
commit-requires-clause-content g c =
    let ghosts = ghosts_of g.K.Keeper.held g.K.Keeper.faults g.K.Keeper.settled g.K.Keeper.crashes
    g.K.Keeper.are_crashes g.K.Keeper.asked in
    let holds = subst (λ (x : Held _). Holds ghosts c.args.self.now.turn.opening
    c.args.seat.now.me.0.seen x)
    (sym c.deref_mut.ensures.value) c.requires.turn.holds in
    let p = stands_made ghosts c.args.self.now.turn c.args.seat.now.me.0
    c.deref_mut.result.now
    c.make_into.new.self holds c.requires.turn.runs c.args.moment c.args.call.now.step c.make_into.new.answer c.in-Ok.ensures.ok
    c.requires.may.own in
    record { entry = p.entry; last = p.last; names = p.names; follows = p.follows; fits = p.fits }

pub returns-in-Ok-clause-did : goal.returns-in-Ok-clause-did
returns-in-Ok-clause-did g c =
    let ghosts = ghosts_of g.K.Keeper.held g.K.Keeper.faults g.K.Keeper.settled g.K.Keeper.crashes
    g.K.Keeper.are_crashes g.K.Keeper.asked in
    let holds = subst (λ (x : Held _). Holds ghosts c.args.self.now.turn.opening
    c.args.seat.now.me.0.seen x)
    (sym c.deref_mut.ensures.value) c.requires.turn.holds in
    let did = did_make ghosts c.args.self.now.turn c.args.seat.now.me.0 c.deref_mut.result.now
    c.make_into.new.self holds c.requires.turn.runs c.args.moment c.args.call.now.step c.make_into.new.answer c.in-Ok.ensures.ok
    c.args.seat.now c.commit.new.seat refl c.commit.ensures.table (c.commit.ensures.seat
    (c.args.moment, with_kept c.args.call.now.step c.in-Ok.ensures.ok.append)
    (end_made ghosts c.args.self.now.turn c.args.seat.now.me.0 c.deref_mut.result.now
    c.make_into.new.self
    holds c.requires.turn.runs c.args.moment c.args.call.now.step c.make_into.new.answer c.in-Ok.ensures.ok)) in
    did

pub returns-in-Ok-clause-waits : goal.returns-in-Ok-clause-waits
returns-in-Ok-clause-waits g c =
    let ghosts = ghosts_of g.K.Keeper.held g.K.Keeper.faults g.K.Keeper.settled g.K.Keeper.crashes
    g.K.Keeper.are_crashes g.K.Keeper.asked in
    let holds = subst (λ (x : Held _). Holds ghosts c.args.self.now.turn.opening
    c.args.seat.now.me.0.seen x)
    (sym c.deref_mut.ensures.value) c.requires.turn.holds in
    let did = did_make ghosts c.args.self.now.turn c.args.seat.now.me.0 c.deref_mut.result.now
    c.make_into.new.self holds c.requires.turn.runs c.args.moment c.args.call.now.step c.make_into.new.answer c.in-Ok.ensures.ok
    c.args.seat.now c.commit.new.seat refl c.commit.ensures.table (c.commit.ensures.seat
    (c.args.moment, with_kept c.args.call.now.step c.in-Ok.ensures.ok.append)
    (end_made ghosts c.args.self.now.turn c.args.seat.now.me.0 c.deref_mut.result.now
    c.make_into.new.self
    holds c.requires.turn.runs c.args.moment c.args.call.now.step c.make_into.new.answer c.in-Ok.ensures.ok)) in
    settled_waits c.args.self.now.turn c.args.seat.now c.commit.new.seat
    (having_made (way_of ghosts) c.args.self.now.turn.opening c.args.seat.now.me.0
    (c.args.moment, with_kept c.args.call.now.step did.append)) c.requires.turn.seat did.did.table did.did.me refl
