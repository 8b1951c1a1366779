use Rattle.std.proofs.Common.{◌∙◌, refl, sym, ap, subst}
use Rattle.scm_model.specs.Entries.{Entry, with_kept}
use Rattle.book_rule.specs.Views.{emptied, having_made}
use Rattle.scm_book.specs.Ghosts.{ghosts_of}
use Rattle.scm_book.specs.declared.held.Held.{Held}
use Rattle.scm_book.specs.Holds.{Holds, way_of}
use Rattle.scm_book.proofs.Holdings.{holds_same}
use Rattle.scm_book.proofs.JoinsMade.{new_holds, old_waits, one_more}
use Rattle.scm_book.proofs.Standing.{come_same, is_small}
use Rattle.scm_book.proofs.Passes.{settled_waits}
use Rattle.scm_book.proofs.Turns.{did_make, end_made, stands_made, why_same}
use Rattle.scm_book.proofs.turning.Shared.add_new_beside.Goals as goal

pub make_pending-requires-clause-may : goal.make_pending-requires-clause-may
make_pending-requires-clause-may g c =
    let ghosts = ghosts_of g.K.Keeper.held g.K.Keeper.faults g.K.Keeper.settled g.K.Keeper.crashes
    g.K.Keeper.are_crashes g.K.Keeper.asked in
    let holds = subst (λ (x : Held _). Holds ghosts c.args.self.now.turn.opening
    c.args.seat.now.me.0.seen x)
    (sym c.deref_mut.ensures.value) c.requires.turn.holds in
    come_same ghosts c.args.self.now.turn.opening c.args.seat.now.me.0.seen
    c.deref_mut.result.now holds
    c.args.moment c.args.step.now.step ∙ c.requires.may.may

pub make_pending-requires-clause-small : goal.make_pending-requires-clause-small
make_pending-requires-clause-small g c =
    let ghosts = ghosts_of g.K.Keeper.held g.K.Keeper.faults g.K.Keeper.settled g.K.Keeper.crashes
    g.K.Keeper.are_crashes g.K.Keeper.asked in
    let holds = subst (λ (x : Held _). Holds ghosts c.args.self.now.turn.opening
    c.args.seat.now.me.0.seen x)
    (sym c.deref_mut.ensures.value) c.requires.turn.holds in
    is_small ghosts c.args.self.now.turn.opening c.args.seat.now.me.0.seen
    c.deref_mut.result.now holds
    c.requires.turn.runs

pub commit-requires-clause-seat : goal.commit-requires-clause-seat
commit-requires-clause-seat g c =
    new_holds c.args.self.now.turn c.args.seat.now c.hand_over-new.new.seat c.hand_over-new.result c.requires.turn.seat
    c.hand_over-new.ensures

pub commit-requires-clause-content : goal.commit-requires-clause-content
commit-requires-clause-content g c =
    let ghosts = ghosts_of g.K.Keeper.held g.K.Keeper.faults g.K.Keeper.settled g.K.Keeper.crashes
    g.K.Keeper.are_crashes g.K.Keeper.asked in
    let holds = subst (λ (x : Held _). Holds ghosts c.args.self.now.turn.opening
    c.args.seat.now.me.0.seen x)
    (sym c.deref_mut.ensures.value) c.requires.turn.holds in
    one_more ghosts c.args.self.now.turn (emptied c.args.seat.now.me.0) _ _
    (ap (λ m. m.0) c.hand_over-new.ensures.new_me)
    (stands_made ghosts c.args.self.now.turn (emptied c.args.seat.now.me.0)
    c.deref_mut.result.now
    c.make_pending.new.self holds c.requires.turn.runs c.args.moment c.args.step.now.step c.in-Ok.told c.in-Ok.ensures.ok
    c.requires.may.own)

pub returns-in-Ok-clause-ok : goal.returns-in-Ok-clause-ok
returns-in-Ok-clause-ok g c =
    let ghosts = ghosts_of g.K.Keeper.held g.K.Keeper.faults g.K.Keeper.settled g.K.Keeper.crashes
    g.K.Keeper.are_crashes g.K.Keeper.asked in
    let holds = subst (λ (x : Held _). Holds ghosts c.args.self.now.turn.opening
    c.args.seat.now.me.0.seen x)
    (sym c.deref_mut.ensures.value) c.requires.turn.holds in
    let v = ap (λ m. m.0) c.hand_over-new.ensures.new_me in
    let e : Entry = (c.args.moment, with_kept c.args.step.now.step c.in-Ok.ensures.ok.append) in record {
      holder = c.hand_over-new.result;
      hands = c.hand_over-new.ensures;
      did = did_make ghosts c.args.self.now.turn (emptied c.args.seat.now.me.0)
          c.deref_mut.result.now
          c.make_pending.new.self holds c.requires.turn.runs c.args.moment c.args.step.now.step c.in-Ok.told c.in-Ok.ensures.ok
          c.hand_over-new.result c.commit.new.seat v c.commit.ensures.table (c.commit.ensures.seat e
          (end_made ghosts c.args.self.now.turn (emptied c.args.seat.now.me.0)
          c.deref_mut.result.now
          c.make_pending.new.self
          holds c.requires.turn.runs c.args.moment c.args.step.now.step c.in-Ok.told c.in-Ok.ensures.ok));
    }

pub returns-in-Ok-clause-waits : goal.returns-in-Ok-clause-waits
returns-in-Ok-clause-waits g c =
    old_waits c.args.self.now.turn c.args.seat.now c.hand_over-new.new.seat c.hand_over-new.result c.requires.turn.seat
    c.hand_over-new.ensures

pub returns-in-Ok-clause-new : goal.returns-in-Ok-clause-new
returns-in-Ok-clause-new g c =
    let ghosts = ghosts_of g.K.Keeper.held g.K.Keeper.faults g.K.Keeper.settled g.K.Keeper.crashes
    g.K.Keeper.are_crashes g.K.Keeper.asked in
    let holds = subst (λ (x : Held _). Holds ghosts c.args.self.now.turn.opening
    c.args.seat.now.me.0.seen x)
    (sym c.deref_mut.ensures.value) c.requires.turn.holds in
    let e : Entry = (c.args.moment, with_kept c.args.step.now.step c.in-Ok.ensures.ok.append) in
    settled_waits c.args.self.now.turn c.hand_over-new.result c.commit.new.seat
    (having_made (way_of ghosts) c.args.self.now.turn.opening c.hand_over-new.result.me.0 e)
    (new_holds c.args.self.now.turn c.args.seat.now c.hand_over-new.new.seat c.hand_over-new.result c.requires.turn.seat
    c.hand_over-new.ensures) c.commit.ensures.table
    (c.commit.ensures.seat e (end_made ghosts c.args.self.now.turn
    (emptied c.args.seat.now.me.0) c.deref_mut.result.now
    c.make_pending.new.self
    holds c.requires.turn.runs c.args.moment c.args.step.now.step c.in-Ok.told c.in-Ok.ensures.ok)).me refl

pub unlock-requires-clause-fits : goal.unlock-requires-clause-fits
unlock-requires-clause-fits g c =
    let ghosts = ghosts_of g.K.Keeper.held g.K.Keeper.faults g.K.Keeper.settled g.K.Keeper.crashes
    g.K.Keeper.are_crashes g.K.Keeper.asked in
    let holds = subst (λ (x : Held _). Holds ghosts c.args.self.now.turn.opening
    c.args.seat.now.me.0.seen x)
    (sym c.deref_mut.ensures.value) c.requires.turn.holds in
    holds_same ghosts c.args.self.now.turn.opening c.args.seat.now.me.0.seen
    c.deref_mut.result.now
    c.make_pending.new.self holds c.in-Err.ensures.err

pub returns-in-Err-clause-why : goal.returns-in-Err-clause-why
returns-in-Err-clause-why g c =
    let ghosts = ghosts_of g.K.Keeper.held g.K.Keeper.faults g.K.Keeper.settled g.K.Keeper.crashes
    g.K.Keeper.are_crashes g.K.Keeper.asked in
    let holds = subst (λ (x : Held _). Holds ghosts c.args.self.now.turn.opening
    c.args.seat.now.me.0.seen x)
    (sym c.deref_mut.ensures.value) c.requires.turn.holds in
    why_same ghosts c.args.self.now.turn.opening c.args.seat.now.me.0.seen
    c.deref_mut.result.now holds
    c.args.step.now.step c.in-Err.fault c.in-Err.ensures.why

pub returns-in-Err-clause-waits : goal.returns-in-Err-clause-waits
returns-in-Err-clause-waits g c =
    settled_waits c.args.self.now.turn c.args.seat.now c.unlock.new.seat c.args.seat.now.me.0 c.requires.turn.seat c.unlock.ensures.table
    c.unlock.ensures.seat refl
