use Rattle.std.proofs.Common.{Some, subst, sym}
use Rattle.scm_model.specs.Entries.{unkept}
use Rattle.scm_core.specs.Inside.{KeepsMade, KeepsRoom, promised}
use Rattle.scm_core.specs.Room.{IsMadeFor}
use Rattle.scm_core.specs.declared.room.Prepared.{Prepared}
use Rattle.scm_core.proofs.Beforehand.{has_room_unkept, is_made_unkept}
use Rattle.scm_core.proofs.Promising.{room_stays}
use Rattle.scm_core.proofs.manager.Manager.reserve_for.Goals as goal

pub invariant_of-self : goal.invariant_of-self
invariant_of-self c =
    let sound = c.self.invariant in
    let flat = c.prepare.ensures.flat in
    let limits = c.prepare.ensures.limits in
    record {
      handles = rw flat sound.handles;
      callers = rw flat sound.callers;
      services = rw flat sound.services;
      plans = rw flat sound.plans;
      dues = rw flat sound.dues;
      registrations = rw flat sound.registrations;
      processes = rw flat sound.processes;
      few = rw (flat, limits) sound.few;
      most = rw limits sound.most;
      limit = rw limits sound.limit;
      controls = rw limits sound.controls;
      room = room_stays c.self.inside.tables c.prepare.new.tables flat c.prepare.ensures.keeps c.in_err-prepare.ensures.needs
          (promised c.self.inside.room) sound.room;
      made = rw (flat, limits, c.in_err-prepare.ensures.err) sound.made;
    }

pub invariant_of-self-2 : goal.invariant_of-self-2
invariant_of-self-2 c =
    let sound = c.self.invariant in
    let flat = c.prepare.ensures.flat in
    let limits = c.prepare.ensures.limits in
    let tables = c.prepare.new.tables in
    let made : IsMadeFor tables.limits tables.flat c.prepare.new.made (unkept c.args.step.now) =
    rw (flat, limits)
    (is_made_unkept c.self.inside.tables.limits c.self.inside.tables.flat c.prepare.new.made c.args.step.now
    c.in_ok-prepare.ensures.made) in
    record {
      handles = rw flat sound.handles;
      callers = rw flat sound.callers;
      services = rw flat sound.services;
      plans = rw flat sound.plans;
      dues = rw flat sound.dues;
      registrations = rw flat sound.registrations;
      processes = rw flat sound.processes;
      few = rw (flat, limits) sound.few;
      most = rw limits sound.most;
      limit = rw limits sound.limit;
      controls = rw limits sound.controls;
      room = subst (KeepsRoom tables) (sym c.promise.ensures) (has_room_unkept tables c.args.step.now c.in_ok-prepare.ensures.room);
      made = subst (KeepsMade tables.limits tables.flat c.prepare.new.made) (sym c.promise.ensures) made;
    }
