use Rattle.scm_arms_process.proofs.Triggers.{goes_on, numbers_for, room_for}
use Rattle.scm_arms_process.proofs.raising.trigger_all.Goals as goal

pub trigger_at-requires-clause-room : goal.trigger_at-requires-clause-room
trigger_at-requires-clause-room c =
    let old = c.args.tables.now in
    room_for old.limits c.args.subtype.now old.flat.services old.flat c.loop-place.place c.loop-place.tables c.loop-place.invariant

pub trigger_at-requires-clause-numbers : goal.trigger_at-requires-clause-numbers
trigger_at-requires-clause-numbers c =
    let old = c.args.tables.now in
    numbers_for old.limits c.args.subtype.now old.flat.services old.flat c.loop-place.place c.loop-place.tables c.loop-place.invariant

pub trigger_at-requires-clause-controls : goal.trigger_at-requires-clause-controls
trigger_at-requires-clause-controls c = rw c.loop-place.invariant.limits c.requires.controls

pub loop-place-preserved : goal.loop-place-preserved
loop-place-preserved c =
    let old = c.args.tables.now in
    let at = c.trigger_at.ensures in
    goes_on old.limits c.args.subtype.now old.flat.services old.flat c.loop-place.place c.loop-place.tables c.trigger_at.new.tables
    c.loop-place.invariant at.flat at.limits at.left
