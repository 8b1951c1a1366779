use Rattle.std.proofs.Common.{arith}
use Rattle.row_slab.specs.Rowed.{altered_at}
use Rattle.record_table.specs.Recorded.{number_of}
use Rattle.record_table.proofs.Moving.{lives, more_room}
use Rattle.record_table.proofs.Processes as processes
use Rattle.record_table.proofs.Rising.{altered_number, rising_map}
use Rattle.record_table.proofs.table.RecordTable.alter.Goals as goal

pub move_under-requires-clause-there : goal.move_under-requires-clause-there
move_under-requires-clause-there g c =
    let told = c.change_row-changed.ensures in
    processes.its_pair c.self.inside.processes.items c.self.inside.rows.items c.args.number c.change_row-changed.result.before
    c.change_row-changed.result.after (g.C.Change.changed c.args.change.now) c.self.invariant.processes told.before
    (rw (← told.items) told.after)

pub move_under-requires-clause-room : goal.move_under-requires-clause-room
move_under-requires-clause-room g c =
    let told = c.change_row-changed.ensures in
    λ apart none. processes.room_for c.self.inside.rows.items c.args.number c.change_row-changed.result.before
    c.change_row-changed.result.after c.self.inside.processes.room (g.C.Change.changed c.args.change.now) c.self.invariant.room
    told.before (rw (← told.items) told.after) apart none

pub invariant_of-self : goal.invariant_of-self
invariant_of-self g c =
    let rows = c.self.inside.rows.items in
    let change = g.C.Change.changed c.args.change.now in
    let numbers = g.met.C.Change.keeps c.args.change.now in
    let told = c.change_row-changed.ensures in
    let idles = processes.idle_altered rows c.args.number c.change_row-changed.result.before c.change_row-changed.result.after change
    numbers c.self.invariant.rising told.before (rw (← told.items) told.after) in
    record {
      rising = rw told.items (rising_map (altered_at number_of c.args.number change)
          (altered_number c.args.number change numbers) rows c.self.invariant.rising);
      texts = rw told.items (lives c.self.inside.texts rows c.args.number change c.self.invariant.texts numbers c.requires);
      processes = rw told.items (processes.altered c.self.inside.processes.items c.move_under.new.processes.items rows
          c.args.number c.change_row-changed.result.before c.change_row-changed.result.after change numbers c.self.invariant.processes
          c.self.invariant.rising told.before (rw (← told.items) told.after) c.move_under.ensures.under);
      room = rw told.items (omega (arith, idles, c.move_under.ensures.room, c.self.invariant.room));
      spare = more_room c.self.inside.spare c.self.inside c.change_row-changed.new.rows c.self.inside.texts c.move_under.new.processes
          (rw told.room (omega arith))
          (rw told.items (omega (arith, idles, c.move_under.ensures.room))) (λ had. had) c.self.invariant.spare;
    }
