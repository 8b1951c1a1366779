use Rattle.std.proofs.Common.{◌∙◌, arith, not, refl, sym}
use Rattle.record_table.specs.Recorded.{has_number}
use Rattle.scm_model.specs.declared.flat.Service.{Service}
use Rattle.record_table.proofs.Finding.{none_leaves}
use Rattle.record_table.proofs.Moving.{gone_from, more_room, still_of}
use Rattle.record_table.proofs.Processes as processes
use Rattle.record_table.proofs.Rising.{rising_filter}
use Rattle.record_table.proofs.table.RecordTable.remove.Goals as goal

pub invariant_of-self : goal.invariant_of-self
invariant_of-self c =
    let same = c.remove.ensures.items ∙ none_leaves c.args.number c.self.inside.rows.items (sym c.in_err-row.ensures.row) in
    record {
      rising = rw same c.self.invariant.rising;
      texts = rw same c.self.invariant.texts;
      processes = rw same c.self.invariant.processes;
      room = rw same c.self.invariant.room;
      spare = more_room c.self.inside.spare c.self.inside c.remove.new.self c.self.inside.texts c.self.inside.processes
          c.remove.ensures.room (rw same (omega arith)) (λ had. had) c.self.invariant.spare;
    }

pub leave_under-requires : goal.leave_under-requires
leave_under-requires c = processes.has_its_pair c.self.inside.processes.items c.self.inside.rows.items c.args.number c.in_ok-row.row
    c.self.invariant.processes (sym c.in_ok-row.ensures.row)

pub invariant_of-self-2 : goal.invariant_of-self-2
invariant_of-self-2 c =
    rw (c.remove.ensures.items, c.take.ensures.after) (record {
      rising = rising_filter (λ (row : Service). not (has_number c.args.number row)) c.self.inside.rows.items c.self.invariant.rising;
      texts = gone_from c.forget_room.new.texts c.leave_texts.new.texts c.self.inside.rows.items c.in_ok-row.row c.args.number
          (still_of _ _ _ c.forget_room.ensures c.self.invariant.texts) c.self.invariant.rising
          (sym c.in_ok-row.ensures.row) c.leave_texts.ensures;
      processes = processes.gone c.self.inside.processes.items c.leave_under.new.processes.items c.self.inside.rows.items c.in_ok-row.row
          c.args.number c.self.invariant.processes c.self.invariant.rising (sym c.in_ok-row.ensures.row) c.leave_under.ensures.under;
      room = omega (
        arith,
        processes.idle_without c.self.inside.rows.items c.in_ok-row.row c.args.number (sym c.in_ok-row.ensures.row),
        c.leave_under.ensures.room,
        c.self.invariant.room,
      );
      spare = tt;
    })

pub returns-clause-service : goal.returns-clause-service
returns-clause-service c = rw (← c.self.view_is) c.in_ok-row.ensures.row

pub returns-clause-table : goal.returns-clause-table
returns-clause-table c = rw (← c.self.view_is, c.remove.ensures.items, c.take.ensures.after, ← c.in_ok-row.ensures.row) refl
