use Rattle.std.proofs.Common.{ap, arith, length, rules}
use Rattle.record_table.proofs.Moving.{more_room, still_of}
use Rattle.record_table.proofs.Processes.{idle_within}
use Rattle.record_table.specs.Kept.{HasTexts}
use Rattle.record_table.proofs.table.RecordTable.reserve.Goals as goal

pub invariant_of-self-then-is_err : goal.invariant_of-self-then-is_err
invariant_of-self-then-is_err c =
    record {
      rising = rw c.reserve.ensures.items c.self.invariant.rising;
      texts = rw c.reserve.ensures.items (still_of _ _ _ c.reserve_texts.ensures.numbers c.self.invariant.texts);
      processes = rw (c.reserve.ensures.items, c.reserve-2.ensures.items) c.self.invariant.processes;
      room = rw c.reserve.ensures.items (omega (arith, c.reserve-2.ensures.room, c.self.invariant.room));
      spare = more_room c.self.inside.spare c.self.inside c.reserve.new.self c.reserve_texts.new.texts c.reserve-2.new.self
          c.reserve.ensures.room (rw c.reserve.ensures.items (omega (arith, c.reserve-2.ensures.room)))
          c.reserve_texts.ensures.kept c.self.invariant.spare;
    }

pub invariant_of-self-2 : goal.invariant_of-self-2
invariant_of-self-2 c =
    let texts : HasTexts c.reserve_texts.new.texts c.in_ok-spare.spare = search rules in
    rw c.reserve.ensures.items (record {
      rising = c.self.invariant.rising;
      texts = still_of _ _ _ c.exchange_room.ensures.numbers (still_of _ _ _ c.reserve_texts.ensures.numbers c.self.invariant.texts);
      processes = rw c.reserve-2.ensures.items c.self.invariant.processes;
      room = omega (arith, c.reserve-2.ensures.room, c.self.invariant.room);
      spare = record {
        rows = c.in_ok-reserve.ensures.ok;
        processes = omega (
          arith,
          c.in_ok-reserve-2.ensures.ok,
          c.len.ensures.len,
          idle_within c.self.inside.rows.items,
          ap length c.reserve.ensures.items,
        );
        texts = c.exchange_room.ensures.kept texts;
      };
    })
