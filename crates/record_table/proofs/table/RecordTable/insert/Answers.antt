use Rattle.std.proofs.Common.{◌≡◌, ◌∙◌, arith}
use Rattle.std.proofs.lemmas.Option.{same_Some}
use Rattle.record_table.specs.Recorded.{spare_of}
use Rattle.record_table.proofs.Moving.{entered}
use Rattle.record_table.proofs.Processes as processes
use Rattle.record_table.proofs.Rising.{rising_push}
use Rattle.record_table.proofs.table.RecordTable.insert.Goals as goal

pub invariant_of-self-2 : goal.invariant_of-self-2
invariant_of-self-2 c =
    let made : c.in-Some.spare ≡ spare_of c.args.service.config = same_Some _ _ (c.in-Some.ensures.value
    ∙ rw (← c.self.view_is) at c.requires.spare) in
    let above = rw (← c.self.view_is) at c.requires.above in
    let room = rw (← c.in-Some.ensures.value) at c.self.invariant.spare in
    rw c.push.ensures.items (record {
      rising = rising_push c.self.inside.rows.items c.args.service c.self.invariant.rising above;
      texts = entered c.self.inside.texts c.enter_texts.new.texts c.self.inside.rows.items c.args.service c.in-Some.spare
          c.self.invariant.texts made above c.enter_texts.ensures;
      processes = processes.entered c.self.inside.processes.items c.enter_under.new.processes.items c.self.inside.rows.items
          c.args.service c.self.invariant.processes above c.enter_under.ensures.under;
      room = rw (processes.idle_entered c.self.inside.rows.items c.args.service)
          (omega (arith, c.enter_under.ensures.room, room.processes));
      spare = rw c.in-Some.ensures.after tt;
    })
