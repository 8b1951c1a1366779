use Rattle.std.proofs.Common.{◌∙◌, ap, refl}
use Rattle.record_table.specs.Kept.{idle}
use Rattle.record_table.specs.Recorded.{number_of, with_security}
use Rattle.record_table.proofs.Moving.{lives, still_room}
use Rattle.record_table.proofs.Processes as processes
use Rattle.record_table.proofs.Rising.{altered_number, rising_map}
use Rattle.row_slab.specs.Rowed.{altered_at}
use Rattle.record_table.proofs.table.RecordTable.set_security.Goals as goal

pub invariant_of-self : goal.invariant_of-self
invariant_of-self c =
    let rows = c.self.inside.rows.items in
    let change = with_security c.args.security in
    let now = c.exchange_security.ensures.items in
    let idles = processes.idle_unmoved rows c.args.number change (λ row. refl) in
    record {
      rising = rw now (rising_map (altered_at number_of c.args.number change) (altered_number c.args.number change (λ row. refl)) rows
          c.self.invariant.rising);
      texts = rw now (lives c.self.inside.texts rows c.args.number change c.self.invariant.texts (λ row. refl) (λ row. refl));
      processes = rw now (processes.unmoved c.self.inside.processes.items rows c.args.number change (λ row. refl) (λ row. refl)
          c.self.invariant.processes);
      room = rw now (rw idles c.self.invariant.room);
      spare = still_room c.self.inside.spare c.self.inside c.exchange_security.new.rows c.exchange_security.ensures.room
          (ap idle now ∙ idles) c.self.invariant.spare;
    }
