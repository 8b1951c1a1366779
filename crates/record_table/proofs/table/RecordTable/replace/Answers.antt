use Rattle.std.proofs.Common.{◌≡◌, ◌∙◌, ap, refl, find}
use Rattle.std.proofs.lemmas.Option.{same_Some}
use Rattle.record_table.specs.Kept.{idle}
use Rattle.record_table.specs.Recorded.{spare_of, has_number, number_of, with_config}
use Rattle.record_table.proofs.Finding.{none_changes, none_configured, some_configured}
use Rattle.record_table.proofs.Moving.{exchanged_each, still_room}
use Rattle.record_table.proofs.Processes as processes
use Rattle.record_table.proofs.Rising.{altered_number, rising_map}
use Rattle.row_slab.specs.Rowed.{altered_at}
use Rattle.scm_model.specs.declared.flat.Service.{Service}
use Rattle.record_table.proofs.table.RecordTable.replace.Goals as goal

pub invariant_of-self : goal.invariant_of-self
invariant_of-self c =
    let rows = c.self.inside.rows.items in
    let none = none_configured (find (has_number c.args.number) rows) c.in_err-before.ensures.config in
    let same = c.exchange.ensures.items ∙ none_changes c.args.number (with_config c.args.config) rows none in
    record {
      rising = rw same c.self.invariant.rising;
      texts = rw same c.self.invariant.texts;
      processes = rw same c.self.invariant.processes;
      room = rw same c.self.invariant.room;
      spare = still_room c.self.inside.spare c.self.inside c.exchange.new.rows c.exchange.ensures.room (ap idle same)
          c.self.invariant.spare;
    }

pub invariant_of-self-2 : goal.invariant_of-self-2
invariant_of-self-2 c =
    let rows = c.self.inside.rows.items in
    let n = c.args.number in
    let config = c.args.config in
    let made : c.in-Some.spare ≡ spare_of config = same_Some _ _ (c.in-Some.ensures.value ∙ rw (← c.self.view_is) at c.requires.spare) in
    let got = some_configured (find (has_number n) rows) c.in_ok-before.before c.in_ok-before.ensures.config in
    rw c.exchange.ensures.items (record {
      rising = rising_map (altered_at number_of n (with_config config))
          (altered_number n (with_config config) (λ (row : Service). refl)) rows c.self.invariant.rising;
      texts = exchanged_each c.self.inside.texts c.move_texts.new.texts rows got.0 n config c.self.invariant.texts c.self.invariant.rising
          got.1 (rw (← got.2, made) at c.move_texts.ensures);
      processes = processes.unmoved c.self.inside.processes.items rows n (with_config config) (λ row. refl) (λ row. refl)
          c.self.invariant.processes;
      room = rw (processes.idle_unmoved rows n (with_config config) (λ row. refl)) c.self.invariant.room;
      spare = rw c.in-Some.ensures.after tt;
    })
