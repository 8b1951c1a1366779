use Rattle.std.proofs.Common.{◌∙◌, sym}
use Rattle.scm_rules.specs.Failures.{counted_if}
use Rattle.scm_rules.proofs.Needed.{same_graph}
use Rattle.scm_tables.proofs.NeedRows.{same_rows}
use Rattle.scm_tables.proofs.Failures.{counted_config, counted_mark, counted_needs, counted_number}
use Rattle.scm_tables.proofs.Keeping.{texts_map}
use Rattle.scm_tables.proofs.Placed.{map_keeps}
use Rattle.scm_tables.proofs.Sleeping.{counted_state, pending_map}
use Rattle.scm_tables.proofs.Rising.{rising_map}
use Rattle.scm_tables.proofs.Marks.{marks_map, room_map}
use Rattle.scm_rules.proofs.Secured.{secured_map}
use Rattle.scm_tables.proofs.Securing.{counted_security}
use Rattle.scm_tables.proofs.tables.Tables.count_failure.Goals as goal

pub invariant_of-self : goal.invariant_of-self
invariant_of-self c =
    let kept = c.self.invariant in
    let number = c.args.number in
    let moment = c.self.inside.moment in
    record {
      rising = rw c.count_in.ensures (rising_map _ (counted_if number moment) (counted_number number moment) _ kept.rising);
      texts = rw c.count_in.ensures (texts_map (counted_if number moment) (counted_config number moment) _ kept.texts);
      secured = rw c.count_in.ensures (secured_map (counted_if number moment) (counted_security number moment) _ kept.secured);
      index = rw c.count_in.ensures (kept.index ∙ same_rows (counted_if number moment) (counted_needs number moment) _);
      needs = λ t. rw c.count_in.ensures (same_graph (counted_if number moment) (counted_needs number moment) _ (kept.needs t));
      marked = rw c.count_in.ensures (kept.marked ∙ sym (marks_map (counted_if number moment) (counted_number number moment)
          (counted_mark number moment) _));
      marks = rw c.count_in.ensures (room_map (counted_if number moment) _ _ kept.marks);
      room = kept.room;
      plans = kept.plans;
      pending = rw c.count_in.ensures (pending_map (counted_if number moment) (counted_number number moment)
          (counted_state number moment) c.self.inside.services.services _ kept.pending);
      untried = kept.untried;
      dues = rw c.count_in.ensures (map_keeps (counted_if number moment) (counted_number number moment) kept.dues);
      rooms = kept.rooms;
    }
