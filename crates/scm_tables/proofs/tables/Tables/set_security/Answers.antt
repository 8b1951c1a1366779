use Rattle.std.proofs.Common.{◌∙◌, refl, sym}
use Rattle.scm_rules.specs.Security.{secured_if}
use Rattle.scm_rules.proofs.Needed.{same_graph}
use Rattle.scm_rules.proofs.Secured.{all_secured}
use Rattle.scm_tables.proofs.Keeping.{texts_map}
use Rattle.scm_tables.proofs.Marks.{marks_map, room_map}
use Rattle.scm_tables.proofs.NeedRows.{same_rows}
use Rattle.scm_tables.proofs.Placed.{map_keeps}
use Rattle.scm_tables.proofs.Rising.{rising_map}
use Rattle.scm_tables.proofs.Securing.{secured_config, secured_mark, secured_needs, secured_number, secured_state}
use Rattle.scm_tables.proofs.Sleeping.{pending_map}
use Rattle.scm_tables.proofs.tables.Tables.set_security.Goals as goal

pub invariant_of-self : goal.invariant_of-self
invariant_of-self c =
    let kept = c.self.invariant in
    let n = c.args.number in
    let security = c.args.security in
    let change = secured_if n security in
    let number = secured_number n security in
    let needs = secured_needs n security in
    record {
      rising = rw c.secure_in.ensures (rising_map _ change number _ kept.rising);
      texts = rw c.secure_in.ensures (texts_map change (secured_config n security) _ kept.texts);
      secured = rw c.secure_in.ensures (all_secured n security _ c.requires kept.secured);
      index = rw c.secure_in.ensures (kept.index ∙ same_rows change needs _);
      needs = λ t. rw c.secure_in.ensures (same_graph change needs _ (kept.needs t));
      marked = rw c.secure_in.ensures (kept.marked ∙ sym (marks_map change number (secured_mark n security) _));
      marks = rw c.secure_in.ensures (room_map change _ _ kept.marks);
      room = kept.room;
      plans = kept.plans;
      pending = rw c.secure_in.ensures (pending_map change number (secured_state n security) c.self.inside.services.services _
          kept.pending);
      untried = kept.untried;
      dues = rw c.secure_in.ensures (map_keeps change number kept.dues);
      rooms = kept.rooms;
    }

pub returns-clause-flat : goal.returns-clause-flat
returns-clause-flat c = rw (← c.self.view_is, c.secure_in.ensures) refl
