use Rattle.scm_tables.proofs.NeedRows.{same_rows}
use Rattle.scm_tables.proofs.Marks.{started_mark, marks_map, room_map}
use Rattle.std.proofs.Common.{◌==◌, ◌∙◌, ap, refl, sym, Option}
use Rattle.scm_model.specs.declared.flat.Service.{Service}
use Rattle.scm_tables.specs.Tabled.{HasShort}
use Rattle.scm_tables.proofs.Wording.{found_has}
use Rattle.start_plan.specs.Entered.{started_if, notified_of_start}
use Rattle.start_plan.proofs.Pending.{pending_entered}
use Rattle.scm_rules.proofs.Needed.{same_graph}
use Rattle.scm_tables.proofs.Keeping.{texts_map, started_needs, started_number, started_config}
use Rattle.scm_tables.proofs.Placed.{map_keeps}
use Rattle.scm_tables.proofs.Rising.{rising_map}
use Rattle.scm_rules.proofs.Secured.{secured_map}
use Rattle.scm_tables.proofs.Securing.{started_security}
use Rattle.scm_tables.proofs.tables.Tables.start_by.Goals as goal

pub note_start-requires : goal.note_start-requires
note_start-requires c =
    rw c.get.ensures (found_has HasShort (λ (row : Service). row.number == c.args.service) c.self.inside.services.services
    c.self.invariant.texts)

pub returns-clause-flat : goal.returns-clause-flat
returns-clause-flat c =
    let told = c.note_start.ensures.rows c.args.process ∙ ap (λ (o : Option Service). notified_of_start c.args.service c.args.process
    c.args.pid o c.self.inside.registrations.rows) c.get.ensures in
    rw (← c.self.view_is, c.start_in.ensures, told) refl

pub invariant_of-self : goal.invariant_of-self
invariant_of-self c =
    let kept = c.self.invariant in
    let change = started_if c.args.service c.args.process in
    let number = started_number c.args.service c.args.process in
    let needs = started_needs c.args.service c.args.process in
    record {
      rising = rw c.start_in.ensures (rising_map _ change number _ kept.rising);
      texts = rw c.start_in.ensures (texts_map change (started_config c.args.service c.args.process) _ kept.texts);
      secured = rw c.start_in.ensures (secured_map change (started_security c.args.service c.args.process) _ kept.secured);
      index = rw c.start_in.ensures (kept.index ∙ same_rows change needs _);
      needs = λ t. rw c.start_in.ensures (same_graph change needs _ (kept.needs t));
      marked = rw c.start_in.ensures (kept.marked ∙ sym (marks_map change number (started_mark c.args.service c.args.process) _));
      marks = rw c.start_in.ensures (room_map change _ _ kept.marks);
      room = kept.room;
      plans = kept.plans;
      pending = rw c.start_in.ensures (pending_entered c.args.service c.args.process c.self.inside.services.services _ kept.pending);
      untried = kept.untried;
      dues = rw c.start_in.ensures (map_keeps change number kept.dues);
      rooms = kept.rooms;
    }
