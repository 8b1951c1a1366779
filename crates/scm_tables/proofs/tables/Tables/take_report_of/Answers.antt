use Rattle.scm_tables.proofs.NeedRows.{same_rows}
use Rattle.scm_tables.proofs.Marks.{reported_mark, marks_map, room_map}
use Rattle.std.proofs.Common.{◌==◌, ◌∙◌, refl, subst, sym}
use Rattle.std.specs.Prelude.{Option, IfSome}
use Rattle.scm_model.specs.declared.flat.Service.{Service}
use Rattle.scm_rules.specs.Reports.{reported_if}
use Rattle.scm_rules.proofs.Needed.{same_graph}
use Rattle.scm_tables.specs.Tabled.{HasShort}
use Rattle.scm_tables.proofs.Keeping.{reported_config, reported_needs, reported_number, texts_map}
use Rattle.scm_tables.proofs.Placed.{map_keeps}
use Rattle.scm_tables.proofs.Sleeping.{reported_changes, woken}
use Rattle.scm_tables.proofs.Rising.{rising_map}
use Rattle.scm_tables.proofs.Numbered.{found_number}
use Rattle.scm_tables.proofs.Wording.{found_has}
use Rattle.scm_rules.proofs.Secured.{secured_map}
use Rattle.scm_tables.proofs.Securing.{reported_security}
use Rattle.scm_tables.proofs.tables.Tables.take_report_of.Goals as goal

pub note_report-requires : goal.note_report-requires
note_report-requires c =
    let found = c.in-Some.ensures in
    subst (λ (o : Option Service). IfSome o HasShort) (sym found) (found_has HasShort
    (λ (row : Service). row.number == c.args.service) c.self.inside.services.services c.self.invariant.texts)

pub invariant_of-self : goal.invariant_of-self
invariant_of-self c =
    let kept = c.self.invariant in
    let rows = c.self.inside.services.services in
    let number = c.args.service in
    record {
      rising = rw c.report_in.ensures (rising_map _ (reported_if number c.args.report.now)
          (reported_number number c.args.report.now) _ kept.rising);
      texts = rw c.report_in.ensures (texts_map (reported_if number c.args.report.now)
          (reported_config number c.args.report.now) _ kept.texts);
      secured = rw c.report_in.ensures (secured_map (reported_if number c.args.report.now)
          (reported_security number c.args.report.now) _ kept.secured);
      index = rw c.report_in.ensures (kept.index ∙ same_rows (reported_if number c.args.report.now)
          (reported_needs number c.args.report.now) _);
      needs = λ t. rw c.report_in.ensures (same_graph (reported_if number c.args.report.now) (reported_needs number c.args.report.now) _
          (kept.needs t));
      marked = rw c.report_in.ensures (kept.marked ∙ sym (marks_map (reported_if number c.args.report.now)
          (reported_number number c.args.report.now) (reported_mark number c.args.report.now) _));
      marks = rw c.report_in.ensures (room_map (reported_if number c.args.report.now) _ _ kept.marks);
      room = rw c.release_stopped.ensures kept.room;
      plans = rw c.wake.ensures.plans kept.plans;
      pending = rw (c.report_in.ensures, c.wake.ensures.awaited) (woken number (reported_if number c.args.report.now)
          (reported_changes number c.args.report.now) rows _ kept.pending);
      untried = kept.untried;
      dues = rw c.report_in.ensures (map_keeps (reported_if number c.args.report.now)
          (reported_number number c.args.report.now) kept.dues);
      rooms = kept.rooms;
    }

pub returns-clause-flat : goal.returns-clause-flat
returns-clause-flat c =
    let found = c.in-Some.ensures in
    let same = found_number c.args.service c.self.inside.services.services c.in-Some.row.now found in
    rw (← c.self.view_is, c.report_in.ensures, c.wake.ensures.plans, c.note_report.ensures.rows, c.release_stopped.ensures, ← found, same)
    refl

pub returns-in_default-clause-flat : goal.returns-in_default-clause-flat
returns-in_default-clause-flat c =
    let found = c.in_default.ensures in
    rw (← c.self.view_is, ← found) refl
