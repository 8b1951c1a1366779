use Rattle.scm_tables.proofs.NeedRows.{same_rows}
use Rattle.scm_tables.proofs.Marks.{fallen_mark, marks_map, room_map}
use Rattle.std.proofs.Common.{◌==◌, ◌∙◌, refl, subst, sym}
use Rattle.std.specs.Prelude.{Option, IfSome}
use Rattle.scm_model.specs.declared.flat.Service.{Service}
use Rattle.scm_tables.specs.Failed.{fallen_at}
use Rattle.scm_rules.proofs.Needed.{same_graph}
use Rattle.scm_tables.specs.Tabled.{HasShort}
use Rattle.scm_tables.proofs.Keeping.{fallen_number, fallen_needs, fallen_config, texts_map}
use Rattle.scm_tables.proofs.Placed.{map_keeps}
use Rattle.scm_tables.proofs.Sleeping.{fallen_changes, woken}
use Rattle.scm_tables.proofs.Rising.{rising_map}
use Rattle.scm_tables.proofs.Numbered.{found_number}
use Rattle.scm_tables.proofs.Wording.{found_has}
use Rattle.scm_rules.proofs.Secured.{secured_map}
use Rattle.scm_tables.proofs.Securing.{fallen_security}
use Rattle.scm_tables.proofs.tables.Tables.fall_one.Goals as goal

pub note_fall-requires : goal.note_fall-requires
note_fall-requires c =
    let found = c.in-Some.ensures in
    subst (λ (o : Option Service). IfSome o HasShort) (sym found) (found_has HasShort
    (λ (row : Service). row.number == c.args.number) c.self.inside.services.services c.self.invariant.texts)

pub invariant_of-self : goal.invariant_of-self
invariant_of-self c =
    let kept = c.self.invariant in
    let rows = c.self.inside.services.services in
    record {
      rising = rw c.fall_in.ensures (rising_map _ (fallen_at c.args.number c.args.code)
          (fallen_number c.args.number c.args.code) _ kept.rising);
      texts = rw c.fall_in.ensures (texts_map (fallen_at c.args.number c.args.code)
          (fallen_config c.args.number c.args.code) _ kept.texts);
      secured = rw c.fall_in.ensures (secured_map (fallen_at c.args.number c.args.code)
          (fallen_security c.args.number c.args.code) _ kept.secured);
      index = rw c.fall_in.ensures (kept.index ∙ same_rows (fallen_at c.args.number c.args.code)
          (fallen_needs c.args.number c.args.code) _);
      needs = λ t. rw c.fall_in.ensures (same_graph (fallen_at c.args.number c.args.code) (fallen_needs c.args.number c.args.code) _
          (kept.needs t));
      marked = rw c.fall_in.ensures (kept.marked ∙ sym (marks_map (fallen_at c.args.number c.args.code)
          (fallen_number c.args.number c.args.code) (fallen_mark c.args.number c.args.code) _));
      marks = rw c.fall_in.ensures (room_map (fallen_at c.args.number c.args.code) _ _ kept.marks);
      room = kept.room;
      plans = rw c.wake.ensures.plans kept.plans;
      pending = rw (c.fall_in.ensures, c.wake.ensures.awaited) (woken c.args.number (fallen_at c.args.number c.args.code)
          (fallen_changes c.args.number c.args.code) rows _ kept.pending);
      untried = kept.untried;
      dues = rw c.fall_in.ensures (map_keeps (fallen_at c.args.number c.args.code) (fallen_number c.args.number c.args.code) kept.dues);
      rooms = kept.rooms;
    }

pub returns-clause-flat : goal.returns-clause-flat
returns-clause-flat c =
    let found = c.in-Some.ensures in
    let same = found_number c.args.number c.self.inside.services.services c.in-Some.row.now found in
    rw (← c.self.view_is, ← found, c.fall_in.ensures, c.wake.ensures.plans, c.note_fall.ensures.rows, same) refl

pub returns-in_default-clause-flat : goal.returns-in_default-clause-flat
returns-in_default-clause-flat c =
    let found = c.in_default.ensures in
    rw (← c.self.view_is, ← found) refl
