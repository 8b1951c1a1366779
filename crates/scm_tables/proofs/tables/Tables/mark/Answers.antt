use Rattle.std.proofs.Common.{◌==◌, ◌≡◌, ◌∙◌, ap, arith, false, length, refl, subst, sym}
use Rattle.std.specs.Prelude.{Option, IfSome}
use Rattle.scm_model.specs.declared.flat.Service.{Service}
use Rattle.scm_model.specs.Changes.{marked_if}
use Rattle.scm_rules.proofs.Needed.{same_graph}
use Rattle.scm_tables.specs.Tabled.{HasShort}
use Rattle.scm_tables.proofs.NeedRows.{same_rows}
use Rattle.scm_tables.proofs.Keeping.{texts_map}
use Rattle.scm_tables.proofs.Placed.{map_keeps}
use Rattle.number_lists.specs.Rising.{with_number}
use Rattle.scm_tables.proofs.Marks.{fewer_marks, found_any, marks_with, rising_by, room_map}
use Rattle.scm_tables.proofs.Sleeping.{pending_map}
use Rattle.scm_tables.proofs.Rising.{rising_map}
use Rattle.scm_tables.proofs.Wording.{found_has}
use Rattle.scm_text.specs.Numbers.{has}
use Rattle.scm_rules.proofs.Secured.{secured_map}
use Rattle.scm_tables.proofs.tables.Tables.mark.Goals as goal

pub note_mark-requires : goal.note_mark-requires
note_mark-requires c =
    let found = c.in-Some.ensures in
    subst (λ (o : Option Service). IfSome o HasShort) (sym found) (found_has HasShort
    (λ (row : Service). row.number == c.args.service) c.self.inside.services.services c.self.invariant.texts)

pub mark-told-requires : goal.mark-told-requires
mark-told-requires c = λ fresh.
    let number = c.in-Some.row.now.number in
    let rows = c.self.inside.services.services in
    let kept = c.self.invariant in
    let found = c.in-Some.ensures in
    let is = found_any (λ (row : Service). row.number == c.args.service) rows c.in-Some.row.now (sym found) in
    omega (arith, fewer_marks number rows is (subst (λ ns. has ns number ≡ false) kept.marked fresh), kept.marks, ap length kept.marked)

pub invariant_of-self : goal.invariant_of-self
invariant_of-self c =
    let kept = c.self.invariant in
    let number = c.in-Some.row.now.number in
    let found = c.in-Some.ensures in
    let is = found_any (λ (row : Service). row.number == c.args.service) c.self.inside.services.services c.in-Some.row.now (sym found) in
    record {
      rising = rw c.mark_in.ensures (rising_map _ (marked_if number) (λ row. refl) _ kept.rising);
      texts = rw c.mark_in.ensures (texts_map (marked_if number) (λ row. refl) _ kept.texts);
      secured = rw c.mark_in.ensures (secured_map (marked_if number) (λ row. refl) _ kept.secured);
      index = rw c.mark_in.ensures (kept.index ∙ same_rows (marked_if number) (λ row. refl) _);
      needs = λ t. rw c.mark_in.ensures (same_graph (marked_if number) (λ row. refl) _ (kept.needs t));
      marked = rw c.mark_in.ensures (c.mark-told.ensures.items ∙ ap (λ ns. with_number ns number) kept.marked
          ∙ sym (marks_with number _ (rising_by _ kept.rising.rising) is));
      marks = rw c.mark_in.ensures (room_map (marked_if number) _ _ (omega (arith, kept.marks, c.mark-told.ensures.held)));
      room = kept.room;
      plans = kept.plans;
      pending = rw c.mark_in.ensures (pending_map (marked_if number) (λ row. refl)
          (λ row. refl) c.self.inside.services.services _ kept.pending);
      untried = kept.untried;
      dues = rw c.mark_in.ensures (map_keeps (marked_if number) (λ row. refl) kept.dues);
      rooms = kept.rooms;
    }

pub returns-clause-flat : goal.returns-clause-flat
returns-clause-flat c =
    let found = c.in-Some.ensures in
    rw (← c.self.view_is, c.mark_in.ensures, c.note_mark.ensures.rows, ← found) refl
