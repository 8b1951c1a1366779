use Rattle.std.proofs.Common.{◌∙◌, Option, ap, find, refl, sym}
use Rattle.scm_model.specs.declared.flat.Service.{Service}
use Rattle.scm_rules.specs.Controls.{controls_of, first_control, is_asked_by, next_by, unasked_if}
use Rattle.scm_rules.proofs.Needed.{same_graph}
use Rattle.scm_tables.specs.Tabled.{Tabled}
use Rattle.scm_tables.proofs.Keeping.{other_processes, texts_map, unasked_config, unasked_needs, unasked_number}
use Rattle.scm_tables.proofs.Marks.{marks_map, room_map, unasked_mark}
use Rattle.scm_tables.proofs.NeedRows.{same_rows}
use Rattle.scm_tables.proofs.Placed.{map_keeps}
use Rattle.scm_tables.proofs.Rising.{rising_map}
use Rattle.scm_tables.proofs.Sleeping.{pending_map, unasked_state}
use Rattle.scm_rules.proofs.Secured.{secured_map}
use Rattle.scm_tables.proofs.Securing.{unasked_security}
use Rattle.scm_tables.proofs.tables.Tables.take_control.Goals as goal

pub first_asked_in-requires : goal.first_asked_in-requires
first_asked_in-requires c = c.self.invariant.rising.rising

pub returns-in-Some-clause-flat : goal.returns-in-Some-clause-flat
returns-in-Some-clause-flat c =
    let found = c.in-Some.ensures in
    rw (← c.self.view_is, ← found, c.unask_in.ensures) refl

pub returns-in-None-clause-flat : goal.returns-in-None-clause-flat
returns-in-None-clause-flat c =
    let found = c.in-None.ensures in
    rw (← c.self.view_is, ← found, c.dequeue_control.ensures.left) refl

pub returns-in-Some-clause-none : goal.returns-in-Some-clause-none
returns-in-Some-clause-none c = λ none.
    let process = c.args.process in
    let found = c.in-Some.ensures ∙ ap (λ (t : Tabled). find (is_asked_by process) t.flat.services) c.self.view_is in
    absurd (cc (ap (λ (o : Option Service). next_by o (first_control (controls_of c.args.self.now.flat process))) found ∙ none))

pub returns-in-None-clause-none : goal.returns-in-None-clause-none
returns-in-None-clause-none c = λ none.
    let process = c.args.process in
    let found = c.in-None.ensures ∙ ap (λ (t : Tabled). find (is_asked_by process) t.flat.services) c.self.view_is in
    let order = ap (λ (o : Option Service). next_by o (first_control (controls_of c.args.self.now.flat process))) found ∙ none in
    rw (
      ← c.self.view_is,
      c.dequeue_control.ensures.none (ap (λ (t : Tabled). first_control (controls_of t.flat process)) c.self.view_is ∙ order),
    ) refl

pub invariant_of-self : goal.invariant_of-self
invariant_of-self c =
    let kept = c.self.invariant in
    let number = c.in-Some.row.now.number in
    let change = unasked_if number in
    record {
      rising = rw c.unask_in.ensures (rising_map _ change (unasked_number number) _ kept.rising);
      texts = rw c.unask_in.ensures (texts_map change (unasked_config number) _ kept.texts);
      secured = rw c.unask_in.ensures (secured_map change (unasked_security number) _ kept.secured);
      index = rw c.unask_in.ensures (kept.index ∙ same_rows change (unasked_needs number) _);
      needs = λ t. rw c.unask_in.ensures (same_graph change (unasked_needs number) _ (kept.needs t));
      marked = rw c.unask_in.ensures (kept.marked ∙ sym (marks_map change (unasked_number number) (unasked_mark number) _));
      marks = rw c.unask_in.ensures (room_map change _ _ kept.marks);
      room = kept.room;
      plans = kept.plans;
      pending = rw c.unask_in.ensures (pending_map change (unasked_number number) (unasked_state number)
          c.self.inside.services.services _ kept.pending);
      untried = kept.untried;
      dues = rw c.unask_in.ensures (map_keeps change (unasked_number number) kept.dues);
      rooms = kept.rooms;
    }

pub invariant_of-self-in-None : goal.invariant_of-self-in-None
invariant_of-self-in-None c = other_processes c.self.invariant c.dequeue_control.new.self c.dequeue_control.ensures.left refl refl
