use Rattle.scm_tables.proofs.Marks.{marks_pushed, room_push}
use Rattle.std.proofs.Common.{◌≤◌, ◌<◌, ◌∙◌, ap, arith, inl, refl, subst, sym}
use Rattle.scm_model.specs.declared.flat.Service.{Service}
use Rattle.scm_model.specs.Needs.{needs_of}
use Rattle.scm_model.specs.Walks.{IsAcyclic}
use Rattle.std.proofs.lemmas.List.Elements.{All-push, recursion_from_All}
use Rattle.scm_rules.proofs.Needed.{rows_added}
use Rattle.scm_rules.specs.Security.{IsSecured}
use Rattle.record_table.specs.Recorded.{Recorded}
use Rattle.scm_tables.specs.Tabled.{HasNeedRoom, HasShort, NeedRoom, Tabled}
use Rattle.scm_tables.proofs.NeedRows.{next_above}
use Rattle.scm_tables.proofs.Placed.{push_keeps}
use Rattle.scm_tables.proofs.Sleeping.{pending_push}
use Rattle.scm_tables.proofs.Rising.{rising_push}
use Rattle.scm_tables.proofs.tables.Tables.put_service.Goals as goal

pub invariant_of-self : goal.invariant_of-self
invariant_of-self c =
    let more = ap (λ (r : Recorded). r.services) c.insert.ensures in
    let kept = c.self.invariant in
    record {
      rising = rw more (rising_push _ _ _ kept.rising refl);
      texts = rw more (All-push HasShort _ _ kept.texts c.requires.texts);
      secured = rw more (All-push IsSecured _ _ kept.secured (inl c.new-security.ensures));
      index = rw (c.set_needs.ensures, more, kept.index) (sym (rows_added _ _ kept.rising.below));
      needs = λ t. rw more (subst (λ g. IsAcyclic (needs_of g)) (sym (rows_added _ _ kept.rising.below))
          (rw kept.index at (c.stays_acyclic-self-inside.ensures.after t)));
      marked = kept.marked ∙ sym (marks_pushed c.self.inside.services.services c.insert.new.self.services _ more refl);
      marks = rw more (room_push _ _ _ (let room = subst (λ (t : Tabled). 1 ≤ t.spare.services) (sym c.self.view_is) c.requires.room in
          omega (arith, room)));
      room = kept.room;
      plans = kept.plans;
      pending = rw more (pending_push c.self.inside.services.services _ _ kept.pending);
      untried = kept.untried;
      dues = rw more (push_keeps _ kept.dues (let room = subst (λ (t : Tabled). 1 ≤ t.spare.services)
          (sym c.self.view_is) c.requires.room in omega (arith, room)));
      rooms = kept.rooms;
    }

pub stays_acyclic-self-inside-requires : goal.stays_acyclic-self-inside-requires
stays_acyclic-self-inside-requires c = rw c.self.invariant.index c.self.invariant.needs

pub set_needs-requires : goal.set_needs-requires
set_needs-requires c =
    let kept = c.self.invariant in
    record {
      spare = ap (λ (room : NeedRoom). room.index) (subst (λ (t : Tabled). HasNeedRoom t.spare c.args.config)
          (sym c.self.view_is) c.requires.needs);
      next = rw kept.index (λ fresh. next_above c.self.inside.next.service _ kept.rising.below);
    }

pub insert-requires : goal.insert-requires
insert-requires c =
    let kept = c.self.invariant in
    record {
      spare = ap (λ (room : NeedRoom). room.rows) (subst (λ (t : Tabled). HasNeedRoom t.spare c.args.config)
          (sym c.self.view_is) c.requires.needs);
      above = recursion_from_All (λ (row : Service). row.number < c.self.inside.next.service) _ kept.rising.below;
    }
