use Rattle.std.proofs.Common.{◌∙◌, sym}
use Rattle.scm_tables.proofs.NeedRows.{rows_changed}
use Rattle.scm_tables.proofs.Marks.{configured_mark, marks_map, room_map}
use Rattle.scm_model.specs.Changes.{configured_if}
use Rattle.scm_rules.proofs.Needed.{still_free}
use Rattle.scm_tables.proofs.Keeping.{texts_configured}
use Rattle.scm_tables.proofs.Placed.{map_keeps}
use Rattle.scm_tables.proofs.Sleeping.{configured_state, pending_map}
use Rattle.scm_tables.proofs.Rising.{rising_map, configured_number}
use Rattle.scm_rules.proofs.Secured.{secured_map}
use Rattle.scm_tables.proofs.Securing.{configured_security}
use Rattle.scm_tables.proofs.tables.Tables.configure.Goals as goal

pub invariant_of-self : goal.invariant_of-self
invariant_of-self c =
    let kept = c.self.invariant in
    record {
      rising = rw c.configure_in.ensures
          (rising_map _ (configured_if c.args.number c.args.config) (configured_number c.args.number c.args.config) _ kept.rising);
      texts = rw c.configure_in.ensures (texts_configured c.args.number c.args.config _ c.requires.texts kept.texts);
      secured = rw c.configure_in.ensures (secured_map (configured_if c.args.number c.args.config)
          (configured_security c.args.number c.args.config) _ kept.secured);
      index = rw (c.change_needs.ensures, c.configure_in.ensures, kept.index) (rows_changed c.args.number c.args.config _);
      needs = λ t. rw c.configure_in.ensures (still_free c.args.number c.args.config _
          (kept.needs (c.stays_acyclic-self-inside.ensures.before t)) (rw kept.index at (c.stays_acyclic-self-inside.ensures.after t)));
      marked = rw c.configure_in.ensures (kept.marked ∙ sym (marks_map (configured_if c.args.number c.args.config)
          (configured_number c.args.number c.args.config) (configured_mark c.args.number c.args.config) _));
      marks = rw c.configure_in.ensures (room_map (configured_if c.args.number c.args.config) _ _ kept.marks);
      room = kept.room;
      plans = kept.plans;
      pending = rw c.configure_in.ensures (pending_map (configured_if c.args.number c.args.config)
          (configured_number c.args.number c.args.config) (configured_state c.args.number c.args.config) c.self.inside.services.services _
          kept.pending);
      untried = kept.untried;
      dues = rw c.configure_in.ensures (map_keeps (configured_if c.args.number c.args.config)
          (configured_number c.args.number c.args.config) kept.dues);
      rooms = kept.rooms;
    }

pub stays_acyclic-self-inside-requires : goal.stays_acyclic-self-inside-requires
stays_acyclic-self-inside-requires c = rw c.self.invariant.index c.self.invariant.needs
