use Rattle.std.proofs.Common.{◌≡◌, subst, ◌∙◌, ap, ◌+◌}
use Rattle.std.specs.Prelude.{OnOk}
use Rattle.scm_model.specs.declared.flat.Flat.{Flat}
use Rattle.scm_model.specs.declared.flat.Limits.{Limits}
use Rattle.scm_model.specs.Entries.{Entry}
use Rattle.scm_rules.specs.Steps.{step_of}
use Rattle.trail_text.specs.Histories.{answer_line}
use Rattle.trail_export.proofs.Sinking.{on_ok}
use Rattle.trail_export.proofs.Parts.{prepared_for}
use Rattle.trail_export.proofs.entries.make_entry.Goals as goal

pub answer_entry-requires-clause-may : goal.answer_entry-requires-clause-may
answer_entry-requires-clause-may c = rw (c.makes_room.ensures.limits, c.makes_room.ensures.flat) c.requires.may

pub answer_entry-requires-clause-room : goal.answer_entry-requires-clause-room
answer_entry-requires-clause-room c = prepared_for c.makes_room.new.manager.room c.args.step.now
    (c.makes_room.ensures.room c.if-not-makes_room.false)

pub returns-clause-line : goal.returns-clause-line
returns-clause-line c =
    let e : Entry = (c.args.moment, c.args.step.now) in
    subst (λ (l : Limits). OnOk c.answer_entry.result (c.answer_entry.new.line.items ≡ answer_line l c.args.manager.now.flat e))
    c.makes_room.ensures.limits
    (subst (λ (f : Flat). OnOk c.answer_entry.result (c.answer_entry.new.line.items
    ≡ answer_line c.makes_room.new.manager.limits f e)) c.makes_room.ensures.flat c.answer_entry.ensures.line)

pub returns-clause-stepped : goal.returns-clause-stepped
returns-clause-stepped c =
    let old = c.args.manager.now in
    let mid = c.makes_room.new.manager in
    on_ok c.answer_entry.result (record {
      flat = c.answer_entry.ensures.flat
          ∙ ap (λ (l : Limits). (step_of l mid.flat c.args.moment c.args.step.now).flat) c.makes_room.ensures.limits
          ∙ ap (λ (f : Flat). (step_of old.limits f c.args.moment c.args.step.now).flat) c.makes_room.ensures.flat;
      limits = c.answer_entry.ensures.limits ∙ c.makes_room.ensures.limits;
      steps = c.answer_entry.ensures.steps ∙ ap (λ n. n + 1) c.makes_room.ensures.steps;
    })
