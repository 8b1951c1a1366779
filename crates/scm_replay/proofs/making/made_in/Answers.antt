use Rattle.std.proofs.Common.{◌+◌, ◌∙◌, ap, arith, sym}
use Rattle.scm_model.specs.Texts.{text_of}
use Rattle.scm_rules.specs.Steps.{step_of}
use Rattle.scm_replay.proofs.Admitted.{may_at, same_text}
use Rattle.scm_replay.proofs.Standings.{made_there, stands_behind, told_over}
use Rattle.scm_replay.specs.Outcomes.{is_shared_by, outcome_by, standing, step_in}
use Rattle.scm_replay.proofs.making.made_in.Goals as goal

pub step_at-requires-clause-may : goal.step_at-requires-clause-may
step_at-requires-clause-may c =
    rw (c.keep_as.ensures, c.kept_as-kept.ensures, c.makes_change.ensures)
    (may_at c.args.manager.now.limits c.makes_room.new.manager.limits c.args.manager.now.flat c.makes_room.new.manager.flat
    c.args.line.now.moment c.args.line.now.step c.args.line.now.fails
    c.makes_room.ensures.limits c.makes_room.ensures.flat (sym c.may.ensures ∙ c.if-not-may.false))

pub returns-clause-outcome : goal.returns-clause-outcome
returns-clause-outcome c =
    let old = c.args.manager.now in
    let line = c.args.line.now in
    let made = made_there old.limits (standing old) line (sym c.may.ensures ∙ c.if-not-may.false) (sym c.finds_room.ensures
    ∙ c.if-not-finds_room.false) in
    let shared = c.is_shared_by-shared.ensures ∙ ap (λ f. is_shared_by f line.step) c.makes_room.ensures.flat in
    let told = told_over old.limits c.makes_room.new.manager.limits old.flat c.makes_room.new.manager.flat line c.makes_change.result
    c.kept_as-kept.result c.keep_as.new.step
    c.makes_room.ensures.limits c.makes_room.ensures.flat c.makes_change.ensures c.kept_as-kept.ensures c.keep_as.ensures in
    c.put-2.ensures ∙ c.outcome_by_answer.ensures
    ∙ (λ i. outcome_by (shared i) ((c.step_at.ensures.answer ∙ ap (λ t. t.answer) told) i)) ∙ sym (ap (λ o. o.0) made)

pub returns-clause-standing : goal.returns-clause-standing
returns-clause-standing c =
    let old = c.args.manager.now in
    let line = c.args.line.now in
    let made = made_there old.limits (standing old) line (sym c.may.ensures ∙ c.if-not-may.false) (sym c.finds_room.ensures
    ∙ c.if-not-finds_room.false) in
    let told = told_over old.limits c.makes_room.new.manager.limits old.flat c.makes_room.new.manager.flat line c.makes_change.result
    c.kept_as-kept.result c.keep_as.new.step
    c.makes_room.ensures.limits c.makes_room.ensures.flat c.makes_change.ensures c.kept_as-kept.ensures c.keep_as.ensures in
    let same = ap text_of c.keep_as.ensures ∙ same_text line.step c.kept_as-kept.result in
    stands_behind (standing old) (standing c.step_at.new.self) line.step
    (step_of old.limits old.flat line.moment (step_in old.limits old.flat line))
    (c.step_at.ensures.flat ∙ ap (λ t. t.flat) told)
    (c.step_at.ensures.steps ∙ ap (λ n. n + 1) c.makes_room.ensures.steps)
    (c.step_at.ensures.text ∙ ap (λ n. n + text_of c.keep_as.new.step) c.makes_room.ensures.text ∙ ap (λ n. old.text + n) same)
    ∙ sym (ap (λ o. o.1) made)

pub returns-clause-keeps : goal.returns-clause-keeps
returns-clause-keeps c =
    let fits = c.makes_room.ensures.fits c.if-not-makes_room.false in
    let same = ap text_of c.keep_as.ensures ∙ same_text c.args.line.now.step c.kept_as-kept.result in
    record {
      limits = c.step_at.ensures.limits ∙ c.makes_room.ensures.limits;
      text = λ small. omega (arith, c.step_at.ensures.text, fits, same);
      steps = omega (arith, c.step_at.ensures.steps, c.makes_room.ensures.steps);
    }
