use Rattle.std.proofs.Common.{◌≡◌, ◌++◌, subst}
use Rattle.std.specs.Prelude.{OnOk, codes}
use Rattle.trail_text.specs.Histories.{answered_text}
use Rattle.trail_text.proofs.answering.answer_entry.Goals as goal

pub returns-clause-line : goal.returns-clause-line
returns-clause-line c =
    subst (λ text. OnOk c.put_answer-put.result (c.put_answer-put.new.line.items ≡ text))
    (λ i. codes "= " ++ answered_text (c.is_shared_by-shared.ensures i) (c.step_at.ensures.answer i)) c.put_answer-put.ensures
