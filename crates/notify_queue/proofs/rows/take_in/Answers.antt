use Rattle.std.proofs.Common.{◌≡◌, ◌∙◌, ◌+◌, ◌-◌, ◌==◌, Option, ap, arith, cond, get_or, set}
use Rattle.scm_model.specs.declared.flat.Registration.{Registration}
use Rattle.scm_model.specs.Notices.{taken_once}
use Rattle.notify_queue.specs.declared.row.Notice.{Notice}
use Rattle.notify_queue.specs.Queued.{notice_at}
use Rattle.notify_queue.proofs.Ordered.{map_over_back, notice_back, was_back}
use Rattle.notify_queue.proofs.rows.take_in.Goals as goal

pub loop-left-preserved : goal.loop-left-preserved
loop-left-preserved c =
    let n = c.args.number in
    let rows = c.args.rows.now.items in
    let ys = c.loop-left.rows.items in
    let x = c.index_mut.result.now in
    let i = c.loop-left.left - 1 in
    let kept = c.loop-left.invariant in
    let next : i + 1 ≡ c.loop-left.left = omega arith in
    let now : x ≡ get_or rows i x = c.index_mut.ensures.value ∙ was_back
    (taken_once n) rows ys i c.loop-left.left x next kept.within kept.rows in
    record {
      rows = rw c.take-told.ensures.row
          (ap (λ (row : Registration). set ys i (taken_once n row)) now ∙ map_over_back
          (taken_once n) rows ys i c.loop-left.left x next kept.within kept.rows);
      told = c.take-told.ensures.notice
          ∙ ap (λ (row : Registration). cond (row.number == n) (notice_at row) c.loop-left.told) now
          ∙ ap (λ (told : Option Notice). cond ((get_or rows i x).number == n) (notice_at (get_or rows i x)) told) kept.told
          ∙ notice_back n rows i c.loop-left.left x next kept.within;
      within = omega (arith, kept.within);
      len = kept.len;
      capacity = kept.capacity;
    }
