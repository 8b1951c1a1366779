use Rattle.std.proofs.Common.{take, ◌+◌, ◌∙◌, ap, arith}
use Rattle.std.specs.Prelude.{slice_index_or}
use Rattle.journal_disk.specs.Calls.{as_call, history}
use Rattle.journal_disk.specs.Tears.{lost}
use Rattle.journal_disk.proofs.Tearing.{held_more, image_more, one_more, open_bound, open_more}
use Rattle.journal_disk.proofs.images.go_through.Goals as goal

pub loop-taken-preserved : goal.loop-taken-preserved
loop-taken-preserved c =
    let i = c.loop-taken.taken-index in
    let calls = c.args.calls.now in
    let p = history (take i calls) in
    let q = history (take (i + 1) calls) in
    let call = as_call c.taken-item.result in
    let inv = c.loop-taken.invariant in
    let more = one_more calls i c.taken-item.result c.loop-taken-test.true c.taken-item.is in
    let tear = c.tear_of-tear.ensures ∙ ap (λ n. slice_index_or c.args.tears.now n lost) inv.opened in
    let bound = open_bound call c.loop-taken.writes in
    record {
      image =
          image_more c.args.tears.now c.tear_of-tear.result c.args.held.now p q call c.loop-taken.held c.loop-taken.image
          c.go_on.new.image tear inv.held inv.image c.in_ok-go_on.ensures.image more;
      held = held_more c.args.held.now p q call c.loop-taken.held c.go_on.new.held inv.held c.in_ok-go_on.ensures.held more;
      opened = open_more p q call c.loop-taken.writes c.open_after-writes.result inv.opened c.open_after-writes.ensures more;
      bound = grind (arith, bound);
    }
