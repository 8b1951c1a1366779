use Rattle.std.proofs.Common.{length, subst, sym, ◌∙◌}
use Rattle.scm_summary.specs.Counting.{HasRoomFor, Raises}
use Rattle.scm_summary.proofs.Counts.{counts_one, has_room, taken_calling}
use Rattle.scm_summary.proofs.counting.count_calls.Goals as goal

pub raise-requires : goal.raise-requires
raise-requires c =
    let left = c.loop-front.entries in
    let now = c.next_front.new.self in
    let front = c.in-Some.front in
    let taken = rw c.in-Some.is at c.in_ok-front.ensures.ok in
    subst (λ caller. HasRoomFor c.loop-front.counts caller) (sym (c.calling.ensures ∙ taken_calling left now front taken))
    (has_room c.args.trail.now.entries left now taken.0 (length c.args.counts.now) c.loop-front.counts c.entries-entries.ensures.small
    taken.1 c.loop-front.invariant)

pub loop-front-preserved : goal.loop-front-preserved
loop-front-preserved c =
    let left = c.loop-front.entries in
    let now = c.next_front.new.self in
    let front = c.in-Some.front in
    let taken = rw c.in-Some.is at c.in_ok-front.ensures.ok in
    let counts = c.loop-front.counts in
    let raised = c.raise.new.counts in
    counts_one c.args.trail.now.entries left now taken.0 (length c.args.counts.now) counts raised taken.1 c.loop-front.invariant
    (subst (λ caller. Raises counts caller raised) (c.calling.ensures ∙ taken_calling left now front taken) c.raise.ensures)
