use Rattle.std.proofs.Common.{◌≤◌, arith, ap, sym, subst, ◌∙◌, List, length, take}
use Rattle.std.proofs.lemmas.List.{length-take-le}
use Rattle.journal_disk.specs.Calls.{history}
use Rattle.journal_disk.specs.Past.{remains}
use Rattle.journal_disk.specs.Tears.{image_of, past_at}
use Rattle.journal_disk.specs.declared.calls.TakenCall.{TakenCall}
use Rattle.journal_disk.proofs.Tearing.{at_moment, image_left, past_length}
use Rattle.journal_disk.proofs.memory.MemoryDisk.offer.Goals as goal

pub slice_bounds-replay-end : goal.slice_bounds-replay-end
slice_bounds-replay-end c =
    let within = rw (← c.self.view_is) at c.requires in
    let le : c.args.moment ≤ length c.deref.result.now =
    rw c.deref.ensures.value (omega (arith, within, past_length c.self.inside.calls.items)) in
    sym (length-take-le c.args.moment c.deref.result.now le)

pub returns-in-Ok-clause-chosen : goal.returns-in-Ok-clause-chosen
returns-in-Ok-clause-chosen c =
    let calls = c.self.inside.calls.items in
    let within = rw (← c.self.view_is) at c.requires in
    let le : c.args.moment ≤ length calls = omega (arith, within, past_length calls) in
    rw (← c.self.view_is)
    (c.in-Ok.ensures.image ∙ ap (λ (l : List TakenCall). image_of c.args.tears.now c.self.inside.first (history (take c.args.moment l)))
    c.deref.ensures.value
    ∙ ap (image_of c.args.tears.now c.self.inside.first) (sym (at_moment calls c.args.moment le)))

pub returns-in-Ok-clause-left : goal.returns-in-Ok-clause-left
returns-in-Ok-clause-left c =
    subst (remains c.args.self.now.first (past_at c.args.moment c.args.self.now.past)) (sym (returns-in-Ok-clause-chosen c))
    (image_left c.args.tears.now c.args.self.now.first (past_at c.args.moment c.args.self.now.past))
