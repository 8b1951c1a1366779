use Rattle.std.proofs.Common.{◌≡◌, ◌∙◌, ◌==◌, sym, ap, arith, refl, Some, None, is_some, List, [], length, true, ℕ}
use Rattle.number_lists.specs.UnderName.{at, Changes}
use Rattle.number_lists.proofs.Writes.{unwrote, empty_is, under}
use Rattle.number_lists.proofs.under.NameIndex.tidy.Goals as goal
use Rattle.number_lists.proofs.under.NameIndex.tidy.Goals.{in-Some-1, in-None-1}

-- the map is that after the text was taken out
taken : (c : goal.Joined-list) → Changes c.args.self.now (under c.swap_remove-list.new.self) c.args.text.now (λ numbers. numbers)
taken c =
    let empty = sym c.at.ensures.items ∙ empty_is c.at.result.now c.if-is_empty.ensures in
    rw (← c.self.view_is) (unwrote c.self.inside.map c.swap_remove-list.new.self c.args.text.now
    (rw (← c.self.view_is) at empty) c.swap_remove-list.ensures.updates)

pub returns-then-is_empty : goal.returns-then-is_empty
returns-then-is_empty c =
    elim c.match-list.branch [
      | in-Some-1 w ↦ rw w.self-is (taken c)
      | in-None-1 w ↦ rw w.self-is (taken c)
    ]
