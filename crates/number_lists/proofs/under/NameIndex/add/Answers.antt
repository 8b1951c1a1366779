use Rattle.std.proofs.Common.{◌≡◌, ◌∙◌, sym, ap, arith, refl, Some, None, is_some, List, ℕ}
use Rattle.number_lists.specs.Rising.{with_number}
use Rattle.number_lists.specs.UnderName.{Changes, room_in}
use Rattle.number_lists.proofs.Writes.{wrote, no_room}
use Rattle.number_lists.proofs.under.NameIndex.add.Goals as goal
use Rattle.number_lists.proofs.under.NameIndex.add.Goals.{in-Some, in_default}

pub returns : goal.returns
returns c =
    elim c.match-get_mut.branch [
      | in-Some w ↦
          let there = sym w.in-Some.ensures.value in
          rw (w.self-inside-is, ← c.self.view_is)
          (wrote c.self.inside.map (c.get_mut.follows.lender w.add.new.self) c.args.text.now w.in-Some.list.now w.add.new.self
          (λ (numbers : List ℕ). with_number numbers c.args.number) there
          ((c.get_mut.follows.holds w.add.new.self).3 (ap is_some there)) w.add.ensures.items)
      | in_default w ↦
          let gone = sym w.in_default.ensures.value in
          absurd (no_room c.self.inside.map c.args.text.now c.args.number gone (rw (← c.self.view_is) at c.requires))
    ]
