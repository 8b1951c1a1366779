use Rattle.std.proofs.Common.{◌≡◌, ◌∙◌, sym, ap, arith, refl, Some, None, is_some, List, ℕ}
use Rattle.number_lists.specs.Rising.{without_number}
use Rattle.number_lists.specs.UnderName.{Changes, room_in}
use Rattle.number_lists.proofs.Writes.{wrote, unchanged, kept_room}
use Rattle.number_lists.proofs.under.NameIndex.remove.Goals as goal
use Rattle.number_lists.proofs.under.NameIndex.remove.Goals.{in-Some, in_default}

pub returns-clause-changes : goal.returns-clause-changes
returns-clause-changes c =
    elim c.match-get_mut.branch [
      | in-Some w ↦
          let there = sym w.in-Some.ensures.value in
          rw (w.self-inside-is, ← c.self.view_is)
          (wrote c.self.inside.map (c.get_mut.follows.lender w.remove.new.self) c.args.text.now w.in-Some.list.now w.remove.new.self
          (λ (numbers : List ℕ). without_number numbers c.args.number) there
          ((c.get_mut.follows.holds w.remove.new.self).3 (ap is_some there)) w.remove.ensures.items)
      | in_default w ↦
          let gone = sym w.in_default.ensures.value in
          rw (w.self-inside-is, c.get_mut.follows.holds-at-none, ← c.self.view_is)
          (unchanged c.self.inside.map c.args.text.now (λ (numbers : List ℕ). without_number numbers c.args.number) gone refl)
    ]

pub returns-clause-room : goal.returns-clause-room
returns-clause-room c =
    elim c.match-get_mut.branch [
      | in-Some w ↦
          let there = sym w.in-Some.ensures.value in
          rw (w.self-inside-is, ← c.self.view_is)
          (kept_room c.self.inside.map (c.get_mut.follows.lender w.remove.new.self) c.args.text.now w.remove.new.self
          ((c.get_mut.follows.holds w.remove.new.self).3 (ap is_some there)) (rw there w.remove.ensures.room))
      | in_default w ↦ rw (w.self-inside-is, c.get_mut.follows.holds-at-none, ← c.self.view_is) (λ other. omega arith)
    ]
