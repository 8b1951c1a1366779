use Rattle.std.proofs.Common.{◌≡◌, ◌∙◌, sym, ap, arith, refl, Some, None, is_some, List, ℕ}
use Rattle.scm_text.specs.Roomed.{Roomed}
use Rattle.number_lists.specs.UnderName.{at, room, items_in, room_in}
use Rattle.number_lists.proofs.Writes.{kept_at, kept_room}
use Rattle.number_lists.proofs.under.NameIndex.reserve.Goals as goal

pub returns-in-Some-clause-at : goal.returns-in-Some-clause-at
returns-in-Some-clause-at c =
    let there = sym c.in-Some.ensures.value in
    rw (← c.self.view_is)
    (kept_at c.self.inside.map (c.get_mut.follows.lender c.reserve.new.self) c.args.text.now c.reserve.new.self
    ((c.get_mut.follows.holds c.reserve.new.self).3 (ap is_some there)) (c.reserve.ensures.items ∙ ap items_in (sym there)))

pub returns-in-Some-clause-room : goal.returns-in-Some-clause-room
returns-in-Some-clause-room c =
    let there = sym c.in-Some.ensures.value in
    rw (← c.self.view_is)
    (kept_room c.self.inside.map (c.get_mut.follows.lender c.reserve.new.self) c.args.text.now c.reserve.new.self
    ((c.get_mut.follows.holds c.reserve.new.self).3 (ap is_some there)) (rw there c.reserve.ensures.room))

pub returns-in-Ok-clause-at : goal.returns-in-Ok-clause-at
returns-in-Ok-clause-at c =
    let gone = sym c.in_default.ensures.value in
    let updates = rw (c.get_mut.follows.holds-at-none, c.in_ok-key.ensures) at c.in-Ok.ensures.updates in
    rw (← c.self.view_is) (kept_at c.self.inside.map c.insert.new.self c.args.text.now c.reserve-2.new.self updates
    (c.in_ok-reserve.ensures.items ∙ ap (λ (list : Roomed ℕ). list.items) c.new-list.ensures ∙ sym (ap items_in gone)))

pub returns-in-Ok-clause-room : goal.returns-in-Ok-clause-room
returns-in-Ok-clause-room c =
    let gone = sym c.in_default.ensures.value in
    let updates = rw (c.get_mut.follows.holds-at-none, c.in_ok-key.ensures) at c.in-Ok.ensures.updates in
    rw (← c.self.view_is) (kept_room c.self.inside.map c.insert.new.self c.args.text.now c.reserve-2.new.self updates
    (rw gone (omega arith)))
