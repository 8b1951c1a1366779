use Rattle.std.proofs.Common.{arith}
use Rattle.dependency_index.specs.Needs.{new_need_row}
use Rattle.dependency_index.proofs.Closing.{closes, put_listed}
use Rattle.dependency_index.proofs.Puts.{size_put}
use Rattle.dependency_index.proofs.Rooms.{room_at_start}
use Rattle.dependency_index.proofs.order.closes_cycle.Goals as goal

pub visit-requires-clause-listed : goal.visit-requires-clause-listed
visit-requires-clause-listed g c = rw c.with-graph.ensures (put_listed (g.R.NeedRows.rows c.args.rows.now) (new_need_row c.args.new))

pub visit-requires-clause-room : goal.visit-requires-clause-room
visit-requires-clause-room g c =
    let rows = g.R.NeedRows.rows c.args.rows.now in
    rw c.with-graph.ensures (room_at_start _ c.args.room.now c.requires.empty
    (omega (arith, size_put rows (new_need_row c.args.new), c.requires.room)))

pub returns : goal.returns
returns g c =
    closes (g.R.NeedRows.rows c.args.rows.now) (new_need_row c.args.new) c.visit.result c.visit.new.done.items c.requires.acyclic
    (rw (c.size.ensures, c.with-graph.ensures, c.requires.empty) at c.visit.ensures.order)
