use Rattle.std.proofs.Common.{◌≡◌, ◌++◌, map, take, drop, vec_capacity, vec_len}
use Rattle.scm_model.specs.Notices.{notified}
use Rattle.notify_queue.proofs.rows.note_in.Given as goal

-- the rows so far are told, and the others as they were
abbrev pub invariant-loop-at : goal.invariant-loop-at
invariant-loop-at l = record {
  rows : l.rows.items ≡ map (notified (record { service = l.service; bit = l.bit; status = l.status; name = l.name }))
      (take l.at l.initial.rows.items) ++ drop l.at l.initial.rows.items;
  len : vec_len l.rows ≡ vec_len l.initial.rows;
  capacity : vec_capacity l.rows ≡ vec_capacity l.initial.rows;
}
