use Rattle.std.proofs.Common.{◌≡◌, ◌≤◌, ◌++◌, map, take, drop, length, vec_capacity, vec_len}
use Rattle.scm_model.specs.Notices.{taken_once}
use Rattle.notify_queue.specs.Queued.{notice_of}
use Rattle.notify_queue.proofs.rows.take_in.Given as goal

-- the rows behind those that are left are taken from
abbrev pub invariant-loop-left : goal.invariant-loop-left
invariant-loop-left l = record {
  rows : l.rows.items ≡ take l.left l.fn.rows.items ++ map (taken_once l.number) (drop l.left l.fn.rows.items);
  told : l.told ≡ notice_of l.number (drop l.left l.fn.rows.items);
  within : l.left ≤ length l.fn.rows.items;
  len : vec_len l.rows ≡ vec_len l.fn.rows;
  capacity : vec_capacity l.rows ≡ vec_capacity l.fn.rows;
}

abbrev pub decreases-loop-left : goal.decreases-loop-left
decreases-loop-left l = l.left
