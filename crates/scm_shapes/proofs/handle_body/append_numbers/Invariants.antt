use Rattle.std.proofs.Common.{◌≡◌, ◌+◌, ◌*◌, ◌++◌, take}
use Rattle.std.specs.List.{flat_map}
use Rattle.ndr_body.specs.Writing.{number_bytes}
use Rattle.scm_shapes.proofs.handle_body.append_numbers.Given as goal

abbrev pub invariant-loop-number : goal.invariant-loop-number
invariant-loop-number l = record {
  items : l.out.items ≡ l.fn.out.items
      ++ flat_map number_bytes (take l.number-index l.numbers);
  room : l.out.room + 4 * l.number-index ≡ l.fn.out.room;
}
