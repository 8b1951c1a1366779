use Rattle.std.proofs.Common.{◌≡◌, ◌++◌, take}
use Rattle.std.specs.List.{flat_map}
use Rattle.sddl.specs.Writing.{hex_byte}
use Rattle.sddl.proofs.sids.put_hex_bytes.Given as goal

-- the bytes so far were appended
abbrev pub invariant-loop-byte : goal.invariant-loop-byte
invariant-loop-byte l = l.out ≡ l.fn.out ++ flat_map hex_byte (take l.byte-index l.bytes)
