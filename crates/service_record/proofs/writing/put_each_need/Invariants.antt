use Rattle.std.proofs.Common.{◌≡◌, ◌++◌, All, take}
use Rattle.std.specs.List.{flat_map}
use Rattle.service_record.specs.Spelling.{need_bytes, IsNeed}
use Rattle.service_record.proofs.writing.put_each_need.Given as goal

-- the needs so far were appended
abbrev pub invariant-loop-value : goal.invariant-loop-value
invariant-loop-value l = record {
  bytes : l.out ≡ l.fn.out ++ flat_map need_bytes (take l.value-index l.needs);
  fit : All IsNeed (take l.value-index l.needs);
}
