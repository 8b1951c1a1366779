use Rattle.std.proofs.Common.{◌≡◌, ◌++◌, drop, map}
use Rattle.std.specs.List.{flat_map}
use Rattle.sc_lines.specs.Triggers.{trigger_lines}
use Rattle.sc_lines.proofs.triggers.add_rows.Given as goal

-- the text so far and the rows that are left
abbrev pub invariant-loop-row : goal.invariant-loop-row
invariant-loop-row l =
    l.text ++ flat_map trigger_lines (map (λ row. row.now) (drop l.row-index l.list)) ≡ l.fn.text
    ++ flat_map trigger_lines (map (λ row. row.now) l.list)
