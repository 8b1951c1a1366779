use Rattle.std.proofs.Common.{◌≡◌, ◌++◌, drop, map}
use Rattle.std.specs.List.{flat_map}
use Rattle.sc_lines.specs.Levels.{action_line}
use Rattle.sc_lines.proofs.levels.add_actions.Given as goal

-- the text so far and the rows that are left
abbrev pub invariant-loop-row : goal.invariant-loop-row
invariant-loop-row l =
    l.text ++ flat_map action_line (map (λ row. row.now) (drop l.row-index l.list)) ≡ l.fn.text
    ++ flat_map action_line (map (λ row. row.now) l.list)
