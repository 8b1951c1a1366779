use Rattle.std.proofs.Common.{◌≡◌, drop}
use Rattle.std.specs.List.{list_any}
use Rattle.dependency_index.specs.Naming.{is_for}
use Rattle.dependency_index.proofs.naming.name_it.Given as goal

-- the needs that are left decide
abbrev pub invariant-loop-need : goal.invariant-loop-need
invariant-loop-need l = list_any (is_for l.name) l.needs ≡ list_any (is_for l.name) (drop l.need-index l.needs)
