use Rattle.std.proofs.Common.{◌≡◌, drop}
use Rattle.std.specs.Prelude.{find}
use Rattle.sddl.specs.Tables.{has_letters}
use Rattle.sddl.proofs.sids.find_letters.Given as goal

-- what is found is among those that are left
abbrev pub invariant-loop-known : goal.invariant-loop-known
invariant-loop-known l = find (has_letters l.letters) (drop l.known-index l.table) ≡ find (has_letters l.letters) l.table
