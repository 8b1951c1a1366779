use Rattle.std.proofs.Common.{◌≡◌, drop}
use Rattle.std.specs.Prelude.{find}
use Rattle.sddl.specs.Tables.{is_known}
use Rattle.sddl.proofs.sids.find_sid.Given as goal

-- what is found is among those that are left
abbrev pub invariant-loop-known : goal.invariant-loop-known
invariant-loop-known l = find (is_known l.sid) (drop l.known-index l.table) ≡ find (is_known l.sid) l.table
