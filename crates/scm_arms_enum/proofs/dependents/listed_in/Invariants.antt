use Rattle.std.proofs.Common.{◌≡◌, ◌++◌, drop, filter, map}
use Rattle.scm_rules.specs.EnumDependents.{is_in_states, services_of}
use Rattle.scm_arms_enum.proofs.dependents.listed_in.Given as goal

-- with those of the numbers that are left they are those of all
abbrev pub invariant-loop-number : goal.invariant-loop-number
invariant-loop-number l =
    map (λ s. s.now) l.rows.items ++ filter (is_in_states l.states) (services_of l.tables.flat (drop l.number-index l.numbers)) ≡ filter
    (is_in_states l.states) (services_of l.tables.flat l.numbers)
