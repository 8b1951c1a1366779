use Rattle.std.proofs.Common.{◌≡◌, ◌++◌, filter, map}
use Rattle.scm_rules.specs.EnumServices.{is_asked}
use Rattle.scm_arms_enum.proofs.services.services_after.Given as goal

-- with those that are left they are all that are asked for
abbrev pub invariant-loop-row : goal.invariant-loop-row
invariant-loop-row l =
    map (λ s. s.now) l.rows.items ++ filter (is_asked l.kinds l.states l.after) l.row-iterator ≡ filter
    (is_asked l.kinds l.states l.after) l.fn.services
