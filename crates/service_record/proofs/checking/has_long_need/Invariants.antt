use Rattle.std.proofs.Common.{◌≡◌, drop}
use Rattle.std.specs.List.{list_any}
use Rattle.service_record.specs.Checks.{is_longer, name_of_need}
use Rattle.service_record.proofs.checking.has_long_need.Given as goal

-- the needs that are left decide
abbrev pub invariant-loop-need : goal.invariant-loop-need
invariant-loop-need l =
    list_any (λ need. is_longer 256 (name_of_need need)) l.needs
    ≡ list_any (λ need. is_longer 256 (name_of_need need)) (drop l.need-index l.needs)
