use Rattle.std.proofs.Common.{◌≡◌, take}
use Rattle.scm_rules.specs.QueryConfig.{shown_needs}
use Rattle.scm_arms_service.proofs.showing.shown_needs.Given as goal

-- the needs so far are shown
abbrev pub invariant-loop-need : goal.invariant-loop-need
invariant-loop-need l = l.text ≡ shown_needs (take l.need-index l.needs)
