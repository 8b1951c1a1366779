use Rattle.std.proofs.Common.{subst, sym}
use Rattle.trail_audit.specs.declared.head.Lists.{Lists}
use Rattle.trail_audit.specs.Heads.{CanStart}
use Rattle.trail_text.proofs.Leading.{manageable}
use Rattle.trail_audit.proofs.Opened.{starts_empty}
use Rattle.trail_audit.proofs.head.begin.Goals as goal

pub returns-in-Ok-clause-can : goal.returns-in-Ok-clause-can
returns-in-Ok-clause-can c =
    subst (λ (lists : Lists). CanStart c.args.start.limits lists) (sym c.replace-groups.ensures.after)
    (starts_empty c.args.start.limits c.in_ok-empty.empty c.requires.small c.in_ok-empty.ensures)

pub returns-in-Err-clause-can : goal.returns-in-Err-clause-can
returns-in-Err-clause-can c =
    subst (λ (lists : Lists). CanStart c.args.start.limits lists) (sym c.replace-groups.ensures.after)
    (starts_empty c.args.start.limits c.in_ok-empty.empty c.requires.small c.in_ok-empty.ensures)

pub new-requires-in-Ok-clause-limits : goal.new-requires-in-Ok-clause-limits
new-requires-in-Ok-clause-limits c = manageable c.args.start.limits c.requires.small
