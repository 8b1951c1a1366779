use Rattle.std.proofs.Common.{refl, sym}
use Rattle.trail_audit.specs.declared.head.Stage.TheVariants as stages
use Rattle.trail_audit.specs.declared.head.Start.{Start}
use Rattle.trail_audit.proofs.Opened.{moment_taken}
use Rattle.trail_audit.proofs.head.take_moment.Goals as goal

pub returns-in-Some-clause-ok : goal.returns-in-Some-clause-ok
returns-in-Some-clause-ok c =
    let start : Start = record { limits = c.args.limits; moment = c.in-Some.moment } in
    moment_taken c.args.line.now start c.args.head.now (record { stage = stages.InGroups start; lists = c.args.head.now.lists })
    c.requires.small c.requires.unlisted (let a = c.in_ok-moment.ensures in let b = c.in-Some.is in cc) refl refl
