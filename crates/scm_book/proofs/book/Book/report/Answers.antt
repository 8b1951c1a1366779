use Rattle.std.proofs.Common.{subst}
use Rattle.scm_model.specs.declared.flat.Phase.TheVariants as phases
use Rattle.scm_model.specs.declared.steps.Answer.{Answer}
use Rattle.scm_model.specs.declared.steps.Step.TheVariants.{Report}
use Rattle.std.specs.Prelude.{Result}
use Rattle.scm_book.specs.declared.fault.StepFault.{StepFault}
use Rattle.book_rule.specs.Seats.{Identity}
use Rattle.scm_book.specs.Holds.{Opens}
use Rattle.scm_book.specs.Turns.{StepEnds, of_badge}
use Rattle.scm_book.proofs.InHand.{held_inside}
use Rattle.scm_book.proofs.ReportsMade.{own_report, reports_keep, reports_so, step_outside, told_reported}
use Rattle.scm_book.proofs.book.Book.report.Goals as goal

pub make_by-ended-requires-clause-own : goal.make_by-ended-requires-clause-own
make_by-ended-requires-clause-own g c =
    own_report c.self.inside.shared.turn.opening (of_badge c.pass.inside.badge) c.args.process c.args.service c.args.status.now
    c.new-step.result.step
    (held_inside c.self.inside.shared.turn c.args.self.now (of_badge c.pass.inside.badge) c.args.pass.now c.args.process phases.Launched
    c.self.view_is c.pass.view_is c.requires.process) c.new-step.ensures

pub report_of-requires : goal.report_of-requires
report_of-requires g c =
    let opens = subst (λ (b : Identity). Opens b.opening) c.self.view_is c.self.invariant in
    told_reported c.args.self.now.opening opens c.args.pass.now (of_badge c.make_by-ended.new.badge) c.args.moment c.args.process
    c.args.service c.args.status.now c.requires.process c.make_by-ended.result
    (step_outside c.self.inside.shared.turn c.args.self.now (of_badge c.pass.inside.badge) c.args.pass.now
    (of_badge c.make_by-ended.new.badge) c.self.view_is c.pass.view_is c.args.moment
    (Report c.args.process c.args.service c.args.status.now)
    c.new-step.result.step c.new-step.ensures c.make_by-ended.result c.make_by-ended.ensures.ends)

pub returns-clause-ends : goal.returns-clause-ends
returns-clause-ends g c =
    let opens = subst (λ (b : Identity). Opens b.opening) c.self.view_is c.self.invariant in
    reports_so c.args.self.now.opening opens c.args.pass.now (of_badge c.make_by-ended.new.badge) c.args.moment c.args.process
    c.args.service c.args.status.now c.report_of.result
    (subst (λ (r : Result Answer StepFault). StepEnds c.args.self.now.opening c.args.pass.now c.args.moment
    (Report c.args.process c.args.service c.args.status.now) r (of_badge c.make_by-ended.new.badge)) c.report_of.ensures
    (step_outside c.self.inside.shared.turn c.args.self.now (of_badge c.pass.inside.badge) c.args.pass.now
    (of_badge c.make_by-ended.new.badge) c.self.view_is c.pass.view_is c.args.moment
    (Report c.args.process c.args.service c.args.status.now)
    c.new-step.result.step c.new-step.ensures c.make_by-ended.result c.make_by-ended.ensures.ends))

pub returns-clause-keeps : goal.returns-clause-keeps
returns-clause-keeps g c =
    let opens = subst (λ (b : Identity). Opens b.opening) c.self.view_is c.self.invariant in
    reports_keep c.args.self.now.opening opens c.args.pass.now (of_badge c.make_by-ended.new.badge) c.args.moment c.args.process
    c.args.service c.args.status.now c.requires.process c.report_of.result
    (returns-clause-ends g c)
