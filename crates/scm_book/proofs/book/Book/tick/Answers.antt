use Rattle.std.proofs.Common.{subst}
use Rattle.std.specs.Prelude.{Result}
use Rattle.scm_model.specs.declared.steps.Answer.{Answer}
use Rattle.scm_model.specs.declared.steps.Step.TheVariants.{Tick}
use Rattle.scm_book.specs.declared.fault.StepFault.{StepFault}
use Rattle.book_rule.specs.Seats.{Identity}
use Rattle.scm_book.specs.Holds.{Opens}
use Rattle.scm_book.specs.Turns.{StepEnds, of_badge}
use Rattle.scm_book.proofs.ReportsMade.{own_tick, step_outside, ticks_keep, ticks_so, told_tick}
use Rattle.scm_book.proofs.book.Book.tick.Goals as goal

pub make_by-ended-requires-clause-own : goal.make_by-ended-requires-clause-own
make_by-ended-requires-clause-own g c = own_tick (of_badge c.pass.inside.badge) c.new-step.result.step c.new-step.ensures

pub tick_of-requires : goal.tick_of-requires
tick_of-requires g c =
    let opens = subst (λ (b : Identity). Opens b.opening) c.self.view_is c.self.invariant in
    told_tick c.args.self.now.opening opens c.args.pass.now (of_badge c.make_by-ended.new.badge) c.args.moment c.make_by-ended.result
    (step_outside c.self.inside.shared.turn c.args.self.now (of_badge c.pass.inside.badge) c.args.pass.now
    (of_badge c.make_by-ended.new.badge) c.self.view_is c.pass.view_is c.args.moment Tick c.new-step.result.step c.new-step.ensures
    c.make_by-ended.result c.make_by-ended.ensures.ends)

pub returns-clause-ends : goal.returns-clause-ends
returns-clause-ends g c =
    let opens = subst (λ (b : Identity). Opens b.opening) c.self.view_is c.self.invariant in
    ticks_so c.args.self.now.opening opens c.args.pass.now (of_badge c.make_by-ended.new.badge) c.args.moment c.tick_of.result
    (subst (λ (r : Result Answer StepFault). StepEnds c.args.self.now.opening c.args.pass.now c.args.moment Tick r
    (of_badge c.make_by-ended.new.badge)) c.tick_of.ensures
    (step_outside c.self.inside.shared.turn c.args.self.now (of_badge c.pass.inside.badge) c.args.pass.now
    (of_badge c.make_by-ended.new.badge) c.self.view_is c.pass.view_is c.args.moment Tick c.new-step.result.step c.new-step.ensures
    c.make_by-ended.result c.make_by-ended.ensures.ends))

pub returns-clause-keeps : goal.returns-clause-keeps
returns-clause-keeps g c =
    let opens = subst (λ (b : Identity). Opens b.opening) c.self.view_is c.self.invariant in
    ticks_keep c.args.self.now.opening opens c.args.pass.now (of_badge c.make_by-ended.new.badge) c.args.moment c.tick_of.result
    (returns-clause-ends g c)
