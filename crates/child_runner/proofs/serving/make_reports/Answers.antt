use Rattle.std.proofs.Common.{ap, subst}
use Rattle.scm_model.specs.declared.flat.Phase.TheVariants as phases
use Rattle.scm_book.specs.Passes.{HoldsProcess, IsOf}
use Rattle.child_runner.specs.Reports.{child_parts}
use Rattle.child_runner.proofs.Fed.{makes_fed, read_for, stay_fed}
use Rattle.child_runner.proofs.serving.make_reports.Goals as goal

pub returns-clause-makes : goal.returns-clause-makes
returns-clause-makes g c =
    rw c.served_as.ensures
    (makes_fed (λ a. child_parts a.eater.book.now a.eater.clock.now a.eater.process) (λ a. a.eater.line) (λ a. a.place)
    (λ x. g.C.Clock.tells x.clock) (λ x. x.book.opening) (λ x. x.process) _ _
    (g.L.Source.left c.args.link.now) (g.L.Source.left c.feed_all.new.input) c.args.count.now c.feed_all.new.count c.requires.count
    c.requires.line c.feed_all.ensures.most c.feed_all.result c.feed_all.ensures.feeds)

pub returns-clause-book : goal.returns-clause-book
returns-clause-book g c =
    subst (λ b. IsOf b c.feed_all.new.place)
    (ap (λ x. x.book)
    (stay_fed (λ a. child_parts a.eater.book.now a.eater.clock.now a.eater.process) (λ a. a.eater.line) (λ a. a.place)
    (λ x. g.C.Clock.tells x.clock) (λ x. x.book.opening) (λ x. x.process) _ _
    (g.L.Source.left c.args.link.now) (g.L.Source.left c.feed_all.new.input) c.args.count.now c.feed_all.new.count c.feed_all.result
    c.feed_all.ensures.feeds))
    c.feed_all.ensures.ready.0

pub returns-clause-process : goal.returns-clause-process
returns-clause-process g c =
    subst (λ x. HoldsProcess x.book.opening c.feed_all.new.place x.process phases.Launched)
    (stay_fed (λ a. child_parts a.eater.book.now a.eater.clock.now a.eater.process) (λ a. a.eater.line) (λ a. a.place)
    (λ x. g.C.Clock.tells x.clock) (λ x. x.book.opening) (λ x. x.process) _ _
    (g.L.Source.left c.args.link.now) (g.L.Source.left c.feed_all.new.input) c.args.count.now c.feed_all.new.count c.feed_all.result
    c.feed_all.ensures.feeds)
    c.feed_all.ensures.ready.1

pub returns-clause-cause : goal.returns-clause-cause
returns-clause-cause g c = rw c.served_as.ensures (read_for c.feed_all.result (g.L.Source.faults c.args.link.now)
    (g.L.Source.faults c.feed_all.new.input) c.feed_all.ensures.cause)
