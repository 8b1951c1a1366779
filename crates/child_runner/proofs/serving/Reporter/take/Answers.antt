use Rattle.std.proofs.Common.{◌∙◌, ap, refl, sym}
use Rattle.child_link.specs.Lines.{stated}
use Rattle.child_runner.proofs.Reading.{goes_short}
use Rattle.child_runner.proofs.Stretches.{byte_on, no_report, report_fed}
use Rattle.child_runner.proofs.serving.Reporter.take.Goals as goal

pub returns-then-not-take-clause-line : goal.returns-then-not-take-clause-line
returns-then-not-take-clause-line g c =
    goes_short c.args.self.now.line c.take.new.self c.args.byte (sym c.take.ensures.ends ∙ c.if-not-take.true) c.take.ensures.kept

pub returns-then-not-take-clause-fed : goal.returns-then-not-take-clause-fed
returns-then-not-take-clause-fed g c =
    byte_on (g.C.Clock.tells c.args.self.now.clock.now) c.args.self.now.book.now.opening c.args.self.now.process
    c.args.self.now.line c.take.new.self c.args.byte
    c.args.pass.now
    (sym c.take.ensures.ends ∙ c.if-not-take.true) c.take.ensures.kept

pub returns-in-Some-clause-fed : goal.returns-in-Some-clause-fed
returns-in-Some-clause-fed g c =
    report_fed (g.C.Clock.tells c.args.self.now.clock.now) c.args.self.now.book.now.opening c.args.self.now.process
    c.args.self.now.line c.clear.new.self c.args.byte
    c.args.pass.now c.report.new.pass
    (sym c.take.ensures.ends ∙ c.if-not-take.false) c.clear.ensures c.read_report-found.result c.in-Some.found c.report.result c.in-Some.is
    (c.read_report-found.ensures ∙ ap stated (c.line.ensures ∙ c.take.ensures.kept)) c.report.ensures.reports

pub returns-in-None-clause-fed : goal.returns-in-None-clause-fed
returns-in-None-clause-fed g c =
    no_report (g.C.Clock.tells c.args.self.now.clock.now) c.args.self.now.book.now.opening c.args.self.now.process
    c.args.self.now.line c.clear.new.self c.args.byte
    c.args.pass.now c.args.pass.now
    (sym c.take.ensures.ends ∙ c.if-not-take.false) c.clear.ensures c.read_report-found.result c.in-None.is
    (c.read_report-found.ensures ∙ ap stated (c.line.ensures ∙ c.take.ensures.kept)) refl
