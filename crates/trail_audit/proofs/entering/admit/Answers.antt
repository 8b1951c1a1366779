use Rattle.std.proofs.Common.{ap, sym, ◌∙◌}
use Rattle.scm_core.specs.Managed.{Managed}
use Rattle.scm_rules.specs.Steps.{may_come}
use Rattle.trail_audit.proofs.Entered.{may_not, readied}
use Rattle.trail_audit.proofs.entering.admit.Goals as goal

pub returns-then-not-may-clause-fit : goal.returns-then-not-may-clause-fit
returns-then-not-may-clause-fit c =
    may_not c.args.manager.now.limits c.args.manager.now.flat c.args.line.now (sym c.may.ensures ∙ c.if-not-may.true)

pub returns-clause-ready : goal.returns-clause-ready
returns-clause-ready c =
    let line = c.args.line.now in
    let ready = c.in_ok-reserve_for.ensures.ok in
    let comes = ap (λ (m : Managed). may_come m.limits m.flat line.moment line.step) ready ∙ sym c.may.ensures ∙ c.if-not-may.false in
    λ fit. readied c.reserve_for.new.self line c.makes_change-changes.result c.kept_as.result c.keep_as.new.step
    (ap (λ (m : Managed). m.room) ready) comes c.makes_change-changes.ensures c.kept_as.ensures c.keep_as.ensures
    (c.fits.ensures.steps c.if-not-fits.false) (c.fits.ensures.text c.if-not-fits.false)
