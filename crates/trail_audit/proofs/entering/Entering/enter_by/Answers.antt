use Rattle.std.proofs.Common.{None, Some, cond}
use Rattle.trail_text.specs.Audits.{BeforeAnswer}
use Rattle.trail_audit.proofs.Entered.{found_none, found_some, leads_as, leads_nowhere}
use Rattle.trail_audit.proofs.entering.Entering.enter_by.Goals as goal

pub returns-then-found-clause-leads : goal.returns-then-found-clause-leads
returns-then-found-clause-leads c =
    leads_as c.self.inside.manager c.read_entry.new.manager c.args.self.now c.args.text.now
    (c.read_entry.new.line.moment, c.read_entry.new.line.step) c.make.result
    (λ right. cond right
    (Some (BeforeAnswer c.make.new.due.items c.make.new.self.limits c.make.new.self.steps c.make.new.self.flat)) None)
    c.self.view_is c.read_entry.ensures.limits c.read_entry.ensures.steps c.read_entry.ensures.flat
    (found_some _ _ _ c.in_ok-found.ensures.found c.if-found.true) c.make.ensures.leads

pub returns-else-found-clause-leads : goal.returns-else-found-clause-leads
returns-else-found-clause-leads c =
    leads_nowhere c.self.inside.manager c.args.self.now c.args.text.now c.self.view_is
    (found_none _ _ _ c.in_ok-found.ensures.found c.if-found.false)
