use Rattle.trail_audit.proofs.Entered.{found_as, found_none, found_some, not_entered, not_read}
use Rattle.trail_audit.proofs.entering.read_entry.Goals as goal

pub returns-then-not-branch-clause-found : goal.returns-then-not-branch-clause-found
returns-then-not-branch-clause-found c =
    not_read c.args.manager.now.limits c.args.manager.now.flat c.args.text.now
    (found_none _ _ _ c.in_ok-read_line.ensures c.if-not-branch.true)

pub returns-then-not-branch-2-clause-found : goal.returns-then-not-branch-2-clause-found
returns-then-not-branch-2-clause-found c =
    not_entered c.args.manager.now.limits c.args.manager.now.flat c.args.text.now c.read_line.new.line
    (found_some _ _ _ c.in_ok-read_line.ensures c.if-not-branch.false)
    (found_none _ _ _ c.in_ok-admit.ensures.fit c.if-not-branch-2.true)

pub returns-clause-found : goal.returns-clause-found
returns-clause-found c =
    found_as c.args.manager.now.limits c.args.manager.now.flat c.args.text.now c.read_line.new.line
    (c.admit.new.line.moment, c.admit.new.line.step) c.is_written.result
    (found_some _ _ _ c.in_ok-read_line.ensures c.if-not-branch.false)
    (found_some _ _ _ c.in_ok-admit.ensures.fit c.if-not-branch-2.false) c.is_written.ensures
