use Rattle.scmd_top.specs.Sides.{side}
use Rattle.scmd_top.proofs.Audits.{found_where}
use Rattle.scmd_top.proofs.auditing.audit_main.Goals as goal

pub returns-clause-run : goal.returns-clause-run
returns-clause-run g c = record {
  how = c.audit-how.result;
  judged = c.audit-how.ensures.audited;
  cause = c.audit-how.ensures.cause;
  verdict = c.print_verdict-status.ensures.verdict;
}

pub returns-clause-complete : goal.returns-clause-complete
returns-clause-complete g c =
    let how = c.audit-how in
    found_where how.result (g.I.Source.left c.args.world.input) (g.I.Source.left how.new.source)
    (g.I.Source.faults c.args.world.input) (g.I.Source.faults how.new.source)
    (side g.O.Sink.held g.O.Sink.faults c.args.world.output c.print_verdict-status.new.output) _
    how.ensures.audited how.ensures.cause c.print_verdict-status.ensures.verdict
