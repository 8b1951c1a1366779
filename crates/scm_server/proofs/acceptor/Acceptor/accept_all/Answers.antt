use Rattle.std.proofs.Common.{refl, ◌∙◌}
use Rattle.scm_server.proofs.Serving.{ends_kept, goes_same, goes_trans}
use Rattle.scm_server.proofs.acceptor.Acceptor.accept_all.Goals as goal

pub loop-init : goal.loop-init
loop-init g c = record {
  at = c.requires;
  goes = goes_same (g.C.Clock.tells c.args.host.now.clock.now) c.args.host.now.book.now.opening c.args.host.now.principal _;
  faults = refl;
}

pub returns-in-Over-clause-goes : goal.returns-in-Over-clause-goes
returns-in-Over-clause-goes g c =
    goes_trans (g.C.Clock.tells c.args.host.now.clock.now) c.args.host.now.book.now.opening c.args.host.now.principal _ _ _
    c.loop.invariant.goes c.in-Over.ensures.next.0

pub returns-in-Over-clause-ends : goal.returns-in-Over-clause-ends
returns-in-Over-clause-ends g c = ends_kept c.in-Over.is_failed _ _ _ c.loop.invariant.faults c.in-Over.ensures.next.1

pub loop-preserved : goal.loop-preserved
loop-preserved g c = record {
  at = c.serve_next.ensures.at;
  goes = goes_trans (g.C.Clock.tells c.args.host.now.clock.now) c.args.host.now.book.now.opening c.args.host.now.principal _ _ _
      c.loop.invariant.goes c.in-Came.ensures.next.0;
  faults = c.in-Came.ensures.next.1 ∙ c.loop.invariant.faults;
}
