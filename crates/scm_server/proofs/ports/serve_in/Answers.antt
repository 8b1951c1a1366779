use Rattle.std.proofs.Common.{refl, subst, sym}
use Rattle.scm_server.specs.Ports.{ServesPort}
use Rattle.scm_server.specs.Workers.{AreOf, out_at}
use Rattle.scm_server.proofs.Serving.{serves_all}
use Rattle.scm_server.proofs.Workers.{port_served, short_end}
use Rattle.scm_server.proofs.ports.serve_in.Goals as goal

pub returns-clause-book : goal.returns-clause-book
returns-clause-book g c = c.join_all.ensures.takes.at.by

pub returns-clause-goes : goal.returns-clause-goes
returns-clause-goes g c =
    (port_served (g.C.Clock.tells c.args.clock.now) c.args.book.now.opening c.opens.ensures.begins c.args.principal
    (out_at g.I.Source.left g.O.Sink.held g.I.Source.faults g.O.Sink.faults) c.args.pass _ _ _ _ _ _ _ _ _ _ c.new.ensures.items
    c.join_all.ensures.none c.accept_all-is_failed.ensures.goes (c.join_all.ensures.takes.goes c.args.principal)).goes

pub returns-clause-serves : goal.returns-clause-serves
returns-clause-serves g c =
    let tells = g.C.Clock.tells c.args.clock.now in
    let o = c.args.book.now.opening in
    let serves = port_served tells o c.opens.ensures.begins c.args.principal
    (out_at g.I.Source.left g.O.Sink.held g.I.Source.faults g.O.Sink.faults) c.args.pass _ _ _ _ _ _ _ _ _ _ c.new.ensures.items
    c.join_all.ensures.none c.accept_all-is_failed.ensures.goes (c.join_all.ensures.takes.goes c.args.principal) in
    subst (ServesPort tells o c.args.principal _ _ _) (short_end _ _ _ c.end_of.ensures)
    (serves_all tells o c.args.principal _ _ _ refl serves)
