use Rattle.std.proofs.Common.{ap}
use Rattle.scm_server.specs.Ports.{Told, told}
use Rattle.scm_server.proofs.Still.{served_so}
use Rattle.scm_server.proofs.both.serve_both.Goals as goal

pub returns-clause-serves : goal.returns-clause-serves
returns-clause-serves g c =
    let first = c.join-first.result.0 in
    let second = c.join-first.result.1 in
    let tell : g.row.N.Denot → Told = λ n. told (g.N.Listener.left n) (g.N.Listener.accepted n) (g.N.Listener.noted n)
    (g.N.Listener.listened n) (g.N.Listener.faults n) in
    served_so (g.C.Clock.tells c.args.clock.now) c.args.book.now.opening c.opens.ensures.begins first.pass second.pass c.both_of.result.pass
    c.both_of.ensures.takes c.both_of.result.end first.end second.end (tell c.args.admin)
    (tell first.listener) (tell c.both_of.result.admin) (tell c.args.user) (tell second.listener)
    (tell c.both_of.result.user) c.both_of.ensures.end (ap tell c.both_of.ensures.admin) (ap tell c.both_of.ensures.user)
    c.join-first.ensures.first.1.1.0 c.join-first.ensures.second.1.1.0
