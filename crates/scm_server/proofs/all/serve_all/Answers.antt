use Rattle.std.proofs.Common.{ap}
use Rattle.scm_server.specs.Ports.{Told, told}
use Rattle.scm_server.proofs.Taken.{all_seen, served_as}
use Rattle.scm_server.proofs.all.serve_all.Goals as goal

pub returns-clause-goes : goal.returns-clause-goes
returns-clause-goes g c =
    let both = c.join-ran.result.1 in
    let first = c.join_runner-ticks.ensures in
    let next = c.join_runner-launches.ensures in
    let last = c.join_runner-serves.ensures in
    (all_seen (g.C.Clock.tells c.args.clock.now) c.args.book.now.opening c.args.root.now _ _ _ _ _ _ _ c.join-ran.result.0.ticked
    c.join-ran.result.0.launched.spent both.pass _ _ _ first.by first.runner c.tick-how.ensures.ends next.runner next.by last.runner last.by
    c.join-ran.ensures.first.1.0 c.join-ran.ensures.first.1.1.1 c.join-ran.ensures.second.1.0 c.take_all.ensures.takes).goes

pub returns-clause-serves : goal.returns-clause-serves
returns-clause-serves g c =
    let ran = c.join-ran.result.0 in
    let both = c.join-ran.result.1 in
    let first = c.join_runner-ticks.ensures in
    let next = c.join_runner-launches.ensures in
    let last = c.join_runner-serves.ensures in
    let tells = g.C.Clock.tells c.args.clock.now in
    let o = c.args.book.now.opening in
    let tell : g.row.N.Denot → Told = λ n. told (g.N.Listener.left n) (g.N.Listener.accepted n) (g.N.Listener.noted n)
    (g.N.Listener.listened n) (g.N.Listener.faults n) in
    let seen = all_seen tells o c.args.root.now _ _ _ _ _ _ _ ran.ticked ran.launched.spent both.pass _ _ _ first.by
    first.runner c.tick-how.ensures.ends next.runner next.by last.runner last.by c.join-ran.ensures.first.1.0
    c.join-ran.ensures.first.1.1.1 c.join-ran.ensures.second.1.0 c.take_all.ensures.takes in
    served_as tells o _ both.end c.take_all.result.end (tell c.args.admin) (tell both.admin) (tell c.take_all.result.admin)
    (tell c.args.user) (tell both.user) (tell c.take_all.result.user) c.take_all.ensures.end
    (ap tell c.take_all.ensures.admin) (ap tell c.take_all.ensures.user) (c.join-ran.ensures.second.1.1.0 _ seen.within seen.legal)
