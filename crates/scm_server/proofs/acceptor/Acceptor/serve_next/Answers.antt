use Rattle.std.proofs.Common.{◌∙◌, refl, ap}
use Rattle.scm_server.specs.Ports.{Told}
use Rattle.scm_server.proofs.Serving.{goes_trans, has_come, over_closed, over_failed}
use Rattle.scm_server.proofs.acceptor.Acceptor.serve_next.Goals as goal

pub returns-in-Closed-clause-at : goal.returns-in-Closed-clause-at
returns-in-Closed-clause-at g c = record { by = c.reap_until_next.ensures.at.by; of = c.reap_until_next.ensures.at.of }

pub returns-in-Failed-clause-at : goal.returns-in-Failed-clause-at
returns-in-Failed-clause-at g c = record { by = c.reap_until_next.ensures.at.by; of = c.reap_until_next.ensures.at.of }

pub returns-in-Conn-clause-next : goal.returns-in-Conn-clause-next
returns-in-Conn-clause-next g c =
    let back = c.reap_until_next.ensures in
    let came = c.in-Conn.ensures in
    let come = has_come g.I.Source.left c.in-Conn.input c.in-Conn.output _ _ came.new.input came.takes came.accepted came.noted
    came.listened in (
      goes_trans (g.C.Clock.tells c.args.host.now.clock.now) c.args.host.now.book.now.opening c.args.host.now.principal _ _ _
          (back.goes c.args.host.now.principal) (c.admit.ensures.goes _ come),
      ap (λ (t : Told). t.faults) c.admit.ensures.only.same ∙ (came.cause.kept refl ∙ ap (λ (t : Told). t.faults) back.only.same),
    )

pub returns-in-Closed-clause-next : goal.returns-in-Closed-clause-next
returns-in-Closed-clause-next g c =
    let back = c.reap_until_next.ensures in
    let came = c.in-Closed.ensures in
    over_closed (g.C.Clock.tells c.args.host.now.clock.now) c.args.host.now.book.now.opening c.args.host.now.principal _ _ _ _ _ _
    (back.goes c.args.host.now.principal) back.only (g.I.Source.left) c.accept.result c.in-Closed.is c.accept.ensures.takes came.accepted
    came.noted came.listened (came.cause.kept refl)

pub returns-in-Failed-clause-next : goal.returns-in-Failed-clause-next
returns-in-Failed-clause-next g c =
    let back = c.reap_until_next.ensures in
    let came = c.in-Failed.ensures in
    over_failed (g.C.Clock.tells c.args.host.now.clock.now) c.args.host.now.book.now.opening c.args.host.now.principal _ _ _ _ _ _
    (back.goes c.args.host.now.principal) back.only (g.I.Source.left) c.accept.result c.in-Failed.is c.accept.ensures.takes came.accepted
    came.noted came.listened (came.cause.rose refl)
