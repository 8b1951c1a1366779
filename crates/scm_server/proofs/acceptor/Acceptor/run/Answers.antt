use Rattle.std.proofs.Common.{◌∙◌, ◌∷◌, ◌++◌, [], ap, sym, subst}
use Rattle.scm_server.specs.Workers.{AreOf, IsOfBook, out_at}
use Rattle.scm_server.proofs.Lists.{each_more}
use Rattle.scm_server.proofs.Workers.{begun_there, here, here_short, or_all, or_none, still_of, to_short}
use Rattle.scm_server.proofs.acceptor.Acceptor.run.Goals as goal

pub returns-in_default-clause-at : goal.returns-in_default-clause-at
returns-in_default-clause-at g c = record {
  by = still_of c.args.host.now.book.now c.args.self.now.by c.work-worked.result.spent _ c.requires.at.by c.take_back.ensures.takes;
  of = subst (AreOf c.args.host.now.book.now c.args.host.now.clock.now) (sym c.room.ensures.items) c.requires.at.of;
}

pub returns-in_default-clause-goes : goal.returns-in_default-clause-goes
returns-in_default-clause-goes g c =
    let tells = g.C.Clock.tells c.args.host.now.clock.now in
    let b = c.args.host.now.book.now in
    let worked = c.work-worked.result in
    let back = c.take_back.ensures in
    to_short tells b.opening c.args.self.now.by _ _ _ _ _ _ c.args.self.now.is_short _
    (here_short tells b worked.spent _ worked.how c.take_back.result back.short c.args.self.now.by _ back.takes _ _ back.only back.noted
    (out_at g.I.Source.left g.O.Sink.held g.I.Source.faults g.O.Sink.faults) _ _ c.room.ensures.items _ c.work-worked.ensures.done)
    (sym (or_all c.args.self.now.is_short)) c.args.host.now.principal

pub returns-in-Ok-begin-clause-at : goal.returns-in-Ok-begin-clause-at
returns-in-Ok-begin-clause-at g c =
    let b = c.args.host.now.book.now in
    let clock = c.args.host.now.clock.now in
    let of = subst (AreOf b clock) (sym c.room.ensures.items) c.requires.at.of in record {
      by = c.requires.at.by;
      of = subst (AreOf b clock) (sym c.push_reserved.ensures.items)
          (each_more (IsOfBook b clock) _ c.in-Ok-begin.worker of c.in-Ok-begin.ensures.of);
    }

pub returns-in-Ok-begin-clause-goes : goal.returns-in-Ok-begin-clause-goes
returns-in-Ok-begin-clause-goes g c =
    let tells = g.C.Clock.tells c.args.host.now.clock.now in
    let o = c.args.host.now.book.now.opening in
    let by = c.args.self.now.by in
    let out = out_at g.I.Source.left g.O.Sink.held g.I.Source.faults g.O.Sink.faults in
    let is = c.push_reserved.ensures.items ∙ ap (λ ws. ws ++ c.in-Ok-begin.worker ∷ []) c.room.ensures.items in
    to_short tells o by by _ _ _ _ _ c.args.self.now.is_short _
    (begun_there tells o by _ out _ _ c.in-Ok-begin.worker _ is c.in-Ok-begin.ensures.out)
    (sym (or_none c.args.self.now.is_short)) c.args.host.now.principal

pub returns-in-Err-clause-at : goal.returns-in-Err-clause-at
returns-in-Err-clause-at g c = record {
  by = still_of c.args.host.now.book.now c.args.self.now.by c.in-Err.worked.spent _ c.requires.at.by c.take_back-one.ensures.takes;
  of = subst (AreOf c.args.host.now.book.now c.args.host.now.clock.now) (sym c.room.ensures.items) c.requires.at.of;
}

pub returns-in-Err-clause-goes : goal.returns-in-Err-clause-goes
returns-in-Err-clause-goes g c =
    let tells = g.C.Clock.tells c.args.host.now.clock.now in
    let b = c.args.host.now.book.now in
    let worked = c.in-Err.worked in
    let back = c.take_back-one.ensures in
    to_short tells b.opening c.args.self.now.by _ _ _ _ _ c.take_back-one.result c.args.self.now.is_short _
    (here tells b worked.spent _ worked.how c.take_back-one.result back.short c.args.self.now.by _ back.takes _ _ back.only back.noted
    (out_at g.I.Source.left g.O.Sink.held g.I.Source.faults g.O.Sink.faults) _ _ c.room.ensures.items _ c.in-Err.ensures.done)
    c.is_either-self.ensures c.args.host.now.principal
