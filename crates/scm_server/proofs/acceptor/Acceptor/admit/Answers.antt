use Rattle.std.proofs.Common.{◌∙◌, ap}
use Rattle.scm_listener.specs.Connections.{PastConnection}
use Rattle.scm_server.specs.Works.{out_of}
use Rattle.scm_server.proofs.Serving.{goes_trans, joined_goes, refused_goes}
use Rattle.scm_server.proofs.acceptor.Acceptor.admit.Goals as goal

pub returns-in-Err-clause-at : goal.returns-in-Err-clause-at
returns-in-Err-clause-at g c = record { by = c.in-Err.ensures.by_book; of = c.requires.at.of }

pub returns-in-Ok-clause-goes : goal.returns-in-Ok-clause-goes
returns-in-Ok-clause-goes g c = λ came come.
    let tells = g.C.Clock.tells c.args.host.now.clock.now in
    let o = c.args.host.now.book.now.opening in
    let principal = c.args.host.now.principal in
    let w = out_of c.args.input.number (g.I.Source.left c.args.input.end) (g.O.Sink.held c.args.output.end)
    (g.I.Source.faults c.args.input.end) (g.O.Sink.faults c.args.output.end) c.in-Ok.pass in
    goes_trans tells o principal _ _ _ (joined_goes tells o principal c.args.self.now.by _ came _ _ w c.args.self.now.is_short _
    c.in-Ok.ensures.by come c.now.ensures c.in-Ok.ensures.ok c.in-Ok.ensures.caller c.requires.new) c.run.ensures.goes

pub returns-in-Err-clause-goes : goal.returns-in-Err-clause-goes
returns-in-Err-clause-goes g c = λ came come.
    let new = c.requires.new in
    let left = ap (λ (p : PastConnection). p.left) c.end.ensures in
    let written = ap (λ (p : PastConnection). p.written) c.end.ensures in
    let reads = ap (λ (p : PastConnection). p.read_faults) c.end.ensures ∙ new.unread in
    let writes = ap (λ (p : PastConnection). p.write_faults) c.end.ensures ∙ new.unfailed in
    rw c.is_either-self.ensures (refused_goes (g.C.Clock.tells c.args.host.now.clock.now) c.args.host.now.book.now.opening
    c.args.host.now.principal c.args.self.now.by _ came _ _ _ c.args.self.now.is_short _ _ c.is_without_memory.ensures
    (g.I.Source.left c.args.input.end) (g.O.Sink.held c.args.output.end) _ _ c.in-Err.ensures.by come c.in-Err.ensures.cause
    new.unwritten left written reads writes (ap (λ (p : PastConnection). p.number) c.end.ensures) c.note.ensures.left
    c.note.ensures.accepted c.note.ensures.listened c.note.ensures.faults c.note.ensures.noted)
