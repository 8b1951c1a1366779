use Rattle.child_runner.proofs.Whole.{complete, serves, still_nobody, waited, waited_for}
use Rattle.child_runner.proofs.serving.serve_child.Goals as goal

pub returns-clause-serves : goal.returns-clause-serves
returns-clause-serves g c =
    let tells = g.C.Clock.tells c.args.clock.now in
    let o = c.args.book.now.opening in
    let left = g.L.Source.left c.args.link.now in
    let left_now = g.L.Source.left c.wait-how.new.link in
    let a = g.L.Source.faults c.args.link.now in
    let b = g.L.Source.faults c.read_all-how.new.link in
    let d = g.L.Source.faults c.wait-how.new.link in
    let reads = waited tells o c.args.process c.args.pass c.read_all-how.new.pass left
    (g.L.Source.left c.read_all-how.new.link) left_now a b d c.wait-how.ensures.bytes
    c.read_all-how.result c.wait-how.result (g.L.Link.ended c.wait-how.new.link) c.wait-how.ensures.waits c.read_all-how.ensures.reads in
    serves tells o c.args.process c.args.pass c.read_all-how.new.pass c.ended.new.pass left left_now a d c.wait-how.result reads
    c.now.result c.now.ensures c.ended.result c.ended.ensures.ended
    c.gone-spent.result
    (c.gone-spent.ensures.goes.nobody (still_nobody tells o c.args.process c.args.pass c.read_all-how.new.pass c.ended.new.pass left
    left_now a d c.wait-how.result reads c.now.result c.now.ensures
    c.ended.result c.ended.ensures.ended c.requires.nobody))

pub returns-clause-complete : goal.returns-clause-complete
returns-clause-complete g c =
    let tells = g.C.Clock.tells c.args.clock.now in
    let o = c.args.book.now.opening in
    let left = g.L.Source.left c.args.link.now in
    let left_now = g.L.Source.left c.wait-how.new.link in
    let a = g.L.Source.faults c.args.link.now in
    let b = g.L.Source.faults c.read_all-how.new.link in
    let d = g.L.Source.faults c.wait-how.new.link in
    let gone = g.L.Link.ended c.wait-how.new.link in
    let reads = waited tells o c.args.process c.args.pass c.read_all-how.new.pass left
    (g.L.Source.left c.read_all-how.new.link) left_now a b d c.wait-how.ensures.bytes
    c.read_all-how.result c.wait-how.result gone c.wait-how.ensures.waits c.read_all-how.ensures.reads in
    complete tells o c.args.process c.args.pass c.read_all-how.new.pass c.ended.new.pass left left_now a d c.wait-how.result reads
    c.now.result c.now.ensures c.ended.result c.ended.ensures.ended
    c.gone-spent.result
    (c.gone-spent.ensures.goes.nobody (still_nobody tells o c.args.process c.args.pass c.read_all-how.new.pass c.ended.new.pass left
    left_now a d c.wait-how.result reads c.now.result c.now.ensures
    c.ended.result c.ended.ensures.ended c.requires.nobody))
    gone (waited_for a b d gone c.read_all-how.result c.wait-how.result c.wait-how.ensures.waits c.read_all-how.ensures.cause)
