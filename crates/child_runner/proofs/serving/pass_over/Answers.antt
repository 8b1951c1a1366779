use Rattle.child_runner.proofs.Fed.{reads_on}
use Rattle.child_runner.proofs.serving.pass_over.Goals as goal

pub returns : goal.returns
returns g c =
    reads_on _ _ (g.L.Source.left c.args.link.now) (g.L.Source.left c.feed_all.new.input) c.args.count.now c.feed_all.new.count
    (g.L.Source.faults c.args.link.now) (g.L.Source.faults c.feed_all.new.input) c.feed_all.ensures.most c.feed_all.result
    c.feed_all.ensures.feeds c.feed_all.ensures.cause
