use Rattle.std.proofs.Common.{◌∙◌, arith}
use Rattle.feed_loop.specs.Feeding.{fed_at}
use Rattle.feed_loop.proofs.Feeds.{ends_so, goes_on, worn}
use Rattle.feed_loop.proofs.feeding.feed_all.Goals as goal

pub loop-count-preserved : goal.loop-count-preserved
loop-count-preserved g c =
    let before = c.loop-count.invariant in
    let now = c.in-Ok.ensures in
    let a = fed_at c.args.eater.now c.args.place.now c.args.output.now in
    let m = fed_at c.loop-count.eater c.loop-count.place c.loop-count.output in
    let b = fed_at c.feed_once.new.eater c.feed_once.new.place c.feed_once.new.output in
    record {
      most = now.most;
      ready = now.ready;
      on = goes_on g.E.ByteConsumer.eats g.E.ByteConsumer.stops a m b (g.I.Source.left c.args.input.now)
          (g.I.Source.left c.loop-count.input) (g.I.Source.left c.feed_once.new.input)
          c.args.count.now c.loop-count.count c.feed_once.new.count c.in-Ok.field-0 before.on now.fed;
      faults = now.unfailed ∙ before.faults;
    }

pub returns-in-Err-clause-feeds : goal.returns-in-Err-clause-feeds
returns-in-Err-clause-feeds g c =
    let a = fed_at c.args.eater.now c.args.place.now c.args.output.now in
    let m = fed_at c.loop-count.eater c.loop-count.place c.loop-count.output in
    let b = fed_at c.feed_once.new.eater c.feed_once.new.place c.feed_once.new.output in
    ends_so g.E.ByteConsumer.eats g.E.ByteConsumer.stops a m b (g.I.Source.left c.args.input.now) (g.I.Source.left c.loop-count.input)
    (g.I.Source.left c.feed_once.new.input)
    c.args.count.now c.loop-count.count c.feed_once.new.count c.in-Err.how c.loop-count.invariant.on c.in-Err.ensures.fed

pub returns-clause-feeds : goal.returns-clause-feeds
returns-clause-feeds g c =
    let before = c.loop-count.invariant in
    let a = fed_at c.args.eater.now c.args.place.now c.args.output.now in
    let m = fed_at c.loop-count.eater c.loop-count.place c.loop-count.output in
    worn g.E.ByteConsumer.eats g.E.ByteConsumer.stops a m (g.I.Source.left c.args.input.now)
    (g.I.Source.left c.loop-count.input) c.args.count.now c.loop-count.count before.on
    (omega (arith, before.most, c.loop-count-test.false))
