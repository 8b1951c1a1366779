use Rattle.std.proofs.Common.{◌≡◌, ◌-◌, ◌≤◌, ◌^◌}
use Rattle.feed_loop.proofs.Feeds.{SoFar}
use Rattle.feed_loop.proofs.feeding.feed_all.Given as goal

-- all that was read so far was eaten
abbrev pub invariant-loop-count : goal.invariant-loop-count
invariant-loop-count g l = record {
  most : l.count ≤ 2 ^ 40;
  ready : g.E.ByteConsumer.ready (record { eater = l.eater; place = l.place; output = l.output }) (2 ^ 40 - l.count);
  on : SoFar g.E.ByteConsumer.eats
      (record { eater = l.fn.eater; place = l.fn.place; output = l.fn.output })
      (record { eater = l.eater; place = l.place; output = l.output })
      (g.I.Source.left l.fn.input) (g.I.Source.left l.input) l.fn.count l.count;
  faults : g.I.Source.faults l.input ≡ g.I.Source.faults l.fn.input;
}

abbrev pub decreases-loop-count : goal.decreases-loop-count
decreases-loop-count g l = 2 ^ 40 - l.count
