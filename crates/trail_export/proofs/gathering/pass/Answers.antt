use Rattle.std.proofs.Common.{◌≡◌, ◌-◌, ◌∙◌, arith, drop, length, length-drop, subst, take, take_all}
use Rattle.std.specs.Io.KnownBytes.{Appends}
use Rattle.trail_export.proofs.Pieces.{appended_longer, passed_more}
use Rattle.trail_export.proofs.gathering.pass.Goals as goal

pub loop-count-preserved : goal.loop-count-preserved
loop-count-preserved g c =
    let bytes = c.args.bytes.now in
    let old = g.T.Sink.held c.args.sink.now in
    let mid = g.T.Sink.held c.loop-count.sink in
    let new = g.T.Sink.held c.write.new.self in
    let count = c.loop-count.count in
    let cut : take (length bytes - count) (drop count bytes) ≡ drop count bytes =
    take_all (length bytes - count) (drop count bytes) (omega (arith, length-drop count bytes)) in
    let taken = subst (λ rest. Appends mid new (take c.in-Ok.more rest)) cut c.in-Ok.ensures.bytes in
    record {
      bound = omega (arith, c.loop-count-test.true, c.in-Ok.ensures.bound, length-drop count bytes);
      kept = passed_more old mid new bytes count c.in-Ok.more c.loop-count.invariant.kept taken;
      longer = omega (
        arith,
        c.loop-count.invariant.longer,
        appended_longer mid new (take c.in-Ok.more (drop count bytes)) taken,
      );
      faults = c.in-Ok.ensures.cause.kept ∙ c.loop-count.invariant.faults;
    }
