use Rattle.std.proofs.Common.{◌∙◌}
use Rattle.outside.proofs.Sending.{sent_part}
use Rattle.outside.proofs.sink.write_all.Goals as goal

pub loop-rest-preserved : goal.loop-rest-preserved
loop-rest-preserved g c = (
  sent_part _ _ _ _ _ _ c.in-Ok.count c.loop-rest.invariant.0 c.split_at.ensures.back c.in-Ok.ensures.bytes,
  c.in-Ok.ensures.cause.kept ∙ c.loop-rest.invariant.1,
)
