use Rattle.std.proofs.Common.{subst, sym}
use Rattle.trail_log.specs.Recorders.{LoggedAs}
use Rattle.trail_log.proofs.Fronts.{front_gone, goes_if}
use Rattle.trail_log.proofs.recorder.Recorder.record.Goals as goal

pub returns-then-let_go-clause-logged : goal.returns-then-let_go-clause-logged
returns-then-let_go-clause-logged g c =
    let old = c.args.self.now in
    let held = g.T.Sink.held old.sink in
    λ was log has. subst (λ mode. LoggedAs mode was log c.let_go.new.self old.at held) (sym c.in-Dropped.is)
    (front_gone was held log c.args.trail.now c.let_go.new.self
    (subst (λ mode. LoggedAs mode was log c.args.trail.now old.at held) c.in-Dropped.is has)
    (goes_if c.let_go.result c.args.trail.now c.let_go.new.self c.let_go.ensures.goes))
