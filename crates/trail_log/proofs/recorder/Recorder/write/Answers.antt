use Rattle.std.proofs.Common.{subst}
use Rattle.trail_log.specs.Recorders.{LoggedAs}
use Rattle.trail_log.proofs.Recorders.{logged_failed}
use Rattle.trail_log.proofs.recorder.Recorder.write.Goals as goal

pub returns-in-Err-clause-logged : goal.returns-in-Err-clause-logged
returns-in-Err-clause-logged g c =
    let old = c.args.self.now in
    let written = record old { at = c.write_segment.new.at; sink = c.write_segment.new.sink } in
    λ was log has. logged_failed g.T.Sink.held was log c.write_segment.new.trail written c.give_up.new.self c.requires.mode c.give_up.ensures
    (c.write_segment.ensures.stands was log
    (subst (λ mode. LoggedAs mode was log c.args.trail.now old.at (g.T.Sink.held old.sink)) c.requires.mode has))
