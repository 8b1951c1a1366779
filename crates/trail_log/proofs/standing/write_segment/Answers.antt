use Rattle.trail_log.proofs.Logs.{segment_whole, stands_written}
use Rattle.trail_log.proofs.standing.write_segment.Goals as goal

pub returns-clause-stands : goal.returns-clause-stands
returns-clause-stands g c =
    λ was log stands. stands_written was (g.T.Sink.held c.args.sink.now) (g.T.Sink.held c.record_segment-written.new.sink) log c.args.at.now
    c.record_segment-written.new.at c.args.trail.now c.record_segment-written.new.trail stands c.segments-before.ensures.codes
    c.segments-after.ensures.codes c.record_segment-written.ensures.goes c.record_segment-written.ensures.within c.record_segment-written.ensures.kept

pub returns-clause-all : goal.returns-clause-all
returns-clause-all g c =
    segment_whole c.record_segment-written.result (g.T.Sink.held c.args.sink.now) (g.T.Sink.held c.record_segment-written.new.sink) c.args.at.now
    c.record_segment-written.new.at c.args.trail.now c.record_segment-written.new.trail c.segments-before.ensures.codes
    c.record_segment-written.ensures.kept c.record_segment-written.ensures.all
