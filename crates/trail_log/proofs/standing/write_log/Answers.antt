use Rattle.trail_log.proofs.Logs.{stands_written, written_whole}
use Rattle.trail_log.proofs.standing.write_log.Goals as goal

pub returns-clause-stands : goal.returns-clause-stands
returns-clause-stands g c =
    λ was log stands. stands_written was (g.T.Sink.held c.args.sink.now) (g.T.Sink.held c.record-written.new.sink) log c.args.at.now
    c.record-written.new.at c.args.trail.now c.record-written.new.trail stands c.segments-before.ensures.codes
    c.segments-after.ensures.codes c.record-written.ensures.goes c.record-written.ensures.within c.record-written.ensures.kept

pub returns-clause-all : goal.returns-clause-all
returns-clause-all g c =
    written_whole c.record-written.result (g.T.Sink.held c.args.sink.now) (g.T.Sink.held c.record-written.new.sink) c.args.at.now
    c.record-written.new.at c.args.trail.now c.record-written.new.trail c.segments-before.ensures.codes
    c.record-written.ensures.kept c.record-written.ensures.all
