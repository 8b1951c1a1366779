use Rattle.std.proofs.Common.{Ok, Err}
use Rattle.scm_replay.specs.Along.{Point, point}
use Rattle.scm_replay.proofs.Lines.{line_done, lined_of}
use Rattle.scm_replay.proofs.Stretches.{line_stops}
use Rattle.scm_replay.proofs.feeding.end_line.Goals as goal

pub returns-in-Ok-clause-fed : goal.returns-in-Ok-clause-fed
returns-in-Ok-clause-fed g c =
    let a : Point = point c.args.manager.now c.args.reading.now (g.O.Sink.held c.args.output.now) in
    let b : Point = point c.answer.new.manager c.next_line.new.reading (g.O.Sink.held c.answer.new.output) in
    let lined = lined_of c.args.manager.now.limits a.number a.pending _ a.at b.at a.held b.held (Unit {0})
    (Ok tt) c.as_slice.ensures.value c.in-Ok.ensures.lined in
    line_done c.args.manager.now.limits a b c.requires.clean c.next_line.ensures.pending c.next_line.ensures.number lined.0 lined.1 lined.2

pub returns-in-Err-clause-fed : goal.returns-in-Err-clause-fed
returns-in-Err-clause-fed g c =
    let a : Point = point c.args.manager.now c.args.reading.now (g.O.Sink.held c.args.output.now) in
    let b : Point = point c.answer.new.manager c.args.reading.now (g.O.Sink.held c.answer.new.output) in
    line_stops c.args.manager.now.limits a b c.in-Err.stop c.requires.clean c.requires.clean
    (lined_of c.args.manager.now.limits a.number a.pending _ a.at b.at a.held b.held (Unit {0})
    (Err c.in-Err.stop) c.as_slice.ensures.value c.in-Err.ensures.lined)
