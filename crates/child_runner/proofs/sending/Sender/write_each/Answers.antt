use Rattle.child_runner.proofs.Takings.{goes_none, goes_then, keeps_self, keeps_then, sends_then}
use Rattle.child_runner.proofs.sending.Sender.write_each.Goals as goal

pub loop-init : goal.loop-init
loop-init g c = record {
  book = c.requires.book;
  room = c.requires.room;
  goes = goes_none (g.C.Clock.tells c.args.self.now.clock.now) c.args.self.now.book.now.opening c.args.self.now.process
      c.args.pass.now (g.F.Sink.held c.args.feed.now)
      (g.F.Sink.faults c.args.feed.now);
  keeps = keeps_self c.args.self.now.book.now.opening c.args.pass.now;
}

pub returns-in-Some-send_next-clause-sends : goal.returns-in-Some-send_next-clause-sends
returns-in-Some-send_next-clause-sends g c =
    sends_then (g.C.Clock.tells c.args.self.now.clock.now) c.args.self.now.book.now.opening c.args.self.now.process
    c.args.pass.now c.loop.pass c.send_next.new.pass
    (g.F.Sink.held c.args.feed.now) (g.F.Sink.held c.loop.feed) (g.F.Sink.held c.send_next.new.feed)
    (g.F.Sink.faults c.args.feed.now) (g.F.Sink.faults c.loop.feed) (g.F.Sink.faults c.send_next.new.feed)
    c.loop.invariant.goes (g.Q.Quit.may_ask c.args.self.now.quit.now) c.in-Some-send_next.how c.in-Some-send_next.ensures.sends

pub returns-in-Some-send_next-clause-keeps : goal.returns-in-Some-send_next-clause-keeps
returns-in-Some-send_next-clause-keeps g c =
    keeps_then c.args.self.now.book.now.opening c.args.pass.now c.loop.pass c.send_next.new.pass c.loop.invariant.keeps
    c.send_next.ensures.keeps

pub loop-preserved : goal.loop-preserved
loop-preserved g c = record {
  book = c.send_next.ensures.book;
  room = c.send_next.ensures.room;
  goes = goes_then (g.C.Clock.tells c.args.self.now.clock.now) c.args.self.now.book.now.opening c.args.self.now.process
      c.args.pass.now c.loop.pass
      c.send_next.new.pass
      (g.F.Sink.held c.args.feed.now) (g.F.Sink.held c.loop.feed) (g.F.Sink.held c.send_next.new.feed)
      (g.F.Sink.faults c.args.feed.now) (g.F.Sink.faults c.loop.feed) (g.F.Sink.faults c.send_next.new.feed)
      c.loop.invariant.goes c.in-None-send_next.ensures.sends;
  keeps = keeps_then c.args.self.now.book.now.opening c.args.pass.now c.loop.pass c.send_next.new.pass c.loop.invariant.keeps
      c.send_next.ensures.keeps;
}
