use Rattle.std.proofs.Common.{refl}
use Rattle.child_runner.proofs.Takings.{keeps_self, no_name}
use Rattle.child_runner.proofs.sending.Sender.write_controls.Goals as goal

pub returns-in_default-clause-sends : goal.returns-in_default-clause-sends
returns-in_default-clause-sends g c =
    no_name (g.C.Clock.tells c.args.self.now.clock.now) c.args.self.now.book.now.opening c.args.self.now.process
    (g.Q.Quit.may_ask c.args.self.now.quit.now) c.args.pass.now
    c.args.pass.now (g.F.Sink.held c.args.feed.now) (g.F.Sink.faults c.args.feed.now) refl

pub returns-in_default-clause-keeps : goal.returns-in_default-clause-keeps
returns-in_default-clause-keeps g c = keeps_self c.args.self.now.book.now.opening c.args.pass.now
