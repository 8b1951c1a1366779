use Rattle.std.proofs.Common.{Some, ap, refl}
use Rattle.wire_tests.proofs.Refusing.{of_refused}
use Rattle.wire_tests.proofs.counter.CounterRequestHandler.call.Goals as goal

pub returns-clause-answered : goal.returns-clause-answered
returns-clause-answered c =
    rw c.replace.ensures.after
    (record {
      heard = Some c.refused-reply.result;
      made = (refl, ap Some c.refused-reply.ensures);
      told = refl;
      answers = rw c.refused-reply.ensures (of_refused c.args.request c.args.self.now.asked);
    })
