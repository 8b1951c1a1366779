use Rattle.std.proofs.Common.{refl, inl, subst}
use Rattle.std.specs.Prelude.{Err}
use Rattle.sc_words.specs.Words.{command_of}
use Rattle.sc_top.specs.declared.fault.ScFault.TheVariants as faults
use Rattle.sc_top.specs.Runs.{EndsWith, IsTold, outside_of}
use Rattle.sc_top.proofs.Whole.{of_any}
use Rattle.sc_top.proofs.client.sc_main.Goals as goal

pub returns-in-Err-OutOfMemory-clause-run : goal.returns-in-Err-OutOfMemory-clause-run
returns-in-Err-OutOfMemory-clause-run g c =
    of_any
    (λ command. EndsWith c.args.words.now command (outside_of (g.D.Dialer.next c.args.dialer.now) (g.D.Dialer.past c.args.dialer.now)
    (g.D.Dialer.past c.args.dialer.now) (g.D.Dialer.faults c.args.dialer.now) (g.D.Dialer.faults c.args.dialer.now)
    (g.O.Sink.held c.args.output.now) (g.O.Sink.held c.args.output.now) (g.O.Sink.faults c.args.output.now)
    (g.O.Sink.faults c.args.output.now))
    (g.E.Sink.held c.args.errors.now) (g.E.Sink.held c.finish-in-Err-OutOfMemory.new.errors) (g.E.Sink.faults c.args.errors.now)
    (g.E.Sink.faults c.finish-in-Err-OutOfMemory.new.errors)
    c.finish-in-Err-OutOfMemory.result)
    (command_of c.args.words.now)
    (λ command. record {
      how = Err faults.OutOfMemory;
      run = (inl refl, refl);
      told =
          subst
          (λ words. IsTold words (Err faults.OutOfMemory) (g.E.Sink.held c.args.errors.now)
          (g.E.Sink.held c.finish-in-Err-OutOfMemory.new.errors)
          (g.E.Sink.faults c.args.errors.now) (g.E.Sink.faults c.finish-in-Err-OutOfMemory.new.errors) c.finish-in-Err-OutOfMemory.result)
          c.as_slice-list.ensures c.finish-in-Err-OutOfMemory.ensures;
    })
