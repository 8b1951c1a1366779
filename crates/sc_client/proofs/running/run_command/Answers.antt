use Rattle.std.proofs.Common.{sym, subst, ap, refl, ◌∙◌, arith}
use Rattle.std.specs.Prelude.{Ok}
use Rattle.sc_client.specs.declared.fault.ClientFault.TheVariants as faults
use Rattle.sc_client.specs.Along.{Turn, read_so_far}
use Rattle.sc_client.specs.Runs.{IsCaused}
use Rattle.sc_client.proofs.WholeRuns.{begun, turned, failed, worn, done, unbound_yet, wrote, wrote_front, not_over_yet, unfailed}
use Rattle.sc_client.proofs.running.run_command.Goals as goal

pub returns-then-is_err-clause-run : goal.returns-then-is_err-clause-run
returns-then-is_err-clause-run g c =
    unbound_yet c.args.command.now (g.S.Source.left c.args.source.now) (g.T.Sink.held c.args.sink.now) (g.T.Sink.held c.write_all.new.sink)
    (wrote_front _ _ c.write_all.result _ _ (c.as_slice.ensures ∙ c.in_ok-text.ensures) c.write_all.ensures.written
    (sym c.if-is_err.ensures.value))

pub loop-init : goal.loop-init
loop-init g c = record {
  so_far = begun c.args.command.now c.new-talk.result c.new-held.result (g.S.Source.left c.args.source.now) (g.T.Sink.held c.args.sink.now)
      (g.T.Sink.held c.write_all.new.sink)
      c.new-talk.ensures c.new-held.ensures
      (wrote _ _ c.write_all.result _ _ (c.as_slice.ensures ∙ c.in_ok-text.ensures) c.write_all.ensures.written
      (sym c.if-is_err.ensures.value));
  goes = not_over_yet c.args.command.now c.new-talk.result c.new-talk.ensures;
  small = omega (arith, ap read_so_far c.new-held.ensures);
  source = refl;
  sink = unfailed (g.T.Sink.faults c.args.sink.now) (g.T.Sink.faults c.write_all.new.sink) c.write_all.result c.write_all.ensures.cause
      (sym c.if-is_err.ensures.value);
}

pub returns-in-Err-clause-run : goal.returns-in-Err-clause-run
returns-in-Err-clause-run g c =
    failed c.args.command.now c.loop.talk c.turn.new.talk c.loop.held c.turn.new.held (g.S.Source.left c.args.source.now)
    (g.S.Source.left c.loop.source) (g.S.Source.left c.turn.new.source)
    (g.T.Sink.held c.args.sink.now) (g.T.Sink.held c.loop.sink) (g.T.Sink.held c.turn.new.sink) c.loop.invariant.so_far c.in-Err.fault
    c.in-Err.ensures.turned

pub returns-in-Err-clause-cause : goal.returns-in-Err-clause-cause
returns-in-Err-clause-cause g c =
    subst (λ n. IsCaused c.in-Err.fault n (g.S.Source.faults c.turn.new.source) (g.T.Sink.faults c.args.sink.now)
    (g.T.Sink.faults c.turn.new.sink)) c.loop.invariant.source
    (subst (λ n. IsCaused c.in-Err.fault (g.S.Source.faults c.loop.source) (g.S.Source.faults c.turn.new.source) n
    (g.T.Sink.faults c.turn.new.sink)) c.loop.invariant.sink c.in-Err.ensures.cause)

pub returns-then-not-more-clause-kept : goal.returns-then-not-more-clause-kept
returns-then-not-more-clause-kept g c = (c.in-Ok.ensures.kept.0 ∙ c.loop.invariant.source, c.in-Ok.ensures.kept.1 ∙ c.loop.invariant.sink)

pub returns-clause-run : goal.returns-clause-run
returns-clause-run g c =
    worn c.args.command.now c.loop.talk c.loop.talk c.loop.held c.loop.held (g.S.Source.left c.args.source.now)
    (g.S.Source.left c.loop.source) (g.S.Source.left c.loop.source)
    (g.T.Sink.held c.args.sink.now) (g.T.Sink.held c.loop.sink) (g.T.Sink.held c.loop.sink) c.loop.invariant.so_far faults.OutOfMemory refl

pub returns-then-not-more-clause-run : goal.returns-then-not-more-clause-run
returns-then-not-more-clause-run g c =
    let x = subst (λ b. Turn c.args.command.now c.loop.talk c.turn.new.talk c.loop.held c.turn.new.held (g.S.Source.left c.loop.source)
    (g.S.Source.left c.turn.new.source)
    (g.T.Sink.held c.loop.sink) (g.T.Sink.held c.turn.new.sink) (Ok b)) c.if-not-more.true c.in-Ok.ensures.turned in
    let s = turned c.args.command.now c.loop.talk c.turn.new.talk c.loop.held c.turn.new.held (g.S.Source.left c.args.source.now)
    (g.S.Source.left c.loop.source) (g.S.Source.left c.turn.new.source)
    (g.T.Sink.held c.args.sink.now) (g.T.Sink.held c.loop.sink) (g.T.Sink.held c.turn.new.sink) c.loop.invariant.so_far x.0 in
    done c.args.command.now c.turn.new.talk c.turn.new.talk c.turn.new.held c.turn.new.held (g.S.Source.left c.args.source.now)
    (g.S.Source.left c.turn.new.source) (g.S.Source.left c.turn.new.source)
    (g.T.Sink.held c.args.sink.now) (g.T.Sink.held c.turn.new.sink) (g.T.Sink.held c.turn.new.sink) s c.into_heard.result x.1
    (sym c.into_heard.ensures)

pub loop-preserved : goal.loop-preserved
loop-preserved g c =
    let x = subst (λ b. Turn c.args.command.now c.loop.talk c.turn.new.talk c.loop.held c.turn.new.held (g.S.Source.left c.loop.source)
    (g.S.Source.left c.turn.new.source)
    (g.T.Sink.held c.loop.sink) (g.T.Sink.held c.turn.new.sink) (Ok b)) c.if-not-more.false c.in-Ok.ensures.turned in
    record {
      so_far = turned c.args.command.now c.loop.talk c.turn.new.talk c.loop.held c.turn.new.held (g.S.Source.left c.args.source.now)
          (g.S.Source.left c.loop.source) (g.S.Source.left c.turn.new.source)
          (g.T.Sink.held c.args.sink.now) (g.T.Sink.held c.loop.sink) (g.T.Sink.held c.turn.new.sink) c.loop.invariant.so_far x.0;
      goes = x.1;
      small = omega (arith, x.0.grown, c.loop.invariant.small);
      source = c.in-Ok.ensures.kept.0 ∙ c.loop.invariant.source;
      sink = c.in-Ok.ensures.kept.1 ∙ c.loop.invariant.sink;
    }
