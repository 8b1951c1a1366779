use Rattle.std.proofs.Common.{Err, ap, inl, inr, refl, subst}
use Rattle.std.proofs.KnownBytes.{Appends-trans}
use Rattle.outside.specs.Causes.{Rose}
use Rattle.scmd_top.specs.Serving.{exported}
use Rattle.scmd_top.proofs.Writing.{front_of_first, front_of_rest}
use Rattle.scmd_top.proofs.histories.put_history.Goals as goal

pub returns-in-Ok-write_all-clause-put : goal.returns-in-Ok-write_all-clause-put
returns-in-Ok-write_all-clause-put g c = inl (
  refl,
  Appends-trans (g.O.Sink.held c.args.output.now) (g.O.Sink.held c.export_from.new.output) (g.O.Sink.held c.write_all.new.sink)
      (exported c.args.opening.now c.args.history.now.entries) c.args.summary.now c.in-Ok.ensures.written c.in-Ok-write_all.ensures.written,
)

pub returns-in-Err-clause-put : goal.returns-in-Err-clause-put
returns-in-Err-clause-put g c = inr (inl (
  refl,
  front_of_rest (g.O.Sink.held c.args.output.now) (g.O.Sink.held c.export_from.new.output) (g.O.Sink.held c.write_all.new.sink)
      (exported c.args.opening.now c.args.history.now.entries) c.args.summary.now c.in-Ok.ensures.written c.in-Err.ensures.written,
  subst (λ n. Rose n (g.O.Sink.faults c.write_all.new.sink)) c.in-Ok.ensures.cause c.in-Err.ensures.cause.rose,
))

pub returns-in-Err-WriteFault-clause-put : goal.returns-in-Err-WriteFault-clause-put
returns-in-Err-WriteFault-clause-put g c = inr (inl (
  refl,
  front_of_first (g.O.Sink.held c.args.output.now) (g.O.Sink.held c.export_from.new.output)
      (exported c.args.opening.now c.args.history.now.entries) c.args.summary.now c.in-Err-WriteFault.ensures.written,
  rw c.in-Err-WriteFault.field-0-is at c.in-Err-WriteFault.ensures.cause,
))

pub returns-in-Err-OutOfMemory-clause-put : goal.returns-in-Err-OutOfMemory-clause-put
returns-in-Err-OutOfMemory-clause-put g c = inr (inr (
  refl,
  front_of_first (g.O.Sink.held c.args.output.now) (g.O.Sink.held c.export_from.new.output)
      (exported c.args.opening.now c.args.history.now.entries) c.args.summary.now c.in-Err-OutOfMemory.ensures.written,
  c.in-Err-OutOfMemory.ensures.lacks (ap Err c.in-Err-OutOfMemory.field-0-is),
  rw c.in-Err-OutOfMemory.field-0-is at c.in-Err-OutOfMemory.ensures.cause,
))

pub returns-in-Ok-write_all-clause-tells : goal.returns-in-Ok-write_all-clause-tells
returns-in-Ok-write_all-clause-tells g c = λ is. c.in-Ok.ensures.tells

pub returns-in-Err-clause-tells : goal.returns-in-Err-clause-tells
returns-in-Err-clause-tells g c = λ is. absurd cc

pub returns-in-Err-WriteFault-clause-tells : goal.returns-in-Err-WriteFault-clause-tells
returns-in-Err-WriteFault-clause-tells g c = λ is. absurd cc

pub returns-in-Err-OutOfMemory-clause-tells : goal.returns-in-Err-OutOfMemory-clause-tells
returns-in-Err-OutOfMemory-clause-tells g c = λ is. absurd cc
