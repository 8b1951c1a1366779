use Rattle.std.proofs.Common.{[]}
use Rattle.scm_replay.proofs.Ends.{nothing_read}
use Rattle.scmd_top.specs.Jobs.{program_start}
use Rattle.scmd_top.specs.Statuses.{program_limits}
use Rattle.scmd_top.proofs.lines.answer_lines.Goals as goal

-- nothing is read and nothing written
pub returns-in_default-clause-replayed : goal.returns-in_default-clause-replayed
returns-in_default-clause-replayed g c = record {
  now = program_start [];
  replayed = nothing_read program_limits (program_start []) (g.I.Source.left c.args.input.now) (g.O.Sink.held c.args.output.now);
}
