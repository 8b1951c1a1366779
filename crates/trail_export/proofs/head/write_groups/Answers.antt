use Rattle.std.proofs.Common.{All, ◌∙◌, subst, arith}
use Rattle.std.specs.Io.KnownBytes.{append_known}
use Rattle.std.proofs.lemmas.List.{take_all}
use Rattle.std.proofs.lemmas.List.Elements.{All-more}
use Rattle.std.proofs.lemmas.Result.{err_from_is_err_and}
use Rattle.service_record.specs.Spelling.{IsUnit}
use Rattle.opening_lines.specs.Heads.{group_line}
use Rattle.trail_export.proofs.Sinking.{line_failed, line_sent, lines_sent}
use Rattle.trail_export.proofs.head.write_groups.Goals as goal

pub loop-group-preserved : goal.loop-group-preserved
loop-group-preserved g c =
    let old = append_known (g.T.Sink.held c.args.sink.now) c.args.buffer.now.items in
    let mid = append_known (g.T.Sink.held c.loop-group.sink) c.loop-group.buffer.items in
    let new = append_known (g.T.Sink.held c.write_group.new.sink) c.write_group.new.buffer.items in
    record {
      sent = line_sent group_line c.args.groups.now c.loop-group.group-index old mid new
          c.group-item.result c.group-item.is c.loop-group-test.true c.loop-group.invariant.sent c.in_ok-write_group.ensures.written;
      faults = c.in_ok-write_group.ensures.cause.caused ∙ c.loop-group.invariant.faults;
      longer = omega (arith, c.loop-group.invariant.longer, c.write_group.ensures.longer);
      fit = All-more (All IsUnit) c.args.groups.now c.loop-group.group-index c.group-item.result c.loop-group-test.true
          c.loop-group.invariant.fit (subst (All IsUnit) c.group-item.is c.write_group.ensures.fits);
    }

pub returns-in_err-write_group-clause-written : goal.returns-in_err-write_group-clause-written
returns-in_err-write_group-clause-written g c =
    let old = append_known (g.T.Sink.held c.args.sink.now) c.args.buffer.now.items in
    let mid = append_known (g.T.Sink.held c.loop-group.sink) c.loop-group.buffer.items in
    let new = append_known (g.T.Sink.held c.write_group.new.sink) c.write_group.new.buffer.items in
    rw (err_from_is_err_and c.from_residual.result c.from_residual.ensures.1).1
    (line_failed group_line c.args.groups.now c.loop-group.group-index old mid new c.group-item.result
    c.group-item.is c.loop-group-test.true c.loop-group.invariant.sent c.in_err-write_group.ensures.written)

pub returns-clause-written : goal.returns-clause-written
returns-clause-written g c =
    let old = append_known (g.T.Sink.held c.args.sink.now) c.args.buffer.now.items in
    let mid = append_known (g.T.Sink.held c.loop-group.sink) c.loop-group.buffer.items in
    lines_sent group_line c.args.groups.now c.loop-group.group-index old mid
    c.loop-group-test.false c.loop-group.invariant.sent

pub returns-clause-fit : goal.returns-clause-fit
returns-clause-fit g c =
    subst (All (All IsUnit)) (take_all c.loop-group.group-index c.args.groups.now c.loop-group-test.false) c.loop-group.invariant.fit
