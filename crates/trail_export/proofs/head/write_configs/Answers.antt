use Rattle.std.proofs.Common.{All, ◌∙◌, subst, arith}
use Rattle.std.specs.Io.KnownBytes.{append_known}
use Rattle.std.proofs.lemmas.List.{take_all}
use Rattle.std.proofs.lemmas.List.Elements.{All-more}
use Rattle.std.proofs.lemmas.Result.{err_from_is_err_and}
use Rattle.opening_lines.specs.Heads.{HasRecord, config_line}
use Rattle.trail_export.proofs.Sinking.{line_failed, line_sent, lines_sent}
use Rattle.trail_export.proofs.head.write_configs.Goals as goal

pub loop-config-preserved : goal.loop-config-preserved
loop-config-preserved g c =
    let old = append_known (g.T.Sink.held c.args.sink.now) c.args.buffer.now.items in
    let mid = append_known (g.T.Sink.held c.loop-config.sink) c.loop-config.buffer.items in
    let new = append_known (g.T.Sink.held c.write_config.new.sink) c.write_config.new.buffer.items in
    record {
      sent = line_sent config_line c.args.configs.now c.loop-config.config-index old mid new
          c.config-item.result c.config-item.is c.loop-config-test.true c.loop-config.invariant.sent c.in_ok-write_config.ensures.written;
      faults = c.in_ok-write_config.ensures.cause.caused ∙ c.loop-config.invariant.faults;
      longer = omega (arith, c.loop-config.invariant.longer, c.write_config.ensures.longer);
      fit = All-more HasRecord c.args.configs.now c.loop-config.config-index c.config-item.result c.loop-config-test.true
          c.loop-config.invariant.fit (subst HasRecord c.config-item.is c.in_ok-write_config.ensures.fits);
    }

pub returns-in_err-write_config-clause-written : goal.returns-in_err-write_config-clause-written
returns-in_err-write_config-clause-written g c =
    let old = append_known (g.T.Sink.held c.args.sink.now) c.args.buffer.now.items in
    let mid = append_known (g.T.Sink.held c.loop-config.sink) c.loop-config.buffer.items in
    let new = append_known (g.T.Sink.held c.write_config.new.sink) c.write_config.new.buffer.items in
    rw (err_from_is_err_and c.from_residual.result c.from_residual.ensures.1).1
    (line_failed config_line c.args.configs.now c.loop-config.config-index old mid new c.config-item.result
    c.config-item.is c.loop-config-test.true c.loop-config.invariant.sent c.in_err-write_config.ensures.written)

pub returns-clause-written : goal.returns-clause-written
returns-clause-written g c =
    let old = append_known (g.T.Sink.held c.args.sink.now) c.args.buffer.now.items in
    let mid = append_known (g.T.Sink.held c.loop-config.sink) c.loop-config.buffer.items in
    lines_sent config_line c.args.configs.now c.loop-config.config-index old mid
    c.loop-config-test.false c.loop-config.invariant.sent

pub returns-clause-fit : goal.returns-clause-fit
returns-clause-fit g c =
    subst (All HasRecord) (take_all c.loop-config.config-index c.args.configs.now c.loop-config-test.false) c.loop-config.invariant.fit
