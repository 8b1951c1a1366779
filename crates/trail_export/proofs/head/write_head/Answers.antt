use Rattle.std.proofs.Common.{All, map, subst}
use Rattle.std.proofs.lemmas.Result.{err_from_is_err_and, on_ok_weaker}
use Rattle.outside.specs.Written.{AppendsFront, Writes}
use Rattle.std.specs.Io.KnownBytes.{Appends, append_known}
use Rattle.service_record.specs.Spelling.{IsUnit}
use Rattle.opening_lines.specs.Heads.{HasRecord, config_line, group_line}
use Rattle.trail_text.specs.Histories.{ended}
use Rattle.trail_export.proofs.Sinking.{sent_last}
use Rattle.trail_export.proofs.Parts.{configs_text, groups_failed, groups_sent, head_text, limits_failed, moment_failed}
use Rattle.trail_export.proofs.head.write_head.Goals as goal

pub returns-in_err-write_limits-clause-written : goal.returns-in_err-write_limits-clause-written
returns-in_err-write_limits-clause-written g c =
    let old = append_known (g.T.Sink.held c.args.sink.now) c.args.buffer.now.items in
    let one = append_known (g.T.Sink.held c.write_limits.new.sink) c.write_limits.new.buffer.items in
    rw (err_from_is_err_and c.from_residual.result c.from_residual.ensures.1).1
    (limits_failed c.args.opening.now old one c.in_err-write_limits.ensures.written)

pub returns-in_err-write_moment-clause-written : goal.returns-in_err-write_moment-clause-written
returns-in_err-write_moment-clause-written g c =
    let old = append_known (g.T.Sink.held c.args.sink.now) c.args.buffer.now.items in
    let one = append_known (g.T.Sink.held c.write_limits.new.sink) c.write_limits.new.buffer.items in
    let two = append_known (g.T.Sink.held c.write_moment.new.sink) c.write_moment.new.buffer.items in
    rw (err_from_is_err_and c.from_residual-in_err-write_moment.result c.from_residual-in_err-write_moment.ensures.1).1
    (moment_failed c.args.opening.now old one two c.in_ok-write_limits.ensures.written c.in_err-write_moment.ensures.written)

pub returns-in_err-write_groups-clause-written : goal.returns-in_err-write_groups-clause-written
returns-in_err-write_groups-clause-written g c =
    let old = append_known (g.T.Sink.held c.args.sink.now) c.args.buffer.now.items in
    let one = append_known (g.T.Sink.held c.write_limits.new.sink) c.write_limits.new.buffer.items in
    let two = append_known (g.T.Sink.held c.write_moment.new.sink) c.write_moment.new.buffer.items in
    let three = append_known (g.T.Sink.held c.write_groups.new.sink) c.write_groups.new.buffer.items in
    rw (err_from_is_err_and c.from_residual-in_err-write_groups.result c.from_residual-in_err-write_groups.ensures.1).1
    (groups_failed c.args.opening.now old one two three c.in_ok-write_limits.ensures.written
    c.in_ok-write_moment.ensures.written
    (subst (λ groups. AppendsFront two three
    (ended (map group_line groups))) c.as_slice.ensures c.in_err-write_groups.ensures.written))

pub returns-clause-written : goal.returns-clause-written
returns-clause-written g c =
    let old = append_known (g.T.Sink.held c.args.sink.now) c.args.buffer.now.items in
    let one = append_known (g.T.Sink.held c.write_limits.new.sink) c.write_limits.new.buffer.items in
    let two = append_known (g.T.Sink.held c.write_moment.new.sink) c.write_moment.new.buffer.items in
    let three = append_known (g.T.Sink.held c.write_groups.new.sink) c.write_groups.new.buffer.items in
    let new = append_known (g.T.Sink.held c.write_configs.new.sink) c.write_configs.new.buffer.items in
    sent_last old three new c.write_configs.result (head_text c.args.opening.now)
    (configs_text c.args.opening.now)
    (groups_sent c.args.opening.now old one
    two three c.in_ok-write_limits.ensures.written c.in_ok-write_moment.ensures.written
    (subst (λ groups. Appends two three (ended (map group_line groups))) c.as_slice.ensures
    c.in_ok-write_groups.ensures.written))
    (subst (λ configs. Writes three new c.write_configs.result (ended (map config_line configs))) c.as_slice-2.ensures
    c.write_configs.ensures.written)

pub returns-clause-fitting : goal.returns-clause-fitting
returns-clause-fitting g c =
    on_ok_weaker c.write_configs.result (λ configs. record {
      moment = c.write_moment.ensures.fits;
      groups = subst (All (All IsUnit)) c.as_slice.ensures c.in_ok-write_groups.ensures.fit;
      configs = subst (All HasRecord) c.as_slice-2.ensures configs;
    }) c.write_configs.ensures.fit
