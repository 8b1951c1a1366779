use Rattle.std.proofs.Common.{◌++◌, ◌∷◌, [], subst}
use Rattle.std.specs.Io.KnownBytes.{append_known}
use Rattle.std.proofs.lemmas.Result.{err_from_is_err_and}
use Rattle.outside.specs.Written.{Writes}
use Rattle.opening_lines.specs.Heads.{config_line}
use Rattle.trail_export.proofs.Sinking.{nothing_of, on_ok}
use Rattle.trail_export.proofs.head.write_config.Goals as goal

pub returns-in_err-put_config-clause-written : goal.returns-in_err-put_config-clause-written
returns-in_err-put_config-clause-written g c =
    let old = append_known (g.T.Sink.held c.args.sink.now) c.args.buffer.now.items in
    rw (err_from_is_err_and c.from_residual.result c.from_residual.ensures.1).1
    (nothing_of old (config_line c.args.config.now ++ 10 ∷ []))

pub returns-clause-written : goal.returns-clause-written
returns-clause-written g c =
    let old = append_known (g.T.Sink.held c.args.sink.now) c.args.buffer.now.items in
    let new = append_known (g.T.Sink.held c.write_line.new.sink) c.write_line.new.buffer.items in
    subst (λ text. Writes old new c.write_line.result (text ++ 10 ∷ []))
    c.in_ok-put_config.ensures.line c.write_line.ensures.written

pub returns-clause-fits : goal.returns-clause-fits
returns-clause-fits g c = on_ok c.write_line.result c.in_ok-put_config.ensures.has_record
