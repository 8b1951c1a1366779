use Rattle.std.proofs.Common.{◌++◌, ◌∷◌, [], subst}
use Rattle.std.proofs.lemmas.Result.{err_from_is_err_and}
use Rattle.std.specs.Io.KnownBytes.{Appends, append_known}
use Rattle.outside.specs.Written.{AppendsFront, Writes}
use Rattle.scm_model.specs.Entries.{Entry}
use Rattle.scm_lines.specs.Entries.{line_of}
use Rattle.trail_text.specs.Histories.{answer_line}
use Rattle.trail_export.specs.Exports.{entry_text}
use Rattle.trail_export.proofs.Sinking.{front_of, nothing_of, on_ok, whole_of, written_then}
use Rattle.trail_export.proofs.entries.write_entry.Goals as goal

pub returns-in_err-put_entry-clause-written : goal.returns-in_err-put_entry-clause-written
returns-in_err-put_entry-clause-written g c =
    let old = append_known (g.T.Sink.held c.args.sink.now) c.args.buffer.now.items in
    rw (err_from_is_err_and c.from_residual.result c.from_residual.ensures.1).1
    (nothing_of old
    (entry_text c.args.manager.now.limits c.args.manager.now.flat (c.args.moment, c.args.step.now)))

pub returns-in_err-write_line-clause-written : goal.returns-in_err-write_line-clause-written
returns-in_err-write_line-clause-written g c =
    let e : Entry = (c.args.moment, c.args.step.now) in
    let old = append_known (g.T.Sink.held c.args.sink.now) c.args.buffer.now.items in
    let mid = append_known (g.T.Sink.held c.write_line.new.sink) c.write_line.new.buffer.items in
    rw (err_from_is_err_and c.from_residual-in_err-write_line.result c.from_residual-in_err-write_line.ensures.1).1
    (front_of old mid (line_of e ++ 10 ∷ []) (answer_line c.args.manager.now.limits c.args.manager.now.flat e ++ 10 ∷ [])
    (subst (λ text. AppendsFront old mid (text ++ 10 ∷ [])) c.in_ok-put_entry.ensures c.in_err-write_line.ensures.written))

pub returns-in_err-make_entry-clause-written : goal.returns-in_err-make_entry-clause-written
returns-in_err-make_entry-clause-written g c =
    let e : Entry = (c.args.moment, c.args.step.now) in
    let old = append_known (g.T.Sink.held c.args.sink.now) c.args.buffer.now.items in
    let mid = append_known (g.T.Sink.held c.write_line.new.sink) c.write_line.new.buffer.items in
    rw (err_from_is_err_and c.from_residual-in_err-make_entry.result c.from_residual-in_err-make_entry.ensures.1).1
    (whole_of old mid (line_of e ++ 10 ∷ []) (answer_line c.args.manager.now.limits c.args.manager.now.flat e ++ 10 ∷ [])
    (subst (λ text. Appends old mid (text ++ 10 ∷ [])) c.in_ok-put_entry.ensures c.in_ok-write_line.ensures.written))

pub returns-clause-written : goal.returns-clause-written
returns-clause-written g c =
    let e : Entry = (c.args.moment, c.args.step.now) in
    let old = append_known (g.T.Sink.held c.args.sink.now) c.args.buffer.now.items in
    let mid = append_known (g.T.Sink.held c.write_line.new.sink) c.write_line.new.buffer.items in
    let new = append_known (g.T.Sink.held c.write_line-2.new.sink) c.write_line-2.new.buffer.items in
    written_then old mid new c.write_line-2.result (line_of e ++ 10 ∷ [])
    (answer_line c.args.manager.now.limits c.args.manager.now.flat e ++ 10 ∷ [])
    (subst (λ text. Appends old mid (text ++ 10 ∷ [])) c.in_ok-put_entry.ensures c.in_ok-write_line.ensures.written)
    (subst (λ text. Writes mid new c.write_line-2.result (text ++ 10 ∷ [])) c.in_ok-make_entry.ensures.line
    c.write_line-2.ensures.written)

pub returns-clause-stepped : goal.returns-clause-stepped
returns-clause-stepped g c = on_ok c.write_line-2.result c.in_ok-make_entry.ensures.stepped
