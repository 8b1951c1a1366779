use Rattle.std.proofs.Common.{subst, sym}
use Rattle.std.specs.Io.KnownBytes.{append_known}
use Rattle.std.proofs.lemmas.Result.{err_from_is_err_and}
use Rattle.outside.specs.Written.{AppendsFront, Writes}
use Rattle.scm_model.specs.declared.flat.Flat.{Flat}
use Rattle.scm_model.specs.declared.flat.Limits.{Limits}
use Rattle.scm_rules.specs.Runs.{IsLegal}
use Rattle.opening_lines.specs.Heads.{head_lines}
use Rattle.trail_text.specs.Histories.{ended, entry_lines, first_of}
use Rattle.trail_export.proofs.Sinking.{front_of, on_ok, written_then}
use Rattle.trail_export.proofs.Parts.{told_is}
use Rattle.trail_export.proofs.exporting.write_told.Goals as goal

pub returns-in_err-write_head-clause-written : goal.returns-in_err-write_head-clause-written
returns-in_err-write_head-clause-written g c =
    let o = c.args.opening.now in
    let h = c.args.trail.now.entries in
    let old = append_known (g.T.Sink.held c.args.sink.now) c.args.buffer.now.items in
    let new = append_known (g.T.Sink.held c.write_head.new.sink) c.write_head.new.buffer.items in
    rw (err_from_is_err_and c.from_residual.result c.from_residual.ensures.1).1
    (subst (AppendsFront old new) (sym (told_is o h))
    (front_of old new (ended (head_lines o)) (ended (entry_lines o.limits (first_of o) h)) c.in_err-write_head.ensures.written))

pub write_entries-requires-clause-legal : goal.write_entries-requires-clause-legal
write_entries-requires-clause-legal g c =
    let h = c.args.trail.now.entries in
    subst (λ (l : Limits). IsLegal l c.args.manager.now.flat h) (sym c.requires.limits)
    (subst (λ (f : Flat). IsLegal c.args.opening.now.limits f h) (sym c.requires.flat) c.requires.legal)

pub returns-clause-written : goal.returns-clause-written
returns-clause-written g c =
    let o = c.args.opening.now in
    let h = c.args.trail.now.entries in
    let old = append_known (g.T.Sink.held c.args.sink.now) c.args.buffer.now.items in
    let mid = append_known (g.T.Sink.held c.write_head.new.sink) c.write_head.new.buffer.items in
    let new = append_known (g.T.Sink.held c.write_entries.new.sink) c.write_entries.new.buffer.items in
    let rest = subst (λ (l : Limits). Writes mid new c.write_entries.result (ended (entry_lines l (first_of o) h))) c.requires.limits
    (subst (λ (f : Flat). Writes mid new c.write_entries.result (ended (entry_lines c.args.manager.now.limits f h))) c.requires.flat
    c.write_entries.ensures.written) in
    subst (Writes old new c.write_entries.result) (sym (told_is o h))
    (written_then old mid new c.write_entries.result (ended (head_lines o)) (ended (entry_lines o.limits (first_of o) h))
    c.in_ok-write_head.ensures.written rest)

pub returns-clause-coded : goal.returns-clause-coded
returns-clause-coded g c = on_ok c.write_entries.result c.write_entries.ensures.coded

pub returns-clause-fitting : goal.returns-clause-fitting
returns-clause-fitting g c = on_ok c.write_entries.result c.in_ok-write_head.ensures.fitting
