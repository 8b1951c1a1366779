use Rattle.std.proofs.Common.{arith}
use Rattle.std.specs.Io.KnownBytes.{append_known}
use Rattle.std.proofs.KnownBytes.{Keeps-refl}
use Rattle.trail_text.specs.Histories.{told}
use Rattle.trail_export.proofs.Pieces.{some_passed}
use Rattle.trail_export.proofs.exporting.write_and_pass.Goals as goal

pub returns-in-Err-WriteFault-clause-written : goal.returns-in-Err-WriteFault-clause-written
returns-in-Err-WriteFault-clause-written g c =
    let mid = g.T.Sink.held c.write_told-written.new.sink in
    let gathered = c.write_told-written.new.buffer.items in
    some_passed (g.T.Sink.held c.args.sink.now) mid mid c.write_told-written.result c.args.buffer.now.items gathered gathered
    (told c.args.opening.now c.args.trail.now.entries) c.requires.none c.write_told-written.ensures.written
    (Keeps-refl (append_known mid gathered)) c.write_told-written.ensures.longer (omega arith)

pub returns-in-Err-clause-written : goal.returns-in-Err-clause-written
returns-in-Err-clause-written g c =
    some_passed (g.T.Sink.held c.args.sink.now) (g.T.Sink.held c.write_told-written.new.sink) (g.T.Sink.held c.pass_on.new.sink)
    c.write_told-written.result c.args.buffer.now.items c.write_told-written.new.buffer.items c.pass_on.new.buffer.items
    (told c.args.opening.now c.args.trail.now.entries) c.requires.none c.write_told-written.ensures.written c.pass_on.ensures.kept
    c.write_told-written.ensures.longer c.pass_on.ensures.longer
