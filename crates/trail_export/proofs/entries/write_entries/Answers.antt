use Rattle.std.proofs.Common.{◌∙◌, refl, arith}
use Rattle.std.specs.Io.KnownBytes.{append_known}
use Rattle.std.proofs.lemmas.Result.{err_from_is_err_and}
use Rattle.trail_text.specs.Histories.{ended, entry_lines}
use Rattle.trail_export.proofs.Parts.{all_entries_sent, can_count, entry_failed, entry_sent, may_next, under_way, way_ends}
use Rattle.trail_export.proofs.entries.write_entries.Goals as goal

pub loop-moment-init : goal.loop-moment-init
loop-moment-init g c =
    let old = append_known (g.T.Sink.held c.args.sink.now) c.args.buffer.now.items in
    record {
      way = under_way old c.args.manager.now c.args.trail.now.entries c.entries-entries.result
          c.entries-entries.ensures.entries c.requires.legal c.requires.steps;
      faults = refl;
      longer = omega arith;
    }

pub returns-in_err-moment-clause-written : goal.returns-in_err-moment-clause-written
returns-in_err-moment-clause-written g c =
    let old = append_known (g.T.Sink.held c.args.sink.now) c.args.buffer.now.items in
    let mid = append_known (g.T.Sink.held c.loop-moment.sink) c.loop-moment.buffer.items in
    let h = c.args.trail.now.entries in
    let whole = ended (entry_lines c.args.manager.now.limits c.args.manager.now.flat h) in
    rw (err_from_is_err_and c.from_residual.result c.from_residual.ensures.1).1
    (way_ends whole old mid c.loop-moment.manager c.loop-moment.entries
    c.loop-moment.invariant.way)

pub write_entry-written-requires-clause-may : goal.write_entry-written-requires-clause-may
write_entry-written-requires-clause-may g c =
    let old = append_known (g.T.Sink.held c.args.sink.now) c.args.buffer.now.items in
    let mid = append_known (g.T.Sink.held c.loop-moment.sink) c.loop-moment.buffer.items in
    let taken = rw c.in-Some.is at c.in_ok-moment.ensures.ok in
    let whole = ended (entry_lines c.args.manager.now.limits c.args.manager.now.flat c.args.trail.now.entries) in
    may_next whole old mid c.loop-moment.manager c.loop-moment.entries
    (c.in-Some.moment, c.in-Some.step) c.next.new.self taken c.loop-moment.invariant.way

pub write_entry-written-requires-clause-steps : goal.write_entry-written-requires-clause-steps
write_entry-written-requires-clause-steps g c =
    let old = append_known (g.T.Sink.held c.args.sink.now) c.args.buffer.now.items in
    let mid = append_known (g.T.Sink.held c.loop-moment.sink) c.loop-moment.buffer.items in
    let taken = rw c.in-Some.is at c.in_ok-moment.ensures.ok in
    let whole = ended (entry_lines c.args.manager.now.limits c.args.manager.now.flat c.args.trail.now.entries) in
    can_count whole old mid c.loop-moment.manager c.loop-moment.entries
    (c.in-Some.moment, c.in-Some.step) c.next.new.self taken c.loop-moment.invariant.way

pub returns-in_err-written-clause-written : goal.returns-in_err-written-clause-written
returns-in_err-written-clause-written g c =
    let old = append_known (g.T.Sink.held c.args.sink.now) c.args.buffer.now.items in
    let mid = append_known (g.T.Sink.held c.loop-moment.sink) c.loop-moment.buffer.items in
    let new = append_known (g.T.Sink.held c.write_entry-written.new.sink) c.write_entry-written.new.buffer.items in
    let taken = rw c.in-Some.is at c.in_ok-moment.ensures.ok in
    let whole = ended (entry_lines c.args.manager.now.limits c.args.manager.now.flat c.args.trail.now.entries) in
    rw (err_from_is_err_and c.from_residual-in_err-written.result c.from_residual-in_err-written.ensures.1).1
    (entry_failed whole old mid c.loop-moment.manager c.loop-moment.entries
    (c.in-Some.moment, c.in-Some.step) c.next.new.self taken c.loop-moment.invariant.way new
    c.in_err-written.ensures.written)

pub loop-moment-preserved : goal.loop-moment-preserved
loop-moment-preserved g c =
    let old = append_known (g.T.Sink.held c.args.sink.now) c.args.buffer.now.items in
    let mid = append_known (g.T.Sink.held c.loop-moment.sink) c.loop-moment.buffer.items in
    let new = append_known (g.T.Sink.held c.write_entry-written.new.sink) c.write_entry-written.new.buffer.items in
    let taken = rw c.in-Some.is at c.in_ok-moment.ensures.ok in
    let whole = ended (entry_lines c.args.manager.now.limits c.args.manager.now.flat c.args.trail.now.entries) in
    record {
      way = entry_sent whole old mid c.loop-moment.manager
          c.loop-moment.entries (c.in-Some.moment, c.in-Some.step) c.next.new.self taken c.loop-moment.invariant.way
          new c.write_entry-written.new.manager c.in_ok-written.ensures.stepped
          c.in_ok-written.ensures.written;
      faults = c.in_ok-written.ensures.cause.caused ∙ c.loop-moment.invariant.faults;
      longer = omega (arith, c.loop-moment.invariant.longer, c.write_entry-written.ensures.longer);
    }

pub returns-clause-written : goal.returns-clause-written
returns-clause-written g c =
    let old = append_known (g.T.Sink.held c.args.sink.now) c.args.buffer.now.items in
    let mid = append_known (g.T.Sink.held c.loop-moment.sink) c.loop-moment.buffer.items in
    let none = rw c.in_default.is at c.in_ok-moment.ensures.ok in
    let whole = ended (entry_lines c.args.manager.now.limits c.args.manager.now.flat c.args.trail.now.entries) in
    all_entries_sent whole old mid c.loop-moment.manager
    c.loop-moment.entries none.0 c.loop-moment.invariant.way
