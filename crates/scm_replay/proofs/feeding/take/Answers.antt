use Rattle.std.proofs.Common.{◌++◌, ◌+◌, arith, length, refl, subst, sym, take}
use Rattle.std.proofs.lemmas.List.{take_all}
use Rattle.std.proofs.lemmas.Result.{err_from_is_err_and}
use Rattle.scm_replay.specs.Along.{GoesOn, Point, point}
use Rattle.scm_replay.specs.Replay.{IsOneLine}
use Rattle.scm_replay.proofs.Lines.{more_bytes}
use Rattle.scm_replay.proofs.Stretches.{bytes_lost, line_lost, line_more}
use Rattle.scm_replay.proofs.feeding.take.Goals as goal

pub returns-in_err-hold-in-Some-clause-fed : goal.returns-in_err-hold-in-Some-clause-fed
returns-in_err-hold-in-Some-clause-fed g c =
    let p = err_from_is_err_and c.from_residual.result c.from_residual.ensures.1 in
    let a : Point = point c.args.manager.now c.args.reading.now (g.O.Sink.held c.args.output.now) in
    let b : Point = point c.args.manager.now c.hold.new.reading (g.O.Sink.held c.args.output.now) in
    let lost = c.in_err-hold-in-Some.ensures.err in
    rw (p.1, p.2, lost.0) (bytes_lost c.args.manager.now.limits a b c.args.bytes.now c.requires.some c.requires.clean
    (subst IsOneLine (sym lost.1) c.requires.clean) refl refl)

pub end_line-requires-clause-clean : goal.end_line-requires-clause-clean
end_line-requires-clause-clean g c =
    let a : Point = point c.args.manager.now c.args.reading.now (g.O.Sink.held c.args.output.now) in
    let m : Point = point c.args.manager.now c.hold.new.reading (g.O.Sink.held c.args.output.now) in
    (more_bytes c.args.manager.now.limits a m (take c.in-Some.place c.args.bytes.now) c.requires.clean c.in-Some.ensures.feed.1 refl refl
    c.in_ok-hold-in-Some.ensures.number c.in_ok-hold-in-Some.ensures.ok).clean

pub returns-in_err-end_line-in-Some-clause-fed : goal.returns-in_err-end_line-in-Some-clause-fed
returns-in_err-end_line-in-Some-clause-fed g c =
    let p = err_from_is_err_and c.from_residual-in_err-end_line-in-Some.result c.from_residual-in_err-end_line-in-Some.ensures.1 in
    let l = c.args.manager.now.limits in
    let a : Point = point c.args.manager.now c.args.reading.now (g.O.Sink.held c.args.output.now) in
    let m : Point = point c.args.manager.now c.hold.new.reading (g.O.Sink.held c.args.output.now) in
    let b : Point = point c.end_line.new.manager c.end_line.new.reading (g.O.Sink.held c.end_line.new.output) in
    let on = more_bytes l a m (take c.in-Some.place c.args.bytes.now) c.requires.clean c.in-Some.ensures.feed.1 refl refl
    c.in_ok-hold-in-Some.ensures.number c.in_ok-hold-in-Some.ensures.ok in
    rw (p.1, p.2) (line_lost l c.args.bytes.now c.in-Some.place a m b c.in_err-end_line-in-Some.field-0.0 c.in-Some.ensures.bound
    c.in-Some.ensures.feed.0 on c.in_err-end_line-in-Some.ensures.fed)

pub returns-in_err-hold-in-None-clause-fed : goal.returns-in_err-hold-in-None-clause-fed
returns-in_err-hold-in-None-clause-fed g c =
    let p = err_from_is_err_and c.from_residual-in_err-hold-in-None.result c.from_residual-in_err-hold-in-None.ensures.1 in
    let a : Point = point c.args.manager.now c.args.reading.now (g.O.Sink.held c.args.output.now) in
    let b : Point = point c.args.manager.now c.hold-in-None.new.reading (g.O.Sink.held c.args.output.now) in
    let lost = c.in_err-hold-in-None.ensures.err in
    rw (p.1, p.2, lost.0) (bytes_lost c.args.manager.now.limits a b c.args.bytes.now c.requires.some c.requires.clean
    (subst IsOneLine (sym lost.1) c.requires.clean) refl refl)

pub returns-in_ok-hold-in-None-clause-fed : goal.returns-in_ok-hold-in-None-clause-fed
returns-in_ok-hold-in-None-clause-fed g c =
    let a : Point = point c.args.manager.now c.args.reading.now (g.O.Sink.held c.args.output.now) in
    let b : Point = point c.args.manager.now c.hold-in-None.new.reading (g.O.Sink.held c.args.output.now) in
    let bytes = c.args.bytes.now in
    let on = more_bytes c.args.manager.now.limits a b bytes c.requires.clean c.in-None.ensures.none refl refl
    c.in_ok-hold-in-None.ensures.number c.in_ok-hold-in-None.ensures.ok in (
      c.requires.some,
      omega arith,
      subst (λ xs. GoesOn c.args.manager.now.limits xs a b)
          (sym (take_all (length bytes) bytes (omega arith))) on,
    )
