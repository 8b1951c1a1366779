use Rattle.std.proofs.Common.{arith, length, refl, subst, sym, take}
use Rattle.std.proofs.lemmas.List.{take_all}
use Rattle.std.proofs.lemmas.Result.{err_from_is_err_and}
use Rattle.trail_audit.specs.Along.{GoesOn, Point, point}
use Rattle.trail_audit.proofs.Stretches.{line_lost, more_bytes}
use Rattle.trail_audit.proofs.feeding.take.Goals as goal

pub returns-in_err-end_line-in-Some-clause-fed : goal.returns-in_err-end_line-in-Some-clause-fed
returns-in_err-end_line-in-Some-clause-fed c =
    let p = err_from_is_err_and c.from_residual-in_err-end_line-in-Some.result c.from_residual-in_err-end_line-in-Some.ensures.1 in
    let a : Point = point c.args.auditor.now c.args.reading.now in
    let m : Point = point c.args.auditor.now c.hold.new.reading in
    let on = more_bytes a m (take c.in-Some.place c.args.bytes.now) c.requires.may.clean c.in-Some.ensures.feed.1 refl
    c.in_ok-hold-in-Some.ensures.number c.in_ok-hold-in-Some.ensures.ok in
    rw (p.1, p.2) (line_lost c.args.bytes.now c.in-Some.place a m c.in_err-end_line-in-Some.field-0.0 c.in-Some.ensures.bound
    c.in-Some.ensures.feed.0 on c.in_err-end_line-in-Some.ensures.fed)

pub returns-in_ok-hold-in-None-clause-fed : goal.returns-in_ok-hold-in-None-clause-fed
returns-in_ok-hold-in-None-clause-fed c =
    let a : Point = point c.args.auditor.now c.args.reading.now in
    let b : Point = point c.args.auditor.now c.hold-in-None.new.reading in
    let bytes = c.args.bytes.now in
    let on = more_bytes a b bytes c.requires.may.clean c.in-None.ensures.none refl c.in_ok-hold-in-None.ensures.number
    c.in_ok-hold-in-None.ensures.ok in (
      c.requires.some,
      omega arith,
      subst (λ xs. GoesOn xs a b) (sym (take_all (length bytes) bytes (omega arith))) on,
    )
