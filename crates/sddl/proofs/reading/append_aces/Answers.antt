use Rattle.std.proofs.Common.{◌≡◌, ◌∙◌, ◌-◌, arith, sym}
use Rattle.std.proofs.lemmas.Result.{err_from_is_err_and}
use Rattle.sddl.specs.Reading.{list_at, onto}
use Rattle.sddl.proofs.Loops.{aces_end, aces_fail, aces_full, aces_on}
use Rattle.sddl.proofs.reading.append_aces.Goals as goal

pub returns-then-not-has_byte-clause-read : goal.returns-then-not-has_byte-clause-read
returns-then-not-has_byte-clause-read c =
    aces_end c.loop.aces c.args.text.now (4096 - c.loop.counter) c.loop.size c.loop.at
    (onto c.args.aces.now (list_at c.args.text.now c.args.place))
    (sym c.has_byte.ensures.value ∙ c.if-not-has_byte.true) c.loop.invariant.read

pub returns-in_err-grown-clause-read : goal.returns-in_err-grown-clause-read
returns-in_err-grown-clause-read c =
    let p = err_from_is_err_and c.from_residual.result c.from_residual.ensures.1 in
    rw (p.1, p.2) (aces_fail c.in_err-grown.field-0.0 c.loop.aces c.args.text.now c.loop.counter c.loop.size c.loop.at
    (onto c.args.aces.now (list_at c.args.text.now c.args.place)) c.loop-test.true
    (sym c.has_byte.ensures.value ∙ c.if-not-has_byte.false) c.in_err-grown.ensures.read c.loop.invariant.read)

pub loop-preserved : goal.loop-preserved
loop-preserved c =
    let read = c.in_ok-grown.ensures.read in
    record {
      read = rw (read.2, read.3) (aces_on c.loop.aces c.args.text.now c.loop.counter c.loop.size c.loop.at c.in_ok-grown.end read.0
          (onto c.args.aces.now (list_at c.args.text.now c.args.place)) c.loop-test.true
          (sym c.has_byte.ensures.value ∙ c.if-not-has_byte.false) read.1 c.loop.invariant.read);
      within = c.in_ok-grown.ensures.within.1;
      small = c.in_ok-grown.ensures.within.0;
    }

pub returns-clause-read : goal.returns-clause-read
returns-clause-read c =
    let none : 4096 - c.loop.counter ≡ 0 = omega (arith, c.loop-test.false) in
    aces_full c.loop.aces c.args.text.now c.loop.size c.loop.at (onto c.args.aces.now (list_at c.args.text.now c.args.place))
    (rw none at c.loop.invariant.read)
