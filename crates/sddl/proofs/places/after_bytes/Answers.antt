use Rattle.std.proofs.lemmas.Result.{err_from_is_err_and}
use Rattle.sddl.specs.Reading.{after_bytes}
use Rattle.sddl.proofs.Loops.{bytes_end, bytes_fail, bytes_on}
use Rattle.sddl.proofs.places.after_bytes.Goals as goal

pub returns-in_err-at-clause-read : goal.returns-in_err-at-clause-read
returns-in_err-at-clause-read c =
    let p = err_from_is_err_and c.from_residual.result c.from_residual.ensures.1 in
    rw (p.1, p.2) (bytes_fail c.in_err-at.field-0.0 c.args.bytes.now c.args.text.now c.loop-byte.byte-index c.loop-byte.at 0
    (after_bytes c.args.bytes.now c.args.text.now c.args.place) c.loop-byte-test.true c.in_err-at.ensures.read c.loop-byte.invariant.read)

pub loop-byte-preserved : goal.loop-byte-preserved
loop-byte-preserved c = record {
  read = bytes_on c.args.bytes.now c.args.text.now c.loop-byte.byte-index c.loop-byte.at c.in_ok-at.at 0
      (after_bytes c.args.bytes.now c.args.text.now c.args.place) c.loop-byte-test.true c.in_ok-at.ensures.read c.loop-byte.invariant.read;
  within = c.in_ok-at.ensures.within;
}

pub returns-clause-read : goal.returns-clause-read
returns-clause-read c =
    bytes_end c.args.bytes.now c.args.text.now c.loop-byte.byte-index c.loop-byte.at
    (after_bytes c.args.bytes.now c.args.text.now c.args.place) c.loop-byte-test.false c.loop-byte.invariant.read
