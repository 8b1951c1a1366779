use Rattle.std.proofs.Common.{arith, ap, length}
use Rattle.std.proofs.lemmas.List.{length-drop}
use Rattle.std.proofs.lemmas.Result.{err_from_is_err_and}
use Rattle.sec_desc.specs.Reading.{aces_in, onto_front}
use Rattle.sec_desc.proofs.Entries.{goes_on, ends, is_done}
use Rattle.sec_desc.proofs.reading.append_aces.Goals as goal

pub returns-in_err-ace-clause-err : goal.returns-in_err-ace-clause-err
returns-in_err-ace-clause-err c =
    let p = err_from_is_err_and c.from_residual.result c.from_residual.ensures.1 in
    rw (p.1, p.2) (ends c.in_err-ace.field-0.0 c.loop.to c.args.to.now c.args.count c.loop.counter c.loop.at c.loop.rest.now
    (aces_in c.args.count c.args.place c.args.bytes.now) c.loop-test.true c.in_err-ace.ensures.read c.loop.invariant.read)

pub loop-preserved : goal.loop-preserved
loop-preserved c = record {
  read = rw (c.in_ok-push_ace.ensures.ok, c.from_place-rest.ensures)
      (goes_on c.loop.to c.args.count c.loop.counter c.loop.at c.loop.rest.now c.in_ok-ace.ace c.in_ok-ace.size
      (onto_front c.args.to.now (aces_in c.args.count c.args.place c.args.bytes.now))
      c.loop-test.true c.in_ok-ace.ensures.read c.loop.invariant.read);
  place = let left = ap length c.from_place-rest.ensures in
      omega (arith, left, length-drop c.in_ok-ace.size c.loop.rest.now, c.in_ok-ace.ensures.within, c.loop.invariant.place);
}

pub returns : goal.returns
returns c = record {
  ok = is_done c.loop.to c.args.count c.loop.counter c.loop.at c.loop.rest.now
      (onto_front c.args.to.now (aces_in c.args.count c.args.place c.args.bytes.now)) c.loop-test.false c.loop.invariant.read;
  err = tt;
}
