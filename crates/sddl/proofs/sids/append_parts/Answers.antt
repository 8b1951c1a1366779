use Rattle.std.proofs.Common.{◌∙◌, ◌-◌, sym}
use Rattle.sddl.specs.Reading.{onto, parts_from}
use Rattle.sddl.proofs.Loops.{parts_end, parts_on}
use Rattle.sddl.proofs.sids.append_parts.Goals as goal

pub returns-then-not-has_byte-clause-read : goal.returns-then-not-has_byte-clause-read
returns-then-not-has_byte-clause-read c =
    parts_end c.loop.parts c.args.text.now (15 - c.loop.counter) c.loop.at
    (onto c.args.parts.now (parts_from 15 c.args.text.now c.args.place))
    (sym c.has_byte.ensures.value ∙ c.if-not-has_byte.true) c.loop.invariant.read

pub loop-preserved : goal.loop-preserved
loop-preserved c =
    let read = c.in_ok-at.ensures.read in
    record {
      read = rw read.2 (parts_on c.loop.parts c.args.text.now c.loop.counter c.loop.at c.in_ok-at.at read.0
          (onto c.args.parts.now (parts_from 15 c.args.text.now c.args.place)) c.loop-test.true
          (sym c.has_byte.ensures.value ∙ c.if-not-has_byte.false) read.1 c.loop.invariant.read);
      within = c.in_ok-at.ensures.within;
    }

pub returns-else-has_byte-clause-read : goal.returns-else-has_byte-clause-read
returns-else-has_byte-clause-read c =
    parts_end c.loop.parts c.args.text.now (15 - c.loop.counter) c.loop.at
    (onto c.args.parts.now (parts_from 15 c.args.text.now c.args.place))
    (sym c.has_byte-2.ensures.value ∙ c.if-has_byte.false) c.loop.invariant.read
