use Rattle.std.proofs.Common.{◌≡◌, ◌+◌, ◌≤◌, ◌∙◌, drop, length, sym, ap, subst, Some}
use Rattle.std.specs.Prelude.{IfSome}
use Rattle.std.proofs.lemmas.List.{drop-drop}
use Rattle.sddl.specs.Reading.{bits_from, front_bit}
use Rattle.sddl.proofs.Bits.{bits_more, ended}
use Rattle.sddl.proofs.reading.bits_at.Goals as goal

pub loop-bit-preserved : goal.loop-bit-preserved
loop-bit-preserved c =
    let text = c.args.text.now in
    let table = c.args.table.now in
    let found : front_bit table (drop c.loop-bit.at text) ≡ Some c.in-Some.bit = sym c.front_bit.ensures.value ∙ c.in-Some.is in
    record {
      read = sym (bits_more table c.loop-bit.bits c.loop-bit.at c.in-Some.bit (drop c.loop-bit.at text) found
          ∙ ap (bits_from table _ _) (drop-drop 2 c.loop-bit.at text)) ∙ c.loop-bit.invariant.read;
      within = subst (λ o. IfSome o (λ _. c.loop-bit.at + 2 ≤ length text)) c.in-Some.is c.front_bit.ensures.within;
    }

pub returns-clause-value : goal.returns-clause-value
returns-clause-value c =
    let text = c.args.text.now in
    sym (ended c.args.table.now c.loop-bit.bits c.loop-bit.at (drop c.loop-bit.at text) (sym c.front_bit.ensures.value ∙ c.in_default.is))
    ∙ c.loop-bit.invariant.read
