use Rattle.std.proofs.Common.{◌++◌, ap, ◌∙◌}
use Rattle.sc_words.specs.Asks.{utf16_bytes}
use Rattle.sc_words.proofs.Bytes.{needs_more, needs_end}
use Rattle.sc_words.proofs.asking.needs_bytes.Goals as goal

pub loop-name-preserved : goal.loop-name-preserved
loop-name-preserved c =
    needs_more c.loop-name.bytes c.append_units.new.bytes c.append.new.self c.args.names.now c.name-item.result c.loop-name.name-index
    c.loop-name-test.true c.name-item.is
    (c.in_ok-append_units.ensures ∙ ap (λ us. c.loop-name.bytes ++ utf16_bytes us) c.units.ensures.units) c.in_ok-append.ensures.ok
    ∙ c.loop-name.invariant

pub returns : goal.returns
returns c =
    needs_end c.loop-name.bytes c.append-2.new.self c.args.names.now c.loop-name.name-index c.loop-name-test.false
    c.in_ok-append-2.ensures.ok c.loop-name.invariant
