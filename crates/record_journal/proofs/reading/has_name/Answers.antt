use Rattle.std.proofs.Common.{◌∙◌, ◌==◌, ap, arith}
use Rattle.std.specs.List.{list_any}
use Rattle.record_journal.proofs.Names.{long_text, no_text, short_text}
use Rattle.record_journal.proofs.reading.has_name.Goals as goal

pub returns-in_default : goal.returns-in_default
returns-in_default c = no_text c.args.body.now c.in_default.ensures

pub returns-then-rest-count : goal.returns-then-rest-count
returns-then-rest-count c = short_text c.args.body.now c.in-Some.rest.now c.in-Some.count c.in-Some.ensures c.if-rest-count.true

pub returns : goal.returns
returns c =
    long_text c.args.body.now c.in-Some.rest.now c.in-Some.count _ c.in-Some.ensures (omega (arith, c.if-rest-count.false))
    (c.has_zero-has_zero.ensures.value ∙ ap (list_any (λ u. u == 0)) (c.as_slice.ensures.value ∙ c.in-Ok.ensures))
