use Rattle.std.proofs.Common.{sym, ◌∙◌, arith, length, ◌/◌}
use Rattle.rpc_session.proofs.Steps.{offers_none, offers_hit, offers_miss}
use Rattle.rpc_session.proofs.contexts.offers_ndr.Goals as goal

pub returns-then-is_syntax : goal.returns-then-is_syntax
returns-then-is_syntax c =
    offers_hit (length c.args.syntaxes.now / 20) c.loop.counter c.loop.rest.now _ c.loop-test.true c.split_at.ensures.front
    (sym c.if-is_syntax.true ∙ c.is_syntax.ensures) ∙ c.loop.invariant.0

pub loop-preserved : goal.loop-preserved
loop-preserved c = (
  offers_miss (length c.args.syntaxes.now / 20) c.loop.counter c.loop.rest.now _ _ c.loop-test.true c.split_at.ensures.front
      c.split_at.ensures.back (sym c.if-is_syntax.false ∙ c.is_syntax.ensures) ∙ c.loop.invariant.0,
  omega arith,
  c.loop.invariant.2,
)

pub returns : goal.returns
returns c = sym (offers_none (length c.args.syntaxes.now / 20) c.loop.counter c.loop.rest.now c.loop-test.false) ∙ c.loop.invariant.0
