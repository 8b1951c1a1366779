use Rattle.std.proofs.Common.{sym, ap, ◌∙◌}
use Rattle.std.specs.Prelude.{option_map}
use Rattle.rpc_pdu.specs.Contexts.{seen_context, is_spent, are_contexts}
use Rattle.rpc_pdu.proofs.Steps.{after_read, none_left, no_more}
use Rattle.rpc_pdu.proofs.reading.are_contexts.Goals as goal

pub returns-in_default : goal.returns-in_default
unfolding are_contexts
returns-in_default c =
    ap is_spent (sym (none_left c.args.count c.loop.counter c.loop.rest.now c.loop-test.true
    (ap (option_map seen_context) (sym c.in_default.is) ∙ c.read_context.ensures)) ∙ c.loop.invariant)

pub loop-preserved : goal.loop-preserved
loop-preserved c =
    after_read c.args.count c.loop.counter c.loop.rest.now (c.in-Some.field-0-0, c.in-Some.after) c.loop-test.true
    (ap (option_map seen_context) (sym c.in-Some.is) ∙ c.read_context.ensures) ∙ c.loop.invariant

pub returns : goal.returns
unfolding are_contexts
returns c = c.is_empty.ensures ∙ ap is_spent (sym (no_more c.args.count c.loop.counter c.loop.rest.now c.loop-test.false)
    ∙ c.loop.invariant)
