use Rattle.std.proofs.Common.{sym, ap, ◌∙◌, ◌-◌, ◌+◌, ◌≡◌, arith, length, subst, set}
use Rattle.std.specs.Prelude.{option_map}
use Rattle.std.proofs.lemmas.List.{length-set}
use Rattle.rpc_pdu.specs.Contexts.{contexts_of, seen_context}
use Rattle.rpc_session.specs.Contexts.{as_value, context_answer, accepted_by, listed, AreBelow}
use Rattle.rpc_session.proofs.Steps.{contexts_end, contexts_none, contexts_next, nothing_known, known_next, below_head, below_tail, entered}
use Rattle.rpc_session.proofs.known.enter.Goals as goal

pub index_mut-requires : goal.index_mut-requires
index_mut-requires c =
    let list = contexts_of (c.args.count - c.loop.counter) c.loop.rest.now in
    let rest = contexts_of (c.args.count - (c.loop.counter + 1)) c.in-Some.after.now in
    let is = contexts_next c.args.count c.loop.counter c.loop.rest.now (c.in-Some.context, c.in-Some.after) c.loop-test.true
    (ap (option_map seen_context) (sym c.in-Some.is) ∙ c.read_context.ensures) in
    let low = below_head (length c.loop.table.items) (as_value c.in-Some.context) list rest is c.loop.invariant.1 in
    omega (arith, low, c.from.ensures, c.loop.table.ok)

pub loop-preserved : goal.loop-preserved
loop-preserved c =
    let list = contexts_of (c.args.count - c.loop.counter) c.loop.rest.now in
    let rest = contexts_of (c.args.count - (c.loop.counter + 1)) c.in-Some.after.now in
    let is = contexts_next c.args.count c.loop.counter c.loop.rest.now (c.in-Some.context, c.in-Some.after) c.loop-test.true
    (ap (option_map seen_context) (sym c.in-Some.is) ∙ c.read_context.ensures) in
    let low = below_head (length c.loop.table.items) (as_value c.in-Some.context) list rest is c.loop.invariant.1 in
    let now : set c.loop.table.items c.from.result c.accepted.result ≡ set c.loop.table.items c.in-Some.context.id
    (accepted_by (context_answer (as_value c.in-Some.context))) =
    ap (λ id. set c.loop.table.items id c.accepted.result) c.from.ensures
    ∙ ap (set c.loop.table.items c.in-Some.context.id) (c.accepted.ensures ∙ ap accepted_by c.answer_of.ensures) in (
      known_next (listed c.loop.table.items) (listed (set c.loop.table.items c.from.result c.accepted.result))
          (as_value c.in-Some.context) list rest is
          (ap listed now ∙ entered c.loop.table.items c.in-Some.context.id (context_answer (as_value c.in-Some.context)) low)
          ∙ c.loop.invariant.0,
      subst (λ n. AreBelow n rest) (sym (length-set c.loop.table.items c.from.result c.accepted.result))
          (below_tail (length c.loop.table.items) (as_value c.in-Some.context) list rest is c.loop.invariant.1),
    )

pub returns-after-loop : goal.returns-after-loop
returns-after-loop c =
    sym (nothing_known (listed c.loop.table.items) _ (contexts_end c.args.count c.loop.counter c.loop.rest.now c.loop-test.false))
    ∙ c.loop.invariant.0

pub returns-in_default : goal.returns-in_default
returns-in_default c =
    sym (nothing_known (listed c.loop.table.items) _ (contexts_none c.args.count c.loop.counter c.loop.rest.now c.loop-test.true
    (ap (option_map seen_context) (sym c.in_default.is) ∙ c.read_context.ensures))) ∙ c.loop.invariant.0
