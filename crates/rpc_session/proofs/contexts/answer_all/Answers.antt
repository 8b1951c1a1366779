use Rattle.std.proofs.Common.{sym, ap, ◌∙◌, ◌-◌, ◌+◌, ◌≡◌, ◌++◌, [], arith}
use Rattle.std.specs.Prelude.{option_map}
use Rattle.rpc_pdu.specs.Contexts.{contexts_of, seen_context}
use Rattle.rpc_session.specs.Contexts.{as_value, result_bytes, context_answer}
use Rattle.rpc_session.proofs.Steps.{contexts_end, contexts_none, contexts_next, results_next, no_results, results_bound, below_next}
use Rattle.rpc_session.proofs.Steps.{none_below}
use Rattle.rpc_session.proofs.contexts.answer_all.Goals as goal
use Rattle.rpc_session.proofs.contexts.answer_all.Goals.{else-loop-test, then-loop-test+in_default}

pub loop-preserved : goal.loop-preserved
loop-preserved c =
    let list = contexts_of (c.args.count - c.loop.counter) c.loop.rest.now in
    let rest = contexts_of (c.args.count - (c.loop.counter + 1)) c.in-Some.after.now in
    let is = contexts_next c.args.count c.loop.counter c.loop.rest.now (c.in-Some.context, c.in-Some.after) c.loop-test.true
    (ap (option_map seen_context) (sym c.in-Some.is) ∙ c.read_context.ensures) in
    let grown = c.in_ok-append.ensures.ok ∙ ap (λ r. c.loop.results ++ r) (c.result_of.ensures ∙ ap result_bytes c.answer_of.ensures) in (
      results_next c.loop.results c.append.new.self (as_value c.in-Some.context) list rest is grown ∙ c.loop.invariant.0,
      results_bound c.loop.results c.append.new.self (context_answer (as_value c.in-Some.context)) c.loop.counter grown c.loop.invariant.1,
      λ n h below. c.loop.invariant.2 n (omega (arith, h, c.above-room.ensures.least))
          (below_next n (as_value c.in-Some.context) list rest is (omega (arith, h, c.above-room.ensures.above)) below),
    )

pub returns-clause-results : goal.returns-clause-results
returns-clause-results c =
    let nothing : contexts_of (c.args.count - c.loop.counter) c.loop.rest.now ≡ [] = elim c.loop-test.branch [
      | else-loop-test w ↦ contexts_end c.args.count c.loop.counter c.loop.rest.now w.loop-test.false
      | then-loop-test+in_default w ↦ contexts_none c.args.count c.loop.counter c.loop.rest.now w.loop-test.true
          (ap (option_map seen_context) (sym w.in_default.is) ∙ w.read_context.ensures)
    ] in
    sym (no_results c.loop.results _ nothing) ∙ c.loop.invariant.0

pub returns-clause-room : goal.returns-clause-room
returns-clause-room c =
    let nothing : contexts_of (c.args.count - c.loop.counter) c.loop.rest.now ≡ [] = elim c.loop-test.branch [
      | else-loop-test w ↦ contexts_end c.args.count c.loop.counter c.loop.rest.now w.loop-test.false
      | then-loop-test+in_default w ↦ contexts_none c.args.count c.loop.counter c.loop.rest.now w.loop-test.true
          (ap (option_map seen_context) (sym w.in_default.is) ∙ w.read_context.ensures)
    ] in
    c.loop.invariant.2 c.loop.room (omega arith) (none_below c.loop.room _ nothing)
