use Rattle.std.proofs.Common.{arith, ap, eqb-true, List, ℕ, [], ◌∷◌, ◌-◌, ◌<◌, ◌≡◌, length, false, sym, ◌∙◌, drop, nat_eq, refl}
use Rattle.std.proofs.lemmas.List.{length-drop}
use Rattle.rpc_session.specs.Replies.{room_of}
use Rattle.outside.proofs.Sending.{sent_all, sent_failed, sent_more}
use Rattle.rpc_session.proofs.Sending.{no_fragments, spent, fragments_step}
use Rattle.rpc_session.proofs.replies.write_reply.Goals as goal

some_left : (xs : List ℕ) → false ≡ nat_eq (length xs) 0 → 0 < length xs
some_left [] e = grind arith
some_left (b ∷ xs) e = omega arith

pub returns-in-Err-clause-written : goal.returns-in-Err-clause-written
returns-in-Err-clause-written g c =
    sent_failed _ _ _ _ _ _ _ c.loop.invariant.0
    (fragments_step (length c.args.body.now) c.loop.counter c.args.transmit c.args.call c.args.context c.loop.first c.loop.rest.now
    (drop (room_of c.args.transmit) c.loop.rest.now) c.loop-test.true (some_left c.loop.rest.now c.if-is_empty.ensures) refl)
    c.in-Err.ensures.written

pub loop-preserved : goal.loop-preserved
loop-preserved g c = (
  sent_more _ _ _ _ _ _ _ c.loop.invariant.0
      (fragments_step (length c.args.body.now) c.loop.counter c.args.transmit c.args.call c.args.context c.loop.first c.loop.rest.now
      c.cut.result.1.now c.loop-test.true (some_left c.loop.rest.now c.if-is_empty.ensures) (c.cut.ensures.back
      ∙ ap (λ n. drop n c.loop.rest.now) c.room.ensures))
      c.in_default.ensures.written,
  c.in_default.ensures.cause.kept ∙ c.loop.invariant.1,
  omega (arith, ap length c.cut.ensures.back, length-drop c.room.result c.loop.rest.now, c.loop.invariant.2),
)

pub returns-after-loop-clause-written : goal.returns-after-loop-clause-written
returns-after-loop-clause-written g c =
    sent_all _ _ _ _ c.loop.invariant.0 (spent (length c.args.body.now) c.loop.counter c.args.transmit c.args.call c.args.context
    c.loop.first c.loop.rest.now c.loop-test.false)

pub returns-then-is_empty-clause-written : goal.returns-then-is_empty-clause-written
returns-then-is_empty-clause-written g c =
    sent_all _ _ _ _ c.loop.invariant.0 (no_fragments (length c.args.body.now - c.loop.counter) c.args.transmit c.args.call c.args.context
    c.loop.first c.loop.rest.now (eqb-true (length c.loop.rest.now) 0 (sym c.if-is_empty.ensures)))
