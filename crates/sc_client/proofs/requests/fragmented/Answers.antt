use Rattle.std.proofs.Common.{ap, arith, eqb-true, List, ℕ, [], ◌∷◌, ◌<◌, ◌≡◌, length, false, sym, ◌∙◌, nat_eq}
use Rattle.std.proofs.lemmas.List.{length-drop}
use Rattle.sc_client.proofs.Fragments.{fragment_more, fragments_end, fragments_spent}
use Rattle.sc_client.proofs.requests.fragmented.Goals as goal

some_left : (xs : List ℕ) → false ≡ nat_eq (length xs) 0 → 0 < length xs
some_left [] e = grind arith
some_left (b ∷ xs) e = omega arith

pub loop-preserved : goal.loop-preserved
loop-preserved c = (
  fragment_more (length c.args.body.now) c.loop.counter c.args.call c.args.opnum c.loop.first c.loop.rest.now c.cut.result.1.now c.loop.text
      c.append_fragment.new.text
      c.loop-test.true (some_left c.loop.rest.now c.if-is_empty.ensures) c.cut.ensures.back c.in_ok-append_fragment.ensures
      ∙ c.loop.invariant.0,
  omega (arith, ap length c.cut.ensures.back, length-drop 1408 c.loop.rest.now, c.loop.invariant.1),
)

pub returns-then-is_empty : goal.returns-then-is_empty
returns-then-is_empty c =
    sym (fragments_end _ c.args.call c.args.opnum c.loop.first c.loop.rest.now c.loop.text
    (eqb-true (length c.loop.rest.now) 0 (sym c.if-is_empty.ensures))) ∙ c.loop.invariant.0

pub returns : goal.returns
returns c =
    sym (fragments_spent (length c.args.body.now) c.loop.counter c.args.call c.args.opnum c.loop.first c.loop.rest.now c.loop.text
    c.loop-test.false) ∙ c.loop.invariant.0
