use Rattle.std.proofs.Common.{ap, arith, false, length, subst, ◌≡◌, ◌<◌, ◌^◌, ◌==◌, ◌∙◌, ◌++◌, ◌∷◌, []}
use Rattle.std.proofs.KnownBytes.{Consumes-trans}
use Rattle.std.proofs.lemmas.List.{length-append}
use Rattle.std.proofs.lemmas.List.Elements.{All-push}
use Rattle.child_link.specs.Cutting.{kept}
use Rattle.demo_service.specs.declared.waiting.Came.{Came}
use Rattle.demo_service.specs.Doing.{ReadsByte}
use Rattle.demo_service.proofs.Lines.{kept_more, kept_short}
use Rattle.demo_service.proofs.waiting.read_line.Goals as goal

pub read_byte-requires : goal.read_byte-requires
read_byte-requires g c = omega (arith, ap length c.loop.invariant.keeps, kept_short c.loop.invariant.front)

pub returns-in-Ok-Feed-clause-read : goal.returns-in-Ok-Feed-clause-read
returns-in-Ok-Feed-clause-read g c =
    let before = c.loop.invariant in
    let now = subst (λ (came : Came). ReadsByte (g.I.Source.left c.loop.input)
    (g.I.Source.left c.read_byte.new.input) c.loop.line c.read_byte.new.line came)
    c.in-Ok-Feed.field-0-is c.in-Ok-Feed.ensures.read in
    let few : length before.front < 2 ^ 40 = omega (arith, before.count, c.loop-test.true) in (
      before.front,
      before.one,
      Consumes-trans _ _ _ before.front (10 ∷ []) before.read now.0,
      now.1
          ∙ ap (λ line. line ++ 10 ∷ []) before.keeps,
      few,
    )

pub loop-preserved : goal.loop-preserved
loop-preserved g c =
    let before = c.loop.invariant in
    let now = subst (λ (came : Came). ReadsByte (g.I.Source.left c.loop.input)
    (g.I.Source.left c.read_byte.new.input) c.loop.line c.read_byte.new.line came)
    c.in-Ok-Byte.field-0-is c.in-Ok-Byte.ensures.read in
    record {
      front = before.front ++ now.0 ∷ [];
      one = All-push (λ b. (b == 10) ≡ false) before.front now.0 before.one now.1;
      count = omega (arith, before.count, length-append before.front (now.0 ∷ []));
      read = Consumes-trans _ _ _ before.front (now.0 ∷ []) before.read now.2;
      keeps = now.3 ∙ ap (λ line. kept (line ++ now.0 ∷ [])) before.keeps ∙ kept_more before.front now.0;
      input = omega (arith, before.input, c.in-Ok-Byte.ensures.input);
    }
