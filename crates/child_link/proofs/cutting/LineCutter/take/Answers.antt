use Rattle.std.proofs.Common.{◌∙◌, ◌∷◌, ◌++◌, [], ap, arith, length}
use Rattle.child_link.proofs.Kept.{with_more, with_none}
use Rattle.child_link.proofs.cutting.LineCutter.take.Goals as goal

pub returns-then-as_slice-lt-KEPT-clause-kept : goal.returns-then-as_slice-lt-KEPT-clause-kept
returns-then-as_slice-lt-KEPT-clause-kept c =
    c.push-then-as_slice-lt-KEPT.ensures.items ∙ ap (λ front. front ++ c.args.byte ∷ []) c.self.view_is
    ∙ with_more c.args.self.now c.args.byte c.if-byte-eq10.false
    (omega (arith, c.if-as_slice-lt-KEPT.true, ap length (c.as_slice.ensures ∙ c.self.view_is)))

pub returns-else-as_slice-lt-KEPT-clause-kept : goal.returns-else-as_slice-lt-KEPT-clause-kept
returns-else-as_slice-lt-KEPT-clause-kept c =
    with_none c.args.self.now c.args.byte c.if-byte-eq10.false c.requires
    (omega (arith, c.if-as_slice-lt-KEPT.false, ap length (c.as_slice.ensures ∙ c.self.view_is)))
