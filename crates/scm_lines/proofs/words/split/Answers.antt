use Rattle.std.proofs.Common.{◌==◌, ◌≡◌, ◌++◌, ◌∙◌, List, Option, ap, map, subst, rules, tests}
use Rattle.std.specs.Iterator.{Drains, DrainsIf}
use Rattle.std.proofs.lemmas.Iterator.{YieldsList, items_from_drains}
use Rattle.std.proofs.lemmas.Iterator.Splits.{YieldsList-from_slice_split}
use Rattle.scm_lines.proofs.words.split.Goals as goal

-- what is appended of an iterator that gives these
appended : {S A B : Type 0} {steps : S → Option A → S → Type 0} {v : A → B} {s : S} {all : List B} (i : S) (xs : List A) → i ≡ s
    → Drains steps i xs → YieldsList steps v s all → map v xs ≡ all
appended {S} {A} {B} {steps} i xs e d h = items_from_drains xs (subst (λ k. DrainsIf steps (Unit {0}) k xs) e
    (d.1.0, d.1.1, λ _. (d.0, d.1.2))) h

pub returns : goal.returns
returns c =
    let (i, xs, is, grown, drains) = c.in_ok-extend.ensures.ran in
    ap (map (λ word. word.now)) (grown.0 ∙ ap (λ l. l ++ xs) c.in_ok-words.ensures.items)
    ∙ appended i xs is drains
    (YieldsList-from_slice_split _ (λ b. b == 32) c.args.line.now c.split.ensures.rest c.split.ensures.done c.split.ensures.closure
    (λ x b q k. search (rules, tests)))
