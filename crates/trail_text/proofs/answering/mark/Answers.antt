use Rattle.std.proofs.Common.{ℕ, ◌≡◌, ◌-◌, ◌∙◌, List, [], ◌∷◌, ◌++◌, length, take, ap, arith, length-append}
use Rattle.std.proofs.lemmas.List.{take-append-le, take_all}
use Rattle.std.specs.List.{insert}
use Rattle.std.specs.Prelude.{OnOk, Result, Ok, Err, codes, is_ok, if◌then◌else◌}
use Rattle.trail_text.proofs.answering.mark.Goals as goal

unfed : (old text : List ℕ) (n : ℕ) → n ≡ length old → old ≡ text ++ 10 ∷ [] → take (n - 1) old ≡ text
unfed old text n long is =
    let size : n - 1 ≡ length text = omega (arith, long, ap length is, length-append text (10 ∷ [])) in
    ap (take (n - 1)) is ∙ ap (λ k. take k (text ++ 10 ∷ [])) size ∙ take-append-le (length text) text (10 ∷ []) (omega arith)
    ∙ take_all (length text) text (omega arith)

marked : {T E : Type 0} (r : Result T E) (old one two new text : List ℕ) (n : ℕ) → n ≡ length old → old ≡ text ++ 10 ∷ []
    → one ≡ take (n - 1) old → two ≡ 32 ∷ one → new ≡ (if is_ok r then insert two 0 61 else two)
    → OnOk r (new ≡ codes "= " ++ text)
marked (Ok done) old one two new text n long is e1 e2 e3 = e3 ∙ ap (λ xs. 61 ∷ xs) (e2 ∙ ap (λ xs. 32 ∷ xs) (e1 ∙ unfed old text n long is))
marked (Err fault) old one two new text n long is e1 e2 e3 = tt

pub returns : goal.returns
returns c = λ text is. marked c.insert-2.result c.args.line.now.items c.pop.new.self.items c.insert.new.self.items
    c.insert-2.new.self.items text c.args.line.now.len c.args.line.now.ok.0 is c.pop.ensures.rest c.in_ok-insert.ensures.items
    c.insert-2.ensures.items
