use Rattle.std.proofs.Common.{◌≡◌, ℕ, List, ◌++◌, ap, subst, ◌∙◌, append_assoc}
use Rattle.std.specs.Prelude.{OnOk, codes}
use Rattle.sc_lines.proofs.levels.add_delayed.Goals as goal

-- three pieces, one after the other
three_added : (t a b d t1 t2 : List ℕ) → t1 ≡ t ++ a → t2 ≡ t1 ++ b → t2 ++ d ≡ t ++ (a ++ (b ++ d))
three_added t a b d t1 t2 e f = ap (λ x. x ++ d) (f ∙ ap (λ x. x ++ b) e) ∙ append_assoc (t ++ a) b d ∙ append_assoc t a (b ++ d)

pub returns : goal.returns
returns c =
    let first = c.in_ok-append_pair.ensures.ok ∙ ap (λ x. c.args.text.now ++ (codes "FAILURE_ACTIONS: " ++ x)) c.as_bytes.ensures.value in
    let second = c.in_ok-append_pair-2.ensures.ok ∙ ap (λ x. c.append_pair.new.self
    ++ (codes " -- Delay = " ++ x)) c.as_bytes-2.ensures.value in
    let whole =
    three_added c.args.text.now (codes "FAILURE_ACTIONS: " ++ c.args.name.now) (codes " -- Delay = " ++ c.args.delay.now)
    (codes " milliseconds.\n") c.append_pair.new.self
    c.append_pair-2.new.self first second in
    subst (λ t. OnOk c.append.result (c.append.new.self ≡ t)) whole c.append.ensures.ok
