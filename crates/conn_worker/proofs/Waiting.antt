-- Turns behind looks, one after another.
use Rattle.std.proofs.Common.{◌≡◌, ◌∙◌, ℕ, Bool, List, [], ◌∷◌, ◌++◌, inl, inr, refl, subst}
use Rattle.std.specs.Prelude.{All}
use Rattle.std.proofs.lemmas.List.Elements.{All-nil, All-cons, All-head, All-tail}
use Rattle.book_rule.specs.declared.view.Opening.{Opening}
use Rattle.scm_book.specs.Passes.{Known}
use Rattle.conn_worker.specs.Waiting.{Turns, Waits, WaitsOnce}

-- ## The caller stays

pub turn_caller : (silent : Bool) (o : Opening) (k : Known) (moment : ℕ) (k' : Known) → Turns silent o k moment k' → k'.caller ≡ k.caller
turn_caller silent o k moment k' (inl (inl same)) = let is : k' ≡ k = same in cc
turn_caller silent o k moment k' (inl (inr learnt)) = learnt.caller
turn_caller silent o k moment k' (inr fails) = fails.1.fails.caller ∙ fails.1.takes.caller

pub once_caller : (silent : Bool) (o : Opening) (plan : ℕ) (k : Known) (moment : ℕ) (k' : Known) → WaitsOnce silent o plan k moment k'
    → k'.caller ≡ k.caller
once_caller silent o plan k moment k' once = turn_caller silent o once.looked moment k' once.turns ∙ once.learnt.caller

pub waits_caller : (silent : Bool) (o : Opening) (plan : ℕ) (moments : List ℕ) (k k' : Known) → Waits silent o plan moments k k'
    → k'.caller ≡ k.caller
waits_caller silent o plan [] k k' same = let is : k' ≡ k = same in cc
waits_caller silent o plan (moment ∷ moments) k k' waits = waits_caller silent o plan moments waits.0 k' waits.2
    ∙ once_caller silent o plan k moment waits.0 waits.1

-- ## One turn more

pub waits_more : (silent : Bool) (o : Opening) (plan : ℕ) (moments : List ℕ) (moment : ℕ) (k mid k' : Known)
    → Waits silent o plan moments k mid → WaitsOnce silent o plan mid moment k'
    → Waits silent o plan (moments ++ moment ∷ []) k k'
waits_more silent o plan [] moment k mid k' same once = (k', subst (λ (x : Known). WaitsOnce silent o plan x moment k') same once, refl)
waits_more silent o plan (first ∷ moments) moment k mid k' waits once =
    (waits.0, waits.1, waits_more silent o plan moments moment waits.0 mid k' waits.2 once)

pub told_more : (tells : ℕ → Type 0) (moments : List ℕ) (moment : ℕ) → All tells moments → tells moment → All tells (moments ++ moment ∷ [])
told_more tells [] moment all told = All-cons tells moment [] told (All-nil tells)
told_more tells (first ∷ moments) moment all told = All-cons tells first (moments ++ moment ∷ []) (All-head tells first moments all)
    (told_more tells moments moment (All-tail tells first moments all) told)
