-- Numbers that go no higher than a greatest one.
use Rattle.std.proofs.Common.{ℕ, ◌≡◌, ◌≤◌, ◌<◌, ◌+◌, ◌∙◌, min, nat_le, inl, inr, arith, sym}
use Rattle.std.proofs.lemmas.Bool.{cases_lt, le-leb, lt-leb}
use Rattle.scm_model.specs.declared.calls.Request.{Request}
use Rattle.scm_model.specs.declared.calls.Request.TheVariants as request
use Rattle.scm_model.specs.declared.steps.Step.{Step}
use Rattle.scm_model.specs.declared.steps.Step.TheVariants.{Joined, Call, Raised, Tick}
use Rattle.scm_rules.specs.Room.{need_of_call, need_with}

call_needs : (services : ℕ) (asked : Request) → 1 ≤ need_of_call services asked
call_needs services (request.Start handle words) = omega arith
call_needs services asked = omega arith

-- each step needs one at least
some_need : (services : ℕ) (step : Step) → 1 ≤ need_with services step
some_need services (Joined principal) = omega arith
some_need services (Call caller asked append) = call_needs services asked
some_need services Tick = omega arith
some_need services (Raised caller subtype) = omega arith
some_need services step = omega arith

same_test : (a b l : ℕ) → (a ≤ l → b ≤ l) → (b ≤ l → a ≤ l) → nat_le a l ≡ nat_le b l
same_test a b l there back = elim (cases_lt l a) [
  | inl above ↦ lt-leb a l above ∙ sym (lt-leb b l (elim (cases_lt l b) [
    | inl lies ↦ lies
    | inr fits ↦ absurd (omega (arith, above, back fits))
  ]))
  | inr fits ↦ le-leb a l fits ∙ sym (le-leb b l (there fits))
]

-- what is cut off lies above each limit
pub found : (steps owed services limit m w : ℕ) (step : Step) → limit ≤ m → m < w
    → nat_le (min (steps + min owed m + min (need_with services step) w) w) limit ≡ nat_le (steps + owed + need_with services step) limit
found steps owed services limit m w step small wide =
    let some = some_need services step in
    same_test _ _ limit (λ fits. omega (arith, fits, some, small, wide)) (λ fits. omega (arith, fits, some, small, wide))
