-- The order in which services are started: depth first, each after what it needs.
use Rattle.std.specs.Prelude.{ℕ, ◌≡◌, ◌==◌, Bool, true, false, ◌||◌, ◌↔◌, is_none, zero, suc, ◌++◌, List, [], ◌∷◌, Option, None, Some}
use Rattle.std.specs.Prelude.{option_and_then, unwrap_or, length, if◌then◌else◌}
use Rattle.scm_model.specs.declared.codes.TheConstants.{SERVICE_RUNNING}
use Rattle.scm_model.specs.declared.flat.NeedRow.{NeedRow}
use Rattle.scm_model.specs.Needs.{needs_of, numbers_of}
use Rattle.scm_model.specs.Walks.{IsAcyclic}
use Rattle.scm_text.specs.Numbers.{has}

-- one number after another, each with what the one before came to
abbrev pub try_all : (List ℕ → ℕ → Option (List ℕ)) → List ℕ → List ℕ → Option (List ℕ)
try_all go done [] = Some done
try_all go done (number ∷ numbers) = option_and_then (λ more. try_all go more numbers) (go done number)

-- a number that may be none
abbrev pub try_some : (List ℕ → ℕ → Option (List ℕ)) → List ℕ → Option ℕ → Option (List ℕ)
try_some go done None = Some done
try_some go done (Some number) = go done number

-- a number more, unless it is there
abbrev pub visited : List ℕ → ℕ → List ℕ
visited done number = if has done number then done else done ++ number ∷ []

-- what was done before, then what a service needs, then the service; one that is skipped adds nothing.
-- None where needs go deeper than so many services
abbrev pub explore : (ℕ → List ℕ) → (ℕ → Bool) → ℕ → List ℕ → ℕ → Option (List ℕ)
explore needs skipped zero done number = if skipped number || has done number then Some done else None
explore needs skipped (suc depth) done number =
    if skipped number || has done number then Some done
    else option_and_then (λ before. Some (visited before number)) (try_all (explore needs skipped depth) done (needs number))

-- whether going to every service doesn't end within that depth
abbrev pub is_cyclic : List NeedRow → Bool
is_cyclic rows = is_none (try_all (explore (needs_of rows) (λ other. false) (length rows)) [] (numbers_of rows))

-- that is so exactly where a walk along needs comes back to where it began
abbrev pub TellsCycles : List NeedRow → Type 0
TellsCycles rows = (is_cyclic rows ≡ false) ↔ IsAcyclic (needs_of rows)

abbrev pub runs_in : (ℕ → ℕ) → ℕ → Bool
runs_in state_of number = state_of number == SERVICE_RUNNING

-- what was done, and what visiting a service adds; no needs without a cycle go deeper than there are services
abbrev pub visit : List NeedRow → (ℕ → Bool) → List ℕ → ℕ → List ℕ
visit rows skipped done number = unwrap_or (explore (needs_of rows) skipped (length rows) done number) done

abbrev pub visit_all : List NeedRow → (ℕ → Bool) → List ℕ → List ℕ → List ℕ
visit_all rows skipped done [] = done
visit_all rows skipped done (number ∷ numbers) = visit_all rows skipped (visit rows skipped done number) numbers

-- the start order
abbrev pub order_in : List NeedRow → (ℕ → ℕ) → ℕ → List ℕ
order_in rows state_of target = visit rows (runs_in state_of) [] target

-- where the needs have no cycle: a service that is skipped or done adds nothing, another comes after what its needs add, in order
abbrev pub FollowsRule : List NeedRow → Type 0
FollowsRule rows =
    (skipped : ℕ → Bool) (done : List ℕ) (number : ℕ) → has (numbers_of rows) number ≡ true
    → visit rows skipped done number ≡ (if skipped number || has done number then done
    else visit_all rows skipped done (needs_of rows number) ++ number ∷ [])
