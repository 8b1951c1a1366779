-- A start order has only numbers of services.
use Rattle.std.proofs.Common.{ℕ, zero, suc, ◌≡◌, ◌<◌, ◌||◌, Bool, true, false, cond, List, [], ◌∷◌, ◌++◌, Option, None, Some, filter}
use Rattle.std.proofs.Common.{length, refl, subst}
use Rattle.std.specs.Prelude.{All, option_and_then, unwrap_or}
use Rattle.std.proofs.lemmas.List.Elements.{All-head, All-tail}
use Rattle.scm_model.specs.declared.flat.Flat.{Flat}
use Rattle.scm_model.specs.declared.flat.Need.{Need}
use Rattle.scm_model.specs.declared.flat.Service.{Service}
use Rattle.scm_model.specs.declared.flat.NeedRow.{NeedRow}
use Rattle.scm_model.specs.Needs.{is_met, met_by, met_by_all, needs_of, numbers_of}
use Rattle.scm_model.specs.Order.{explore, runs_in, visited, try_all}
use Rattle.scm_model.specs.Ready.{state_of}
use Rattle.scm_rules.specs.Needs.{need_rows, start_order}
use Rattle.scm_runs.proofs.Plans.{AreBelow}
use Rattle.scm_text.specs.Numbers.{has}

below_append : (bound : ℕ) (xs ys : List ℕ) → AreBelow bound xs → AreBelow bound ys → AreBelow bound (xs ++ ys)
below_append bound [] ys first rest = rest
below_append bound (x ∷ xs) ys first rest = (first.0, below_append bound xs ys first.1 rest)

below_filter : (bound : ℕ) (p : NeedRow → Bool) (rows : List NeedRow) → AreBelow bound (numbers_of rows)
    → AreBelow bound (numbers_of (filter p rows))
below_filter bound p [] all = tt
below_filter bound p (row ∷ rows) all =
    elim (p row) as (λ b. AreBelow bound (numbers_of (cond b (row ∷ filter p rows) (filter p rows))))
    [ true ↦ (all.0, below_filter bound p rows all.1) | false ↦ below_filter bound p rows all.1 ]

below_met : (bound : ℕ) (rows : List NeedRow) (needs : List Need) → AreBelow bound (numbers_of rows)
    → AreBelow bound (met_by_all rows needs)
below_met bound rows [] all = tt
below_met bound rows (need ∷ needs) all = below_append bound (met_by rows need) (met_by_all rows needs)
    (below_filter bound (is_met need) rows all) (below_met bound rows needs all)

below_noted : (bound : ℕ) (done : List ℕ) (number : ℕ) → AreBelow bound done → number < bound → AreBelow bound (visited done number)
below_noted bound done number all lt =
    elim (has done number) as (λ b. AreBelow bound (cond b done (done ++ number ∷ []))) [
      | true ↦ all
      | false ↦ below_append bound done (number ∷ []) all (lt, tt)
    ]

-- going to a number leaves numbers below the bound
abbrev GoesBelow : ℕ → (List ℕ → ℕ → Option (List ℕ)) → Type 0
GoesBelow bound go = (done : List ℕ) (number : ℕ) (end : List ℕ) → number < bound → go done number ≡ Some end → AreBelow bound done
    → AreBelow bound end

below_all : (bound : ℕ) (go : List ℕ → ℕ → Option (List ℕ)) → GoesBelow bound go → (done numbers end : List ℕ) → AreBelow bound numbers
    → try_all go done numbers ≡ Some end → AreBelow bound done → AreBelow bound end
below_all bound go one done [] end small e all = (let same : done ≡ end = cc in subst (AreBelow bound) same all)
below_all bound go one done (number ∷ numbers) end small e all =
    elim (go done number) as (λ o. go done number ≡ o → option_and_then (λ more. try_all go more numbers) o ≡ Some end
    → AreBelow bound end) [
      | None ↦ λ g h. absurd cc
      | Some more ↦ λ g h. below_all bound go one more numbers end small.1 h (one done number more small.0 g all)
    ] refl e

below_same : (bound : ℕ) (done end : List ℕ) → Some done ≡ Some end → AreBelow bound done → AreBelow bound end
below_same bound done end e all = (let same : done ≡ end = cc in subst (AreBelow bound) same all)

goes_below : (needs : ℕ → List ℕ) (skipped : ℕ → Bool) (bound depth : ℕ) → ((x : ℕ) → AreBelow bound (needs x))
    → GoesBelow bound (explore needs skipped depth)
goes_below needs skipped bound zero small done number end lt e all =
    elim (skipped number || has done number) as (λ b. cond b (Some done) None ≡ Some end → AreBelow bound end)
    [ true ↦ λ h. below_same bound done end h all | false ↦ λ h. absurd cc ] e
goes_below needs skipped bound (suc depth) small done number end lt e all =
    elim (skipped number || has done number) as (λ b. cond b (Some done)
    (option_and_then (λ before. Some (visited before number)) (try_all (explore needs skipped depth) done (needs number))) ≡ Some end
    → AreBelow bound end) [
      | true ↦ λ h. below_same bound done end h all
      | false ↦ elim (try_all (explore needs skipped depth) done (needs number)) as (λ o. try_all (explore needs skipped depth) done
          (needs number) ≡ o → option_and_then (λ before. Some (visited before number)) o ≡ Some end → AreBelow bound end) [
            | None ↦ λ g h. absurd cc
            | Some before ↦ λ g h.
                below_same bound (visited before number) end h
                (below_noted bound before number (below_all bound (explore needs skipped depth)
                (goes_below needs skipped bound depth small) done (needs number) before (small number) g all) lt)
          ] refl
    ] e

numbers_below : (bound : ℕ) (rows : List Service) → All (λ (row : Service). row.number < bound) rows
    → AreBelow bound (numbers_of (need_rows rows))
numbers_below bound [] all = tt
numbers_below bound (row ∷ rows) all = (
  All-head (λ (r : Service). r.number < bound) row rows all,
  numbers_below bound rows (All-tail (λ (r : Service). r.number < bound) row rows all),
)

-- the order in which a service is started has only services' numbers
pub order_below : (f : Flat) (bound target : ℕ) → All (λ (row : Service). row.number < bound) f.services → target < bound
    → AreBelow bound (start_order f target)
order_below f bound target all lt =
    let rows = need_rows f.services in
    let go = explore (needs_of rows) (runs_in (state_of f)) (length rows) in
    elim (go [] target) as (λ o. go [] target ≡ o → AreBelow bound (unwrap_or o [])) [
      | None ↦ λ e. tt
      | Some end ↦ λ e. goes_below (needs_of rows) (runs_in (state_of f)) bound (length rows)
          (λ x. below_met bound rows _ (numbers_below bound f.services all)) [] target end lt e tt
    ] refl
