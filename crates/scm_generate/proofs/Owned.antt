-- The services of a start run, each in its own process; once each of them stops, all rest.
use Rattle.std.proofs.Common.{ℕ, ◌≡◌, ◌+◌, ◌<◌, ◌≤◌, ◌==◌, ◌⊎◌, inl, inr, true, false, cond, List, [], ◌∷◌, length, ap, sym, refl, subst}
use Rattle.std.proofs.Common.{arith, eqb-true, ne_eqb}
use Rattle.std.specs.List.{AllByRecursion}
use Rattle.scm_generate.specs.Listed.{told}
use Rattle.scm_generate.proofs.Settling.{IsAtRest, at_one}
use Rattle.scm_generate.proofs.Shape.{Live}

-- how a service stands that ran in this start, or didn't
pub record IsRun (first p : ℕ) (live : Live) : Type 0 where
  pub status : live.status ≡ told 4 1
  pub low : first ≤ live.process
  pub high : live.process < p

pub weaker_on : (first p q : ℕ) (live : Live) → p ≤ q → IsAtRest live ⊎ IsRun first p live → IsAtRest live ⊎ IsRun first q live
weaker_on first p q live le (inl rests) = inl rests
weaker_on first p q live le (inr run) = inr (record {
  status = run.status;
  low = run.low;
  high = (let h = run.high in omega (arith, h, le));
})

abbrev pub stopped : Live
stopped = record { status = told 1 0; process = 0 }

pub stopped_rests : IsAtRest stopped
stopped_rests = record { state = refl; kind = refl; process = refl }

-- a service up to the last runs in this process
pub record RunsIn (n s p : ℕ) (live : Live) : Type 0 where
  pub status : live.status ≡ told 4 1
  pub process : live.process ≡ p
  pub some : 0 < s
  pub within : s ≤ n

-- those of these numbers run, the last one first
abbrev pub Owned : ℕ → (ℕ → Live) → ℕ → List ℕ → Type 0
Owned n look first [] = (k : ℕ) → IsAtRest (look k)
Owned n look first (s ∷ done) = RunsIn n s (first + length done) (look s) × Owned n (at_one look s stopped) first done

pub owned_low : (n : ℕ) (look : ℕ → Live) (first : ℕ) (done : List ℕ) → Owned n look first done → (k : ℕ)
    → IsAtRest (look k) ⊎ IsRun first (first + length done) (look k)
owned_low n look first [] owned k = inl (owned k)
owned_low n look first (s ∷ done) owned k =
    elim (k == s) as (λ b. (k == s) ≡ b → IsAtRest (look k) ⊎ IsRun first (first + length (s ∷ done)) (look k)) [
      | true ↦ λ e. subst (λ m. IsAtRest (look m) ⊎ IsRun first (first + length (s ∷ done)) (look m)) (sym (eqb-true k s e))
          (inr (record {
            status = owned.0.status;
            low = (let is = owned.0.process in omega (arith, is));
            high = (let is = owned.0.process in omega (arith, is));
          }))
      | false ↦ λ e. weaker_on first (first + length done) (first + length (s ∷ done)) (look k) (omega arith)
          (subst (λ b. IsAtRest (cond b stopped (look k)) ⊎ IsRun first (first + length done) (cond b stopped (look k))) e
          (owned_low n (at_one look s stopped) first done owned.1 k))
    ] refl

-- the same of services that stand the same
pub owned_same : (n : ℕ) (look other : ℕ → Live) (first : ℕ) (done : List ℕ) → ((k : ℕ) → look k ≡ other k) → Owned n look first done
    → Owned n other first done
owned_same n look other first [] same owned = λ k. subst IsAtRest (same k) (owned k)
owned_same n look other first (s ∷ done) same owned = (
  subst (RunsIn n s (first + length done)) (same s) owned.0,
  owned_same n (at_one look s stopped) (at_one other s stopped) first done
      (λ k. ap (λ (live : Live). cond (k == s) stopped live) (same k)) owned.1,
)

-- and where another one rests
pub owned_beside : (n : ℕ) (look : ℕ → Live) (first t : ℕ) (done : List ℕ) (live : Live) → IsAtRest live
    → AllByRecursion (λ x. (x == t) ≡ false) done → Owned n look first done → Owned n (at_one look t live) first done
owned_beside n look first t [] live rests others owned =
    λ k. elim (k == t) as (λ b. IsAtRest (cond b live (look k))) [ true ↦ rests | false ↦ owned k ]
owned_beside n look first t (s ∷ done) live rests others owned = (
  subst (λ b. RunsIn n s (first + length done) (cond b live (look s))) (sym others.0) owned.0,
  owned_same n (at_one (at_one look s stopped) t live) (at_one (at_one look t live) s stopped) first done swapped
      (owned_beside n (at_one look s stopped) first t done live rests others.1 owned.1),
)
  where
    swapped : (k : ℕ) → at_one (at_one look s stopped) t live k ≡ at_one (at_one look t live) s stopped k
    swapped k =
        elim (k == s) as (λ b. (k == s) ≡ b → cond (k == t) live (cond b stopped (look k)) ≡ cond b stopped (cond (k == t) live (look k))) [
          | true ↦ λ e. ap (λ c. cond c live stopped) (subst (λ m. (m == t) ≡ false) (sym (eqb-true k s e)) others.0)
          | false ↦ λ e. refl
        ] refl

-- lower numbers are others
pub below_apart : (s t : ℕ) (done : List ℕ) → s < t → AllByRecursion (λ x. x < s) done → AllByRecursion (λ x. (x == t) ≡ false) done
below_apart s t [] lt below = tt
below_apart s t (x ∷ done) lt below =
    ((let low = below.0 in ne_eqb x t (λ e. absurd (omega (arith, e, low, lt)))), below_apart s t done lt below.1)

pub below_more : (s t : ℕ) (done : List ℕ) → s < t → AllByRecursion (λ x. x < s) done → AllByRecursion (λ x. x < t) done
below_more s t [] lt below = tt
below_more s t (x ∷ done) lt below = ((let low = below.0 in omega (arith, low, lt)), below_more s t done lt below.1)
