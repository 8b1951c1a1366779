-- Legal histories, entry by entry from the front.
use Rattle.std.proofs.Common.{ℕ, ◌≡◌, ◌+◌, ◌≤◌, true, List, [], ◌∷◌, ◌++◌, length, refl, ap, subst, arith}
use Rattle.scm_model.specs.declared.flat.Flat.{Flat}
use Rattle.scm_model.specs.declared.flat.Limits.{Limits}
use Rattle.scm_model.specs.Entries.{Entry}
use Rattle.scm_rules.specs.Histories.{Legal, state}
use Rattle.scm_rules.specs.Owed.{owed}
use Rattle.scm_rules.specs.Runs.{IsLegal, run_state}
use Rattle.scm_rules.specs.Steps.{may, step_of}
use Rattle.trail_text.proofs.Lists.{first_same, rest_same}

-- each entry may be made in the state before it, and leaves room for what is owed, after so many steps
abbrev pub Goes : Limits → ℕ → Flat → List Entry → Type 0
Goes l steps f [] = Unit {0}
Goes l steps f (e ∷ es) =
    (may l f e.0 e.1 ≡ true) × (steps + 1 + owed (step_of l f e.0 e.1).flat ≤ l.steps)
    × Goes l (steps + 1) (step_of l f e.0 e.1).flat es

goes_on : (l : Limits) (steps : ℕ) (f : Flat) (es : List Entry) → IsLegal l f es
    → ((front rest : List Entry) → es ≡ front ++ rest → steps + length front + owed (run_state l f front) ≤ l.steps) → Goes l steps f es
goes_on l steps f [] made fits = tt
goes_on l steps f (e ∷ es) made fits = (
  made.0,
  omega (arith, fits (e ∷ []) es refl),
  goes_on l (steps + 1) (step_of l f e.0 e.1).flat es made.1
      (λ front rest is. omega (arith, fits (e ∷ front) rest (ap (λ more. e ∷ more) is))),
)

made_of : (l : Limits) (steps : ℕ) (f : Flat) (es : List Entry) → Goes l steps f es → IsLegal l f es
made_of l steps f [] goes = tt
made_of l steps f (e ∷ es) goes = (goes.0, made_of l (steps + 1) (step_of l f e.0 e.1).flat es goes.2)

fits_of : (l : Limits) (steps : ℕ) (f : Flat) (es : List Entry) → steps + owed f ≤ l.steps → Goes l steps f es
    → (front rest : List Entry) → es ≡ front ++ rest → steps + length front + owed (run_state l f front) ≤ l.steps
fits_of l steps f es room goes [] rest is = omega (arith, room)
fits_of l steps f [] room goes (d ∷ front) rest is = absurd cc
fits_of l steps f (e ∷ es) room goes (d ∷ front) rest is =
    let same = first_same e d es (front ++ rest) is in
    let more = fits_of l (steps + 1) (step_of l f e.0 e.1).flat es goes.1 goes.2 front rest (rest_same e d es (front ++ rest) is) in
    subst (λ (x : Entry). steps + length (x ∷ front) + owed (run_state l f (x ∷ front)) ≤ l.steps) same (omega (arith, more))

pub legal_goes : (l : Limits) (f : Flat) (es : List Entry) → Legal l f es → Goes l 0 f es
unfolding Legal state
legal_goes l f es legal = goes_on l 0 f es legal.made (λ front rest is. omega (arith, legal.fits front rest is))

pub goes_legal : (l : Limits) (f : Flat) (es : List Entry) → owed f ≤ l.steps → Goes l 0 f es → Legal l f es
unfolding Legal state
goes_legal l f es room goes = record {
  made = made_of l 0 f es goes;
  fits = λ front rest is. omega (arith, fits_of l 0 f es (omega (arith, room)) goes front rest is);
}
