-- What the services of the list need, and the order in which they are started.
use Rattle.std.proofs.Common.{ℕ, zero, suc, ◌≡◌, ◌∙◌, ◌+◌, ◌/◌, ◌<◌, ◌≤◌, ◌^◌, ◌==◌, ◌||◌, Bool, true, false, cond, List, [], ◌∷◌, ◌++◌}
use Rattle.std.proofs.Common.{Some, find, length, length-append, ap, sym, refl, subst, arith, eqb, eqb-true, ne_eqb, eq-eqb, inl, inr, ◌⊎◌}
use Rattle.std.proofs.lemmas.Bool.{eqb-false, cases_lt}
use Rattle.std.proofs.lemmas.Int.Digits.{length-digits_of_step}
use Rattle.scm_model.specs.declared.flat.Need.TheVariants as needs
use Rattle.scm_model.specs.declared.flat.NeedRow.{NeedRow}
use Rattle.scm_model.specs.Needs.{is_met, met_by, met_by_all, needs_of, numbers_of, row_needs}
use Rattle.scm_model.specs.Order.{is_cyclic, order_in, runs_in, visit, visit_all}
use Rattle.scm_model.specs.Walks.{IsAcyclic, IsWalk, Needs}
use Rattle.dependency_index.proofs.Cycles.{acyclic_ends}
use Rattle.dependency_index.proofs.Written.{as_written}
use Rattle.scm_generate.specs.Listed.{depth_of, nth_name}
use Rattle.scm_generate.proofs.Built.{Each, any_there, filter_one, find_built, map_built, none_built}
use Rattle.scm_generate.proofs.Names.{other_names, same_name}
use Rattle.scm_generate.proofs.Shape.{graph, need_row_at}
use Rattle.scm_text.specs.Numbers.{has}

-- the services that one needs
abbrev pub needed : ℕ → List ℕ
needed j = cond (j == 0) [] (j ∷ [])

found_row : (n i : ℕ) → 0 < i → i ≤ n → find (λ (row : NeedRow). row.number == i) (graph n) ≡ Some (need_row_at i)
found_row n i some lt = find_built (λ (row : NeedRow). row.number == i) [] need_row_at i n some lt refl (eq-eqb i i refl)
    (λ k s le other. other)

met_one : (n j : ℕ) → n < 2 ^ 64 → 0 < j → j ≤ n → met_by (graph n) (needs.Service (nth_name j)) ≡ j ∷ []
met_one n j small some lt =
    ap numbers_of (filter_one (is_met (needs.Service (nth_name j))) need_row_at j n some lt (same_name j)
    (λ k s le other. other_names k j (omega (arith, le, small)) (omega (arith, lt, small)) other))

shorter : (i fuel : ℕ) → i ≤ suc fuel → 0 < i → i / 2 ≤ fuel
shorter i fuel le some = omega (arith, le, some)

pub positive : (k : ℕ) → (k ≡ 0 → ⊥) → 0 < k
positive zero apart = absurd (apart refl)
positive (suc k) apart = omega arith

pub half_within : (i n : ℕ) → i ≤ n → i / 2 ≤ n
half_within i n lt = omega (arith, lt)

pub needs_here : (n i : ℕ) → n < 2 ^ 64 → 0 < i → i ≤ n → needs_of (graph n) i ≡ needed (i / 2)
needs_here n i small some lt =
    ap (λ o. met_by_all (graph n) (row_needs o)) (found_row n i some lt)
    ∙ elim (i / 2 == 0) as (λ b. (i / 2 == 0) ≡ b → met_by_all (graph n) (cond b [] (needs.Service (nth_name (i / 2)) ∷ [])) ≡ cond b []
    (i / 2 ∷ [])) [
      | true ↦ λ e. refl
      | false ↦ λ e.
          let apart = eqb-false (i / 2) 0 e in
          ap (λ ms. ms ++ []) (met_one n (i / 2) small (positive (i / 2) apart) (half_within i n lt))
    ] refl

needs_nowhere : (n i : ℕ) → ((k : ℕ) → 0 < k → k ≤ n → k ≡ i → ⊥) → needs_of (graph n) i ≡ []
needs_nowhere n i away =
    ap (λ o. met_by_all (graph n) (row_needs o))
    (none_built (λ (row : NeedRow). row.number == i) [] need_row_at n refl (λ k some lt. ne_eqb k i (λ e. away k some lt e)))

in_needed : (j to : ℕ) → has (needed j) to ≡ true → to ≡ j
in_needed j to h =
    elim (j == 0) as (λ b. has (cond b [] (j ∷ [])) to ≡ true → to ≡ j) [
      | true ↦ λ g. absurd cc
      | false ↦ λ g. elim (eqb to j) as (λ b. eqb to j ≡ b → (b || false) ≡ true → to ≡ j) [
        | true ↦ λ e r. eqb-true to j e
        | false ↦ λ e r. absurd cc
      ] refl g
    ] h

needed_some : (j to : ℕ) → has (needed j) to ≡ true → 0 < j
needed_some zero to h = absurd cc
needed_some (suc j) to h = omega arith

-- a service of the list needs one with a smaller number, and any other needs nothing
down_from : (n from to : ℕ) → n < 2 ^ 64 → 0 < from → (n < from) ⊎ (from ≤ n) → has (needs_of (graph n) from) to ≡ true → to < from
down_from n from to small some (inr le) h =
    let is = in_needed (from / 2) to (rw (needs_here n from small some le) at h) in
    omega (arith, is, some)
down_from n from to small some (inl far) h = absurd (let none = needs_nowhere n from (λ k s lt e. omega (arith, lt, e, far)) in cc)

goes_down : (n : ℕ) → n < 2 ^ 64 → (from to : ℕ) → Needs (needs_of (graph n)) from to → to < from
goes_down n small zero to h = absurd (let none = needs_nowhere n 0 (λ k some lt e. omega (arith, some, e)) in cc)
goes_down n small (suc from) to h = down_from n (suc from) to small (omega arith) (cases_lt n (suc from)) h

walks_down : (n : ℕ) → n < 2 ^ 64 → (from : ℕ) (between : List ℕ) (to : ℕ) → IsWalk (needs_of (graph n)) from between to → to < from
walks_down n small from [] to w = goes_down n small from to w
walks_down n small from (via ∷ between) to w =
    let first = goes_down n small from via w.0 in
    let rest = walks_down n small via between to w.1 in
    omega (arith, first, rest)

pub no_cycle : (n : ℕ) → n < 2 ^ 64 → IsAcyclic (needs_of (graph n))
no_cycle n small from between w = let down = walks_down n small from between from w in omega (arith, down)

pub not_cyclic : (n : ℕ) → n < 2 ^ 64 → is_cyclic (graph n) ≡ false
not_cyclic n small = acyclic_ends (graph n) (no_cycle n small)

-- ## The start order

-- services of which each is half the next one, from half of the first up to the last
abbrev pub Climbs : (n from : ℕ) → List ℕ → ℕ → Type 0
Climbs n from [] last = from ≡ last
Climbs n from (s ∷ rest) last = (s / 2 ≡ from) × (0 < s) × (s ≤ n) × Climbs n s rest last

climbs_push : (n from : ℕ) (es : List ℕ) (last s : ℕ) → Climbs n from es last → s / 2 ≡ last → 0 < s → s ≤ n
    → Climbs n from (es ++ s ∷ []) s
climbs_push n from [] last s h half some lt = (half ∙ sym h, some, lt, refl)
climbs_push n from (e ∷ es) last s h half some lt = (h.0, h.1, h.2, climbs_push n e es last s h.3 half some lt)

-- the services that were started before it, and it
pub record IsLine (n i : ℕ) (es : List ℕ) : Type 0 where
  pub climbs : Climbs n 0 es i
  pub long : length es ≡ depth_of i

listed : (n i : ℕ) → 0 < i → i ≤ n → has (numbers_of (graph n)) i ≡ true
listed n i some lt =
    ap (λ (ns : List ℕ). has ns i) (map_built (λ (row : NeedRow). row.number) [] need_row_at [] (λ k. k) n refl (λ k s le. refl))
    ∙ any_there (eqb i) [] (λ k. k) i n some lt (eq-eqb i i refl)

-- with one digit more, the line of half the number, and the number
visit_is : (n : ℕ) (skipped : ℕ → Bool) (i : ℕ) → n < 2 ^ 64 → 0 < i → i ≤ n → skipped i ≡ false
    → visit (graph n) skipped [] i ≡ visit_all (graph n) skipped [] (needed (i / 2)) ++ i ∷ []
visit_is n skipped i small some lt idle =
    as_written (graph n) skipped [] i (no_cycle n small) (listed n i some lt)
    ∙ ap (λ b. cond (b || false) [] (visit_all (graph n) skipped [] (needs_of (graph n) i) ++ i ∷ [])) idle
    ∙ ap (λ ns. visit_all (graph n) skipped [] ns ++ i ∷ []) (needs_here n i small some lt)

more_digits : (i : ℕ) → 0 < i → depth_of (i / 2) + 1 ≡ depth_of i
more_digits i some = sym (length-digits_of_step 2 i (omega arith) some)

line_more : (n i : ℕ) (es : List ℕ) → IsLine n (i / 2) es → 0 < i → i ≤ n → IsLine n i (es ++ i ∷ [])
line_more n i es line some lt = record {
  climbs = climbs_push n 0 es (i / 2) i line.climbs refl some lt;
  long = length-append es (i ∷ []) ∙ ap (λ m. m + 1) line.long ∙ more_digits i some;
}

line_none : (n : ℕ) → IsLine n 0 []
line_none n = record { climbs = refl; long = refl }

line_from : (n : ℕ) (skipped : ℕ → Bool) → n < 2 ^ 64 → Each (λ k. skipped k ≡ false) n → (fuel i : ℕ) → i ≤ fuel → 0 < i → i ≤ n
    → IsLine n i (visit (graph n) skipped [] i)
line_from n skipped small idle zero i le some lt = absurd (omega (arith, le, some))
line_from n skipped small idle (suc fuel) i le some lt =
    subst (IsLine n i) (sym (visit_is n skipped i small some lt (idle i some lt)))
    (line_more n i (visit_all (graph n) skipped [] (needed (i / 2)))
    (elim (i / 2 == 0) as (λ b. (i / 2 == 0) ≡ b → IsLine n (i / 2) (visit_all (graph n) skipped [] (cond b [] (i / 2 ∷ [])))) [
      | true ↦ λ e. subst (λ h. IsLine n h []) (sym (eqb-true (i / 2) 0 e)) (line_none n)
      | false ↦ λ e.
          line_from n skipped small idle fuel (i / 2) (shorter i fuel le some) (positive (i / 2) (eqb-false (i / 2) 0 e))
          (half_within i n lt)
    ] refl) some lt)

-- the start order of a service, where none runs
pub order_is : (n : ℕ) (state_of : ℕ → ℕ) (i : ℕ) → n < 2 ^ 64 → Each (λ k. runs_in state_of k ≡ false) n → 0 < i → i ≤ n
    → IsLine n i (order_in (graph n) state_of i)
order_is n state_of i small idle some lt = line_from n (runs_in state_of) small idle i i (omega arith) some lt
