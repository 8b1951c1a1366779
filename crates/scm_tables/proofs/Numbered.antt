-- The services whose numbers are kept.
use Rattle.std.proofs.Common.{ℕ, ◌≡◌, ◌∙◌, ◌<◌, ◌==◌, ◌&&◌, ◌-◌, ◌^◌, zero, suc, Bool, true, false, cond, List, [], ◌∷◌, Option, None, Some}
use Rattle.std.proofs.Common.{filter, find, get_or, length, map, max, min, not, refl, sym, ap, subst, eqb-true}
use Rattle.std.specs.Prelude.{All, AllPairs, IfSome, fold, option_map, slice_get}
use Rattle.std.specs.List.{list_any}
use Rattle.std.proofs.lemmas.List.Elements.{All-filter, All-head, All-tail}
use Rattle.dependency_index.specs.Kept.{naming_of}
use Rattle.dependency_index.proofs.Shelves.{counted}
use Rattle.dependency_index.specs.Naming.{active_in, names, naming_in, row_of}
use Rattle.scm_model.specs.declared.codes.TheConstants.{SERVICE_RUNNING, SERVICE_STOPPED}
use Rattle.scm_model.specs.declared.flat.NeedRow.{NeedRow}
use Rattle.scm_model.specs.declared.flat.Service.{Service}
use Rattle.scm_model.specs.Needs.{numbers_of}
use Rattle.scm_model.specs.Ready.{is_running, state_in}
use Rattle.scm_rules.specs.Controls.{active_among, is_active_by}
use Rattle.scm_rules.specs.Create.{greatest_tag}
use Rattle.scm_rules.specs.Needs.{need_row, need_rows}
use Rattle.record_table.specs.Recorded.{is_member, numbers_with}
use Rattle.scm_tables.specs.Inside.{IsKept, tabled}
use Rattle.scm_tables.specs.Needing.{naming_among}
use Rattle.scm_tables.specs.Tabled.{Tabled}
use Rattle.scm_tables.specs.Tags.{tag_in}
use Rattle.scm_tables.specs.declared.tables.Tables.TheInside.{Inside}
use Rattle.scm_tables.proofs.Bisecting.{found_here}

abbrev pub number_of : Service → ℕ
number_of row = row.number

-- the service with a number
abbrev pub with_number : List Service → ℕ → Option Service
with_number rows number = find (λ (row : Service). row.number == number) rows

-- a service is found by its number
abbrev pub IsFound : List Service → Service → Type 0
IsFound rows row = with_number rows row.number ≡ Some row

pub each_found : (rows : List Service) → AllPairs (λ (a b : Service). a.number < b.number) rows → All (IsFound rows) rows
each_found rows rising k d within = found_here number_of rows k (get_or rows k d).number d rising within refl

-- the service that is found by a number has it
pub found_number : (n : ℕ) (rows : List Service) (row : Service) → Some row ≡ with_number rows n → row.number ≡ n
found_number n [] row e = absurd (cc e)
found_number n (one ∷ rows) row e =
    elim (one.number == n) as (λ b. (one.number == n) ≡ b → Some row ≡ cond b (Some one) (with_number rows n) → row.number ≡ n) [
      | true ↦ λ is h. let same : row ≡ one = cc h in ap (λ (r : Service). r.number) same ∙ eqb-true one.number n is
      | false ↦ λ is h. found_number n rows row h
    ] refl e

-- the numbers that the index has are those of the services whose rows pass
kept_numbers : (p : NeedRow → Bool) (rows : List Service) → numbers_of (filter p (need_rows rows)) ≡ map number_of
    (filter (λ (row : Service). p (need_row row)) rows)
kept_numbers p [] = refl
kept_numbers p (row ∷ rows) =
    elim (p (need_row row)) as (λ b. numbers_of (cond b (need_row row ∷ filter p (need_rows rows)) (filter p (need_rows rows)))
    ≡ map number_of (cond b (row ∷ filter (λ (r : Service). p (need_row r)) rows) (filter (λ (r : Service). p (need_row r)) rows)))
    [ true ↦ ap (λ ns. row.number ∷ ns) (kept_numbers p rows) | false ↦ kept_numbers p rows ]

-- ## What is seen of services by their numbers

any_of : (q : Option Service → Bool) (all some : List Service) → All (IsFound all) some
    → list_any (λ n. q (with_number all n)) (map number_of some) ≡ list_any (λ (row : Service). q (Some row)) some
any_of q all [] found = refl
any_of q all (row ∷ some) found =
    rw (All-head (IsFound all) row some found, any_of q all some (All-tail (IsFound all) row some found)) refl

pub count_of : (q : Option Service → Bool) (all some : List Service) → All (IsFound all) some
    → length (filter (λ n. q (with_number all n)) (map number_of some)) ≡ length (filter (λ (row : Service). q (Some row)) some)
count_of q all [] found = refl
count_of q all (row ∷ some) found =
    let rest = count_of q all some (All-tail (IsFound all) row some found) in
    rw (All-head (IsFound all) row some found)
    (elim (q (Some row)) as (λ b. length (cond b (row.number ∷ filter (λ n. q (with_number all n)) (map number_of some))
    (filter (λ n. q (with_number all n)) (map number_of some)))
    ≡ length (cond b (row ∷ filter (λ (r : Service). q (Some r)) some) (filter (λ (r : Service). q (Some r)) some)))
    [ true ↦ ap suc rest | false ↦ rest ])

greatest_of : (before : ℕ) (all some : List Service) → All (IsFound all) some
    → fold (λ greatest number. max greatest (tag_in (with_number all number))) before (map number_of some) ≡ fold
    (λ greatest (row : Service). max greatest row.config.tag) before some
greatest_of before all [] found = refl
greatest_of before all (row ∷ some) found =
    ap (λ o. fold (λ greatest number. max greatest (tag_in (with_number all number))) (max before (tag_in o)) (map number_of some))
    (All-head (IsFound all) row some found)
    ∙ greatest_of (max before row.config.tag) all some (All-tail (IsFound all) row some found)

-- the service at a place is found by its number
pub found_at : (all some : List Service) (place : ℕ) → All (IsFound all) some → IfSome (slice_get some place) (IsFound all)
found_at all [] place found = tt
found_at all (row ∷ some) zero found = All-head (IsFound all) row some found
found_at all (row ∷ some) (suc place) found = found_at all some place (All-tail (IsFound all) row some found)

-- the row of needs with a number is that of the service with it
row_found : (n : ℕ) (rows : List Service) → row_of (need_rows rows) n ≡ option_map need_row (with_number rows n)
row_found n [] = refl
row_found n (row ∷ rows) =
    elim (row.number == n) as (λ b. cond b (Some (need_row row)) (row_of (need_rows rows) n) ≡ option_map need_row
    (cond b (Some row) (with_number rows n))) [ true ↦ refl | false ↦ row_found n rows ]

naming_row : (rows : List Service) (found : Option Service) → naming_in (need_rows rows) (option_map need_row found) ≡ naming_among rows found
naming_row rows None = refl
naming_row rows (Some row) = refl

-- as many name the service with a number
pub naming_number : (graph : List NeedRow) (rows : List Service) (n : ℕ) → graph ≡ need_rows rows
    → naming_in graph (row_of graph n) ≡ naming_among rows (with_number rows n)
naming_number graph rows n is =
    ap (λ (g : List NeedRow). naming_in g (row_of g n)) is ∙ ap (naming_in (need_rows rows)) (row_found n rows)
    ∙ naming_row rows (with_number rows n)

-- those that are active among those that name one
pub active_rows : (p q : Service → Bool) (rows : List Service) → filter q (filter p rows) ≡ filter (λ (row : Service). p row && q row) rows
active_rows p q [] = refl
active_rows p q (row ∷ rows) =
    elim (p row) as (λ b. filter q (cond b (row ∷ filter p rows) (filter p rows)) ≡ cond (b && q row)
    (row ∷ filter (λ (r : Service). p r && q r) rows) (filter (λ (r : Service). p r && q r) rows)) [
      | true ↦ elim (q row) as (λ b. cond b (row ∷ filter q (filter p rows)) (filter q (filter p rows)) ≡ cond b
          (row ∷ filter (λ (r : Service). p r && q r) rows) (filter (λ (r : Service). p r && q r) rows))
          [ true ↦ ap (λ (rs : List Service). row ∷ rs) (active_rows p q rows) | false ↦ active_rows p q rows ]
      | false ↦ active_rows p q rows
    ]

-- ## By lists of services in order of number

module _ (rows : List Service) (rising : AllPairs (λ (a b : Service). a.number < b.number) rows) where
  pub passing_found : (p : Service → Bool) → All (IsFound rows) (filter p rows)
  passing_found p = All-filter p (IsFound rows) rows (each_found rows rising)

  -- whether a group has a RUNNING member
  pub group_running : (group : List ℕ) → list_any (λ n. state_in (with_number rows n) == SERVICE_RUNNING)
      (numbers_with (is_member group) rows) ≡ list_any is_running (filter (is_member group) rows)
  group_running group = any_of (λ found. state_in found == SERVICE_RUNNING) rows (filter (is_member group) rows)
      (passing_found (is_member group))

  -- the greatest tag of a group
  pub group_tag : (group : List ℕ) → fold (λ greatest number. max greatest (tag_in (with_number rows number))) 0
      (numbers_with (is_member group) rows) ≡ greatest_tag (filter (is_member group) rows)
  group_tag group = greatest_of 0 rows (filter (is_member group) rows) (passing_found (is_member group))

  -- how many name one and aren't STOPPED
  pub naming_active : (graph : List NeedRow) → graph ≡ need_rows rows → (name : List ℕ)
      → length (filter (λ n. not (state_in (with_number rows n) == SERVICE_STOPPED)) (naming_of graph name)) ≡ length
      (filter (is_active_by name) rows)
  naming_active graph is name =
      let p = λ (row : Service). names name (need_row row) in
      let active = λ (found : Option Service). not (state_in found == SERVICE_STOPPED) in
      ap (λ (g : List NeedRow). length (filter (λ n. active (with_number rows n)) (naming_of g name))) is
      ∙ ap (λ (ns : List ℕ). length (filter (λ n. active (with_number rows n)) ns)) (kept_numbers (names name) rows)
      ∙ count_of active rows (filter p rows) (passing_found p)
      ∙ ap (λ (rs : List Service). length rs) (active_rows p (λ (row : Service). active (Some row)) rows)

  -- as many of those that name the service with a number aren't STOPPED
  active_row : (found : Option Service) → active_in (need_rows rows) (λ n. state_in (with_number rows n)) (option_map need_row found)
      ≡ active_among rows found
  active_row None = refl
  active_row (Some row) =
      let name = row.config.name in
      let runs : ℕ → Bool = λ n. not (state_in (with_number rows n) == SERVICE_STOPPED) in
      ap (λ (n : ℕ). min n (2 ^ 32 - 1)) (sym (counted (names name) runs (need_rows rows)) ∙ naming_active (need_rows rows) refl name)

  pub active_number : (graph : List NeedRow) (n : ℕ) → graph ≡ need_rows rows
      → active_in graph (λ k. state_in (with_number rows k)) (row_of graph n) ≡ active_among rows (with_number rows n)
  active_number graph n is =
      ap (λ (g : List NeedRow). active_in g (λ k. state_in (with_number rows k)) (row_of g n)) is
      ∙ ap (active_in (need_rows rows) (λ k. state_in (with_number rows k))) (row_found n rows) ∙ active_row (with_number rows n)

-- ## What the lists keep of both

pub in_order : {t : Inside} {value : Tabled} → IsKept t → tabled t ≡ value
    → AllPairs (λ (a b : Service). a.number < b.number) value.flat.services
in_order kept view = subst (λ (v : Tabled). AllPairs (λ (a b : Service). a.number < b.number) v.flat.services) view kept.rising.rising

pub indexed : {t : Inside} {value : Tabled} → IsKept t → tabled t ≡ value → t.index.rows ≡ need_rows value.flat.services
indexed kept view = kept.index ∙ ap (λ (v : Tabled). need_rows v.flat.services) view
