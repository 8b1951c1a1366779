-- How many bytes a listing has, and how long a page is.
use Rattle.std.proofs.Common.{ℕ, zero, suc, ◌≡◌, ◌<◌, ◌≤◌, ◌+◌, ◌*◌, ◌-◌, ◌++◌, true, false, cond, List, [], ◌∷◌, refl, ap, length}
use Rattle.std.proofs.Common.{length-append, take, arith}
use Rattle.std.specs.List.{flat_map}
use Rattle.std.specs.Int.{w16, to_le_bytes}
use Rattle.std.specs.Prelude.{nat_le}
use Rattle.scm_model.specs.declared.flat.ProcessStatus.{ProcessStatus}
use Rattle.scm_model.specs.declared.flat.Service.{Service}
use Rattle.service_listing.specs.Fitting.{HaveTheirSizes, IsLongestFit}
use Rattle.service_listing.specs.Layout.{listing_bytes, listing_size, names_bytes, names_size, numbers_bytes, process_status_bytes}
use Rattle.service_listing.specs.Layout.{record_bytes, records_bytes, size_of, name_bytes, text_size}
use Rattle.service_listing.specs.Pages.{left_of, page_in}
use Rattle.service_listing.specs.Sizes.{names_sizes}
use Rattle.service_listing.proofs.Measured.{size_is}

-- ## Bytes

length_units : (us : List ℕ) → length (flat_map (to_le_bytes w16) us) ≡ 2 * length us
length_units [] = refl
length_units (u ∷ us) =
    let rest = length_units us in
    omega (arith, length-append (to_le_bytes w16 u) (flat_map (to_le_bytes w16) us), rest)

pub length_text : (text : List ℕ) → length (name_bytes text) ≡ text_size text
unfolding name_bytes
length_text text = omega (arith, length-append (flat_map (to_le_bytes w16) text) (to_le_bytes w16 0), length_units text)

length_names : (row : Service) → length (names_bytes row) ≡ names_size row
length_names row = omega (
  arith,
  length-append (name_bytes row.config.name) (name_bytes row.config.display),
  length_text row.config.name,
  length_text row.config.display,
)

length_all_names : (rows : List Service) → length (flat_map names_bytes rows) ≡ names_sizes rows
length_all_names [] = refl
length_all_names (row ∷ rows) =
    let rest = length_all_names rows in
    omega (arith, length-append (names_bytes row) (flat_map names_bytes rows), length_names row, rest)

length_record : (place : ℕ) (row : Service) → length (record_bytes place row) ≡ 36
unfolding numbers_bytes
length_record place row = refl

length_records : (place : ℕ) (rows : List Service) → length (records_bytes place rows) ≡ 36 * length rows
length_records place [] = refl
length_records place (row ∷ rows) =
    let rest = length_records (place + names_size row) rows in
    omega (arith, length-append (record_bytes place row) (records_bytes (place + names_size row) rows), length_record place row, rest)

pub length_listing : (rows : List Service) → length (listing_bytes rows) ≡ listing_size rows
length_listing rows =
    omega (
      arith,
      length-append (records_bytes (36 * length rows) rows) (flat_map names_bytes rows),
      length_records (36 * length rows) rows,
      length_all_names rows,
      size_is rows,
    )

pub length_status : (s : ProcessStatus) → length (process_status_bytes s) ≡ 36
unfolding numbers_bytes
length_status s = refl

pub have_their_sizes : HaveTheirSizes
have_their_sizes = record { listing = length_listing; status = length_status }

-- ## Pages

le_of : (a b : ℕ) → nat_le a b ≡ true → a ≤ b
le_of a b is = search arith

gt_of : (a b : ℕ) → nat_le a b ≡ false → b < a
gt_of a b is = search arith

front_is : (size : ℕ) (rows : List Service) → page_in size rows ++ left_of size rows ≡ rows
front_is size [] = refl
front_is size (row ∷ rows) =
    elim (nat_le (size_of row) size) as (λ b. cond b (row ∷ page_in (size - size_of row) rows) []
    ++ cond b (left_of (size - size_of row) rows) (row ∷ rows) ≡ row ∷ rows) [
      | true ↦ ap (λ (rs : List Service). row ∷ rs) (front_is (size - size_of row) rows)
      | false ↦ refl
    ]

pub page_fits : (size : ℕ) (rows : List Service) → listing_size (page_in size rows) ≤ size
page_fits size [] = omega arith
page_fits size (row ∷ rows) =
    elim (nat_le (size_of row) size) as (λ b. nat_le (size_of row) size ≡ b
    → listing_size (cond b (row ∷ page_in (size - size_of row) rows) []) ≤ size) [
      | true ↦ λ is. omega (arith, le_of (size_of row) size is, page_fits (size - size_of row) rows)
      | false ↦ λ is. omega arith
    ] refl

longest_is : (size : ℕ) (rows : List Service) (n : ℕ) → listing_size (take n rows) ≤ size
    → length (take n rows) ≤ length (page_in size rows)
longest_is size [] zero le = omega arith
longest_is size [] (suc n) le = omega arith
longest_is size (row ∷ rows) zero le = omega arith
longest_is size (row ∷ rows) (suc n) le =
    elim (nat_le (size_of row) size) as (λ b. nat_le (size_of row) size ≡ b
    → suc (length (take n rows)) ≤ length (cond b (row ∷ page_in (size - size_of row) rows) [])) [
      | true ↦ λ is.
          let rest : listing_size (take n rows) ≤ size - size_of row = omega (arith, le) in
          omega (arith, longest_is (size - size_of row) rows n rest)
      | false ↦ λ is. absurd (omega (arith, le, gt_of (size_of row) size is))
    ] refl

pub is_longest : (size : ℕ) (rows : List Service) → IsLongestFit size rows
is_longest size rows = record { front = front_is size rows; fits = page_fits size rows; longest = longest_is size rows }
