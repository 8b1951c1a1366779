-- How many bytes listings have, and what of them fits.
use Rattle.std.proofs.Common.{ℕ, zero, suc, ◌≡◌, ◌<◌, ◌≤◌, ◌+◌, ◌*◌, ◌-◌, ◌++◌, ◌∙◌, true, false, List, [], ◌∷◌, Bor, refl, sym, ap}
use Rattle.std.proofs.Common.{add-one, append_assoc, length, map, drop, take, get_or, arith}
use Rattle.std.specs.Prelude.{nat_le}
use Rattle.std.proofs.lemmas.List.{append-nil}
use Rattle.scm_model.specs.declared.flat.Service.{Service}
use Rattle.service_listing.specs.Layout.{listing_size, size_of}
use Rattle.service_listing.specs.Pages.{left_of, page_in}
use Rattle.service_listing.specs.Sizes.{names_sizes}

-- records of 36 bytes, and the names
pub size_is : (rows : List Service) → listing_size rows ≡ 36 * length rows + names_sizes rows
size_is [] = refl
size_is (row ∷ rows) =
    let rest = size_is rows in
    omega (arith, rest)

abbrev pub behind : List (Bor Service) → List Service
behind services = map (λ (s : Bor Service). s.now) services

pub length_behind : (services : List (Bor Service)) → length (behind services) ≡ length services
length_behind [] = refl
length_behind (s ∷ services) = ap suc (length_behind services)

pub behind_take : (n : ℕ) (services : List (Bor Service)) → behind (take n services) ≡ take n (behind services)
behind_take zero services = refl
behind_take (suc n) [] = refl
behind_take (suc n) (s ∷ services) = ap (λ (rows : List Service). s.now ∷ rows) (behind_take n services)

pub behind_drop : (n : ℕ) (services : List (Bor Service)) → behind (drop n services) ≡ drop n (behind services)
behind_drop zero services = refl
behind_drop (suc n) [] = refl
behind_drop (suc n) (s ∷ services) = behind_drop n services

-- the same of services behind references
pub size_behind : (services : List (Bor Service)) → listing_size (behind services) ≡ length services * 36 + names_sizes (behind services)
size_behind services =
    let is = size_is (behind services) in
    let same = length_behind services in
    omega (arith, is, same)

-- ## A page

too_great : (a b : ℕ) → a < b → nat_le b a ≡ false
too_great a b lt = search arith

small_enough : (a b : ℕ) → a ≤ b → nat_le a b ≡ true
small_enough a b le = search arith

-- a service that doesn't fit ends the page
pub full : (room : ℕ) (row : Service) (rows : List Service) → room < size_of row → page_in room (row ∷ rows) ≡ []
full room row rows lt = rw (too_great room (size_of row) lt) refl

pub all_left : (room : ℕ) (row : Service) (rows : List Service) → room < size_of row → left_of room (row ∷ rows) ≡ row ∷ rows
all_left room row rows lt = rw (too_great room (size_of row) lt) refl

-- one that fits is on it
pub fits : (room : ℕ) (row : Service) (rows : List Service) → size_of row ≤ room
    → page_in room (row ∷ rows) ≡ row ∷ page_in (room - size_of row) rows
fits room row rows le = rw (small_enough (size_of row) room le) refl

pub goes_on : (room : ℕ) (row : Service) (rows : List Service) → size_of row ≤ room
    → left_of room (row ∷ rows) ≡ left_of (room - size_of row) rows
goes_on room row rows le = rw (small_enough (size_of row) room le) refl

-- the service at a place, and those behind it
next_suc : (services : List (Bor Service)) (i : ℕ) (s : Bor Service) → i < length services → s ≡ get_or services i s
    → drop i (behind services) ≡ s.now ∷ drop (suc i) (behind services)
next_suc [] i s lt is = absurd (omega (arith, lt))
next_suc (x ∷ services) zero s lt is = ap (λ (y : Bor Service). y.now ∷ behind services) (sym is)
next_suc (x ∷ services) (suc i) s lt is = next_suc services i s (omega (arith, lt)) is

pub next : (services : List (Bor Service)) (i : ℕ) (s : Bor Service) → i < length services → s ≡ get_or services i s
    → drop i (behind services) ≡ s.now ∷ drop (i + 1) (behind services)
next services i s lt is = rw add-one (next_suc services i s lt is)

taken_suc : (rows : List Service) (i : ℕ) (row : Service) (rest : List Service) → drop i rows ≡ row ∷ rest → take (suc i) rows ≡ take i rows
    ++ row ∷ []
taken_suc [] zero row rest is = absurd cc
taken_suc [] (suc i) row rest is = absurd cc
taken_suc (x ∷ rows) zero row rest is = let same : x ≡ row = cc in ap (λ (r : Service). r ∷ []) same
taken_suc (x ∷ rows) (suc i) row rest is = ap (λ (rs : List Service). x ∷ rs) (taken_suc rows i row rest is)

-- one more is taken
pub taken_next : (rows : List Service) (i : ℕ) (row : Service) → drop i rows ≡ row ∷ drop (i + 1) rows → take (i + 1) rows ≡ take i rows
    ++ row ∷ []
taken_next rows i row is = rw add-one (taken_suc rows i row (drop (i + 1) rows) is)

-- ## Steps of a page

-- the page ends here
pub ends_page : (size room i : ℕ) (rows : List Service) (row : Service) → page_in size rows ≡ take i rows ++ page_in room (drop i rows)
    → drop i rows ≡ row ∷ drop (i + 1) rows → room < size_of row
    → take i rows ≡ page_in size rows
ends_page size room i rows row page at lt =
    sym (page ∙ ap (λ rest. take i rows ++ page_in room rest) at ∙ ap (λ rest. take i rows ++ rest) (full room row (drop (i + 1) rows) lt)
    ∙ append-nil (take i rows))

pub ends_left : (size room i : ℕ) (rows : List Service) (row : Service) → left_of size rows ≡ left_of room (drop i rows)
    → drop i rows ≡ row ∷ drop (i + 1) rows → room < size_of row
    → drop i rows ≡ left_of size rows
ends_left size room i rows row left at lt = sym (left ∙ ap (left_of room) at ∙ all_left room row (drop (i + 1) rows) lt ∙ sym at)

-- the page goes on
pub goes_page : (size room i : ℕ) (rows : List Service) (row : Service) → page_in size rows ≡ take i rows ++ page_in room (drop i rows)
    → drop i rows ≡ row ∷ drop (i + 1) rows → size_of row ≤ room
    → page_in size rows ≡ take (i + 1) rows ++ page_in (room - size_of row) (drop (i + 1) rows)
goes_page size room i rows row page at le =
    let rest = page_in (room - size_of row) (drop (i + 1) rows) in
    page ∙ ap (λ rows'. take i rows ++ page_in room rows') at ∙ ap (λ more. take i rows ++ more) (fits room row (drop (i + 1) rows) le)
    ∙ sym (append_assoc (take i rows) (row ∷ []) rest) ∙ ap (λ front. front ++ rest) (sym (taken_next rows i row at))

pub goes_left : (size room i : ℕ) (rows : List Service) (row : Service) → left_of size rows ≡ left_of room (drop i rows)
    → drop i rows ≡ row ∷ drop (i + 1) rows → size_of row ≤ room
    → left_of size rows ≡ left_of (room - size_of row) (drop (i + 1) rows)
goes_left size room i rows row left at le = left ∙ ap (left_of room) at ∙ goes_on room row (drop (i + 1) rows) le
