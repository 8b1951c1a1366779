-- The words of the launch that is wanted first.
use Rattle.std.proofs.Common.{ℕ, ◌≡◌, ◌∙◌, ◌<◌, ◌≤◌, suc, zero, Bool, true, false, cond, List, [], ◌∷◌, None, Some, filter, map, get_or}
use Rattle.std.proofs.Common.{length, ap, sym, refl, arith, Option, ◌==◌}
use Rattle.std.specs.Prelude.{set, position, slice_get, IfSome, All, find, option_and_then}
use Rattle.std.specs.Prelude.{nat_lt}
use Rattle.std.specs.List.{position_or_len}
use Rattle.std.proofs.lemmas.Bool.Decides.{nat_tests}
use Rattle.std.proofs.lemmas.List.Quantifiers.{position-Some}
use Rattle.std.proofs.lemmas.List.Sums.{fails_before_first}
use Rattle.scm_model.specs.declared.flat.Flat.{Flat}
use Rattle.scm_model.specs.declared.flat.Opened.{Opened}
use Rattle.scm_model.specs.declared.flat.Service.{Service}
use Rattle.scm_model.specs.Rows.{service_of}
use Rattle.scm_model.specs.declared.flat.Wanted.{Wanted}
use Rattle.scm_rules.specs.Launches.{head_word, line_of, path_in, service_of_process}
use Rattle.scm_tables.specs.Lined.{emptied_line, words_told}
use Rattle.scm_tables.specs.Lines.{first_line}
use Rattle.scm_tables.specs.declared.process_rows.ProcessRow.{ProcessRow}
use Rattle.scm_tables.specs.Listed.{is_wanted_row, process_shown, processes_in, wanted_in, wanted_of, without_words, next_words}
use Rattle.scm_tables.specs.Tabled.{HasShort}

-- a row without its words
abbrev pub emptied : ProcessRow → ProcessRow
emptied row = record row { line = emptied_line row.line }

-- the place of the first row that is wanted
pub record IsFirst (rows : List ProcessRow) (i : ℕ) (d : ProcessRow) : Type 0 where
  pub within : i < length rows
  pub wanted : is_wanted_row (get_or rows i d) ≡ true
  pub none : (k : ℕ) → k < i → is_wanted_row (get_or rows k d) ≡ false

pub first_of : (rows : List ProcessRow) (i : ℕ) (d : ProcessRow) → position is_wanted_row rows ≡ Some i → IsFirst rows i d
first_of rows i d e = let p = position-Some is_wanted_row rows i d e in record { within = p.0; wanted = p.1; none = p.2 }

next_first : (row : ProcessRow) (rows : List ProcessRow) (i : ℕ) (d : ProcessRow) → IsFirst (row ∷ rows) (suc i) d → IsFirst rows i d
next_first row rows i d f = record {
  within = (let lt = f.within in omega arith);
  wanted = f.wanted;
  none = λ k lt. f.none (suc k) (omega (arith, lt));
}

pub words_at : (rows : List ProcessRow) (i : ℕ) (d : ProcessRow) → IsFirst rows i d
    → next_words (wanted_in rows) ≡ words_told (get_or rows i d).line
words_at [] i d f = absurd (let lt = f.within in omega arith)
words_at (row ∷ rows) zero d f = ap (λ b. next_words (map wanted_of (cond b (row ∷ filter is_wanted_row rows) (filter is_wanted_row rows))))
    f.wanted
words_at (row ∷ rows) (suc i) d f =
    ap (λ b. next_words (map wanted_of (cond b (row ∷ filter is_wanted_row rows) (filter is_wanted_row rows)))) (f.none zero (omega arith))
    ∙ words_at rows i d (next_first row rows i d f)

pub without_at : (rows : List ProcessRow) (i : ℕ) (d : ProcessRow) → IsFirst rows i d
    → wanted_in (set rows i (emptied (get_or rows i d))) ≡ without_words (wanted_in rows)
without_at [] i d f = absurd (let lt = f.within in omega arith)
without_at (row ∷ rows) zero d f =
    ap (λ b. map wanted_of (cond b (emptied row ∷ filter is_wanted_row rows) (filter is_wanted_row rows))) f.wanted
    ∙ sym (ap (λ b. without_words (map wanted_of (cond b (row ∷ filter is_wanted_row rows) (filter is_wanted_row rows)))) f.wanted)
without_at (row ∷ rows) (suc i) d f =
    let none = f.none zero (omega arith) in
    ap (λ b. map wanted_of (cond b (row ∷ filter is_wanted_row (set rows i (emptied (get_or rows i d))))
    (filter is_wanted_row (set rows i (emptied (get_or rows i d)))))) none
    ∙ without_at rows i d (next_first row rows i d f)
    ∙ sym (ap (λ b. without_words (map wanted_of (cond b (row ∷ filter is_wanted_row rows) (filter is_wanted_row rows)))) none)

pub processes_at : (rows : List ProcessRow) (i : ℕ) (d : ProcessRow) → processes_in
    (set rows i (emptied (get_or rows i d))) ≡ processes_in rows
processes_at [] i d = refl
processes_at (row ∷ rows) zero d = refl
processes_at (row ∷ rows) (suc i) d = ap (λ x. process_shown row ∷ x) (processes_at rows i d)

none_of : (rs : List ProcessRow) → All (λ (row : ProcessRow). is_wanted_row row ≡ false) rs → wanted_in rs ≡ []
none_of [] all = refl
none_of (r ∷ rs) all =
    ap (λ b. map wanted_of (cond b (r ∷ filter is_wanted_row rs) (filter is_wanted_row rs))) (all zero r (omega arith))
    ∙ none_of rs (λ k d lt. all (suc k) d (omega (arith, lt)))

past : (rows : List ProcessRow) → position is_wanted_row rows ≡ None → length rows ≤ position_or_len is_wanted_row rows
past rows e =
    elim (nat_lt (position_or_len is_wanted_row rows) (length rows)) as (λ b. nat_lt (position_or_len is_wanted_row rows) (length rows) ≡ b
    → cond b (Some (position_or_len is_wanted_row rows)) None ≡ None → length rows ≤ position_or_len is_wanted_row rows) [
      | true ↦ λ t s. absurd cc
      | false ↦ λ t s. grind (arith, nat_tests)
    ] refl e

pub none_wanted : (rows : List ProcessRow) → position is_wanted_row rows ≡ None → wanted_in rows ≡ []
none_wanted rows e = none_of rows (λ k d lt. fails_before_first is_wanted_row rows k d (let p = past rows e in omega (arith, lt, p)))

-- a row that is found has what all have
pub found_has : (P : Service → Type 0) (p : Service → Bool) (rows : List Service) → All P rows → IfSome (find p rows) P
found_has P p [] all = tt
found_has P p (row ∷ rows) all =
    elim (p row) as (λ b. IfSome (cond b (Some row) (find p rows)) P)
    [ true ↦ all zero row (omega arith) | false ↦ found_has P p rows (λ k d lt. all (suc k) d (omega (arith, lt))) ]

pub short_with : (f : Flat) (service : Option ℕ) → All HasShort f.services → IfSome (option_and_then (service_of f) service) HasShort
short_with f None all = tt
short_with f (Some number) all = found_has HasShort (λ (row : Service). row.number == number) f.services all

-- ## Lines

pub first_lined : (f : Flat) (rows : List Wanted) (row : Wanted) → slice_get rows 0 ≡ Some row → first_line f rows ≡ line_of f row
first_lined f [] row e = absurd cc
first_lined f (one ∷ rows) row e = let same : one ≡ row = cc in ap (line_of f) same

pub none_lined : (f : Flat) (rows : List Wanted) → slice_get rows 0 ≡ None → first_line f rows ≡ ([], [])
none_lined f [] e = refl
none_lined f (one ∷ rows) e = absurd cc

line_words : (f : Flat) (row : Wanted) → cond row.command [] row.words ≡ (line_of f row).1
line_words f row =
    elim row.command as (λ b. cond b [] row.words ≡ (cond {A = List ℕ × List (List ℕ)} b (head_word row.words, [])
    (path_in (option_and_then (service_of f) (service_of_process f row.process)), row.words)).1) [ true ↦ refl | false ↦ refl ]

pub first_words : (f : Flat) (rows : List Wanted) → next_words rows ≡ (first_line f rows).1
first_words f [] = refl
first_words f (row ∷ rows) = line_words f row

-- and the service that a handle is of
pub held_has : (P : Service → Type 0) (rows : List Service) (handle : Option Opened) → All P rows
    → IfSome (option_and_then (λ (of : Opened). find (λ (row : Service). row.number == of.service) rows) handle) P
held_has P rows None all = tt
held_has P rows (Some of) all = found_has P (λ (row : Service). row.number == of.service) rows all
