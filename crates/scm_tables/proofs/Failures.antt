-- Failures: the services that they are of are there.
use Rattle.std.proofs.Common.{ℕ, ◌≡◌, ◌∙◌, ◌==◌, ◌||◌, Bool, true, false, cond, Option, None, Some, List, [], ◌∷◌, find, map, ap, sym, refl}
use Rattle.std.proofs.Common.{subst, eq-eqb}
use Rattle.std.specs.Prelude.{IfSome, option_map}
use Rattle.std.specs.List.{list_any}
use Rattle.failure_actions.specs.Failing.{on_failure}
use Rattle.scm_model.specs.declared.flat.Flat.{Flat}
use Rattle.scm_model.specs.declared.flat.Service.{Service}
use Rattle.scm_model.specs.declared.flat.Status.{Status}
use Rattle.scm_model.specs.Found.{if_found}
use Rattle.scm_rules.specs.Failures.{counted_if, failed_by, is_failure, with_failure}
use Rattle.scm_rules.specs.Needs.{need_row}
use Rattle.scm_rules.specs.Reports.{reported_if, reported_in}
use Rattle.scm_tables.proofs.Keeping.{reported_number}
use Rattle.scm_tables.specs.declared.failing.Failed.{Failed}
use Rattle.scm_tables.specs.Failed.{failed_at, with_failed}

-- ## The service is there

abbrev pub IsListed : List Service → Failed → Type 0
IsListed services failed = list_any (λ (row : Service). failed.number == row.number) services ≡ true

-- a row that was found is there after a change that keeps each number
pub found_listed : (p : Service → Bool) (change : Service → Service) → ((row : Service) → (change row).number ≡ row.number)
    → (rows : List Service) (row : Service) → find p rows ≡ Some row
    → list_any (λ (r : Service). row.number == r.number) (map change rows) ≡ true
found_listed p change same [] row e = absurd cc
found_listed p change same (one ∷ rows) row e =
    elim (p one) as (λ b. cond b (Some one) (find p rows) ≡ Some row → list_any (λ (r : Service). row.number == r.number)
    (map change (one ∷ rows)) ≡ true) [
      | true ↦ λ is.
          let one_is : one ≡ row = cc in
          ap (λ b. b || list_any (λ (r : Service). row.number == r.number) (map change rows))
          (eq-eqb row.number (change one).number (sym (same one ∙ ap (λ (r : Service). r.number) one_is)))
      | false ↦ λ is. or_true (row.number == (change one).number) _ (found_listed p change same rows row is)
    ] e
  where
    or_true : (a b : Bool) → b ≡ true → (a || b) ≡ true
    or_true true b e = refl
    or_true false b e = e

-- so it is as it stood
found_there : (p : Service → Bool) (rows : List Service) (row : Service) → find p rows ≡ Some row
    → list_any (λ (r : Service). row.number == r.number) rows ≡ true
found_there p [] row e = absurd cc
found_there p (one ∷ rows) row e =
    elim (p one) as (λ b. cond b (Some one) (find p rows) ≡ Some row → list_any (λ (r : Service). row.number == r.number) (one ∷ rows)
    ≡ true) [
      | true ↦ λ is.
          let one_is : one ≡ row = cc in
          ap (λ b. b || list_any (λ (r : Service). row.number == r.number) rows)
          (eq-eqb row.number one.number (sym (ap (λ (r : Service). r.number) one_is)))
      | false ↦ λ is. or_true (row.number == one.number) _ (found_there p rows row is)
    ] e
  where
    or_true : (a b : Bool) → b ≡ true → (a || b) ≡ true
    or_true true b e = refl
    or_true false b e = e

-- so is the service of a failure
pub failure_there : (moment : ℕ) (p : Service → Bool) (rows : List Service) (found : Option Service) → find p rows ≡ found
    → IfSome (option_map (failed_at moment) found) (IsListed rows)
failure_there moment p rows None e = tt
failure_there moment p rows (Some row) e = found_there p rows row e

pub taken_listed : (moment : ℕ) (report : Status) (p : Service → Bool) (rows : List Service) (found : Option Service) → find p rows ≡ found
    → IfSome (option_map (failed_at moment) (failed_by report found)) (IsListed (reported_in report found rows))
taken_listed moment report p rows None e = tt
taken_listed moment report p rows (Some row) e =
    elim (is_failure report row) as (λ b. IfSome (option_map (failed_at moment) (cond b (Some row) None))
    (IsListed (map (reported_if row.number report) rows)))
    [ true ↦ found_listed p (reported_if row.number report) (reported_number row.number report) rows row e | false ↦ tt ]

pub listed_map : (number : ℕ) (change : Service → Service) → ((row : Service) → (change row).number ≡ row.number) → (rows : List Service)
    → list_any (λ (r : Service). number == r.number) (map change rows) ≡ list_any (λ (r : Service). number == r.number) rows
listed_map number change same [] = refl
listed_map number change same (row ∷ rows) =
    ap (λ (n : ℕ). (number == n) || list_any (λ (r : Service). number == r.number) (map change rows)) (same row)
    ∙ ap (λ b. (number == row.number) || b) (listed_map number change same rows)

-- ## What a failure comes to

pub failed_as : (moment : ℕ) (found : Option Service) (f : Flat) → f.moment ≡ moment
    → if_found with_failed (option_map (failed_at moment) found) f ≡ if_found with_failure found f
failed_as moment None f same = refl
failed_as moment (Some row) f same = subst (λ (n : ℕ). if_found with_failed (option_map (failed_at n) (Some row)) f ≡ with_failure row f)
    same refl

-- ## What counting keeps

pub counted_config : (number moment : ℕ) (row : Service) → (counted_if number moment row).config ≡ row.config
counted_config number moment row =
    elim (row.number == number) as (λ b. (cond b (record row {
      failures =
          (on_failure row.config row.failures row.last_failure moment).failures;
      last_failure = moment;
    }) row).config ≡ row.config)
    [ true ↦ refl | false ↦ refl ]

pub counted_number : (number moment : ℕ) (row : Service) → (counted_if number moment row).number ≡ row.number
counted_number number moment row =
    elim (row.number == number) as (λ b. (cond b (record row {
      failures =
          (on_failure row.config row.failures row.last_failure moment).failures;
      last_failure = moment;
    }) row).number ≡ row.number)
    [ true ↦ refl | false ↦ refl ]

pub counted_mark : (number moment : ℕ) (row : Service) → (counted_if number moment row).marked ≡ row.marked
counted_mark number moment row =
    elim (row.number == number) as (λ b. (cond b (record row {
      failures =
          (on_failure row.config row.failures row.last_failure moment).failures;
      last_failure = moment;
    }) row).marked ≡ row.marked)
    [ true ↦ refl | false ↦ refl ]

pub counted_needs : (number moment : ℕ) (row : Service) → need_row (counted_if number moment row) ≡ need_row row
counted_needs number moment row =
    elim (row.number == number) as (λ b. need_row (cond b (record row {
      failures =
          (on_failure row.config row.failures row.last_failure moment).failures;
      last_failure = moment;
    }) row) ≡ need_row row)
    [ true ↦ refl | false ↦ refl ]
