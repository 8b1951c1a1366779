-- No number is given again.
use Rattle.std.specs.Prelude.{ℕ, Bool, ◌≡◌, ◌⊎◌, ◌≤◌, ◌==◌, ◌++◌, true, false, All, Contains, List, [], ◌∷◌, is_some}
use Rattle.std.specs.List.{list_any}
use Rattle.scm_model.specs.declared.flat.Due.{Due}
use Rattle.scm_model.specs.declared.flat.Flat.{Flat}
use Rattle.scm_model.specs.declared.flat.HandleRow.{HandleRow}
use Rattle.scm_model.specs.declared.flat.Limits.{Limits}
use Rattle.scm_model.specs.declared.flat.Registration.{Registration}
use Rattle.scm_model.specs.declared.flat.Service.{Service}
use Rattle.scm_model.specs.declared.steps.Answer.{Answer}
use Rattle.scm_model.specs.Entries.{Entry}
use Rattle.scm_model.specs.Rows.{is_caller}
use Rattle.start_plan.specs.Decided.{plan_of}
use Rattle.scm_rules.specs.Histories.{state}
use Rattle.scm_rules.specs.Launches.{process_of}
use Rattle.scm_rules.specs.Valid.{AreNumbered, AreApart}

-- whether a row has this number
abbrev pub is_in_rows : {A : Type 0} → (A → ℕ) → ℕ → List A → Bool
is_in_rows number_of number rows = list_any (λ row. number_of row == number) rows

abbrev pub has_service : ℕ → Flat → Bool
has_service number f = is_in_rows (λ (row : Service). row.number) number f.services

abbrev pub has_handle : ℕ → Flat → Bool
has_handle number f = is_in_rows (λ (row : HandleRow). row.number) number f.handles

abbrev pub has_registration : ℕ → Flat → Bool
has_registration number f = is_in_rows (λ (row : Registration). row.number) number f.registrations

abbrev pub has_due : ℕ → Flat → Bool
has_due number f = is_in_rows (λ (row : Due). row.number) number f.dues

-- ## A step: services, handles, registrations and rows that become due

-- the rows of one kind after a step: their numbers rise below the next one, which never falls, and
-- each row stood before, or has a number that was not given before
pub record AreGivenOnce {A : Type 0} (number_of : A → ℕ) (Stood : A → Type 0) (next later : ℕ)
    (rows : List A) : Type 0 where
  pub numbered : AreNumbered number_of later rows
  pub rising : next ≤ later
  pub once : All (λ row. Stood row ⊎ (next ≤ number_of row)) rows

-- a service keeps its number, whatever changes of it
abbrev pub HasStood : Flat → Service → Type 0
HasStood before row = has_service row.number before ≡ true

-- so does a registration, whatever it is notified of
abbrev pub HasWatched : Flat → Registration → Type 0
HasWatched before row = has_registration row.number before ≡ true

-- registrations stand in the order of what they watch: no two have a number in common
pub record AreRegisteredOnce (before after : Flat) : Type 0 where
  pub numbered : AreApart (λ (row : Registration). row.number) after.next.registration after.registrations
  pub rising : before.next.registration ≤ after.next.registration
  pub once : All (λ row. HasWatched before row ⊎ (before.next.registration ≤ row.number)) after.registrations

pub record AllAreGivenOnce (before : Flat) (e : Entry) (told : Answer) (after : Flat) : Type 0 where
  pub services : AreGivenOnce (λ (row : Service). row.number) (HasStood before)
      before.next.service after.next.service after.services
  pub handles : AreGivenOnce (λ (row : HandleRow). row.number) (Contains before.handles)
      before.next.handle after.next.handle after.handles
  pub registrations : AreRegisteredOnce before after
  pub dues : AreGivenOnce (λ (row : Due). row.number) (Contains before.dues)
      before.next.due after.next.due after.dues

-- ## A history

-- a number that an entry takes away isn't there after anything that follows
abbrev pub IsNeverAgain : (ℕ → Flat → Bool) → Limits → Flat → List Entry → Type 0
IsNeverAgain is_there l f es =
    (number : ℕ) (front : List Entry) (e : Entry) (rest : List Entry) → es ≡ front ++ e ∷ rest
    → is_there number (state l f front) ≡ true
    → is_there number (state l f (front ++ e ∷ [])) ≡ false
    → is_there number (state l f es) ≡ false

pub record NoneIsGivenAgain (l : Limits) (f : Flat) (es : List Entry) : Type 0 where
  pub callers : IsNeverAgain (λ number g. is_caller g number) l f es
  pub processes : IsNeverAgain (λ number g. is_some (process_of g number)) l f es
  pub plans : IsNeverAgain (λ number g. is_some (plan_of g.plans number)) l f es
  pub services : IsNeverAgain has_service l f es
  pub handles : IsNeverAgain has_handle l f es
  pub registrations : IsNeverAgain has_registration l f es
  pub dues : IsNeverAgain has_due l f es
