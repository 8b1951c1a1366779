-- Kept lists of what a need leads to.
use Rattle.std.specs.Prelude.{ℕ, ◌≡◌, true, nat_lt, List, [], ◌∷◌, ◌++◌, Option, None, Some, filter, IfSome}
use Rattle.std.specs.List.{AllByRecursion}
use Rattle.row_slab.specs.Rowed.{AreRisingBy}
use Rattle.scm_model.specs.declared.flat.Need.{Need}
use Rattle.scm_model.specs.declared.flat.NeedRow.{NeedRow}
use Rattle.scm_model.specs.Needs.{met_by, numbers_of}
use Rattle.dependency_index.specs.declared.graph.Resolved.{Resolved}
use Rattle.scm_text.specs.Numbers.{has}

-- a list is what a need leads to, and the rows stand in order of number
pub record IsListOf (rows : List NeedRow) (need : Need) (numbers : List ℕ) : Type 0 where
  pub all : numbers ≡ met_by rows need
  pub rising : AreRisingBy (λ (row : NeedRow). row.number) rows

abbrev pub below : ℕ → List ℕ → List ℕ
below number numbers = filter (λ x. nat_lt x number) numbers

abbrev pub above : ℕ → List ℕ → List ℕ
above number numbers = filter (λ x. nat_lt number x) numbers

abbrev pub own_number : Option ℕ → List ℕ
own_number None = []
own_number (Some number) = number ∷ []

abbrev pub all_of : Resolved → List ℕ
all_of met = met.before.now ++ (own_number met.own ++ met.after.now)

-- what a need leads to is listed
pub record AreListed (rows : List NeedRow) (met : Resolved) : Type 0 where
  pub before : AllByRecursion (λ number. has (numbers_of rows) number ≡ true) met.before.now
  pub own : IfSome met.own (λ number. has (numbers_of rows) number ≡ true)
  pub after : AllByRecursion (λ number. has (numbers_of rows) number ≡ true) met.after.now
