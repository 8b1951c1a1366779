-- Texts that are returned as borrowed ones.
use Rattle.std.specs.Prelude.{ℕ, ◌≡◌, List, Option, None, Some}
use Rattle.std.specs.Borrow.{Bor}
use Rattle.std.specs.Option.{MatchOption}

abbrev pub IsParts : Option (List ℕ × List ℕ) → Option (Bor (List ℕ) × Bor (List ℕ)) → Type 0
IsParts parts told = MatchOption told (parts ≡ None) (λ x. parts ≡ Some (x.0.now, x.1.now))

abbrev pub IsText : Option (List ℕ) → Option (Bor (List ℕ)) → Type 0
IsText text told = MatchOption told (text ≡ None) (λ (x : Bor (List ℕ)). text ≡ Some x.now)

-- the text that is lent, if one is
abbrev pub lent : Option (Bor (List ℕ)) → Option (List ℕ)
lent None = None
lent (Some x) = Some x.now
