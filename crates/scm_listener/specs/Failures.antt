-- Which failures of the system's accept pass.
use Rattle.std.specs.Prelude.{ℕ, ℤ, Bool, false, List, [], ◌∷◌, Option, None, Some, nat_eq, unsigned_abs}
use Rattle.std.specs.List.{list_any}

-- EAGAIN, ENOMEM, ENFILE, EMFILE, EPROTO, ECONNABORTED and ENOBUFS, as Linux's errno.h numbers them
abbrev pub passing : List ℕ
passing = 11 ∷ 12 ∷ 23 ∷ 24 ∷ 71 ∷ 103 ∷ 105 ∷ []

-- whether a later accept may succeed, after a failure with this number of the system's
abbrev pub is_passing : Option ℤ → Bool
is_passing None = false
is_passing (Some code) = list_any (nat_eq (unsigned_abs code)) passing
