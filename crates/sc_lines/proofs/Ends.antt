-- Texts as they are printed.
use Rattle.std.proofs.Common.{◌≡◌, ℕ, ◌≤◌, List, ◌++◌, length, drop, append-nil}
use Rattle.std.proofs.Math.ListN.{drop_of_length-le}
use Rattle.std.proofs.lemmas.Str.{utf16_chars-nil}
use Rattle.sc_lines.specs.Printed.{printed}

-- nothing is left
pub printed_end : (text units : List ℕ) (at : ℕ) → length units ≤ at → text ++ printed (drop at units) ≡ text
unfolding printed
printed_end text units at h = rw (drop_of_length-le units h, utf16_chars-nil) (append-nil text)
