-- The files of a disk.
use Rattle.std.specs.Prelude.{ℕ, zero, suc, ◌≡◌, ◌+◌, ◌≤◌, max, List, [], ◌++◌, length, take, drop}

-- one says which of two logs is read
pub record Files : Type 0 where
  pub selector : List ℕ
  pub one : List ℕ
  pub two : List ℕ

abbrev pub no_files : Files
no_files = record { selector = []; one = []; two = [] }

-- a file by its number: 0 selects, 1 and 2 are the logs
abbrev pub file : Files → ℕ → List ℕ
file f zero = f.selector
file f (suc zero) = f.one
file f (suc (suc n)) = f.two

abbrev pub with_file : Files → ℕ → List ℕ → Files
with_file f zero bytes = record f { selector = bytes }
with_file f (suc zero) bytes = record f { one = bytes }
with_file f (suc (suc n)) bytes = record f { two = bytes }

-- bytes put in the place of those that stand there, and past the end
abbrev pub put : ℕ → List ℕ → List ℕ → List ℕ
put at bytes old = take at old ++ bytes ++ drop (at + length bytes) old

abbrev pub written : ℕ → ℕ → List ℕ → Files → Files
written n at bytes f = with_file f n (put at bytes (file f n))

-- after a write of so many bytes that is cut short: any bytes in the range and past the old end, and the same elsewhere
pub record Torn (at size : ℕ) (old new : List ℕ) : Type 0 where
  pub before : take at new ≡ take at old
  pub after : drop (at + size) new ≡ drop (at + size) old
  pub no_shorter : length old ≤ length new
  pub no_longer : length new ≤ max (length old) (at + size)

-- in one file, and the others stay
pub record TornFile (n at size : ℕ) (old new : Files) : Type 0 where
  pub bytes : List ℕ
  pub is : new ≡ with_file old n bytes
  pub torn : Torn at size (file old n) bytes
