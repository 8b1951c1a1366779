-- Options, word by word.
use Rattle.std.proofs.Common.{ℕ, ◌≡◌, ◌<◌, true, false, List, Option, None, Some, length, refl}
use Rattle.std.proofs.Common.{arith}
use Rattle.std.specs.Prelude.{nat_lt}
use Rattle.std.specs.Borrow.{Bor}
use Rattle.std.specs.List.{after_first, before_first, position_or_len}
use Rattle.std.specs.Option.{MatchOption}
use Rattle.std.proofs.lemmas.Str.Pattern.{IsSplitOnceResult, split_once_first}
use Rattle.scmd_top.specs.Parts.{IsParts}
use Rattle.scmd_top.specs.Settings.{is_equals, named_value}

not_below : (n : ℕ) → nat_lt n n ≡ false
not_below n = grind arith

is_below : (m n : ℕ) → m < n → nat_lt m n ≡ true
is_below m n lt = grind (arith, lt)

none_where : (word : List ℕ) → position_or_len is_equals word ≡ length word → named_value word ≡ None
none_where word at = rw at (rw (not_below (length word)) refl)

some_where : (word name value : List ℕ) → position_or_len is_equals word < length word → name ≡ before_first is_equals word
    → value ≡ after_first is_equals word → named_value word ≡ Some (name, value)
some_where word name value within before after = rw (is_below (position_or_len is_equals word) (length word) within)
    (rw before (rw after refl))

parts_where : (word : List ℕ) (r : Option (Bor (List ℕ) × Bor (List ℕ)))
    → MatchOption r (position_or_len is_equals word ≡ length word)
    (λ x. (position_or_len is_equals word < length word) × (x.0.now ≡ before_first is_equals word) × (x.1.now ≡ after_first is_equals word))
    → IsParts (named_value word) r
parts_where word None at = none_where word at
parts_where word (Some x) at = some_where word x.0.now x.1.now at.0 at.1 at.2

pub parts_of : (word : List ℕ) (r : Option (Bor (List ℕ) × Bor (List ℕ))) → IsSplitOnceResult 61 word r → IsParts (named_value word) r
parts_of word r split = parts_where word r (split_once_first 61 word r split (omega arith))
