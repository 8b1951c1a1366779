-- Tests of four parts.
use Rattle.std.proofs.Common.{◌≡◌, Bool, true}
use Rattle.std.specs.Prelude.{◌&&◌}
use Rattle.std.proofs.lemmas.Bool.{and_parts, and_from}

pub four_parts : (a b c d : Bool) → (a && b && c && d) ≡ true → (a ≡ true) × (b ≡ true) × (c ≡ true) × (d ≡ true)
four_parts a b c d e =
    let last = and_parts (a && b && c) d e in
    let third = and_parts (a && b) c last.0 in
    let second = and_parts a b third.0 in
    (second.0, second.1, third.1, last.1)

pub from_four : (a b c d : Bool) → a ≡ true → b ≡ true → c ≡ true → d ≡ true → (a && b && c && d) ≡ true
from_four a b c d first second third last =
    and_from (a && b && c) d (and_from (a && b) c (and_from a b first second) third) last
