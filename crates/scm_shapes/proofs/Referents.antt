-- Referents: what is put as one is read as a number, and is none of nothing.
use Rattle.std.proofs.Common.{◌≡◌, ℕ, eqb, false, List, length, Ok, arith}
use Rattle.std.proofs.lemmas.Bool.{ne_eqb}
use Rattle.ndr_body.specs.Reading.{number_at}
use Rattle.ndr_body.specs.Writing.{Draft, put_number, put_referent}
use Rattle.ndr_body.specs.Laws.{IsReferent}
use Rattle.ndr_body.proofs.Written.{number_put, next_referent}
use Rattle.ndr_body.proofs.Chains.{Holds, read_there}

pub no_null : (n : ℕ) → IsReferent n → eqb n 0 ≡ false
no_null n referent = ne_eqb n 0 (λ e. omega (arith, referent.nonzero, e))

pub referent_next : (d : Draft) → IsReferent d.next → IsReferent (put_referent d).next
unfolding put_referent
referent_next d referent = next_referent d.next referent

pub referent_read : (body : List ℕ) (d : Draft) → IsReferent d.next → Holds body (put_referent d)
    → number_at body (length d.bytes) ≡ Ok (d.next, length (put_referent d).bytes)
unfolding put_referent put_number
referent_read body d referent held = read_there number_at (put_number d.next) d.next body d (number_put d.next referent.small) referent held
