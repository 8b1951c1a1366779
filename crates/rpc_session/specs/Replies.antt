-- The bytes of a reply.
use Rattle.std.specs.Prelude.{ℕ, zero, suc, ◌≤◌, ◌*◌, ◌-◌, ◌/◌, Bool, false, true, nat_le, List, [], ◌∷◌, ◌++◌, length, take, drop, Option}
use Rattle.std.specs.Prelude.{Some, None}
use Rattle.rpc_pdu.specs.Written.{response_bytes}
use Rattle.rpc_session.specs.declared.state.Terms.{Terms}

-- the greatest multiple of 8 that fits after the 24 bytes of a response's fields
abbrev pub room_of : ℕ → ℕ
room_of transmit = (transmit - 24) / 8 * 8

-- the fragment that the rest of a body begins with
unfoldable pub fragment : ℕ → ℕ → ℕ → Bool → List ℕ → List ℕ
fragment transmit call context first rest = response_bytes (record {
  call = call;
  first = first;
  last = nat_le (length rest) (room_of transmit);
  hint = length rest;
  context = context;
  stub = take (room_of transmit) rest;
})

-- the rest of a body in at most this many fragments
unfoldable pub fragments : ℕ → ℕ → ℕ → ℕ → Bool → List ℕ → List ℕ
fragments zero transmit call context first rest = []
fragments (suc n) transmit call context first [] = []
fragments (suc n) transmit call context first (b ∷ rest) =
    fragment transmit call context first (b ∷ rest) ++ fragments n transmit call context false (drop (room_of transmit) (b ∷ rest))

-- a body in fragments, of which each takes a byte at least
abbrev pub reply_fragments : ℕ → ℕ → ℕ → List ℕ → List ℕ
reply_fragments transmit call context body = fragments (length body) transmit call context true body

-- a bind_ack's transmit size is held between two bounds
abbrev pub FitsSize : Option Terms → Type 0
FitsSize None = Unit {0}
FitsSize (Some terms) = (1432 ≤ terms.transmit) × (terms.transmit ≤ 5840)
