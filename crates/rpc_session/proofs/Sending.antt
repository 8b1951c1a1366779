-- A body's fragments, one after another.
use Rattle.std.proofs.Common.{◌≡◌, ℕ, zero, suc, ◌<◌, ◌≤◌, ◌+◌, ◌-◌, List, [], ◌∷◌, ◌++◌, length, drop, Bool, false, refl, sym, ap, ◌∙◌}
use Rattle.std.proofs.Common.{arith}
use Rattle.rpc_session.specs.Replies.{fragment, fragments, room_of}

pub no_fragments : (n transmit call context : ℕ) (first : Bool) (rest : List ℕ) → length rest ≡ 0
    → length (fragments n transmit call context first rest) ≡ 0
unfolding fragments
no_fragments zero transmit call context first rest e = refl
no_fragments (suc n) transmit call context first [] e = refl
no_fragments (suc n) transmit call context first (b ∷ rest) e = absurd (omega (arith, e))

pub spent : (n k transmit call context : ℕ) (first : Bool) (rest : List ℕ) → n ≤ k
    → length (fragments (n - k) transmit call context first rest) ≡ 0
unfolding fragments
spent n k transmit call context first rest h = let e : n - k ≡ 0 = omega (arith, h) in rw e refl

one_more : (n transmit call context : ℕ) (first : Bool) (rest : List ℕ) → 0 < length rest
    → fragments (suc n) transmit call context first rest ≡ fragment transmit call context first rest
    ++ fragments n transmit call context false (drop (room_of transmit) rest)
unfolding fragments
one_more n transmit call context first [] h = absurd (omega (arith, h))
one_more n transmit call context first (b ∷ rest) h = refl

pub fragments_step : (n k transmit call context : ℕ) (first : Bool) (rest after : List ℕ) → k < n → 0 < length rest
    → after ≡ drop (room_of transmit) rest → fragments (n - k) transmit call context first rest ≡ fragment transmit call context first rest
    ++ fragments (n - (k + 1)) transmit call context false after
fragments_step n k transmit call context first rest after h some is =
    let e : n - k ≡ suc (n - (k + 1)) = omega (arith, h) in
    ap (λ m. fragments m transmit call context first rest) e ∙ one_more (n - (k + 1)) transmit call context first rest some
    ∙ ap (λ a. fragment transmit call context first rest ++ fragments (n - (k + 1)) transmit call context false a) (sym is)
