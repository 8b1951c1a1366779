-- Memory that is kept after its use.
use Rattle.std.specs.Prelude.{ℕ, nat_le, if◌then◌else◌}
use Rattle.rpc_session.specs.declared.spare.TheConstants.{KEPT_BYTES}

-- how many bytes are kept: those that were used last, unless they are more than the limit
abbrev pub kept_size : ℕ → ℕ → ℕ
kept_size kept used = if nat_le used KEPT_BYTES then used else kept
