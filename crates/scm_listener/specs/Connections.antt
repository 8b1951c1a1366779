-- Connections that are past, and where a listener listened.
use Rattle.std.specs.Prelude.{ℕ, List, [], ◌∷◌, ◌++◌, Option, Result, Ok, Err, option_map}
use Rattle.scm_listener.specs.declared.listener.Listening.{Listening}

-- what is known of a connection that is past
pub record PastConnection : Type 0 where
  -- how many were handed out before it
  pub number : ℕ
  -- what its peer sent and wasn't read, and what was written to it
  pub left : Option (List ℕ)
  pub written : Option (List ℕ)
  -- how often reads and writes failed
  pub read_faults : ℕ
  pub write_faults : ℕ

abbrev pub past_of : (number : ℕ) → (left written : Option (List ℕ)) → (read_faults write_faults : ℕ) → PastConnection
past_of number left written read_faults write_faults =
    record { number = number; left = left; written = written; read_faults = read_faults; write_faults = write_faults }

-- these and one more, if they are known
abbrev pub and_last : {A : Type 0} → Option (List A) → A → Option (List A)
and_last told x = option_map (λ xs. xs ++ x ∷ []) told

-- where it listened, after a call that was to listen there
abbrev pub listened_after : {T E : Type 0} → Result T E → Option (List Listening) → Listening → Option (List Listening)
listened_after (Ok done) told one = and_last told one
listened_after (Err fault) told one = told
