-- What all jobs of the program share.
use Rattle.std.specs.Prelude.{ℕ, ◌≡◌, ◌⊎◌}
use Rattle.scm_model.specs.declared.flat.Limits.{Limits}

-- the limits of the program
abbrev pub program_limits : Limits
program_limits = record {
  services = 1024;
  handles = 1024;
  registrations = 64;
  callers = 64;
  processes = 128;
  controls = 16;
  steps = 16777216;
  text = 268435456;
}

-- the status, unless memory ran out
abbrev pub IsOrLacks : (due status : ℕ) → Type 0
IsOrLacks due status = (status ≡ due) ⊎ (status ≡ 8)
