-- What may befall a service while the plans that sleep for it are woken.
use Rattle.std.specs.Prelude.{ℕ, ◌≡◌, ◌≢◌}
use Rattle.scm_model.specs.declared.flat.Service.{Service}

-- a change of the service with a number, which keeps it
pub record IsChangeOf (number : ℕ) (change : Service → Service) : Type 0 where
  pub same : (row : Service) → (change row).number ≡ row.number
  pub others : (row : Service) → row.number ≢ number → change row ≡ row
