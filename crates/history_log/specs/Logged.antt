-- A log of a run's history, as contracts see it.
use Rattle.std.specs.Prelude.{ℕ, List, Option, None, Some}
use Rattle.history_log.specs.declared.log.Place.{Place}
use Rattle.history_log.specs.declared.log.Place.TheVariants.{Nowhere, Memory, File}

-- what is held there, where it tells that
abbrev pub held_in : Place → Option (List ℕ)
held_in Nowhere = None
held_in (Memory sink) = Some sink.held
held_in (File sink) = None

pub record Logged : Type 0 where
  pub held : Option (List ℕ)  -- the bytes that it holds, where it tells them
  pub faults : ℕ  -- how often it failed

-- a log that tells nothing, and hasn't failed
abbrev pub nowhere : Logged
nowhere = record { held = None; faults = 0 }
