-- What contracts see of a manager's fields, and what is always true of them.
use Rattle.std.specs.Prelude.{◌+◌, ◌*◌, ◌^◌, ◌≤◌, Option, None, Some, length, option_map}
use Rattle.scm_model.specs.declared.flat.Flat.{Flat}
use Rattle.scm_model.specs.declared.flat.Limits.{Limits}
use Rattle.scm_model.specs.declared.steps.Step.{Step}
use Rattle.scm_model.specs.Entries.{unkept}
use Rattle.scm_tables.specs.Firing.{starts_in}
use Rattle.scm_tables.specs.Tabled.{Tabled}
use Rattle.scm_core.specs.declared.room.Prepared.{Prepared}
use Rattle.scm_core.specs.declared.manager.Manager.TheInside.{Inside}
use Rattle.scm_core.specs.declared.room.Reservation.{Reservation}
use Rattle.scm_core.specs.Managed.{Managed}
use Rattle.scm_core.specs.Room.{HasRoomForStep, IsMadeFor}

-- the step that room was made for, before it is known whether its change was kept
abbrev pub promised : Option Reservation → Option Step
promised room = option_map (λ (p : Reservation). unkept p.step) room

abbrev pub managed : Inside → Managed
managed a = record { flat = a.tables.flat; limits = a.tables.limits; steps = a.steps; text = a.text; room = promised a.room }

-- the lists have the room that was promised
abbrev pub KeepsRoom : Tabled → Option Step → Type 0
KeepsRoom t None = Unit {0}
KeepsRoom t (Some step) = HasRoomForStep t step

-- what is made beforehand was made for the step in this state
abbrev pub KeepsMade : Limits → Flat → Prepared → Option Step → Type 0
KeepsMade l f made None = Unit {0}
KeepsMade l f made (Some step) = IsMadeFor l f made step

-- a step gives few numbers: of processes twice as many as may be listed, and with the starts that stand, of plans as many as services may
-- be
-- and of what becomes due twice as many, of all else one; few services stand from the beginning
pub record IsSound (a : Inside) : Type 0 where
  pub handles : a.tables.flat.next.handle ≤ a.steps + 1
  pub callers : a.tables.flat.next.caller ≤ a.steps + 1
  pub services : a.tables.flat.next.service ≤ a.steps + 2 ^ 11
  pub plans : a.tables.flat.next.plan + starts_in a.tables.flat.dues ≤ (a.steps + 1) * 2 ^ 11
  pub dues : a.tables.flat.next.due + starts_in a.tables.flat.dues ≤ (a.steps + 1) * 2 ^ 12
  pub registrations : a.tables.flat.next.registration ≤ a.steps + 1
  pub processes : a.tables.flat.next.process ≤ a.steps * 2 ^ 11 + 1
  pub few : length a.tables.flat.services ≤ a.tables.limits.services
  pub most : a.tables.limits.services ≤ 2 ^ 10
  pub limit : a.tables.limits.processes ≤ 2 ^ 10
  pub controls : a.tables.limits.controls ≤ 16
  pub room : KeepsRoom a.tables (promised a.room)
  pub made : KeepsMade a.tables.limits a.tables.flat a.made (promised a.room)
