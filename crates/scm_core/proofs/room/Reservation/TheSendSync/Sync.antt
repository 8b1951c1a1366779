-- It owns nothing, so any thread may share it.
use denote.Param.Send.{IsSync, sendable, part_keyless}
use Rattle.scm_core.specs.contracts.room.Reservation.{the_row}

pub sync : IsSync the_row
sync = record { shared = λ x b o κ q. part_keyless the_row (search sendable) q x b o }
