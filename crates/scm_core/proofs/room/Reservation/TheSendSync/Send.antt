-- It owns nothing, so it may go to another thread.
use denote.Param.Send.{IsSend, sendable}
use Rattle.scm_core.specs.contracts.room.Reservation.{the_row}

pub send : IsSend the_row
send = search sendable
