-- The answer to a caller about the event that its registration was notified of.
use Rattle.std.specs.Prelude.{ℕ, Option, None, Some}
use Rattle.scm_model.specs.declared.calls.Reply.{Reply}
use Rattle.scm_model.specs.declared.calls.Reply.TheVariants as reply
use Rattle.scm_model.specs.Refused.{zero_process_status}
use Rattle.notify_queue.specs.declared.row.Notice.{Notice}

abbrev pub notice_told : Option Notice → ℕ → Reply
notice_told None code = reply.Notice 0 zero_process_status None code
notice_told (Some notice) code = reply.Notice notice.bit notice.status (Some notice.name) code
