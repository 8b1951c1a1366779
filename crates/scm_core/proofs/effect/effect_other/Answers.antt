use Rattle.std.proofs.Common.{◌∙◌}
use Rattle.scm_core.proofs.Beforehand.{can_fire, end_numbers, raise_numbers}
use Rattle.scm_core.proofs.effect.effect_other.Goals as goal

pub join-requires-clause-room : goal.join-requires-clause-room
join-requires-clause-room c = rw c.in-Joined.is at c.requires.room

pub end-requires : goal.end-requires
end-requires c = end_numbers c.args.tables.now.flat c.requires.numbers

pub tick-requires : goal.tick-requires
tick-requires c =
    can_fire c.args.tables.now (rw c.in-Tick.is at c.requires.room) c.requires.numbers c.requires.limit c.requires.processes

pub raise-requires-clause-numbers : goal.raise-requires-clause-numbers
raise-requires-clause-numbers c = raise_numbers _ _ _ c.requires.numbers

pub returns-in-Joined-clause-answer : goal.returns-in-Joined-clause-answer
returns-in-Joined-clause-answer c = rw c.in-Joined.is (c.put.ensures ∙ c.join.ensures.answer)

pub returns-in-Joined-clause-flat : goal.returns-in-Joined-clause-flat
returns-in-Joined-clause-flat c = rw c.in-Joined.is c.join.ensures.flat

pub returns-in-EndStart-clause-answer : goal.returns-in-EndStart-clause-answer
returns-in-EndStart-clause-answer c = rw c.in-EndStart.is (c.put-in-EndStart.ensures ∙ c.end_start.ensures.answer)

pub returns-in-EndStart-clause-flat : goal.returns-in-EndStart-clause-flat
returns-in-EndStart-clause-flat c = rw c.in-EndStart.is c.end_start.ensures.flat

pub returns-in-LaunchTaken-clause-answer : goal.returns-in-LaunchTaken-clause-answer
returns-in-LaunchTaken-clause-answer c = rw c.in-LaunchTaken.is (c.put-in-LaunchTaken.ensures ∙ c.take_launch.ensures.answer)

pub returns-in-LaunchTaken-clause-flat : goal.returns-in-LaunchTaken-clause-flat
returns-in-LaunchTaken-clause-flat c = rw c.in-LaunchTaken.is c.take_launch.ensures.flat

pub returns-in-Launched-clause-answer : goal.returns-in-Launched-clause-answer
returns-in-Launched-clause-answer c = rw c.in-Launched.is (c.put-in-Launched.ensures ∙ c.launched.ensures.answer)

pub returns-in-Launched-clause-flat : goal.returns-in-Launched-clause-flat
returns-in-Launched-clause-flat c = rw c.in-Launched.is c.launched.ensures.flat

pub returns-in-LaunchFailed-clause-answer : goal.returns-in-LaunchFailed-clause-answer
returns-in-LaunchFailed-clause-answer c = rw c.in-LaunchFailed.is (c.put-in-LaunchFailed.ensures ∙ c.fail_launch.ensures.answer)

pub returns-in-LaunchFailed-clause-flat : goal.returns-in-LaunchFailed-clause-flat
returns-in-LaunchFailed-clause-flat c = rw c.in-LaunchFailed.is c.fail_launch.ensures.flat

pub returns-in-Report-clause-answer : goal.returns-in-Report-clause-answer
returns-in-Report-clause-answer c = rw c.in-Report.is (c.put-in-Report.ensures ∙ c.report.ensures.answer)

pub returns-in-Report-clause-flat : goal.returns-in-Report-clause-flat
returns-in-Report-clause-flat c = rw c.in-Report.is c.report.ensures.flat

pub returns-in-Ended-clause-answer : goal.returns-in-Ended-clause-answer
returns-in-Ended-clause-answer c = rw c.in-Ended.is (c.put-in-Ended.ensures ∙ c.end.ensures.answer)

pub returns-in-Ended-clause-flat : goal.returns-in-Ended-clause-flat
returns-in-Ended-clause-flat c = rw c.in-Ended.is c.end.ensures.flat

pub returns-in-ControlTaken-clause-answer : goal.returns-in-ControlTaken-clause-answer
returns-in-ControlTaken-clause-answer c = rw c.in-ControlTaken.is (c.put-in-ControlTaken.ensures ∙ c.take_control.ensures.answer)

pub returns-in-ControlTaken-clause-flat : goal.returns-in-ControlTaken-clause-flat
returns-in-ControlTaken-clause-flat c = rw c.in-ControlTaken.is c.take_control.ensures.flat

pub returns-in-Tick-clause-answer : goal.returns-in-Tick-clause-answer
returns-in-Tick-clause-answer c = rw c.in-Tick.is (c.put-in-Tick.ensures ∙ c.tick.ensures.answer)

pub returns-in-Tick-clause-flat : goal.returns-in-Tick-clause-flat
returns-in-Tick-clause-flat c = rw c.in-Tick.is c.tick.ensures.flat

pub returns-in-Gone-clause-answer : goal.returns-in-Gone-clause-answer
returns-in-Gone-clause-answer c = rw c.in-Gone.is (c.put-in-Gone.ensures ∙ c.leave.ensures.answer)

pub returns-in-Gone-clause-flat : goal.returns-in-Gone-clause-flat
returns-in-Gone-clause-flat c = rw c.in-Gone.is c.leave.ensures.flat

pub unreachable-requires : goal.unreachable-requires
unreachable-requires c = c.requires.other c.in-Call.caller c.in-Call.request c.in-Call.kept c.in-Call.is
