use Rattle.std.proofs.Common.{ap, ◌∙◌}
use Rattle.journal_disk.specs.Calls.{history}
use Rattle.journal_disk.proofs.Telling.{past_more}
use Rattle.journal_disk.proofs.calls.record_call.Goals as goal

pub returns-clause-ok : goal.returns-clause-ok
returns-clause-ok c = ap history c.in_ok-push.ensures.items ∙ past_more _ c.args.calls.now.items c.args.taken
