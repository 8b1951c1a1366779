use Rattle.scm_calls.proofs.replies.put_filled.Goals as goal

pub returns-in-Notice : goal.returns-in-Notice
returns-in-Notice c = rw c.in-Notice.is c.put_notice.ensures
