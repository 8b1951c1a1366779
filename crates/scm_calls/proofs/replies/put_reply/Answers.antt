use Rattle.scm_calls.proofs.replies.put_reply.Goals as goal

pub returns-in-Notice : goal.returns-in-Notice
returns-in-Notice c = rw c.in-Notice.is (rw c.in-Notice.is at c.put_filled-in-Notice.ensures)
