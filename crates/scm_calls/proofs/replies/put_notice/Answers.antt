use Rattle.scm_calls.proofs.replies.put_notice.Goals as goal

pub returns : goal.returns
returns c = c.write_pieces.ensures.written
