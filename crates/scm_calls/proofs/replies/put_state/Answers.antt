use Rattle.scm_calls.proofs.replies.put_state.Goals as goal

pub returns : goal.returns
returns c = c.write_numbers.ensures
