use Rattle.scm_calls_cfg.proofs.requests.put_new.Goals as goal

pub returns : goal.returns
returns c = c.write_pieces.ensures.written
