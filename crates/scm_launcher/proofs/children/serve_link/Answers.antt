use Rattle.scm_launcher.proofs.children.serve_link.Goals as goal

pub returns-clause-serves : goal.returns-clause-serves
returns-clause-serves g c = record {
  last = c.serve_child-ended.new.link;
  serves = c.serve_child-ended.ensures.serves;
  cause = c.serve_child-ended.ensures.cause;
  complete = c.serve_child-ended.ensures.complete;
}
