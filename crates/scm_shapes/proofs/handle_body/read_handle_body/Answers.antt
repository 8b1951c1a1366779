use Rattle.std.proofs.Common.{subst}
use Rattle.ndr_body.specs.Reading.{Gives}
use Rattle.scm_shapes.proofs.ReadAtOnce.{read_at_once}
use Rattle.scm_shapes.proofs.handle_body.read_handle_body.Goals as goal

pub returns-clause-exact : goal.returns-clause-exact
returns-clause-exact c = subst (Gives (λ held. held) c.read.result) (read_at_once c.args.body.now c.args.shape.now c.requires)
    (rw c.rest.ensures at c.read.ensures.exact)
