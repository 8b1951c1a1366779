use Rattle.std.proofs.Common.{Ok, List}
use Rattle.scm_shapes.specs.declared.item.Value.{Value}
use Rattle.scm_shapes.specs.declared.handle_body.HandleBody.{HandleBody}
use Rattle.scm_shapes.specs.Shapes.{body_values}
use Rattle.scm_shapes.specs.HandleBodies.{handle_body_of, handle_body_values}
use Rattle.scm_shapes.proofs.Calls.{made_of_part}
use Rattle.scm_bodies.specs.Requests.{shape_of, request_from}
use Rattle.scm_bodies.proofs.Codecs.{asked_by_handle}
use Rattle.scm_bodies.proofs.bodies.read_as_handle_body.Goals as goal

pub returns-clause-exact : goal.returns-clause-exact
returns-clause-exact c =
    let call = c.args.call in
    rw c.asked_by_handle_body.ensures (made_of_part handle_body_of (λ (held : HandleBody). request_from call (handle_body_values held))
    (request_from call) (body_values (shape_of call) c.args.body.now) (Ok c.in_ok-held.held)
    (λ (vs : List Value). asked_by_handle call vs c.requires) (rw c.shape_of.ensures at c.in_ok-held.ensures.exact))
