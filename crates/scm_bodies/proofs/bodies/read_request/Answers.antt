use Rattle.std.proofs.Common.{IsTrue, arith}
use Rattle.scm_model.specs.declared.calls.Request.{Request}
use Rattle.scm_model.specs.Ranges.{in_range}
use Rattle.scm_shapes.specs.Calls.{shape_in}
use Rattle.scm_shapes.proofs.Calls.{calls_found, calls_only, calls_ranged}
use Rattle.scm_shapes.proofs.Carried.{all_carried}
use Rattle.scm_bodies.specs.Calls.{to_call}
use Rattle.scm_bodies.specs.Requests.{shape_of, request_from, values_of, AreCarried}
use Rattle.scm_bodies.proofs.Codecs.{request_codec, held_ranged}
use Rattle.scm_bodies.proofs.bodies.read_request.Goals as goal

pub returns-clause-found : goal.returns-clause-found
returns-clause-found c = calls_found shape_of request_from to_call values_of request_codec c.args.call c.args.body.now c.read.result
    (λ i. omega (arith, c.type_inv.body i)) c.read.ensures.exact

pub returns-clause-only : goal.returns-clause-only
returns-clause-only c = calls_only shape_of request_from to_call values_of request_codec c.args.call c.args.body.now c.read.result
    (λ i. omega (arith, c.type_inv.body i)) c.read.ensures.exact

pub returns-clause-ranged : goal.returns-clause-ranged
returns-clause-ranged c =
    let found = calls_found shape_of request_from to_call values_of request_codec c.args.call c.args.body.now c.read.result
    (λ i. omega (arith, c.type_inv.body i)) c.read.ensures.exact in
    calls_ranged shape_of request_from to_call values_of request_codec (λ (r : Request). IsTrue (in_range r)) c.args.call c.args.body.now
    c.read.result (λ r e h. held_ranged r h) found

pub returns-clause-carried : goal.returns-clause-carried
returns-clause-carried c =
    let found = calls_found shape_of request_from to_call values_of request_codec c.args.call c.args.body.now c.read.result
    (λ i. omega (arith, c.type_inv.body i)) c.read.ensures.exact in
    calls_ranged shape_of request_from to_call values_of request_codec AreCarried c.args.call c.args.body.now c.read.result
    (λ r e h. all_carried (shape_in shape_of (to_call r)) (values_of r) h) found
