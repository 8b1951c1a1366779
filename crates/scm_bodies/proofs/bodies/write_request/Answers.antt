use Rattle.std.proofs.Common.{subst, sym}
use Rattle.scm_shapes.proofs.Calls.{held_same, spelled_held, spelled_again}
use Rattle.scm_shapes.proofs.Carried.{all_carried}
use Rattle.scm_shapes.specs.Calls.{shape_in}
use Rattle.scm_shapes.specs.Laws.{CanHoldAll}
use Rattle.scm_bodies.specs.Calls.{to_call}
use Rattle.scm_bodies.specs.Requests.{shape_of, request_from, values_of}
use Rattle.scm_bodies.proofs.Codecs.{request_codec, request_same, of_a_call, held_ranged, ranged_held}
use Rattle.scm_bodies.proofs.bodies.write_request.Goals as goal

pub returns-clause-back : goal.returns-clause-back
returns-clause-back c = λ call bytes h.
    let r = c.args.request.now in
    let held = spelled_held shape_of request_from to_call values_of request_codec call bytes r h in (
      held_ranged r (subst (λ o. CanHoldAll (shape_in shape_of o) (values_of r)) (sym h.named) held),
      all_carried (shape_of call) (values_of r) held,
      spelled_again shape_of request_from to_call values_of request_codec call bytes r h,
    )

pub returns-clause-ranged : goal.returns-clause-ranged
returns-clause-ranged c = λ range h.
    let r = c.args.request.now in
    let asked = of_a_call r in
    let held = subst (λ o. CanHoldAll (shape_in shape_of o) (values_of r)) asked.1 (ranged_held r range h) in
    (asked.0, held_same shape_of request_from to_call values_of request_codec asked.0 r asked.1 (request_same r) held)
