use Rattle.std.proofs.Common.{Some, arith}
use Rattle.scm_model.specs.declared.calls.Reply.{Reply}
use Rattle.scm_shapes.proofs.Calls.{calls_found, calls_only}
use Rattle.scm_calls.specs.Replies.{reply_shape, reply_from, reply_values, kind_of}
use Rattle.scm_bodies.specs.Calls.{reply_kind}
use Rattle.scm_bodies.proofs.Codecs.{reply_codec}
use Rattle.scm_bodies.proofs.bodies.read_reply.Goals as goal

pub returns-clause-found : goal.returns-clause-found
returns-clause-found c = calls_found reply_shape reply_from (λ (r : Reply). Some (kind_of r)) reply_values reply_codec
    (reply_kind c.args.call) c.args.body.now c.read_told.result (λ i. omega (arith, c.type_inv.body i)) c.read_told.ensures.exact

pub returns-clause-only : goal.returns-clause-only
returns-clause-only c = calls_only reply_shape reply_from (λ (r : Reply). Some (kind_of r)) reply_values reply_codec
    (reply_kind c.args.call) c.args.body.now c.read_told.result (λ i. omega (arith, c.type_inv.body i)) c.read_told.ensures.exact
