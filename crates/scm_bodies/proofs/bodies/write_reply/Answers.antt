use Rattle.std.proofs.Common.{◌≤◌, ◌∙◌, Ok, Some, ap, subst, arith}
use Rattle.scm_model.specs.declared.calls.Reply.{Reply}
use Rattle.scm_shapes.proofs.Calls.{held_again, spelled_again}
use Rattle.scm_calls.specs.Replies.{reply_shape, reply_from, reply_values, kind_of, asked_size}
use Rattle.scm_bodies.specs.Calls.{to_call, reply_kind}
use Rattle.scm_bodies.proofs.Codecs.{reply_back, reply_codec, reply_held}
use Rattle.scm_bodies.proofs.Bounds.{bound_is, fits}
use Rattle.scm_bodies.proofs.bodies.write_reply.Goals as goal

pub returns-clause-bounded : goal.returns-clause-bounded
returns-clause-bounded c = λ request answers le.
    let is = bound_is (to_call request) (kind_of c.args.reply.now) (asked_size request) answers.0 in
    let room = subst (λ n. n ≤ c.args.out.room) is le in
    c.put_reply.ensures.enough (omega (arith, room, fits c.args.reply.now (asked_size request) answers.1))

pub returns-clause-back : goal.returns-clause-back
returns-clause-back c = λ call bytes h. spelled_again reply_shape reply_from (λ (r : Reply). Some (kind_of r)) reply_values reply_codec
    (reply_kind call) bytes c.args.reply.now h

pub returns-clause-carried : goal.returns-clause-carried
returns-clause-carried c = λ h.
    let r = c.args.reply.now in
    held_again reply_shape reply_from (λ (r : Reply). Some (kind_of r)) reply_values reply_codec (kind_of r) r (reply_held r h)
    ∙ ap (λ (told : Reply). Ok told) (reply_back r)
