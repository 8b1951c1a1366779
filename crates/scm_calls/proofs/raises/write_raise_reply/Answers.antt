use Rattle.std.proofs.Common.{arith}
use Rattle.scm_model.specs.declared.calls.Reply.TheVariants as reply
use Rattle.scm_shapes.proofs.Widths.{length_body}
use Rattle.scm_calls.specs.Replies.{reply_values}
use Rattle.scm_calls.proofs.raises.write_raise_reply.Goals as goal

pub returns-clause-enough : goal.returns-clause-enough
returns-clause-enough c = λ le. c.write_pieces.ensures.written.enough (omega
    (arith, le, length_body (reply_values (reply.Code c.args.code))))
