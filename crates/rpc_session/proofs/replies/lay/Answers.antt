use Rattle.std.proofs.Common.{arith, ◌∙◌, length, ◌+◌, ◌-◌}
use Rattle.std.proofs.lemmas.List.{length-take-le}
use Rattle.rpc_pdu.specs.Written.{response_bytes, response_front}
use Rattle.rpc_pdu.specs.Pdu.{seen_response}
use Rattle.rpc_session.proofs.Laying.{laid}
use Rattle.rpc_session.proofs.replies.lay.Goals as goal

pub returns-clause-laid : goal.returns-clause-laid
unfolding response_bytes
returns-clause-laid c =
    laid 24 (24 + length c.args.r.now.stub.now - 24) c.args.buffer.now c.copy_from_slice.new.self
    (response_front (seen_response c.args.r.now)) c.copy_from_slice-2.new.self c.args.r.now.stub.now
    (c.copy_from_slice.ensures.len ∙ length-take-le 24 c.args.buffer.now (omega (arith, c.requires.room))) (c.copy_from_slice.ensures.after
    ∙ c.response_header.ensures) c.copy_from_slice-2.ensures.after
