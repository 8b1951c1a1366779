use Rattle.std.proofs.Common.{arith}
use Rattle.scm_calls.proofs.Raising.{reply_found, reply_only}
use Rattle.scm_calls.proofs.raises.read_raise_reply.Goals as goal

pub returns-clause-found : goal.returns-clause-found
returns-clause-found c = reply_found c.args.body.now c.read_code.result (λ i. omega (arith, c.type_inv.body i)) c.read_code.ensures.exact

pub returns-clause-only : goal.returns-clause-only
returns-clause-only c = λ code h. reply_only c.args.body.now c.read_code.result
    (λ i. omega (arith, c.type_inv.body i)) c.read_code.ensures.exact code h
