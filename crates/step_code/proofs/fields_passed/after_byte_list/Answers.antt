use Rattle.step_code.proofs.Passed.{bytes_left}
use Rattle.step_code.proofs.fields_passed.after_byte_list.Goals as goal

pub returns : goal.returns
returns c =
    bytes_left c.args.bytes.now c.in-Ok.rest.now c.split_at.result.1.now c.in-Ok.count c.in-Ok.ensures c.if-rest-count.false
    c.split_at.ensures.back
