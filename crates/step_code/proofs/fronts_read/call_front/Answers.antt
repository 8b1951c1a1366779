use Rattle.step_code.proofs.Fronts.{call_has_front}
use Rattle.step_code.proofs.fronts_read.call_front.Goals as goal

pub returns : goal.returns
returns c =
    call_has_front c.args.bytes.now c.in-Ok-n8_of.caller c.in-Ok-kept_at.rest.now (record {
      moment = c.in-Ok.field-0-0;
      step = c.in-Ok.rest.now;
      call = c.in-Ok-eq1-default.rest.now;
      request = c.in-Ok-n8_of.rest.now;
      op = c.in-Ok-n2_of.opnum;
      fields = c.in-Ok-n2_of.rest.now;
      after = c.in_ok-rest.rest.now;
      append = c.in-Ok-kept_at.field-0-0;
      is_moment = c.in-Ok.ensures;
      is_step = rw c.in-Ok-eq1-default.field-0-0-test at c.in-Ok-eq1-default.ensures;
      is_caller = c.in-Ok-n8_of.ensures;
      is_request = c.in-Ok-n2_of.ensures;
      has = c.in_ok-rest.ensures;
      is_kept = c.in-Ok-kept_at.ensures;
    })
