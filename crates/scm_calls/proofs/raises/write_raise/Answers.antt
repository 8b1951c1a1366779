use Rattle.std.proofs.Common.{◌∙◌}
use Rattle.scm_calls.proofs.Raising.{raise_read}
use Rattle.scm_calls.proofs.raises.write_raise.Goals as goal

pub returns-clause-back : goal.returns-clause-back
returns-clause-back c = raise_read c.in_ok-from_slice.field-0 c.args.subtype.now
    (record { size = c.told-subtype; spelled = c.in_ok-from_slice.ensures ∙ c.as_slice.ensures })
