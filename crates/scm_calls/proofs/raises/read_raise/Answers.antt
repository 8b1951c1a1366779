use Rattle.std.proofs.Common.{length, sym, ap, arith}
use Rattle.scm_calls.proofs.Raising.{raise_long, raise_read}
use Rattle.scm_calls.proofs.raises.read_raise.Goals as goal

pub returns-then-body-gt-SUBTYPE_BYTES-clause-exact : goal.returns-then-body-gt-SUBTYPE_BYTES-clause-exact
returns-then-body-gt-SUBTYPE_BYTES-clause-exact c = sym (raise_long c.args.body.now c.if-body-gt-SUBTYPE_BYTES.true)

pub returns-clause-exact : goal.returns-clause-exact
returns-clause-exact c =
    sym (raise_read c.args.body.now c.copy_from_slice.new.self (record {
      size =
          omega (arith, ap length c.copy_from_slice.ensures.after, c.if-body-lt-SUBTYPE_BYTES.false, c.if-body-gt-SUBTYPE_BYTES.false);
      spelled = sym c.copy_from_slice.ensures.after;
    }))
