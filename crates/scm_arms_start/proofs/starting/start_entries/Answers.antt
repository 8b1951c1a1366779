use Rattle.std.proofs.Common.{refl, subst, sym}
use Rattle.std.specs.Prelude.{IsSome}
use Rattle.scm_rules.proofs.Held.{held_is}
use Rattle.scm_arms_start.proofs.starting.start_entries.Goals as goal

pub start_order-requires : goal.start_order-requires
start_order-requires c = subst IsSome (sym (held_is c.args.tables.now.flat c.args.caller c.args.handle c.in-Some.row.now
    (sym c.in-Some.ensures))) refl
