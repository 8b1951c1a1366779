use Rattle.std.proofs.Common.{[], ◌++◌, ◌∷◌}
use Rattle.step_code.specs.Codes.{n8}
use Rattle.step_code.proofs.Appends.{both, closed}
use Rattle.step_code.proofs.entries_written.put_end_start.Goals as goal

pub returns-clause-bytes : goal.returns-clause-bytes
returns-clause-bytes c =
    let m1 = (n8 c.args.plan) ++ [] in
    both c.args.out.now.items c.put_numbered.new.out.items c.put8.new.out.items (2 ∷ n8 c.args.caller) m1 c.put_numbered.ensures.bytes
    (closed c.put_numbered.new.out.items c.put8.new.out.items (n8 c.args.plan) c.put8.ensures.bytes)
