use Rattle.std.proofs.Common.{[], ◌++◌}
use Rattle.step_code.specs.Codes.{n4, n8}
use Rattle.step_code.proofs.Appends.{both, closed}
use Rattle.step_code.proofs.requests_written.put_number.Goals as goal

pub returns-clause-bytes : goal.returns-clause-bytes
returns-clause-bytes c =
    let m1 = (n4 c.args.number) ++ [] in
    both c.args.out.now.items c.put8.new.out.items c.put4.new.out.items (n8 c.args.handle) m1 c.put8.ensures.bytes
    (closed c.put8.new.out.items c.put4.new.out.items (n4 c.args.number) c.put4.ensures.bytes)
