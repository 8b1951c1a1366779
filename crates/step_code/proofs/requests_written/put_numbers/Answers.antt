use Rattle.std.proofs.Common.{[], ◌++◌}
use Rattle.step_code.specs.Codes.{n4, n8}
use Rattle.step_code.proofs.Appends.{both, closed}
use Rattle.step_code.proofs.requests_written.put_numbers.Goals as goal

pub returns-clause-bytes : goal.returns-clause-bytes
returns-clause-bytes c =
    let m2 = (n4 c.args.second) ++ [] in
    let m1 = (n4 c.args.first) ++ m2 in
    both c.args.out.now.items c.put8.new.out.items c.put4-2.new.out.items (n8 c.args.handle) m1 c.put8.ensures.bytes
    (both c.put8.new.out.items c.put4.new.out.items c.put4-2.new.out.items (n4 c.args.first) m2 c.put4.ensures.bytes
    (closed c.put4.new.out.items c.put4-2.new.out.items (n4 c.args.second) c.put4-2.ensures.bytes))
