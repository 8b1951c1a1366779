use Rattle.std.proofs.Common.{[], ◌++◌}
use Rattle.step_code.specs.Codes.{n4, n8, some}
use Rattle.step_code.proofs.Appends.{both, closed}
use Rattle.step_code.proofs.requests_written.put_page.Goals as goal

pub returns-clause-bytes : goal.returns-clause-bytes
returns-clause-bytes c =
    let m4 = (some n4 c.args.resume) ++ [] in
    let m3 = (n4 c.args.size) ++ m4 in
    let m2 = (n4 c.args.states) ++ m3 in
    let m1 = (n4 c.args.kinds) ++ m2 in
    both c.args.out.now.items c.put8.new.out.items c.put_some_number.new.out.items (n8 c.args.handle) m1 c.put8.ensures.bytes
    (both c.put8.new.out.items c.put4.new.out.items c.put_some_number.new.out.items (n4 c.args.kinds) m2 c.put4.ensures.bytes
    (both c.put4.new.out.items c.put4-2.new.out.items c.put_some_number.new.out.items (n4 c.args.states) m3 c.put4-2.ensures.bytes
    (both c.put4-2.new.out.items c.put4-3.new.out.items c.put_some_number.new.out.items (n4 c.args.size) m4 c.put4-3.ensures.bytes
    (closed c.put4-3.new.out.items c.put_some_number.new.out.items (some n4 c.args.resume) c.put_some_number.ensures.bytes))))
