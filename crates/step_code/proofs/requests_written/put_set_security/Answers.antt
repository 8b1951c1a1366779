use Rattle.std.proofs.Common.{[], ◌++◌}
use Rattle.step_code.specs.Codes.{byte_list, n4, n8}
use Rattle.step_code.proofs.Appends.{both, closed}
use Rattle.step_code.proofs.requests_written.put_set_security.Goals as goal

pub returns-clause-bytes : goal.returns-clause-bytes
returns-clause-bytes c =
    let m2 = (byte_list c.args.bytes.now) ++ [] in
    let m1 = (n4 c.args.parts) ++ m2 in
    both c.args.out.now.items c.put8.new.out.items c.put_bytes.new.out.items (n8 c.args.handle) m1 c.put8.ensures.bytes
    (both c.put8.new.out.items c.put4.new.out.items c.put_bytes.new.out.items (n4 c.args.parts) m2 c.put4.ensures.bytes
    (closed c.put4.new.out.items c.put_bytes.new.out.items (byte_list c.args.bytes.now) c.put_bytes.ensures.bytes))
