use Rattle.std.proofs.Common.{[], ◌++◌}
use Rattle.step_code.specs.Codes.{n8, status}
use Rattle.step_code.proofs.Appends.{both, closed}
use Rattle.step_code.proofs.requests_written.put_set_status.Goals as goal

pub returns-clause-bytes : goal.returns-clause-bytes
returns-clause-bytes c =
    let m1 = (status c.args.value.now) ++ [] in
    both c.args.out.now.items c.put8.new.out.items c.put_status.new.out.items (n8 c.args.handle) m1 c.put8.ensures.bytes
    (closed c.put8.new.out.items c.put_status.new.out.items (status c.args.value.now) c.put_status.ensures.bytes)
