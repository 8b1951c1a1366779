use Rattle.std.proofs.Common.{[], ◌++◌, ◌∷◌}
use Rattle.step_code.specs.Codes.{n8, status}
use Rattle.step_code.proofs.Appends.{both, closed}
use Rattle.step_code.proofs.entries_written.put_report.Goals as goal

pub returns-clause-bytes : goal.returns-clause-bytes
returns-clause-bytes c =
    let m2 = (status c.args.value.now) ++ [] in
    let m1 = (n8 c.args.service) ++ m2 in
    let front = 6 ∷ n8 c.args.process in
    both c.args.out.now.items c.put_numbered.new.out.items c.put_status.new.out.items front m1 c.put_numbered.ensures.bytes
    (both c.put_numbered.new.out.items c.put8.new.out.items c.put_status.new.out.items (n8 c.args.service) m2 c.put8.ensures.bytes
    (closed c.put8.new.out.items c.put_status.new.out.items (status c.args.value.now) c.put_status.ensures.bytes))
