use Rattle.std.proofs.Common.{[], ◌++◌, ◌∷◌}
use Rattle.step_code.specs.Codes.{n4, n8}
use Rattle.step_code.proofs.Appends.{both, closed}
use Rattle.step_code.proofs.entries_written.put_launch.Goals as goal

pub returns-clause-bytes : goal.returns-clause-bytes
returns-clause-bytes c =
    let m1 = (n4 c.args.number) ++ [] in
    let front = c.args.kind ∷ n8 c.args.process in
    both c.args.out.now.items c.put_numbered.new.out.items c.put4.new.out.items front m1 c.put_numbered.ensures.bytes
    (closed c.put_numbered.new.out.items c.put4.new.out.items (n4 c.args.number) c.put4.ensures.bytes)
