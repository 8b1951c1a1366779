use Rattle.std.proofs.Common.{[], ◌++◌}
use Rattle.step_code.specs.Codes.{n4}
use Rattle.step_code.proofs.Appends.{both, closed}
use Rattle.step_code.proofs.fields_written.put_status.Goals as goal

pub returns-clause-bytes : goal.returns-clause-bytes
returns-clause-bytes c =
    let s = c.args.value.now in
    let m6 = (n4 s.hint) ++ [] in
    let m5 = (n4 s.checkpoint) ++ m6 in
    let m4 = (n4 s.specific) ++ m5 in
    let m3 = (n4 s.win32) ++ m4 in
    let m2 = (n4 s.accepted) ++ m3 in
    let m1 = (n4 s.state) ++ m2 in
    both c.args.out.now.items c.put4.new.out.items c.put4-7.new.out.items (n4 s.kind) m1 c.put4.ensures.bytes
    (both c.put4.new.out.items c.put4-2.new.out.items c.put4-7.new.out.items (n4 s.state) m2 c.put4-2.ensures.bytes
    (both c.put4-2.new.out.items c.put4-3.new.out.items c.put4-7.new.out.items (n4 s.accepted) m3 c.put4-3.ensures.bytes
    (both c.put4-3.new.out.items c.put4-4.new.out.items c.put4-7.new.out.items (n4 s.win32) m4 c.put4-4.ensures.bytes
    (both c.put4-4.new.out.items c.put4-5.new.out.items c.put4-7.new.out.items (n4 s.specific) m5 c.put4-5.ensures.bytes
    (both c.put4-5.new.out.items c.put4-6.new.out.items c.put4-7.new.out.items (n4 s.checkpoint) m6 c.put4-6.ensures.bytes
    (closed c.put4-6.new.out.items c.put4-7.new.out.items (n4 s.hint) c.put4-7.ensures.bytes))))))
