use Rattle.std.proofs.Common.{[], ◌++◌}
use Rattle.step_code.specs.Codes.{common_code, n4, n8, some, text}
use Rattle.step_code.proofs.Appends.{both, closed}
use Rattle.step_code.proofs.requests_written.put_change.Goals as goal

pub returns-clause-bytes : goal.returns-clause-bytes
returns-clause-bytes c =
    let d = c.args.change.now in
    let m6 = (some text d.display) ++ [] in
    let out = c.put_some_text-2.new.out.items in
    let common = common_code d.group d.tag d.needs d.account in
    let m5 = common ++ m6 in
    let m4 = (some text d.path) ++ m5 in
    let m3 = (n4 d.error) ++ m4 in
    let m2 = (n4 d.start) ++ m3 in
    let m1 = (n4 d.kind) ++ m2 in
    both c.args.out.now.items c.put8.new.out.items out (n8 d.handle) m1 c.put8.ensures.bytes
    (both c.put8.new.out.items c.put4.new.out.items out (n4 d.kind) m2 c.put4.ensures.bytes
    (both c.put4.new.out.items c.put4-2.new.out.items out (n4 d.start) m3 c.put4-2.ensures.bytes
    (both c.put4-2.new.out.items c.put4-3.new.out.items out (n4 d.error) m4 c.put4-3.ensures.bytes
    (both c.put4-3.new.out.items c.put_some_text.new.out.items out (some text d.path) m5 c.put_some_text.ensures.bytes
    (both c.put_some_text.new.out.items c.put_common.new.out.items out common m6 c.put_common.ensures.bytes
    (closed c.put_common.new.out.items out (some text d.display) c.put_some_text-2.ensures.bytes))))))
