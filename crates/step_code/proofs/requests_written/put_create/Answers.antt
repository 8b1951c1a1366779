use Rattle.std.proofs.Common.{[], ◌++◌}
use Rattle.step_code.specs.Codes.{common_code, n4, n8, some, text}
use Rattle.step_code.proofs.Appends.{both, closed}
use Rattle.step_code.proofs.requests_written.put_create.Goals as goal

pub returns-clause-bytes : goal.returns-clause-bytes
returns-clause-bytes c =
    let d = c.args.new.now in
    let out = c.put_common.new.out.items in
    let common = common_code d.group d.tag d.needs d.account in
    let m8 = common ++ [] in
    let m7 = (text d.path) ++ m8 in
    let m6 = (n4 d.error) ++ m7 in
    let m5 = (n4 d.start) ++ m6 in
    let m4 = (n4 d.kind) ++ m5 in
    let m3 = (n4 d.access) ++ m4 in
    let m2 = (some text d.display) ++ m3 in
    let m1 = (text d.name) ++ m2 in
    both c.args.out.now.items c.put8.new.out.items out (n8 d.handle) m1 c.put8.ensures.bytes
    (both c.put8.new.out.items c.put_text.new.out.items out (text d.name) m2 c.put_text.ensures.bytes
    (both c.put_text.new.out.items c.put_some_text.new.out.items out (some text d.display) m3 c.put_some_text.ensures.bytes
    (both c.put_some_text.new.out.items c.put4.new.out.items out (n4 d.access) m4 c.put4.ensures.bytes
    (both c.put4.new.out.items c.put4-2.new.out.items out (n4 d.kind) m5 c.put4-2.ensures.bytes
    (both c.put4-2.new.out.items c.put4-3.new.out.items out (n4 d.start) m6 c.put4-3.ensures.bytes
    (both c.put4-3.new.out.items c.put4-4.new.out.items out (n4 d.error) m7 c.put4-4.ensures.bytes
    (both c.put4-4.new.out.items c.put_text-2.new.out.items out (text d.path) m8 c.put_text-2.ensures.bytes
    (closed c.put_text-2.new.out.items out common c.put_common.ensures.bytes))))))))
