use Rattle.std.proofs.Common.{[], ◌++◌, ◌∷◌}
use Rattle.step_code.specs.Codes.{appended, n8, request_code}
use Rattle.step_code.proofs.Appends.{both, closed}
use Rattle.step_code.proofs.entries_written.put_call.Goals as goal

pub returns-clause-bytes : goal.returns-clause-bytes
returns-clause-bytes c =
    let m2 = (appended c.args.kept ∷ []) ++ [] in
    let asked = request_code c.args.request.now in
    let m1 = asked ++ m2 in
    both c.args.out.now.items c.put_numbered.new.out.items c.put_kept.new.out.items (1 ∷ n8 c.args.caller) m1 c.put_numbered.ensures.bytes
    (both c.put_numbered.new.out.items c.put_request.new.out.items c.put_kept.new.out.items asked m2 c.put_request.ensures.bytes
    (closed c.put_request.new.out.items c.put_kept.new.out.items (appended c.args.kept ∷ []) c.put_kept.ensures.bytes))
