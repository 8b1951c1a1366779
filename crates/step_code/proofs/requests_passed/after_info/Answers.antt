use Rattle.std.proofs.lemmas.Option.{IfSome_then}
use Rattle.step_code.proofs.Passed.{info_left}
use Rattle.step_code.proofs.requests_passed.after_info.Goals as goal

pub returns : goal.returns
returns c =
    IfSome_then c.after_level.result c.after_level.ensures
    (λ rest has. info_left c.args.bytes.now c.in-Ok.rest.now rest.now c.in-Ok.level c.in-Ok.ensures has)
