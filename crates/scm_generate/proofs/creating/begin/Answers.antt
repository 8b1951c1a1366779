use Rattle.std.proofs.Common.{[], ◌∷◌, None}
use Rattle.scm_model.specs.declared.flat.Principal.TheVariants.{Admin}
use Rattle.scm_model.specs.declared.calls.Request.TheVariants as request
use Rattle.scm_model.specs.declared.steps.Kept.TheVariants as appended
use Rattle.scm_model.specs.declared.steps.Step.TheVariants.{Joined}
use Rattle.scm_generate.specs.Listed.{at_once, call_now}
use Rattle.scm_generate.proofs.Along.{makes_both, on_ok, open_left, open_right}
use Rattle.scm_generate.proofs.creating.begin.Goals as goal

pub make-requires : goal.make-requires
make-requires c = open_left c.args.run.now (at_once (Joined Admin) ∷ [])
    (call_now (request.OpenManager None 0x02000000) appended.NotAsked ∷ []) c.requires

pub make-requires-2 : goal.make-requires-2
make-requires-2 c =
    open_right c.args.run.now c.make.new.self (at_once (Joined Admin) ∷ [])
    (call_now (request.OpenManager None 0x02000000) appended.NotAsked ∷ []) c.in_ok-make.ensures c.requires

pub returns : goal.returns
returns c =
    on_ok c.make-2.result c.make-2.ensures (makes_both c.args.run.now c.make.new.self c.make-2.new.self _ _ c.in_ok-make.ensures)
