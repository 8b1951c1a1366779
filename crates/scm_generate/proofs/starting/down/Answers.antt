use Rattle.std.proofs.Common.{[], ◌∷◌, subst, sym}
use Rattle.std.specs.Prelude.{OnOk}
use Rattle.scm_model.specs.declared.steps.Step.TheVariants.{Ended, Report}
use Rattle.scm_generate.specs.Listed.{at_once, told}
use Rattle.scm_generate.specs.Progress.{IsOpenTo, Makes}
use Rattle.scm_generate.proofs.Along.{makes_both, on_ok, open_left, open_right}
use Rattle.scm_generate.proofs.starting.down.Goals as goal

pub make-requires : goal.make-requires
make-requires c =
    let n = c.args.number in
    subst (λ status. IsOpenTo c.args.run.now (at_once (Report n 0 status) ∷ [])) (sym c.told.ensures)
    (open_left c.args.run.now (at_once (Report n 0 (told 1 0)) ∷ []) (at_once (Ended n) ∷ []) c.requires)

pub make-requires-2 : goal.make-requires-2
make-requires-2 c =
    let n = c.args.number in
    open_right c.args.run.now c.make.new.self (at_once (Report n 0 c.told.result) ∷ []) (at_once (Ended n) ∷ []) c.in_ok-make.ensures
    (subst (λ status. IsOpenTo c.args.run.now (at_once (Report n 0 status) ∷ at_once (Ended n) ∷ [])) (sym c.told.ensures) c.requires)

pub returns : goal.returns
returns c =
    let n = c.args.number in
    subst
    (λ status. OnOk c.make-2.result (Makes c.args.run.now (at_once (Report n 0 status) ∷ at_once (Ended n) ∷ []) c.make-2.new.self))
    c.told.ensures
    (on_ok c.make-2.result c.make-2.ensures (makes_both c.args.run.now c.make.new.self c.make-2.new.self _ _ c.in_ok-make.ensures))
