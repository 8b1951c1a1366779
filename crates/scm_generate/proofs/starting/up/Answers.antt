use Rattle.std.proofs.Common.{[], ◌∷◌, subst, sym}
use Rattle.std.specs.Prelude.{OnOk}
use Rattle.scm_model.specs.declared.steps.Step.TheVariants.{LaunchTaken, Launched, Report}
use Rattle.scm_generate.specs.Listed.{at_once, told}
use Rattle.scm_generate.specs.Progress.{IsOpenTo, Makes}
use Rattle.scm_generate.proofs.Along.{makes_three, on_ok, open_left, open_right}
use Rattle.scm_generate.proofs.starting.up.Goals as goal

pub make-requires : goal.make-requires
make-requires c =
    let n = c.args.number in
    open_left c.args.run.now (at_once LaunchTaken ∷ []) (at_once (Launched n n) ∷ at_once (Report n 0 (told 4 1)) ∷ []) c.requires

pub make-requires-2 : goal.make-requires-2
make-requires-2 c =
    let n = c.args.number in
    let last = at_once (Report n 0 (told 4 1)) ∷ [] in
    open_left c.make.new.self (at_once (Launched n n) ∷ []) last
    (open_right c.args.run.now c.make.new.self (at_once LaunchTaken ∷ []) (at_once (Launched n n) ∷ last) c.in_ok-make.ensures c.requires)

pub make-requires-3 : goal.make-requires-3
make-requires-3 c =
    let n = c.args.number in
    let last = at_once (Report n 0 (told 4 1)) ∷ [] in
    subst (λ status. IsOpenTo c.make-2.new.self (at_once (Report n 0 status) ∷ [])) (sym c.told.ensures)
    (open_right c.make.new.self c.make-2.new.self (at_once (Launched n n) ∷ []) last c.in_ok-make-2.ensures
    (open_right c.args.run.now c.make.new.self (at_once LaunchTaken ∷ []) (at_once (Launched n n) ∷ last) c.in_ok-make.ensures c.requires))

pub returns : goal.returns
returns c =
    let n = c.args.number in
    subst
    (λ status. OnOk c.make-3.result (Makes c.args.run.now (at_once LaunchTaken ∷ at_once (Launched n n) ∷ at_once (Report n 0 status) ∷ [])
    c.make-3.new.self))
    c.told.ensures
    (on_ok c.make-3.result c.make-3.ensures
    (makes_three c.args.run.now c.make.new.self c.make-2.new.self c.make-3.new.self _ _ _ c.in_ok-make.ensures c.in_ok-make-2.ensures))
