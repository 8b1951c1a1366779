use Rattle.std.proofs.Common.{[], ◌∷◌, ◌++◌}
use Rattle.scm_model.specs.declared.steps.Step.TheVariants.{Gone}
use Rattle.scm_generate.specs.Listed.{at_once, creations, all_runs}
use Rattle.scm_generate.proofs.Along.{made_all, on_ok, open_left, open_opened, open_opening, open_right}
use Rattle.scm_generate.proofs.generating.make_all.Goals as goal

pub begin-requires : goal.begin-requires
begin-requires c = open_opening c.args.run.now c.args.services c.requires.open

pub create_all-requires : goal.create_all-requires
create_all-requires c =
    let n = c.args.services in
    open_left c.begin.new.run (creations n) (all_runs n 1 1 ++ (at_once (Gone 1) ∷ []))
    (open_opened c.args.run.now c.begin.new.run n c.in_ok-begin.ensures c.requires.open)

pub start_all-requires-clause-open : goal.start_all-requires-clause-open
start_all-requires-clause-open c =
    let n = c.args.services in
    open_left c.create_all.new.run (all_runs n 1 1) (at_once (Gone 1) ∷ [])
    (open_right c.begin.new.run c.create_all.new.run (creations n) (all_runs n 1 1 ++ (at_once (Gone 1) ∷ [])) c.in_ok-create_all.ensures
    (open_opened c.args.run.now c.begin.new.run n c.in_ok-begin.ensures c.requires.open))

pub make-requires : goal.make-requires
make-requires c =
    let n = c.args.services in
    open_right c.create_all.new.run c.start_all.new.run (all_runs n 1 1) (at_once (Gone 1) ∷ []) c.in_ok-start_all.ensures
    (open_right c.begin.new.run c.create_all.new.run (creations n) (all_runs n 1 1 ++ (at_once (Gone 1) ∷ [])) c.in_ok-create_all.ensures
    (open_opened c.args.run.now c.begin.new.run n c.in_ok-begin.ensures c.requires.open))

pub returns : goal.returns
returns c =
    on_ok c.make.result c.make.ensures
    (made_all c.args.run.now c.begin.new.run c.create_all.new.run c.start_all.new.run c.make.new.self c.args.services
    c.in_ok-begin.ensures c.in_ok-create_all.ensures c.in_ok-start_all.ensures)
