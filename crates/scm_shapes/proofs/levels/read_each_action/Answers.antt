use Rattle.std.proofs.Common.{◌≡◌, ◌∷◌, ◌++◌, [], ◌∙◌}
use Rattle.std.proofs.lemmas.Result.{err_from_is_err_and}
use Rattle.scm_shapes.specs.Levels.{action_at}
use Rattle.scm_shapes.specs.Each.{each_at}
use Rattle.scm_shapes.proofs.Loop.{goes_on, ends, is_done, pushed}
use Rattle.scm_shapes.proofs.levels.read_each_action.Goals as goal

pub returns-in_err-action-clause-value : goal.returns-in_err-action-clause-value
returns-in_err-action-clause-value c =
    let p = err_from_is_err_and c.from_residual.result c.from_residual.ensures.1 in
    rw (p.1, p.2) (ends action_at c.in_err-action.field-0.0 c.loop.actions c.args.count c.loop.counter c.loop.reader.body
    c.loop.reader.place (each_at action_at c.args.count c.args.reader.now.body c.args.reader.now.place) c.loop-test.true
    c.in_err-action.ensures.value c.loop.invariant.so_far)

pub loop-preserved : goal.loop-preserved
loop-preserved c =
    let longer = pushed (c.push.new.self ≡ c.loop.actions ++ c.in_ok-action.action ∷ []) c.push.result c.if-is_err.ensures.value
    c.push.ensures.ok in
    let read = goes_on action_at c.loop.actions c.args.count c.loop.counter c.loop.reader.body c.loop.reader.place c.in_ok-action.action
    c.read_action.new.reader.place (each_at action_at c.args.count c.args.reader.now.body c.args.reader.now.place) c.loop-test.true
    c.in_ok-action.ensures.value c.loop.invariant.so_far in
    record { so_far = rw (longer, c.in_ok-action.ensures.body) read; body = c.in_ok-action.ensures.body ∙ c.loop.invariant.body }

pub returns-clause-value : goal.returns-clause-value
returns-clause-value c = is_done action_at c.loop.actions c.args.count c.loop.counter c.loop.reader.body c.loop.reader.place
    (each_at action_at c.args.count c.args.reader.now.body c.args.reader.now.place) c.loop-test.false c.loop.invariant.so_far
