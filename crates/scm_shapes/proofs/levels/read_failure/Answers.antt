use Rattle.std.proofs.lemmas.Result.{err_from_is_err_and}
use Rattle.scm_shapes.proofs.Failing.{command_fails, actions_fail, failure_whole}
use Rattle.scm_shapes.proofs.levels.read_failure.Goals as goal

pub returns-in_err-command-clause-value : goal.returns-in_err-command-clause-value
returns-in_err-command-clause-value c =
    let p = err_from_is_err_and c.from_residual-in_err-command.result c.from_residual-in_err-command.ensures.1 in
    rw (p.1, p.2) (command_fails c.args.reader.now.body c.read_failure_head.new.reader.body c.args.reader.now.place c.in_ok-head.head
    c.read_failure_head.new.reader.place c.skip_text_if.new.reader.place c.skip_text_if.new.reader.body c.in_err-command.field-0.0
    c.in_ok-head.ensures.body c.in_ok-skip_text_if.ensures.body c.in_ok-head.ensures.value c.in_ok-skip_text_if.ensures.value
    c.in_err-command.ensures.value)

pub returns-in_err-actions-clause-value : goal.returns-in_err-actions-clause-value
returns-in_err-actions-clause-value c =
    let p = err_from_is_err_and c.from_residual-in_err-actions.result c.from_residual-in_err-actions.ensures.1 in
    rw (p.1, p.2) (actions_fail c.args.reader.now.body c.read_failure_head.new.reader.body c.args.reader.now.place c.in_ok-head.head
    c.read_failure_head.new.reader.place c.skip_text_if.new.reader.place c.skip_text_if.new.reader.body c.read_text_if.new.reader.body
    c.in_ok-command.command c.read_text_if.new.reader.place c.in_err-actions.field-0.0
    c.in_ok-head.ensures.body c.in_ok-skip_text_if.ensures.body c.in_ok-command.ensures.body c.in_ok-head.ensures.value
    c.in_ok-skip_text_if.ensures.value c.in_ok-command.ensures.value c.in_err-actions.ensures.value)

pub returns-clause-value : goal.returns-clause-value
returns-clause-value c =
    failure_whole c.args.reader.now.body c.read_failure_head.new.reader.body c.args.reader.now.place c.in_ok-head.head
    c.read_failure_head.new.reader.place c.skip_text_if.new.reader.place c.skip_text_if.new.reader.body c.read_text_if.new.reader.body
    c.in_ok-command.command c.read_text_if.new.reader.place c.in_ok-actions.actions c.read_actions_if.new.reader.place
    c.in_ok-head.ensures.body c.in_ok-skip_text_if.ensures.body c.in_ok-command.ensures.body c.in_ok-head.ensures.value
    c.in_ok-skip_text_if.ensures.value c.in_ok-command.ensures.value c.in_ok-actions.ensures.value
