use Rattle.std.proofs.Common.{◌≡◌, subst, sym}
use Rattle.std.specs.Prelude.{IfOk}
use Rattle.record_journal.proofs.Parts.{begins_as, begins_so, told_at}
use Rattle.record_journal.proofs.reading.has_config.Goals as goal

pub returns-in-Ok : goal.returns-in-Ok
returns-in-Ok c = sym (begins_so c.args.form c.args.body.now _ c.in-Ok.ensures)

pub returns-in-Err-Bad : goal.returns-in-Err-Bad
returns-in-Err-Bad c =
    let form = c.args.form in
    let body = c.args.body.now in
    let at = told_at form body c.in-Err-Bad.place c.in-Err-Bad.field-0 c.in-Err-Bad.field-0-is c.in-Err-Bad.ensures in
    subst (λ b. IfOk c.is_config.result (λ has. has ≡ b)) (begins_as form body c.in-Err-Bad.place at) c.is_config.ensures
