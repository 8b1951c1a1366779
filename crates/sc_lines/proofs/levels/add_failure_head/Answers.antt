use Rattle.std.proofs.Common.{◌≡◌, [], ◌∷◌, ◌++◌, ap, subst}
use Rattle.std.specs.Prelude.{OnOk, codes}
use Rattle.sc_lines.specs.Lines.{Text, lines}
use Rattle.sc_lines.proofs.levels.add_failure_head.Goals as goal

pub returns : goal.returns
returns c =
    let e =
    ap (λ f. Text (codes "SERVICE_NAME: ") c.args.name.now ∷ f ∷ Text (codes "REBOOT_MESSAGE: ") c.args.message.now ∷ Text
    (codes "COMMAND_LINE: ") c.args.command.now ∷ []) c.period_line.ensures in
    subst (λ fs. OnOk c.add_lines.result (c.add_lines.new.text ≡ c.args.text.now ++ lines fs)) e c.add_lines.ensures
