use Rattle.std.proofs.Common.{◌≡◌, [], ◌∷◌, ◌++◌, OnOk, ap, append_assoc, subst, ◌∙◌}
use Rattle.std.specs.Prelude.{codes}
use Rattle.sc_lines.specs.Lines.{Text, lines}
use Rattle.sc_lines.specs.Triggers.{counted_triggers}
use Rattle.sc_lines.proofs.triggers.add_named.Goals as goal

pub returns : goal.returns
returns c =
    let head = lines (Text (codes "SERVICE_NAME: ") c.args.name.now ∷ []) in
    let rest = counted_triggers c.args.count c.args.bytes.now in
    subst (λ text. OnOk c.add_counted.result (c.add_counted.new.text ≡ text))
    (ap (λ text. text ++ rest) c.in_ok-add_lines.ensures ∙ append_assoc c.args.text.now head rest) c.add_counted.ensures
