use Rattle.std.proofs.Common.{◌≡◌, [], ◌∷◌, ◌++◌, ap, subst, ◌∙◌, append_assoc}
use Rattle.std.specs.Prelude.{OnOk, codes}
use Rattle.sc_lines.specs.Lines.{Text, lines}
use Rattle.sc_lines.specs.Statuses.{status_fields}
use Rattle.sc_lines.proofs.statuses.add_status.Goals as goal

pub returns : goal.returns
returns c =
    let numbers = lines (status_fields c.args.status.now) in
    let e = ap (λ t. t ++ numbers) c.in_ok-add_lines.ensures ∙ append_assoc c.args.text.now
    (lines (Text (codes "SERVICE_NAME: ") c.args.name.now ∷ [])) numbers in
    subst (λ t. OnOk c.add_numbers.result (c.add_numbers.new.text ≡ t)) e c.add_numbers.ensures
