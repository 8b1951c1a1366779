use Rattle.std.proofs.Common.{◌≡◌, ◌++◌, OnOk, ap, subst, sym, ◌∙◌}
use Rattle.sc_lines.specs.Configs.{config_text}
use Rattle.sc_words.specs.Told.{shown_text}
use Rattle.sc_words.proofs.showing.add_some_config.Goals as goal

pub returns-in-Some : goal.returns-in-Some
returns-in-Some c =
    let named = ap (λ name. config_text name c.in-Some.config c.is_on.result) c.units.ensures.units in
    let delayed = ap (config_text c.args.name.now c.in-Some.config) c.is_on.ensures in
    let given = ap (λ config. shown_text c.args.name.now config c.args.bytes.now) c.in-Some.is in
    subst (λ text. OnOk c.add_config.result (c.add_config.new.text ≡ c.args.text.now ++ text)) (named ∙ delayed ∙ sym given)
    (rw c.deref.ensures at c.add_config.ensures)
