use Rattle.std.proofs.Common.{◌≡◌, ℕ, List, ◌++◌, ap, subst, ◌∙◌}
use Rattle.std.specs.Prelude.{OnOk}
use Rattle.scm_model.specs.declared.calls.Shown.{Shown}
use Rattle.sc_lines.specs.Configs.{config_fields}
use Rattle.sc_lines.specs.Lines.{Field, lines}
use Rattle.sc_lines.proofs.configs.add_fields.Goals as goal

-- the fields of a configuration with these texts
abbrev fields : Shown → (name start error path group display needs account : List ℕ) → List Field
fields c name start error path group display needs account =
    config_fields name (record c { path = path; group = group; display = display; needs = needs; account = account }) start error

pub returns : goal.returns
returns c =
    let f : (path group display needs account : List ℕ) → List Field = fields c.args.config.now c.args.name.now c.args.start.now
    c.args.error.now in
    let e =
    ap (λ x. f x c.units-2.result.now c.units-3.result.now c.units-4.result.now c.units-5.result.now) c.units.ensures.units
    ∙ ap (λ x. f c.args.config.now.path x c.units-3.result.now c.units-4.result.now c.units-5.result.now) c.units-2.ensures.units
    ∙ ap (λ x. f c.args.config.now.path c.args.config.now.group x c.units-4.result.now c.units-5.result.now) c.units-3.ensures.units
    ∙ ap (λ x. f c.args.config.now.path c.args.config.now.group c.args.config.now.display x c.units-5.result.now) c.units-4.ensures.units
    ∙ ap (λ x. f c.args.config.now.path c.args.config.now.group c.args.config.now.display c.args.config.now.needs x) c.units-5.ensures.units
    in
    subst (λ fs. OnOk c.add_lines.result (c.add_lines.new.text ≡ c.args.text.now ++ lines fs)) e c.add_lines.ensures
