use Rattle.std.proofs.Common.{◌∙◌, ap, subst, sym}
use Rattle.std.specs.Prelude.{IfSome, Option}
use Rattle.scm_model.specs.Outcomes.{CallResult}
use Rattle.scm_model.specs.declared.flat.Config.{Config}
use Rattle.scm_rules.specs.Create.{created_config}
use Rattle.scm_tables.specs.Tabled.{HasNeedRoom, HasShortTexts}
use Rattle.scm_arms_service.proofs.Judging.{create_allowed, create_code, create_fits, create_refused, some_of}
use Rattle.scm_arms_service.proofs.creating.create.Goals as goal

pub returns-then-code-ne0-clause-reply : goal.returns-then-code-ne0-clause-reply
returns-then-code-ne0-clause-reply c =
    ap (λ (told : CallResult). told.reply)
    (create_refused c.args.limits.now c.args.tables.now.flat c.args.caller c.args.new c.args.kept c.args.code c.code_once_kept-code.result
    c.requires.verdict c.code_once_kept-code.ensures c.if-code-ne0.true)

pub returns-then-code-ne0-clause-flat : goal.returns-then-code-ne0-clause-flat
returns-then-code-ne0-clause-flat c =
    ap (λ (told : CallResult). told.flat)
    (create_refused c.args.limits.now c.args.tables.now.flat c.args.caller c.args.new c.args.kept c.args.code c.code_once_kept-code.result
    c.requires.verdict c.code_once_kept-code.ensures c.if-code-ne0.true)

pub create_done-requires-clause-made : goal.create_done-requires-clause-made
create_done-requires-clause-made c = sym (some_of (created_config c.args.tables.now.flat c.args.new) c.unwrap.result (sym c.requires.made
    ∙ c.unwrap.ensures))

pub create_done-requires-clause-texts : goal.create_done-requires-clause-texts
create_done-requires-clause-texts c =
    subst HasShortTexts (some_of (created_config c.args.tables.now.flat c.args.new) c.unwrap.result (sym c.requires.made
    ∙ c.unwrap.ensures))
    (create_fits c.args.limits.now c.args.tables.now.flat c.args.caller c.args.new c.args.kept c.args.code c.code_once_kept-code.result
    c.requires.verdict c.code_once_kept-code.ensures c.if-code-ne0.false)

pub create_done-requires-clause-needs : goal.create_done-requires-clause-needs
create_done-requires-clause-needs c = subst (λ (made : Option Config). IfSome made (HasNeedRoom c.args.tables.now.spare)) c.unwrap.ensures
    c.requires.needs

pub returns-clause-reply : goal.returns-clause-reply
returns-clause-reply c =
    c.create_done.ensures.reply
    ∙ ap (λ (told : CallResult). told.reply)
    (create_allowed c.args.limits.now c.args.tables.now.flat c.args.caller c.args.new c.args.kept c.args.code c.code_once_kept-code.result
    c.requires.verdict c.code_once_kept-code.ensures c.if-code-ne0.false)

pub returns-clause-flat : goal.returns-clause-flat
returns-clause-flat c =
    c.create_done.ensures.flat
    ∙ ap (λ (told : CallResult). told.flat)
    (create_allowed c.args.limits.now c.args.tables.now.flat c.args.caller c.args.new c.args.kept c.args.code c.code_once_kept-code.result
    c.requires.verdict c.code_once_kept-code.ensures c.if-code-ne0.false)

pub returns-clause-refused : goal.returns-clause-refused
returns-clause-refused c other =
    absurd (other (create_code c.args.limits.now c.args.tables.now.flat c.args.caller c.args.new c.args.kept c.args.code
    c.code_once_kept-code.result c.requires.verdict c.code_once_kept-code.ensures ∙ c.if-code-ne0.false))
