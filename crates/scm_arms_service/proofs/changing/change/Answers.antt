use Rattle.std.proofs.Common.{ap, subst, sym, ◌∙◌}
use Rattle.std.specs.Prelude.{IfSome, Option}
use Rattle.scm_model.specs.declared.flat.Config.{Config}
use Rattle.scm_tables.specs.Tabled.{HasNeedRoom}
use Rattle.scm_model.specs.Outcomes.{CallResult}
use Rattle.scm_arms_service.proofs.Judging.{change_code, change_fits, change_refused}
use Rattle.scm_arms_service.proofs.changing.change.Goals as goal

pub returns-then-code-ne0-clause-reply : goal.returns-then-code-ne0-clause-reply
returns-then-code-ne0-clause-reply c =
    ap (λ (told : CallResult). told.reply)
    (change_refused c.args.tables.now.flat c.args.caller c.args.change.now c.args.kept c.args.code c.code_once_kept-code.result
    c.requires.verdict c.code_once_kept-code.ensures c.if-code-ne0.true)

pub returns-then-code-ne0-clause-flat : goal.returns-then-code-ne0-clause-flat
returns-then-code-ne0-clause-flat c =
    ap (λ (told : CallResult). told.flat)
    (change_refused c.args.tables.now.flat c.args.caller c.args.change.now c.args.kept c.args.code c.code_once_kept-code.result
    c.requires.verdict c.code_once_kept-code.ensures c.if-code-ne0.true)

pub configure-requires : goal.configure-requires
configure-requires c =
    let config = c.in-Some-Some.config in
    record {
      texts = change_fits c.args.tables.now.flat c.args.caller c.args.change.now c.args.kept c.args.code c.code_once_kept-code.result config
          c.requires.verdict c.code_once_kept-code.ensures c.if-code-ne0.false (sym c.requires.made ∙ c.in-Some-Some.is-1);
      needs = subst (λ (asked : Option Config). IfSome asked (HasNeedRoom c.args.tables.now.spare)) c.in-Some-Some.is-1 c.requires.needs;
    }

pub returns-clause-refused : goal.returns-clause-refused
returns-clause-refused c other =
    absurd (other (change_code c.args.tables.now.flat c.args.caller c.args.change.now c.args.kept c.args.code
    c.code_once_kept-code.result c.requires.verdict c.code_once_kept-code.ensures ∙ c.if-code-ne0.false))
