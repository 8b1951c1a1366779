use Rattle.std.proofs.Common.{◌∙◌, ◌==◌, Option, ap, subst}
use Rattle.std.specs.Prelude.{IfSome}
use Rattle.std.specs.List.{list_any}
use Rattle.scm_model.specs.declared.flat.Flat.{Flat}
use Rattle.scm_model.specs.declared.flat.Service.{Service}
use Rattle.scm_rules.specs.Failures.{counted_if}
use Rattle.scm_tables.specs.declared.failing.Failed.{Failed}
use Rattle.scm_tables.proofs.Failures.{IsListed, counted_number, listed_map}
use Rattle.scm_tables.proofs.tables.Tables.fail.Goals as goal

pub put_action-requires-clause-service : goal.put_action-requires-clause-service
put_action-requires-clause-service c =
    let f = c.args.self.now.flat in
    let number = c.in-Some.failed.number in
    let there = subst (λ (o : Option Failed). IfSome o (IsListed f.services)) c.in-Some.is c.requires.service in
    ap (λ (g : Flat). list_any (λ (row : Service). number == row.number) g.services) c.count_failure.ensures.flat
    ∙ listed_map number (counted_if number f.moment) (counted_number number f.moment) f.services ∙ there
