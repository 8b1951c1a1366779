use Rattle.std.proofs.Common.{◌∙◌, ◌∷◌, ap}
use Rattle.scm_model.specs.declared.flat.Config.{Config}
use Rattle.record_table.specs.Recorded.{Recorded}
use Rattle.record_journal.specs.Services.{configs_of}
use Rattle.record_journal.proofs.ByName.{first_found, first_out}
use Rattle.record_journal.proofs.configs.take_first.Goals as goal

pub returns-in_err-row-clause-rest : goal.returns-in_err-row-clause-rest
returns-in_err-row-clause-rest c =
    absurd (first_found c.args.table.now.services c.in_ok-number.field-0.now c.in_ok-number.ensures c.in_err-row.ensures.service)

pub returns-in_err-row-clause-none : goal.returns-in_err-row-clause-none
returns-in_err-row-clause-none c =
    absurd (first_found c.args.table.now.services c.in_ok-number.field-0.now c.in_ok-number.ensures c.in_err-row.ensures.service)

pub returns-clause-rest : goal.returns-clause-rest
returns-clause-rest c =
    ap (λ (config : Config). config ∷ configs_of c.remove.new.self.services) c.config_of.ensures
    ∙ ap (λ (table : Recorded). c.in_ok-row.row.config ∷ configs_of table.services) c.in_ok-row.ensures.table
    ∙ first_out c.args.table.now.services c.in_ok-number.field-0.now c.in_ok-row.row c.len.ensures.rising c.in_ok-number.ensures
    c.in_ok-row.ensures.service
