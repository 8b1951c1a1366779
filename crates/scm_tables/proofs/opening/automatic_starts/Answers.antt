use Rattle.std.proofs.Common.{◌∙◌, ap}
use Rattle.std.proofs.lemmas.Result.{IfOk-weaker}
use Rattle.start_triggers.specs.Order.{auto_rows}
use Rattle.scm_tables.specs.Started.{dues_from}
use Rattle.scm_tables.proofs.Opened.{dues_are}
use Rattle.scm_tables.proofs.opening.automatic_starts.Goals as goal

pub returns-clause-rows : goal.returns-clause-rows
returns-clause-rows c =
    IfOk-weaker c.dues_of.result _ _ (λ rows h. h ∙ ap (dues_from 1 c.args.moment) (c.as_slice.ensures ∙ c.in_ok-starts.ensures.order)
    ∙ dues_are 1 c.args.moment (auto_rows c.args.services.now c.args.groups.now)) c.dues_of.ensures.rows
