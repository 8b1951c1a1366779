use Rattle.std.proofs.Common.{◌∙◌, ap, sym}
use Rattle.start_plan.specs.Entered.{entered_at}
use Rattle.start_plan.specs.Hosts.{is_launched_at}
use Rattle.scm_tables.proofs.Offers.{room_left}
use Rattle.scm_tables.proofs.settling.TablesField.enter.Goals as goal

pub enter_new-requires-clause-room : goal.enter_new-requires-clause-room
enter_new-requires-clause-room c =
    room_left c.args.self.now.limits c.args.self.now.flat c.args.service c.requires.yes (sym c.in-None.ensures)

pub returns-in-Some-clause-launched : goal.returns-in-Some-clause-launched
returns-in-Some-clause-launched c = c.enter_host.ensures.launched ∙ ap (is_launched_at c.args.self.now.flat) c.in-Some.ensures

pub returns-in-Some-clause-flat : goal.returns-in-Some-clause-flat
returns-in-Some-clause-flat c =
    c.enter_host.ensures.flat c.args.words ∙ ap (entered_at c.args.self.now.flat c.args.service c.args.words) c.in-Some.ensures

pub returns-in-None-clause-launched : goal.returns-in-None-clause-launched
returns-in-None-clause-launched c = ap (is_launched_at c.args.self.now.flat) c.in-None.ensures

pub returns-in-None-clause-flat : goal.returns-in-None-clause-flat
returns-in-None-clause-flat c =
    c.enter_new.ensures.flat ∙ ap (entered_at c.args.self.now.flat c.args.service c.args.words) c.in-None.ensures
