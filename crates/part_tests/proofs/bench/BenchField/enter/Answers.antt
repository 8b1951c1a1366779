use Rattle.std.proofs.Common.{◌∙◌, ap}
use Rattle.start_plan.specs.Entered.{entered_at}
use Rattle.start_plan.specs.Hosts.{is_launched_at}
use Rattle.part_tests.proofs.bench.BenchField.enter.Goals as goal

pub returns-in-Some-clause-launched : goal.returns-in-Some-clause-launched
returns-in-Some-clause-launched c = c.enter_host.ensures.launched ∙ ap (is_launched_at c.args.self.now.0) c.in-Some.ensures

pub returns-in-Some-clause-flat : goal.returns-in-Some-clause-flat
returns-in-Some-clause-flat c =
    c.enter_host.ensures.flat c.args.words ∙ ap (entered_at c.args.self.now.0 c.args.service c.args.words) c.in-Some.ensures
