use Rattle.std.proofs.Common.{◌∙◌}
use Rattle.scmd_tests.proofs.links.serve.Goals as goal

-- a launch leaves a runner's pass nobody's
pub serve_child-ended-requires-clause-nobody : goal.serve_child-ended-requires-clause-nobody
serve_child-ended-requires-clause-nobody g c =
    c.in-Started.ensures.launches.1.told.caller ∙ (c.in-Started.ensures.launches.1.taken.caller ∙ c.runner-by.ensures.runner.1)
