use Rattle.start_plan.proofs.Pending.{among_pending}
use Rattle.part_tests.proofs.starts.befall.Goals as goal

pub returns-in-Launched : goal.returns-in-Launched
returns-in-Launched c = among_pending c.args.bench.now.0.services _ _ c.requires c.launched.ensures.awaited

pub returns-in-Failed : goal.returns-in-Failed
returns-in-Failed c = among_pending c.args.bench.now.0.services _ _ c.requires c.failed.ensures.awaited

pub returns-in-Expired : goal.returns-in-Expired
returns-in-Expired c = among_pending c.args.bench.now.0.services _ _ c.requires c.expire.ensures.awaited

pub returns-in-Gone : goal.returns-in-Gone
returns-in-Gone c = among_pending c.args.bench.now.0.services _ _ c.requires c.gone.ensures.awaited
