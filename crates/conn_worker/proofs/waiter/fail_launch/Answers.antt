use Rattle.std.proofs.Common.{inl, inr, refl}
use Rattle.conn_worker.proofs.waiter.fail_launch.Goals as goal

pub returns-in-Launch-clause-turns : goal.returns-in-Launch-clause-turns
returns-in-Launch-clause-turns g c = inr (
  refl,
  record {
    process = c.in-Launch.process;
    taken = c.take_launch.new.pass;
    takes = c.in-Launch.ensures.look.0.made;
    fails = c.launch_failed.ensures.made;
  },
)

pub returns-in-Launch-clause-plans : goal.returns-in-Launch-clause-plans
returns-in-Launch-clause-plans g c = λ plan has. c.launch_failed.ensures.rest.plans plan (c.take_launch.ensures.keeps.plans plan has)

pub returns-in-Launch-clause-wanted : goal.returns-in-Launch-clause-wanted
returns-in-Launch-clause-wanted g c = inl (record {
  process = c.in-Launch.process;
  taken = c.take_launch.new.pass;
  takes = c.in-Launch.ensures.look.0.made;
  fails = c.launch_failed.ensures.made;
})

pub returns-in-Empty-clause-turns : goal.returns-in-Empty-clause-turns
returns-in-Empty-clause-turns g c = inl (inr c.in-Empty.ensures.look.0)

pub returns-in-Empty-clause-plans : goal.returns-in-Empty-clause-plans
returns-in-Empty-clause-plans g c = c.take_launch.ensures.keeps.plans

pub returns-in-Empty-clause-wanted : goal.returns-in-Empty-clause-wanted
returns-in-Empty-clause-wanted g c = inr c.in-Empty.ensures.look.1
