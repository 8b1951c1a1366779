use Rattle.scm_lines.proofs.entries.add_step.Goals as goal

pub returns-in-LaunchFailed : goal.returns-in-LaunchFailed
returns-in-LaunchFailed c = rw c.in-LaunchFailed.is c.add_launch-in-LaunchFailed.ensures
