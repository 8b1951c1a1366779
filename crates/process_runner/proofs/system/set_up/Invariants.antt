use Rattle.std.proofs.Common.{◌≡◌, ◌++◌, take}
use Rattle.std.specs.Process.{command_args, command_program}
use Rattle.process_runner.proofs.system.set_up.Given as goal

abbrev pub invariant-loop-argument : goal.invariant-loop-argument
invariant-loop-argument l =
    (command_args l.command ≡ command_args l.fn.command ++ take l.argument-index l.arguments) × (command_program l.command ≡ command_program l.fn.command)
