-- The rows of starts that become due by themselves.
use Rattle.std.specs.Prelude.{ℕ, ◌+◌, List, [], ◌∷◌, if◌then◌else◌}
use Rattle.scm_model.specs.declared.flat.Due.{Due}
use Rattle.scm_model.specs.declared.flat.DueKind.TheVariants as dues
use Rattle.scm_rules.specs.Failures.{moment_after}
use Rattle.start_triggers.specs.declared.order.AutoStart.{AutoStart}

abbrev pub moment_of : ℕ → AutoStart → ℕ
moment_of moment start = if start.delayed then moment_after moment 120000 else moment

abbrev pub due_of : ℕ → ℕ → AutoStart → Due
due_of number moment start = record { moment = moment_of moment start; number = number; kind = dues.Start start.number }

-- one for each, with numbers from this one on
abbrev pub dues_from : ℕ → ℕ → List AutoStart → List Due
dues_from number moment [] = []
dues_from number moment (start ∷ starts) = due_of number moment start ∷ dues_from (number + 1) moment starts
