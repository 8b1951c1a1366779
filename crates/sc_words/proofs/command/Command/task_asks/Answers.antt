use Rattle.std.proofs.Common.{ℕ, List, ◌≡◌, ◌≢◌, refl, sym}
use Rattle.sc_words.specs.Asks.{task_asks, write_asks}
use Rattle.sc_words.specs.declared.calls.Method.{Method}
use Rattle.sc_words.specs.declared.command.Command.{Command}
use Rattle.sc_words.specs.declared.command.Task.{Task}
use Rattle.sc_words.specs.declared.command.Task.TheVariants as task
use Rattle.sc_words.proofs.command.Command.task_asks.Goals as goal

-- a task that doesn't start, control, query or delete asks what one that writes a configuration asks
no_call : (c : Command) (t : Task) (m : Method) (handle : ℕ) → ((words : List (List ℕ)) → t ≢ task.Start words) →
    ((code : ℕ) → t ≢ task.Control code) → t ≢ task.Query → t ≢ task.Delete → write_asks c t m handle ≡ task_asks c t m handle
no_call c (task.Start words) m handle start control query delete = absurd (start words refl)
no_call c (task.Control code) m handle start control query delete = absurd (control code refl)
no_call c task.Query m handle start control query delete = absurd (query refl)
no_call c task.Delete m handle start control query delete = absurd (delete refl)
no_call c t m handle start control query delete = refl

pub returns-in_default : goal.returns-in_default
returns-in_default c =
    let w = c.in_default in
    let same = no_call c.args.self.now c.args.self.now.task c.args.method c.args.handle w.not-Start w.not-Control w.not-Query
    w.not-Delete in
    rw (sym same) c.write_asks.ensures
