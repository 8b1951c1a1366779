use Rattle.std.proofs.Common.{ℕ, List, Bool, ◌≡◌, ◌≢◌, refl, sym}
use Rattle.sc_words.specs.Asks.{query_asks, write_asks}
use Rattle.scm_model.specs.declared.calls.TriggerIn.{TriggerIn}
use Rattle.sc_words.specs.declared.calls.Method.{Method}
use Rattle.sc_words.specs.declared.command.Command.{Command}
use Rattle.sc_words.specs.declared.command.Task.{Task}
use Rattle.sc_words.specs.declared.command.Task.TheVariants as task
use Rattle.sc_words.specs.declared.security.NewSecurity.{NewSecurity}
use Rattle.sc_words.specs.declared.settings.Settings.{Settings}
use Rattle.sc_words.proofs.command.Command.write_asks.Goals as goal

-- a task that writes no configuration asks what one that reads asks
no_write : (c : Command) (t : Task) (m : Method) (handle : ℕ) → ((s : Settings) → t ≢ task.Create s) →
    ((s : Settings) → t ≢ task.Config s) → ((text : List ℕ) → t ≢ task.Description text) →
    ((s : Settings) → t ≢ task.Failure s) → ((on : Bool) → t ≢ task.FailureFlag on) →
    ((triggers : List TriggerIn) → t ≢ task.Triggers triggers) → ((new : NewSecurity) → t ≢ task.SetSecurity new) →
    query_asks c t m handle ≡ write_asks c t m handle
no_write c (task.Create s) m handle create config description failure flag trigger security = absurd (create s refl)
no_write c (task.Config s) m handle create config description failure flag trigger security = absurd (config s refl)
no_write c (task.Description text) m handle create config description failure flag trigger security = absurd (description text refl)
no_write c (task.Failure s) m handle create config description failure flag trigger security = absurd (failure s refl)
no_write c (task.FailureFlag on) m handle create config description failure flag trigger security = absurd (flag on refl)
no_write c (task.Triggers triggers) m handle create config description failure flag trigger security = absurd (trigger triggers refl)
no_write c (task.SetSecurity new) m handle create config description failure flag trigger security = absurd (security new refl)
no_write c t m handle create config description failure flag trigger security = refl

pub returns-in_default : goal.returns-in_default
returns-in_default c =
    let w = c.in_default in
    let same = no_write c.args.self.now c.args.self.now.task c.args.method c.args.handle w.not-Create w.not-Config
    w.not-Description w.not-Failure w.not-FailureFlag w.not-Triggers w.not-SetSecurity in
    rw (sym same) c.query_asks.ensures
