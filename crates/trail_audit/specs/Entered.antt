-- How the lines of entries are followed at a manager.
use Rattle.std.specs.Prelude.{ℕ, ◌≡◌, ◌+◌, ◌<◌, ◌≤◌, ◌^◌, nat_le, IsTrue, List, Option, None, Some, bytes_eq}
use Rattle.std.specs.Prelude.{if◌then◌else◌}
use Rattle.scm_model.specs.declared.flat.Flat.{Flat}
use Rattle.scm_model.specs.declared.flat.Limits.{Limits}
use Rattle.scm_model.specs.declared.steps.Step.{Step}
use Rattle.scm_model.specs.Entries.{Entry}
use Rattle.scm_model.specs.Texts.{text_of}
use Rattle.scm_core.specs.Managed.{Managed, WasMadeFor}
use Rattle.scm_rules.specs.Owed.{owed}
use Rattle.scm_rules.specs.Steps.{may, step_of}
use Rattle.scm_lines.specs.declared.line.Line.{Line}
use Rattle.scm_lines.specs.Entries.{line_of}
use Rattle.scm_lines.specs.Lines.{line_at}
use Rattle.scm_lines.specs.Words.{◌>>=◌}
use Rattle.trail_text.specs.Audits.{At, BeforeAnswer, entry_in}
use Rattle.trail_text.specs.Histories.{answer_line}
use Rattle.trail_audit.specs.declared.entering.Entering.TheInside.{Inside}

-- the entries are as many as the manager's steps, and their limit is the manager's
pub record IsCounted (e : Inside) : Type 0 where
  pub entries : e.entries ≡ e.manager.steps
  pub most : e.most ≡ e.manager.limits.steps
  pub small : e.most ≤ 2 ^ 50

-- a step may be made at once: it may come, room was made for it, and it can be counted
pub record IsReady (m : Managed) (moment : ℕ) (step : Step) : Type 0 where
  pub may : IsTrue (may m.limits m.flat moment step)
  pub room : WasMadeFor m.room step
  pub steps : m.steps < 2 ^ 50
  pub text : m.text + text_of step < 2 ^ 63

abbrev pub if_may : Limits → Flat → Entry → Option Entry
if_may l f e = if may l f e.0 e.1 then Some e else None

-- the entry that a line says, if it may come
abbrev pub admitted : Limits → Flat → Line → Option Entry
admitted l f line = entry_in l f line >>= if_may l f

abbrev pub if_said : List ℕ → Entry → Option Entry
if_said text e = if bytes_eq (line_of e) text then Some e else None

-- the entry whose line a text is, if it may come
abbrev pub entry_at : Limits → Flat → List ℕ → Option Entry
entry_at l f text = line_at text >>= admitted l f >>= if_said text

-- an entry that may come is followed by its answer, if there is room for what is owed then
abbrev pub made_next : Limits → ℕ → Flat → Entry → Option At
made_next l steps f e =
    let done = step_of l f e.0 e.1 in
    if nat_le (steps + 1 + owed done.flat) l.steps then Some (BeforeAnswer (answer_line l f e) l (steps + 1) done.flat) else None
