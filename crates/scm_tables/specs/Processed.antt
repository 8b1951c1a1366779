-- What contracts see of the processes, and what is always true of them.
use Rattle.std.specs.Prelude.{ℕ, Bool, ◌≡◌, ◌≤◌, ◌+◌, ◌++◌, not, ◌==◌, List, [], ◌∷◌, All, filter, map, vec_capacity}
use Rattle.scm_model.specs.declared.flat.Process.{Process}
use Rattle.scm_model.specs.declared.flat.Wanted.{Wanted}
use Rattle.scm_rules.specs.Launches.{wanted_of_others}
use Rattle.scm_rules.specs.Owed.{owed_by_process}
use Rattle.start_plan.specs.Entered.{wanted_process}
use Rattle.start_plan.specs.Owed.{total}
use Rattle.scm_tables.specs.Lined.{Lined}
use Rattle.scm_tables.specs.Listed.{processes_in, wanted_in}
use Rattle.scm_tables.specs.Tabled.{AreInOrder}
use Rattle.scm_tables.specs.declared.process_rows.ProcessRow.{ProcessRow}
use Rattle.scm_tables.specs.declared.processes.Processes.TheInside.{Inside}

-- the processes and the launches that are wanted, the number that is given next, and for how many processes there is room
pub record Processed : Type 0 where
  pub processes : List Process
  pub wanted : List Wanted
  pub next : ℕ
  pub capacity : ℕ

abbrev pub processed : Inside → Processed
processed t = record {
  processes = processes_in t.rows.items;
  wanted = wanted_in t.rows.items;
  next = t.next;
  capacity = vec_capacity t.rows;
}

-- how many steps processes owe
abbrev pub owed_in : List ProcessRow → ℕ
owed_in rows = total owed_by_process (processes_in rows)

-- no process has the number 0, nor does the next one
pub record AreNumbered (next : ℕ) (rows : List ProcessRow) : Type 0 where
  pub coming : 1 ≤ next
  pub listed : All (λ (row : ProcessRow). 1 ≤ row.number) rows

-- they stand in order of number, from 1 on, and the steps that they owe are counted
pub record AreCounted (t : Inside) : Type 0 where
  pub rising : AreInOrder (λ (row : ProcessRow). row.number) t.next t.rows.items
  pub numbered : AreNumbered t.next t.rows.items
  pub owed : t.owed ≡ owed_in t.rows.items

-- a process of a service, or of none, is to be launched with a line
abbrev pub with_listed : ℕ → Bool → Lined → Processed → Processed
with_listed service shared line t = record t {
  processes = t.processes ++ wanted_process t.next service shared ∷ [];
  wanted = t.wanted ++ record { process = t.next; command = line.command; words = line.words } ∷ [];
  next = t.next + 1;
}

-- the processes are changed, and the launch of one isn't wanted any more
abbrev pub without_launch : ℕ → (Process → Process) → Processed → Processed
without_launch number change t = record t { processes = map change t.processes; wanted = wanted_of_others number t.wanted }

abbrev pub with_changed : (Process → Process) → Processed → Processed
with_changed change t = record t { processes = map change t.processes }

abbrev pub without_one : ℕ → Processed → Processed
without_one number t = record t {
  processes = filter (λ (row : Process). not (row.number == number)) t.processes;
  wanted = wanted_of_others number t.wanted;
}
