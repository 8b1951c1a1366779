-- The processes, each with the words that its launch is to have: two lists of the flat state in one.
use Rattle.std.specs.Prelude.{ℕ, Bool, List, [], ◌∷◌, map, filter, if◌then◌else◌}
use Rattle.scm_model.specs.declared.flat.Process.{Process}
use Rattle.scm_model.specs.declared.flat.Wanted.{Wanted}
use Rattle.scm_tables.specs.declared.process_rows.ProcessRow.{ProcessRow}
use Rattle.scm_rules.specs.Valid.{is_wanted_phase}

abbrev pub process_shown : ProcessRow → Process
process_shown row = record {
  number = row.number;
  service = row.service;
  shared = row.shared;
  phase = row.phase;
  pid = row.pid;
  controls = row.controls;
}

-- whether a process is still to be launched
abbrev pub is_wanted_row : ProcessRow → Bool
is_wanted_row row = is_wanted_phase row.phase

abbrev pub wanted_of : ProcessRow → Wanted
wanted_of row = record { process = row.number; command = row.line.command; words = row.line.words }

abbrev pub processes_in : List ProcessRow → List Process
processes_in rows = map process_shown rows

abbrev pub wanted_in : List ProcessRow → List Wanted
wanted_in rows = map wanted_of (filter is_wanted_row rows)

-- the words of the launch that is wanted first, which has none where it is a command's
abbrev pub next_words : List Wanted → List (List ℕ)
next_words [] = []
next_words (row ∷ rows) = if row.command then [] else row.words

-- they are taken out of it
abbrev pub without_words : List Wanted → List Wanted
without_words [] = []
without_words (row ∷ rows) = record row { words = [] } ∷ rows

-- a row whose process is changed
abbrev pub listed_as : (Process → Process) → ProcessRow → ProcessRow
listed_as change row =
    let process = change (process_shown row) in
    record row {
      number = process.number;
      service = process.service;
      shared = process.shared;
      phase = process.phase;
      pid = process.pid;
      controls = process.controls;
    }
