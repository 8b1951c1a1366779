-- A process stays as it is but by the entries that are of it; controls may come to wait for it, and be taken.
use Rattle.std.specs.Prelude.{ℕ, ◌≡◌, ◌<◌, false, IsTrue, is_some, [], option_map}
use Rattle.scm_model.specs.declared.flat.Flat.{Flat}
use Rattle.scm_model.specs.declared.steps.Answer.{Answer}
use Rattle.scm_model.specs.declared.flat.Process.{Process}
use Rattle.scm_rules.specs.Launches.{process_of}
use Rattle.scm_model.specs.Entries.{Entry}
use Rattle.scm_rules.specs.Named.{names_process, takes_process}

-- all of a process but the controls that wait for it
abbrev pub apart_from_controls : Process → Process
apart_from_controls row = record row { controls = [] }

-- a process that is listed is listed as it was, apart from its controls, and a number that was given and isn't listed isn't listed again
pub record Stays (before after : Flat) (number : ℕ) : Type 0 where
  pub listed : IsTrue (is_some (process_of before number))
      → option_map apart_from_controls (process_of after number) ≡ option_map apart_from_controls (process_of before number)
  pub unlisted : is_some (process_of before number) ≡ false → number < before.next.process → is_some (process_of after number) ≡ false

-- so it is with each process that an entry doesn't name, and whose launch it doesn't take
abbrev pub OthersStay : Flat → Entry → Answer → Flat → Type 0
OthersStay before e told after =
    (number : ℕ) → names_process number e.1 ≡ false → takes_process before number e.1 ≡ false → Stays before after number
