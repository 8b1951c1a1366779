-- What a history's entries became, in each mode of a recorder.
use Rattle.std.specs.Prelude.{ℕ, ◌≡◌, ◌⊎◌, Bool, true, false, List, Option}
use Rattle.std.specs.Io.KnownBytes.{Keeps}
use Rattle.scm_model.specs.Entries.{Entry}
use Rattle.scm_trail.specs.Trailed.{Ends, Trailed}
use Rattle.trail_log.specs.declared.recorder.Mode.{Mode}
use Rattle.trail_log.specs.declared.recorder.Mode.TheVariants.{Kept, Logged, Dropped}
use Rattle.trail_log.specs.declared.recorder.Recorder.{Recorder}
use Rattle.trail_log.specs.Recording.{HasFront, Stands}

-- entries are let go
abbrev pub is_recording : Mode → Bool
is_recording Kept = false
is_recording mode = true

-- the trail has the whole history, and nothing was written
pub record HasAll (was : Option (List ℕ)) (log : List Entry) (t : Trailed) (held : Option (List ℕ)) : Type 0 where
  pub ends : Ends t log
  pub whole : t.past ≡ 0
  pub untouched : Keeps was held

abbrev pub LoggedAs : Mode → Option (List ℕ) → List Entry → Trailed → ℕ → Option (List ℕ) → Type 0
LoggedAs Kept was log t at held = HasAll was log t held
LoggedAs Logged was log t at held = Stands was log t at held
LoggedAs Dropped was log t at held = HasFront was log t held

-- the trail and the log have a history, after what the log told before it
abbrev pub IsLogged : {T : Type 0} → (T → Option (List ℕ)) → Option (List ℕ) → List Entry → Trailed → Recorder T → Type 0
IsLogged tells was log t r = LoggedAs r.mode was log t r.at (tells r.sink)

-- it is as it was, or takes nothing more
abbrev pub WaitsOrStops : {T : Type 0} → Recorder T → Recorder T → Type 0
WaitsOrStops old new = (new ≡ old) ⊎ (new ≡ record old { mode = Dropped })
