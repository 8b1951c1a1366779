-- What is recorded of a history while it is made.
use Rattle.std.specs.Prelude.{ℕ, ◌≡◌, All, List, ◌++◌, Option}
use Rattle.scm_model.specs.Entries.{Entry}
use Rattle.scm_trail.specs.Segments.{IsCoded}
use Rattle.scm_trail.specs.Trailed.{Trailed}
use Rattle.history_log.specs.Logged.{Logged as LogState}
use Rattle.trail_log.specs.declared.recorder.Mode.TheVariants.{Logged}
use Rattle.trail_log.specs.declared.recorder.Recorder.{Recorder}
use Rattle.trail_log.specs.Recorders.{IsLogged, is_recording}
use Rattle.trail_log.specs.Recording.{IsWithin, LetsFrontGo}
use Rattle.scm_book.specs.declared.held.Held.{Held}

-- the trail and the log have a history, after what the log told before it
abbrev pub IsRecorded : Option (List ℕ) → List Entry → Trailed → Recorder LogState → Type 0
IsRecorded was log t r = IsLogged (λ (l : LogState). l.held) was log t r

-- each entry that was let go has a code
pub record HasCodedFront (log : List Entry) (t : Trailed) : Type 0 where
  pub front : List Entry
  pub is : log ≡ front ++ t.entries
  pub coded : All IsCoded front

module _ {K : Type 0} where
  abbrev pub CanRecord : Held K → Type 0
  CanRecord h = h.recorder.mode ≡ Logged → IsWithin h.recorder.at h.trail.parts

  -- entries may have gone to the log, and all else is as it was
  pub record Records (h h' : Held K) : Type 0 where
    pub manager : h'.manager ≡ h.manager
    pub journal : h'.journal ≡ h.journal
    pub keeper : h'.keeper ≡ h.keeper
    pub goes : LetsFrontGo h.trail h'.trail
    pub coded : All IsCoded h.trail.entries
    pub mode : is_recording h'.recorder.mode ≡ is_recording h.recorder.mode
    pub recorded : (was : Option (List ℕ)) (log : List Entry) → IsRecorded was log h.trail h.recorder
        → IsRecorded was log h'.trail h'.recorder
