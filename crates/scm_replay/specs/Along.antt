-- What became of the bytes on a stretch of an input.
use Rattle.std.specs.Prelude.{ℕ, ◌≡◌, ◌+◌, ◌<◌, ◌≤◌, ◌^◌, ◌⊎◌, Bool, true, false, List, ◌∷◌, ◌++◌, length, take, Option, Result, Ok, Err}
use Rattle.std.specs.Io.KnownBytes.{Appends}
use Rattle.feed_loop.specs.declared.fed.ReadEnd.{ReadEnd}
use Rattle.feed_loop.specs.declared.fed.ReadEnd.TheVariants as fed
use Rattle.outside.specs.Causes.{Rose}
use Rattle.outside.specs.Written.{AppendsFront}
use Rattle.scm_model.specs.declared.flat.Limits.{Limits}
use Rattle.scm_core.specs.Managed.{Managed}
use Rattle.scm_replay.specs.declared.replayed.Replayed.{Replayed}
use Rattle.scm_replay.specs.declared.replayed.Replayed.TheVariants as ended
use Rattle.scm_replay.specs.declared.feeding.Reading.{Reading}
use Rattle.scm_replay.specs.declared.stop.Stop.{Stop}
use Rattle.scm_replay.specs.declared.stop.Stop.TheVariants as stop
use Rattle.scm_replay.specs.Outcomes.{Standing, goes_on, outcome_at, standing}
use Rattle.scm_replay.specs.Answers.{answer_line}
use Rattle.scm_replay.specs.Replay.{IsOneLine, text_behind, replayed_from}

-- where a run stands: the manager, the number of the next line, what was read of it, and the sink
pub record Point : Type 0 where
  pub at : Standing
  pub number : ℕ
  pub pending : List ℕ
  pub held : Option (List ℕ)

abbrev pub point : Managed → Reading → Option (List ℕ) → Point
point m reading held = record { at = standing m; number = reading.number; pending = reading.pending.items; held = held }

-- these bytes, after what was read of the line, are lines that are answered, whatever follows, and what was read of the next one
pub record GoesOn (l : Limits) (piece : List ℕ) (a b : Point) : Type 0 where
  pub lines : List ℕ
  pub text : List ℕ
  pub parts : a.pending ++ piece ≡ lines ++ b.pending
  pub written : Appends a.held b.held text
  pub told : (more : List ℕ) → replayed_from l a.at a.number (lines ++ more) ≡ text_behind text (replayed_from l b.at b.number more)
  pub clean : IsOneLine b.pending

-- what became of a line at which the run stopped
abbrev pub Halts : Limits → (number : ℕ) → (line : List ℕ) → (s t : Standing) → (before now : Option (List ℕ)) → Stop → Type 0
Halts l number line s t before now stop.BadLine =
    (goes_on (outcome_at l s line).0 ≡ false) × (t ≡ (outcome_at l s line).1)
    × Appends before now (answer_line number (outcome_at l s line).0)
Halts l number line s t before now stop.WriteFault =
    (t ≡ (outcome_at l s line).1) × AppendsFront before now (answer_line number (outcome_at l s line).0)
Halts l number line s t before now stop.OutOfMemory = ((t ≡ s) ⊎ (t ≡ (outcome_at l s line).1)) × (now ≡ before)

-- what became of one line
abbrev pub Lined : {T : Type 0} → Limits → (number : ℕ) → (line : List ℕ) → (s t : Standing) → (before now : Option (List ℕ))
    → Result T Stop → Type 0
Lined l number line s t before now (Ok done) =
    (goes_on (outcome_at l s line).0 ≡ true) × (t ≡ (outcome_at l s line).1)
    × Appends before now (answer_line number (outcome_at l s line).0)
Lined l number line s t before now (Err why) = Halts l number line s t before now why

-- a line is answered where its line feed is read; memory may be wanting at any byte
abbrev pub IsFeed : Stop → ℕ → Type 0
IsFeed stop.OutOfMemory byte = Unit {0}
IsFeed other byte = byte ≡ 10

-- the bytes up to one of these go on, and there the run stopped
pub record HaltsIn (l : Limits) (piece : List ℕ) (a b : Point) (why : Stop) : Type 0 where
  pub before : List ℕ
  pub byte : ℕ
  pub rest : List ℕ
  pub point : Point
  pub parts : piece ≡ before ++ byte ∷ rest
  pub on : GoesOn l before a point
  pub feed : IsFeed why byte
  pub halts : Halts l point.number point.pending point.at b.at point.held b.held why
  pub clean : IsOneLine b.pending

abbrev pub LinesFed : {T : Type 0} → Limits → (piece : List ℕ) → Point → Point → Result T Stop → Type 0
LinesFed l piece a b (Ok done) = GoesOn l piece a b
LinesFed l piece a b (Err why) = HaltsIn l piece a b why

-- so many of the bytes, at least one, are taken from their front on, and the lines that end in them are answered
abbrev pub FrontFed : Limits → (bytes : List ℕ) → Point → Point → Result ℕ Stop → Type 0
FrontFed l bytes a b (Ok count) = (0 < count) × (count ≤ length bytes) × GoesOn l (take count bytes) a b
FrontFed l bytes a b (Err why) = HaltsIn l bytes a b why

-- the sink's count of faults rose where it is said to have failed, and is the same elsewhere
abbrev pub IsReplayStopCaused : {T : Type 0} → Result T Stop → (before now : ℕ) → Type 0
IsReplayStopCaused (Err stop.WriteFault) before now = Rose before now
IsReplayStopCaused _ before now = now ≡ before

-- and it never falls
pub record HasStopCause {T : Type 0} (before now : ℕ) (result : Result T Stop) : Type 0 where
  pub grows : before ≤ now
  pub caused : IsReplayStopCaused result before now

-- what a manager keeps over some steps, of which there are at most so many
pub record Keeps (old new : Managed) (most : ℕ) : Type 0 where
  pub limits : new.limits ≡ old.limits
  pub text : old.text < 2 ^ 63 → new.text < 2 ^ 63
  pub steps : new.steps ≤ old.steps + most

-- the manager can make so many steps, and so many lines can be counted
pub record IsFit (m : Managed) (line more : ℕ) : Type 0 where
  pub text : m.text < 2 ^ 63
  pub steps : m.steps + more ≤ 2 ^ 50
  pub lines : line + more ≤ 2 ^ 50

-- a piece was taken, and the lines that end in it are answered
pub record LinesEaten (old new : Managed) (piece : List ℕ) (a b : Point) (faults faults_now : ℕ) : Type 0 where
  pub goes : GoesOn old.limits piece a b
  pub limits : new.limits ≡ old.limits
  pub unfailed : faults_now ≡ faults

-- a piece was taken in which the run stopped
pub record LinesHalted (old new : Managed) (piece : List ℕ) (a b : Point) (faults faults_now : ℕ) (why : Stop) : Type 0 where
  pub halts : HaltsIn old.limits piece a b why
  pub limits : new.limits ≡ old.limits
  pub cause : HasStopCause {T = Unit {0}} faults faults_now (Err why)

-- how a run ends, by how its feeding ended and whether nothing stands after the last line
abbrev pub replayed_as : ReadEnd Stop → Bool → Replayed
replayed_as fed.Ended true = ended.Ended
replayed_as fed.Ended false = ended.Truncated
replayed_as fed.ReadFault rest = ended.ReadFault
replayed_as fed.Worn rest = ended.Worn
replayed_as (fed.Stopped stop.BadLine) rest = ended.BadLine
replayed_as (fed.Stopped stop.WriteFault) rest = ended.WriteFault
replayed_as (fed.Stopped stop.OutOfMemory) rest = ended.OutOfMemory

-- a write that failed ends it
abbrev pub line_stopped : {E : Type 0} → Result (Unit {0}) E → Result (Unit {0}) Stop
line_stopped (Ok done) = Ok done
line_stopped (Err fault) = Err stop.WriteFault
