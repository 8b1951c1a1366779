-- What an input of lines is answered, and how far a run came.
use Rattle.std.specs.Prelude.{ℕ, ◌≡◌, ◌+◌, ◌<◌, ◌≤◌, ◌^◌, ◌==◌, ◌⊎◌, false, List, [], ◌∷◌, ◌++◌, length, All, Option, if◌then◌else◌}
use Rattle.std.specs.List.{slice_split}
use Rattle.std.specs.Io.KnownBytes.{Appends, Consumes, IsAtEnd}
use Rattle.outside.specs.Causes.{NeitherFailed, ReadFailed, WriteFailed}
use Rattle.outside.specs.Written.{Begins}
use Rattle.scm_model.specs.declared.flat.Limits.{Limits}
use Rattle.scm_core.specs.Managed.{Managed}
use Rattle.scm_replay.specs.declared.replayed.Replayed.{Replayed}
use Rattle.scm_replay.specs.declared.replayed.Replayed.TheVariants as ended
use Rattle.scm_replay.specs.Outcomes.{Standing, goes_on, outcome_at}
use Rattle.scm_replay.specs.Answers.{answer_line}

-- ## The text

-- how an input ends: after a line feed, within a line, or with a bad line, whatever follows
pub data TextEnd : Type 0 where
  AtRest : TextEnd
  Unfinished : TextEnd
  BadLine : TextEnd

-- what an input is answered, how it ends, and where the manager then stands
pub record Told : Type 0 where
  pub text : List ℕ
  pub ending : TextEnd
  pub at : Standing

abbrev pub ends_text : TextEnd → Standing → Told
ends_text ending at = record { text = []; ending = ending; at = at }

-- a text, and then what is answered
abbrev pub text_behind : List ℕ → Told → Told
text_behind text told = record { text = text ++ told.text; ending = told.ending; at = told.at }

-- what stands after the last line feed is no line
abbrev pub text_end : List ℕ → TextEnd
text_end rest = if length rest == 0 then AtRest else Unfinished

-- What the lines are answered from there on where a manager stands, of which the first has this number: each step is made where
-- the step before it left it, and the first bad line is the last one. After the last line stands a rest.
unfoldable pub told_from : Limits → Standing → ℕ → List (List ℕ) → Told
told_from l s number [] = ends_text AtRest s
told_from l s number (rest ∷ []) = ends_text (text_end rest) s
told_from l s number (line ∷ next ∷ more) =
    text_behind (answer_line number (outcome_at l s line).0)
    (if goes_on (outcome_at l s line).0 then told_from l (outcome_at l s line).1 (number + 1) (next ∷ more)
    else ends_text BadLine (outcome_at l s line).1)

-- the lines of an input, and the rest after its last line feed
abbrev pub lines_of : List ℕ → List (List ℕ)
lines_of input = slice_split (λ b. b == 10) input

-- what an input is answered where a manager stands, whose first line has this number
unfoldable pub replayed_from : Limits → Standing → ℕ → List ℕ → Told
replayed_from l s number input = told_from l s number (lines_of input)

-- what a whole input is answered
abbrev pub replay_told : Limits → Standing → List ℕ → Told
replay_told l s input = replayed_from l s 1 input

-- ## How far a run came

-- no bad line was read
abbrev pub IsOpenText : TextEnd → Type 0
IsOpenText AtRest = Unit {0}
IsOpenText Unfinished = Unit {0}
IsOpenText BadLine = ⊥

-- all that was read is answered, and no line of it is bad
pub record IsAnswered (l : Limits) (s now : Standing) (read written : List ℕ) : Type 0 where
  pub text : written ≡ (replay_told l s read).text
  pub goes_on : IsOpenText (replay_told l s read).ending
  pub at : now ≡ (replay_told l s read).at

-- no line feed stands in it
abbrev pub IsOneLine : List ℕ → Type 0
IsOneLine bytes = All (λ b. (b == 10) ≡ false) bytes

-- A run stopped in a line: the lines before it are answered, and none of them is bad. At most one piece of 4,096 bytes was read
-- beyond these bytes of it.
pub record StopsIn (l : Limits) (s : Standing) (read answered line beyond : List ℕ) : Type 0 where
  pub parts : read ≡ answered ++ (line ++ beyond)
  pub one_line : IsOneLine line
  pub little : length beyond ≤ 4096
  pub whole : (replay_told l s answered).ending ≡ AtRest

-- some lines, and one more with its line feed
abbrev pub with_line : List ℕ → List ℕ → List ℕ
with_line answered line = answered ++ (line ++ 10 ∷ [])

-- the line is bad, and is answered so, whatever follows; the manager stands as before it
pub record EndsBad (l : Limits) (s now : Standing) (read written : List ℕ) : Type 0 where
  pub answered : List ℕ
  pub line : List ℕ
  pub rest : List ℕ
  pub stop : StopsIn l s read answered line (10 ∷ rest)
  pub told : (more : List ℕ) → replay_told l s (answered ++ (line ++ 10 ∷ more)) ≡ record { text = written; ending = BadLine; at = now }
  pub as_before : now ≡ (replay_told l s answered).at

-- the line's step was made, if it has one that may be made, and a front of its answer is written
pub record IsCut (l : Limits) (s now : Standing) (read written : List ℕ) : Type 0 where
  pub answered : List ℕ
  pub line : List ℕ
  pub rest : List ℕ
  pub stop : StopsIn l s read answered line (10 ∷ rest)
  pub begun : Begins (replay_told l s answered).text written
  pub cut : Begins written (replay_told l s (with_line answered line)).text
  pub front : Begins written (replay_told l s read).text
  pub at : now ≡ (replay_told l s (with_line answered line)).at

-- nothing of the line's answer is written, and its step was made or not
pub record IsLeft (l : Limits) (s now : Standing) (read written : List ℕ) : Type 0 where
  pub answered : List ℕ
  pub line : List ℕ
  pub beyond : List ℕ
  pub stop : StopsIn l s read answered line beyond
  pub text : written ≡ (replay_told l s answered).text
  pub front : Begins written (replay_told l s read).text
  pub at : (now ≡ (replay_told l s answered).at) ⊎ (now ≡ (replay_told l s (with_line answered line)).at)

abbrev pub ReachedLine : Limits → (s now : Standing) → Replayed → (read : List ℕ) → (left : Option (List ℕ)) → (written : List ℕ) → Type 0
ReachedLine l s now ended.Ended read left written =
    IsAtEnd left × (length read < 2 ^ 40) × (replay_told l s read ≡ record { text = written; ending = AtRest; at = now })
ReachedLine l s now ended.Truncated read left written =
    IsAtEnd left × (length read < 2 ^ 40) × (replay_told l s read ≡ record { text = written; ending = Unfinished; at = now })
ReachedLine l s now ended.BadLine read left written = EndsBad l s now read written
ReachedLine l s now ended.ReadFault read left written = (length read < 2 ^ 40) × IsAnswered l s now read written
ReachedLine l s now ended.Worn read left written = (length read ≡ 2 ^ 40) × IsAnswered l s now read written
ReachedLine l s now ended.WriteFault read left written = IsCut l s now read written
ReachedLine l s now ended.OutOfMemory read left written = IsLeft l s now read written

-- What was read and written, how far the run came by what it answered, and where the manager stands after it.
pub record IsReplayed (l : Limits) (s now : Standing) (left left_now held held_now : Option (List ℕ)) (how : Replayed) : Type 0 where
  pub read : List ℕ
  pub written : List ℕ
  pub consumed : Consumes left left_now read
  pub most : length read ≤ 2 ^ 40
  pub appended : Appends held held_now written
  pub reached : ReachedLine l s now how read left_now written

-- the count of the source or the sink rose if it is said to have failed; at each other end, also when out of memory, both are
-- the same
abbrev pub IsReplayCaused : Replayed → (source source_now sink sink_now : ℕ) → Type 0
IsReplayCaused ended.ReadFault source source_now sink sink_now = ReadFailed source source_now sink sink_now
IsReplayCaused ended.WriteFault source source_now sink sink_now = WriteFailed source source_now sink sink_now
IsReplayCaused _ source source_now sink sink_now = NeitherFailed source source_now sink sink_now

-- a manager that can make a step for each byte that is read
pub record IsFresh (m : Managed) : Type 0 where
  pub steps : m.steps ≤ 2 ^ 49
  pub text : m.text < 2 ^ 63
