-- What an audit says of the bytes that it read.
use Rattle.std.specs.Prelude.{ℕ, ◌≡◌, ◌<◌, ◌≤◌, ◌^◌, List, ◌++◌, length, Option}
use Rattle.std.specs.List.{AllByRecursion}
use Rattle.std.specs.Io.KnownBytes.{Consumes, IsAtEnd}
use Rattle.outside.specs.Causes.{Rose}
use Rattle.scm_model.specs.Entries.{Entry}
use Rattle.scm_replay.specs.Replay.{IsOneLine}
use Rattle.opening_lines.specs.declared.opening.Opening.{Opening}
use Rattle.trail_text.specs.Histories.{BeginsTold, IsFirstWrong, TellsLegal, ended}
use Rattle.trail_audit.specs.declared.audited.Audited.{Audited}
use Rattle.trail_audit.specs.declared.audited.Audited.TheVariants as audited

-- some whole lines, and what stands after the last line feed
pub record HasLines (read : List ℕ) (lines : List (List ℕ)) (rest : List ℕ) : Type 0 where
  pub parts : read ≡ ended lines ++ rest
  pub whole : AllByRecursion IsOneLine lines
  pub unfinished : IsOneLine rest

-- a legal history of so many entries, told from its opening on
abbrev pub IsHistory : (entries : ℕ) → List ℕ → Type 0
IsHistory entries read = (o : Opening) × (h : List Entry) × (length h ≡ entries) × TellsLegal o h read

-- no line so far is wrong
pub record IsBegun (read : List ℕ) : Type 0 where
  pub lines : List (List ℕ)
  pub rest : List ℕ
  pub has : HasLines read lines rest
  pub begun : BeginsTold lines

-- the line of this number is the first wrong one, counted from 1
pub record IsWrongAt (line : ℕ) (read : List ℕ) : Type 0 where
  pub lines : List (List ℕ)
  pub rest : List ℕ
  pub has : HasLines read lines rest
  pub first : IsFirstWrong line lines

abbrev pub Says : Audited → (read : List ℕ) → (left : Option (List ℕ)) → Type 0
Says (audited.Legal entries) read left = IsAtEnd left × (length read < 2 ^ 40) × IsHistory entries read
Says (audited.NotLegal line) read left = IsWrongAt line read
Says audited.Truncated read left =
    IsAtEnd left × (length read < 2 ^ 40) × IsBegun read × ((entries : ℕ) → IsHistory entries read → ⊥)
Says audited.ReadFault read left = (length read < 2 ^ 40) × IsBegun read
Says audited.Worn read left = (length read ≡ 2 ^ 40) × IsBegun read
Says audited.OutOfMemory read left = Unit {0}

-- what was read, and what is said of it
pub record IsAudited (left left_now : Option (List ℕ)) (how : Audited) : Type 0 where
  pub read : List ℕ
  pub consumed : Consumes left left_now read
  pub most : length read ≤ 2 ^ 40
  pub says : Says how read left_now

-- the count of the source's faults rose where it is said to have failed, and is the same elsewhere
abbrev pub IsAuditCaused : Audited → (faults faults_now : ℕ) → Type 0
IsAuditCaused audited.ReadFault faults faults_now = Rose faults faults_now
IsAuditCaused how faults faults_now = faults_now ≡ faults
