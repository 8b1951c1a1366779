-- What the bytes of a child report, and the reports that are made of them.
use Rattle.std.specs.Prelude.{ℕ, ◌≡◌, ◌==◌, All, false, List, [], ◌∷◌, ◌++◌, Option, None, Some, Result, Ok, Err}
use Rattle.std.specs.List.{cons_option, slice_split}
use Rattle.outside.specs.Written.{Begins}
use Rattle.child_link.specs.declared.lines.Reported.{Reported}
use Rattle.scm_model.specs.declared.steps.Answer.{Answer}
use Rattle.book_rule.specs.declared.view.Opening.{Opening}
use Rattle.child_link.specs.Cutting.{kept}
use Rattle.child_link.specs.Lines.{report_step, stated}
use Rattle.scm_book.specs.Passes.{FindsFault, Known, MadeSo}
use Rattle.scm_book.specs.declared.fault.MakeFault.{MakeFault}

-- ## What is reported

-- the reports that lines are, in order; after the last line stands a rest, which no line feed ends, and that is none
unfoldable pub reports_in : List (List ℕ) → List Reported
reports_in [] = []
reports_in (rest ∷ []) = []
reports_in (line ∷ next ∷ more) = cons_option (stated (line ++ 10 ∷ [])) (reports_in (next ∷ more))

-- the reports that stand in bytes
unfoldable pub reports : List ℕ → List Reported
reports bytes = reports_in (slice_split (λ b. b == 10) bytes)

-- ## The steps of reports

module _ (tells : ℕ → Type 0) (o : Opening) (process : ℕ) where
  -- a report of the process was made, at a moment that the clock tells, and told this
  pub record IsReported (k : Known) (report : Reported) (k' : Known) : Type 0 where
    pub moment : ℕ
    pub told : tells moment
    pub answer : Answer
    pub made : MadeSo o k moment (report_step process report) answer k'

  -- these reports lead from k to k', one after another
  abbrev pub Chain : Known → Known → List Reported → Type 0
  Chain k k' [] = k' ≡ k
  Chain k k' (report ∷ more) = (mid : Known) × IsReported k report mid × Chain mid k' more

  -- why a report wasn't made
  abbrev pub IsNotMade : Known → Reported → Known → MakeFault → Type 0
  IsNotMade k report k' fault = FindsFault o k (report_step process report) fault k'

  -- what one report came to
  abbrev pub Reports : {T : Type 0} → Known → Reported → Known → Result T MakeFault → Type 0
  Reports k report k' (Ok done) = IsReported k report k'
  Reports k report k' (Err why) = IsNotMade k report k' why

-- ## A stretch of bytes

-- The whole lines of what was read are these reports, whatever follows, and this is kept of the line that was begun after them.
pub record HasRead (read : List ℕ) (heard : List Reported) (line : List ℕ) : Type 0 where
  pub lines : List ℕ
  pub rest : List ℕ
  pub parts : read ≡ lines ++ rest
  pub told : (more : List ℕ) → reports (lines ++ more) ≡ heard ++ reports more
  pub one_line : All (λ b. (b == 10) ≡ false) rest
  pub is_kept : line ≡ kept rest

module _ (tells : ℕ → Type 0) (o : Opening) (process : ℕ) (piece : List ℕ) (line line' : List ℕ) (k k' : Known) where
  -- a piece was read after what had been read, and reports were made of the lines that end in it
  pub record GoesOn : Type 0 where
    pub heard : List Reported
    pub reads : (read : List ℕ) (before : List Reported) → HasRead read before line → HasRead (read ++ piece) (before ++ heard) line'
    pub chain : Chain tells o process k k' heard

  -- the first of them were made, and this report comes next, whatever follows, which wasn't made
  pub record Stops (why : MakeFault) : Type 0 where
    pub heard : List Reported
    pub last : Known
    pub chain : Chain tells o process k last heard
    pub next : Reported
    pub follows : (read : List ℕ) (before : List Reported) → HasRead read before line → (more : List ℕ)
        → Begins (before ++ (heard ++ next ∷ [])) (reports (read ++ (piece ++ more)))
    pub lacks : IsNotMade tells o process last next k' why

  -- what the piece came to
  abbrev pub Fed : {T : Type 0} → Result T MakeFault → Type 0
  Fed (Ok done) = GoesOn
  Fed (Err why) = Stops why

-- ## What eats a child's output

-- what stays of it
pub record Parts (B C : Type 0) : Type 0 where
  pub book : B
  pub clock : C
  pub process : ℕ

abbrev pub child_parts : {B C : Type 0} → B → C → ℕ → Parts B C
child_parts book clock process = record { book = book; clock = clock; process = process }
