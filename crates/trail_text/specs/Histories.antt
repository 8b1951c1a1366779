-- The text of a history, and which line of a text is the first wrong one.
use Rattle.std.specs.Prelude.{ℕ, ◌≡◌, ◌≤◌, ◌+◌, Bool, List, [], ◌∷◌, ◌++◌, length, codes, Some}
use Rattle.std.specs.List.{AllByRecursion, flat_map}
use Rattle.scm_model.specs.declared.flat.Flat.{Flat}
use Rattle.scm_model.specs.declared.flat.Limits.{Limits}
use Rattle.scm_model.specs.declared.steps.Answer.{Answer}
use Rattle.scm_model.specs.declared.steps.Answer.TheVariants as answers
use Rattle.scm_model.specs.declared.steps.Step.{Step}
use Rattle.scm_model.specs.Entries.{Entry}
use Rattle.scm_rules.specs.Histories.{Legal}
use Rattle.scm_rules.specs.Opening.{CanOpen, opening}
use Rattle.scm_rules.specs.Steps.{step_of}
use Rattle.scm_lines.specs.Answers.{order_text, told_text}
use Rattle.scm_lines.specs.Entries.{line_of, said}
use Rattle.scm_lines.specs.Lines.{line_at}
use Rattle.scm_replay.specs.Outcomes.{is_shared_by}
use Rattle.opening_lines.specs.declared.opening.Opening.{Opening}
use Rattle.opening_lines.specs.Heads.{config_at, config_line, group_at, group_line, head_lines, limits_at, limits_line, moment_at}
use Rattle.opening_lines.specs.Heads.{moment_line}

-- ## The text

-- the state that a manager begins in
abbrev pub first_of : Opening → Flat
first_of o = opening o.limits o.groups o.configs o.moment

-- an answer; an order tells its service if its process is shared
abbrev pub answered_text : (shared : Bool) → Answer → List ℕ
answered_text shared (answers.Control order) = order_text order shared
answered_text shared answer = told_text answer

-- what a step in a state answers
abbrev pub answer_text : Flat → Step → Answer → List ℕ
answer_text f step answer = answered_text (is_shared_by f step) answer

abbrev pub answer_line : Limits → Flat → Entry → List ℕ
answer_line l f e = codes "= " ++ answer_text f e.1 (step_of l f e.0 e.1).answer

-- each entry's line, and then its answer's
abbrev pub entry_lines : Limits → Flat → List Entry → List (List ℕ)
entry_lines l f [] = []
entry_lines l f (e ∷ es) = line_of e ∷ answer_line l f e ∷ entry_lines l (step_of l f e.0 e.1).flat es

-- the lines that tell a history from its opening on, without their line feeds
abbrev pub told_lines : Opening → List Entry → List (List ℕ)
told_lines o h = head_lines o ++ entry_lines o.limits (first_of o) h

-- lines, each ended by a line feed
abbrev pub ended : List (List ℕ) → List ℕ
ended lines = flat_map (λ line. line ++ 10 ∷ []) lines

abbrev pub told : Opening → List Entry → List ℕ
told o h = ended (told_lines o h)

-- ## What a text can tell

-- no limit is greater than those with which the program runs by default
pub record AreAuditable (limits : Limits) : Type 0 where
  pub services : limits.services ≤ 1024
  pub handles : limits.handles ≤ 1024
  pub registrations : limits.registrations ≤ 64
  pub callers : limits.callers ≤ 64
  pub processes : limits.processes ≤ 128
  pub controls : limits.controls ≤ 16
  pub steps : limits.steps ≤ 16777216
  pub text : limits.text ≤ 268435456

-- a manager can begin so, and the lines of the opening say it
pub record IsStart (o : Opening) : Type 0 where
  pub small : AreAuditable o.limits
  pub can : CanOpen o.limits o.configs
  pub limits : limits_at (limits_line o.limits) ≡ Some o.limits
  pub moment : moment_at (moment_line o.moment) ≡ Some o.moment
  pub groups : AllByRecursion (λ group. group_at (group_line group) ≡ Some group) o.groups
  pub configs : AllByRecursion (λ config. config_at (config_line config) ≡ Some config) o.configs

-- the line of an entry says it, as it does of every entry with a body that can be read
abbrev pub IsSaid : Entry → Type 0
IsSaid e = line_at (line_of e) ≡ Some (said e)

-- a text tells this history, which is legal, from this opening on
pub record TellsLegal (o : Opening) (h : List Entry) (text : List ℕ) : Type 0 where
  pub start : IsStart o
  pub legal : Legal o.limits (first_of o) h
  pub are_said : AllByRecursion IsSaid h
  pub is : text ≡ told o h

-- lines that tell a legal history, or the beginning of one
pub record BeginsTold (lines : List (List ℕ)) : Type 0 where
  pub from : Opening
  pub history : List Entry
  pub rest : List (List ℕ)
  pub start : IsStart from
  pub legal : Legal from.limits (first_of from) history
  pub are_said : AllByRecursion IsSaid history
  pub parts : told_lines from history ≡ lines ++ rest

-- the lines before it begin the text of a legal history, and with it they begin none; lines are counted from 1
pub record IsFirstWrong (k : ℕ) (lines : List (List ℕ)) : Type 0 where
  pub front : List (List ℕ)
  pub line : List ℕ
  pub rest : List (List ℕ)
  pub place : k ≡ length front + 1
  pub parts : lines ≡ front ++ line ∷ rest
  pub begun : BeginsTold front
  pub wrong : BeginsTold (front ++ line ∷ []) → ⊥
