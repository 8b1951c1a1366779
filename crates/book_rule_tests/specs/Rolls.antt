-- Rolls as histories: what is legal, who lives, and whom entries name and make.
use Rattle.std.specs.Prelude.{◌≡◌, ℕ, ◌+◌, ◌^◌, ◌<◌, ◌≤◌, ◌==◌, ◌||◌, Bool, false, cond, List, [], ◌∷◌, ◌++◌, length, Option, None, Some}
use Rattle.std.specs.List.{last_or}
use Rattle.scm_model.specs.Entries.{Entry}
use Rattle.scm_model.specs.declared.flat.Principal.TheVariants.{Admin}
use Rattle.scm_model.specs.declared.steps.Form.TheVariants.{Second}
use Rattle.scm_model.specs.declared.steps.Name.{Name}
use Rattle.scm_model.specs.declared.steps.Name.TheVariants.{Caller}
use Rattle.scm_model.specs.declared.steps.Step.{Step}
use Rattle.scm_model.specs.declared.steps.Step.TheVariants.{Joined, Gone, NoMemory}
use Rattle.book_rule.specs.declared.view.Opening.{Opening}
use Rattle.book_rule.specs.Ways.{Protocol}
use Rattle.book_rule_tests.specs.declared.roll.Line.{Line}
use Rattle.book_rule_tests.specs.declared.roll.What.{What}
use Rattle.book_rule_tests.specs.declared.roll.What.TheVariants as what

abbrev pub MOST : ℕ
MOST = 2 ^ 40

-- a note stands in the history as a call that found no memory
abbrev pub step_of_what : What → Step
step_of_what what.Joined = Joined Admin
step_of_what (what.Noted caller) = NoMemory caller
step_of_what (what.Gone caller) = Gone caller

abbrev pub entry_of : Line → Entry
entry_of line = (line.mark, step_of_what line.what)

-- ## What a history says

abbrev pub joins : Step → ℕ
joins (Joined principal) = 1
joins step = 0

abbrev pub callers_in : List Entry → ℕ
callers_in [] = 0
callers_in (e ∷ es) = joins e.1 + callers_in es

-- what a roll keeps beside the lines that it holds
abbrev pub IsCounted : (held past callers : ℕ) → Type 0
IsCounted held past callers = (callers ≤ past + held) × (past + held ≤ MOST)

-- a roll: how many lines it forgot, those that it holds, and how many callers joined in all
pub record Rolled : Type 0 where
  pub past : ℕ
  pub held : List Entry
  pub callers : ℕ

-- it holds the end of a history
pub record EndsAt (log : List Entry) (r : Rolled) : Type 0 where
  pub front : List Entry
  pub is : log ≡ front ++ r.held
  pub past : r.past ≡ length front
  pub callers : r.callers ≡ callers_in log

-- it may have forgotten some lines
pub record Forgets (old new : Rolled) : Type 0 where
  pub front : List Entry
  pub is : old.held ≡ front ++ new.held
  pub past : new.past ≡ old.past + length front
  pub callers : new.callers ≡ old.callers

-- and has one more, which it holds
pub record Adds (old : Rolled) (e : Entry) (new : Rolled) : Type 0 where
  pub front : List Entry
  pub is : old.held ++ e ∷ [] ≡ front ++ new.held
  pub past : new.past ≡ old.past + length front
  pub callers : new.callers ≡ old.callers + joins e.1
  pub last : last_or None new.held ≡ Some e

-- the caller that an entry names, or 0
abbrev pub caller_told_of : Step → ℕ
caller_told_of (NoMemory caller) = caller
caller_told_of (Gone caller) = caller
caller_told_of step = 0

-- the entries that name a caller
abbrev pub entries_naming : ℕ → List Entry → List Entry
entries_naming c [] = []
entries_naming c (e ∷ es) = cond (caller_told_of e.1 == c) (e ∷ entries_naming c es) (entries_naming c es)

abbrev pub is_going : ℕ → Step → Bool
is_going c (Gone caller) = caller == c
is_going c step = false

abbrev pub has_gone : ℕ → List Entry → Bool
has_gone c [] = false
has_gone c (e ∷ es) = is_going c e.1 || has_gone c es

-- the caller has joined, and hasn't gone
pub record Lives (log : List Entry) (c : ℕ) : Type 0 where
  pub some_one : 0 < c
  pub joined : c ≤ callers_in log
  pub stays : has_gone c log ≡ false

abbrev pub May : List Entry → Step → Type 0
May log (Joined principal) = Unit {0}
May log (NoMemory caller) = Lives log caller
May log (Gone caller) = Lives log caller
May log step = ⊥

-- callers note and go only where they live, and nothing else is done
pub record IsLegal (log : List Entry) : Type 0 where
  pub each : (front : List Entry) (e : Entry) (rest : List Entry) → log ≡ front ++ e ∷ rest → May front e.1
  pub short : length log ≤ MOST

-- ## The way of a roll

abbrev pub names_in : Step → List Name
names_in (NoMemory caller) = Caller caller ∷ []
names_in (Gone caller) = Caller caller ∷ []
names_in step = []

abbrev pub made_by : List Entry → Step → List Name
made_by log (Joined principal) = Caller (callers_in log + 1) ∷ []
made_by log step = []

abbrev pub caller_after : List Entry → ℕ → Step → ℕ
caller_after log c (Joined principal) = callers_in log + 1
caller_after log c (Gone caller) = 0
caller_after log c step = c

-- the rule asks for an opening, which a roll makes no use of
abbrev pub roll_opening : Opening
roll_opening = record {
  limits = record { services = 0; handles = 0; registrations = 0; callers = 0; processes = 0; controls = 0; steps = 0; text = 0 };
  first = record {
    services = [];
    handles = [];
    processes = [];
    wanted = [];
    plans = [];
    registrations = [];
    dues = [];
    callers = [];
    lock = None;
    moment = 0;
    next = record { service = 0; handle = 0; process = 0; plan = 0; registration = 0; due = 0; caller = 0 };
    reboots = 0;
  };
  bytes = None;
  form = Second;
  faults = 0;
  moment = 0;
  asked = None;
  records = false;
  logged = None;
}

abbrev pub way_of_rolls : Protocol Rolled
way_of_rolls = record {
  opening = λ r. roll_opening;
  last = λ r. last_or None r.held;
  fits = λ o log r. EndsAt log r;
  run = λ o log. IsLegal log;
  lives = λ o log c. Lives log c;
  names = λ e. names_in e.1;
  makes = λ o log e. made_by log e.1;
  whose = λ o log c e. caller_after log c e.1;
}
