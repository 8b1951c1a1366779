-- Entries, as their lines are read.
use Rattle.std.proofs.Common.{ℕ, ◌≡◌, ◌+◌, ◌≤◌, ◌&&◌, Bool, true, false, not, cond, List, Option, Some, None, refl, sym, ap, ◌∙◌}
use Rattle.std.specs.Prelude.{bytes_eq, is_none, is_some}
use Rattle.std.proofs.lemmas.Bool.{and_parts, le-leb, leb-true}
use Rattle.scm_model.specs.declared.flat.Flat.{Flat}
use Rattle.scm_model.specs.declared.flat.Limits.{Limits}
use Rattle.scm_model.specs.declared.calls.Request.{Request}
use Rattle.scm_model.specs.declared.steps.Kept.{Kept}
use Rattle.scm_model.specs.declared.steps.Kept.TheVariants as appended
use Rattle.scm_model.specs.declared.steps.Step.{Step}
use Rattle.scm_model.specs.declared.steps.Step.TheVariants.{Joined, Call, EndStart, LaunchTaken, Launched, LaunchFailed, Report, Ended}
use Rattle.scm_model.specs.declared.steps.Step.TheVariants.{ControlTaken, Tick, Raised, Gone, NoMemory}
use Rattle.scm_model.specs.Entries.{Entry}
use Rattle.scm_rules.specs.Owed.{owed}
use Rattle.scm_rules.specs.Steps.{may, may_come, step_of}
use Rattle.scm_rules.specs.Verdicts.{change_of_call, tells_right}
use Rattle.scm_lines.specs.Entries.{is_failed, line_of, said}
use Rattle.scm_lines.specs.Lines.{line_at}
use Rattle.scm_lines.specs.Words.{◌>>=◌}
use Rattle.scm_replay.specs.Outcomes.{kept_as}
use Rattle.trail_text.specs.Histories.{IsSaid, answer_line}
use Rattle.trail_text.specs.Audits.{At, BeforeAnswer, entry_in, entry_next, step_next}
use Rattle.trail_text.proofs.Forms.{HasForm, read_form}
use Rattle.trail_text.proofs.Reading.{bind_some, bytes_same, if_some, same_bytes, same_some, some_if}

-- ## What the line of an entry that may come says

-- a call that a line says, by whether it makes a change and whether its append fails
abbrev call_in : Bool → Bool → ℕ → ℕ → Request → Option Entry
call_in changes fails m caller asked =
    cond (fails && not changes) None (Some (m, Call caller asked (kept_as changes fails)))

kept_back : (changes : Bool) (append : Kept) (m caller : ℕ) (asked : Request) → tells_right changes append ≡ true
    → call_in changes (is_failed (Call caller asked append)) m caller asked ≡ Some (m, Call caller asked append)
kept_back true appended.NotAsked m caller asked h = absurd cc
kept_back false appended.NotAsked m caller asked h = refl
kept_back true appended.Kept m caller asked h = refl
kept_back false appended.Kept m caller asked h = absurd cc
kept_back true appended.Failed m caller asked h = refl
kept_back false appended.Failed m caller asked h = absurd cc

none_is_not : {A : Type 0} (o : Option A) → is_none o ≡ not (is_some o)
none_is_not None = refl
none_is_not (Some x) = refl

-- a step that may come is right about its change, so its line says it
pub step_back : (l : Limits) (f : Flat) (m : ℕ) (step : Step) → may l f m step ≡ true → entry_in l f (said (m, step)) ≡ Some (m, step)
step_back l f m (Call caller asked append) h =
    let o = change_of_call l f caller asked in
    let right = (and_parts (may_come l f m (Call caller asked append)) _ h).1 in
    ap (λ b. cond (is_failed (Call caller asked append) && b) None
    (Some (m, Call caller asked (kept_as (is_some o) (is_failed (Call caller asked append)))))) (none_is_not o)
    ∙ kept_back (is_some o) append m caller asked right
step_back l f m (Joined principal) h = refl
step_back l f m (EndStart caller plan) h = refl
step_back l f m LaunchTaken h = refl
step_back l f m (Launched process pid) h = refl
step_back l f m (LaunchFailed process code) h = refl
step_back l f m (Report process service status) h = refl
step_back l f m (Ended process) h = refl
step_back l f m (ControlTaken process) h = refl
step_back l f m Tick h = refl
step_back l f m (Raised caller subtype) h = refl
step_back l f m (Gone caller) h = refl
step_back l f m (NoMemory caller) h = refl

-- ## What an entry that a line says has for a line

call_said : (changes fails : Bool) (m caller : ℕ) (asked : Request) (e : Entry) → call_in changes fails m caller asked ≡ Some e
    → record { moment = m; step = Call caller asked appended.NotAsked; fails = fails } ≡ said e
call_said true true m caller asked e h = ap said (same_some _ e h)
call_said true false m caller asked e h = ap said (same_some _ e h)
call_said false true m caller asked e h = absurd cc
call_said false false m caller asked e h = ap said (same_some _ e h)

plain_said : (m : ℕ) (step : Step) (fails : Bool) (e : Entry) → fails ≡ false
    → said (m, step) ≡ record { moment = m; step = step; fails = false }
    → (fails ≡ false → Some (m, step) ≡ Some e) → record { moment = m; step = step; fails = fails } ≡ said e
plain_said m step fails e plain own is =
    ap (λ b. record { moment = m; step = step; fails = b }) plain ∙ sym own ∙ ap said (same_some (m, step) e (is plain))

-- what the entry is read as that a line says in a state
pub entry_said : (l : Limits) (f : Flat) (m : ℕ) (step : Step) (fails : Bool) (e : Entry) → HasForm fails step
    → entry_in l f (record { moment = m; step = step; fails = fails }) ≡ Some e
    → record { moment = m; step = step; fails = fails } ≡ said e
entry_said l f m (Call caller asked append) fails e form is =
    let o = change_of_call l f caller asked in
    ap (λ k. record { moment = m; step = Call caller asked k; fails = fails }) form
    ∙ call_said (is_some o) fails m caller asked e
    (ap (λ b. cond (fails && b) None (Some (m, Call caller asked (kept_as (is_some o) fails)))) (sym (none_is_not o)) ∙ is)
entry_said l f m (Joined principal) fails e form is =
    plain_said m (Joined principal) fails e form refl (λ p. sym (ap (λ b. cond (b && true) None (Some (m, Joined principal))) p) ∙ is)
entry_said l f m (EndStart caller plan) fails e form is =
    plain_said m (EndStart caller plan) fails e form refl (λ p. sym (ap
    (λ b. cond (b && true) None (Some (m, EndStart caller plan))) p) ∙ is)
entry_said l f m LaunchTaken fails e form is =
    plain_said m LaunchTaken fails e form refl (λ p. sym (ap (λ b. cond (b && true) None (Some (m, LaunchTaken))) p) ∙ is)
entry_said l f m (Launched process pid) fails e form is =
    plain_said m (Launched process pid) fails e form refl (λ p. sym (ap
    (λ b. cond (b && true) None (Some (m, Launched process pid))) p) ∙ is)
entry_said l f m (LaunchFailed process code) fails e form is =
    plain_said m (LaunchFailed process code) fails e form refl
    (λ p. sym (ap (λ b. cond (b && true) None (Some (m, LaunchFailed process code))) p) ∙ is)
entry_said l f m (Report process service status) fails e form is =
    plain_said m (Report process service status) fails e form refl
    (λ p. sym (ap (λ b. cond (b && true) None (Some (m, Report process service status))) p) ∙ is)
entry_said l f m (Ended process) fails e form is =
    plain_said m (Ended process) fails e form refl (λ p. sym (ap (λ b. cond (b && true) None (Some (m, Ended process))) p) ∙ is)
entry_said l f m (ControlTaken process) fails e form is =
    plain_said m (ControlTaken process) fails e form refl (λ p. sym (ap
    (λ b. cond (b && true) None (Some (m, ControlTaken process))) p) ∙ is)
entry_said l f m Tick fails e form is =
    plain_said m Tick fails e form refl (λ p. sym (ap (λ b. cond (b && true) None (Some (m, Tick))) p) ∙ is)
entry_said l f m (Raised caller subtype) fails e form is =
    plain_said m (Raised caller subtype) fails e form refl (λ p. sym (ap
    (λ b. cond (b && true) None (Some (m, Raised caller subtype))) p) ∙ is)
entry_said l f m (Gone caller) fails e form is =
    plain_said m (Gone caller) fails e form refl (λ p. sym (ap (λ b. cond (b && true) None (Some (m, Gone caller))) p) ∙ is)
entry_said l f m (NoMemory caller) fails e form is =
    plain_said m (NoMemory caller) fails e form refl (λ p. sym (ap (λ b. cond (b && true) None (Some (m, NoMemory caller))) p) ∙ is)

-- ## The next line

-- an entry may be made in a state, after so many steps, and is what its line says
pub record Enters (l : Limits) (steps : ℕ) (f : Flat) (e : Entry) : Type 0 where
  pub said : IsSaid e
  pub may : may l f e.0 e.1 ≡ true
  pub fits : steps + 1 + owed (step_of l f e.0 e.1).flat ≤ l.steps

-- the answer of an entry is due after its line
abbrev pub due_after : Limits → ℕ → Flat → Entry → At
due_after l steps f e = BeforeAnswer (answer_line l f e) l (steps + 1) (step_of l f e.0 e.1).flat

all_true : (a b c : Bool) → a ≡ true → b ≡ true → c ≡ true → (a && b && c) ≡ true
all_true true true true h k m = refl
all_true true true false h k m = absurd cc
all_true true false c h k m = absurd cc
all_true false b c h k m = absurd cc

pub entry_leads : (l : Limits) (steps : ℕ) (f : Flat) (e : Entry) → Enters l steps f e
    → step_next l steps f (line_of e) ≡ Some (due_after l steps f e)
entry_leads l steps f e h =
    ap (λ r. r >>= entry_in l f >>= entry_next l steps f (line_of e)) h.said
    ∙ ap (λ r. r >>= entry_next l steps f (line_of e)) (step_back l f e.0 e.1 h.may)
    ∙ some_if _ (due_after l steps f e)
    (all_true (bytes_eq (line_of e) (line_of e)) (may l f e.0 e.1) _ (same_bytes (line_of e) (line_of e) refl) h.may
    (le-leb (steps + 1 + owed (step_of l f e.0 e.1).flat) l.steps h.fits))

-- what a line is that leads on as an entry
pub record Entered (l : Limits) (steps : ℕ) (f : Flat) (line : List ℕ) (now : At) : Type 0 where
  pub entry : Entry
  pub is : line_of entry ≡ line
  pub enters : Enters l steps f entry
  pub due : now ≡ due_after l steps f entry

pub led_by_entry : (l : Limits) (steps : ℕ) (f : Flat) (line : List ℕ) (now : At) → step_next l steps f line ≡ Some now
    → Entered l steps f line now
led_by_entry l steps f line now led =
    let a = bind_some (line_at line >>= entry_in l f) (entry_next l steps f line) now led in
    let b = bind_some (line_at line) (entry_in l f) a.0 a.1 in
    let e = a.0 in
    let tests = if_some _ (due_after l steps f e) now a.2 in
    let first = and_parts (bytes_eq (line_of e) line && may l f e.0 e.1) _ tests.0 in
    let both = and_parts (bytes_eq (line_of e) line) (may l f e.0 e.1) first.0 in
    let is = bytes_same (line_of e) line both.0 in
    let own = entry_said l f b.0.moment b.0.step b.0.fails e (read_form line b.0 b.1) b.2 in
    record {
      entry = e;
      is = is;
      enters = record {
        said = ap line_at is ∙ b.1 ∙ ap (λ s. Some s) own;
        may = both.1;
        fits = leb-true (steps + 1 + owed (step_of l f e.0 e.1).flat) l.steps first.1;
      };
      due = sym tests.1;
    }
