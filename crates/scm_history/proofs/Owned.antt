-- The entries that make or name a caller or a process.
use Rattle.std.proofs.Common.{ℕ, ◌≡◌, ◌∙◌, ◌<◌, ◌==◌, ◌++◌, true, false, cond, IsTrue, List, [], ◌∷◌, Option, None, Some, length, map, ap}
use Rattle.std.proofs.Common.{sym, refl, subst, arith, eqb-true, ne_eqb}
use Rattle.std.specs.Prelude.{IfSome, is_some}
use Rattle.std.proofs.lemmas.List.{append-nil}
use Rattle.std.proofs.lemmas.Bool.{and_parts, false_from_ne_true, or_from}
use Rattle.scm_model.specs.declared.flat.Flat.{Flat}
use Rattle.scm_model.specs.declared.flat.Limits.{Limits}
use Rattle.scm_model.specs.declared.flat.Process.{Process}
use Rattle.scm_model.specs.declared.steps.Answer.{Answer}
use Rattle.scm_model.specs.declared.steps.Name.{Name}
use Rattle.scm_model.specs.declared.steps.Name.TheVariants as names
use Rattle.scm_model.specs.declared.steps.Step.{Step}
use Rattle.scm_model.specs.declared.steps.Step.TheVariants.{Joined, LaunchTaken, Launched, LaunchFailed, Ended}
use Rattle.scm_model.specs.Entries.{Entry}
use Rattle.scm_model.specs.Rows.{is_caller}
use Rattle.scm_rules.specs.Histories.{answer, state}
use Rattle.scm_rules.specs.Launches.{first_wanted, process_of}
use Rattle.scm_rules.specs.Named.{caller_named, is_it, makes_caller, names_caller, names_process, of_caller, process_named, takes_process}
use Rattle.scm_rules.specs.Runs.{IsLegal, run_state}
use Rattle.scm_rules.specs.Steps.{may, step_of}
use Rattle.scm_runs.proofs.Along.{at_end}
use Rattle.scm_runs.proofs.Calls.{keeps}
use Rattle.scm_runs.proofs.Histories.{made_front, same_answer, state_is, told}
use Rattle.scm_runs.proofs.Sound.{Sound}
use Rattle.scm_runs.proofs.Wanted.{taken_listed}
use Rattle.scm_history.specs.Names.{has_come_to}
use Rattle.scm_history.specs.Owned.{LastsOnce, LawOfOwn, Made, is_last_of, is_by_name, made_of, own}
use Rattle.scm_history.proofs.Anew.{first_listed}
use Rattle.scm_history.proofs.Callers.{is_out, left_below, rising, stays_out}
use Rattle.scm_history.proofs.Names.{caller_there, process_there}
use Rattle.scm_history.proofs.Phases.{gives as leaves_so, runs_listed}
use Rattle.scm_history.proofs.Processes.{after_effect, listed_below, none_effect, process_rises}
use Rattle.scm_runs.proofs.Founds.{it_is}

-- ## One entry more

-- the entries of a name behind a front
own_behind : (l : Limits) (f : Flat) (name : Name) (front rest : List Entry) → own l f name (front ++ rest) ≡ own l f name front
    ++ own l (run_state l f front) name rest
unfolding own
own_behind l f name [] rest = refl
own_behind l f name (e ∷ front) rest =
    let step = step_of l f e.0 e.1 in
    let more = own_behind l step.flat name front rest in
    elim (is_by_name f name e.1) as (λ b. cond b (made_of e step.answer ∷ own l step.flat name (front ++ rest))
    (own l step.flat name (front ++ rest))
    ≡ cond b (made_of e step.answer ∷ own l step.flat name front) (own l step.flat name front)
    ++ own l (run_state l step.flat front) name rest) [ true ↦ ap (λ (es : List Made). made_of e step.answer ∷ es) more | false ↦ more ]

own_one : (l : Limits) (g : Flat) (name : Name) (e : Entry) → is_by_name g name e.1 ≡ true
    → own l g name (e ∷ []) ≡ made_of e (step_of l g e.0 e.1).answer ∷ []
unfolding own
own_one l g name e is = ap (λ b. cond b (made_of e (step_of l g e.0 e.1).answer ∷ []) []) is

own_other : (l : Limits) (g : Flat) (name : Name) (e : Entry) (rest : List Entry) → is_by_name g name e.1 ≡ false
    → own l g name (e ∷ rest) ≡ own l (step_of l g e.0 e.1).flat name rest
unfolding own
own_other l g name e rest is =
    let step = step_of l g e.0 e.1 in
    ap (λ b. cond b (made_of e step.answer ∷ own l step.flat name rest) (own l step.flat name rest)) is

own_none : (l : Limits) (f : Flat) (name : Name) → own l f name [] ≡ []
unfolding own
own_none l f name = refl

own_more : (l : Limits) (f : Flat) (name : Name) (es : List Entry) (e : Entry) (reply : Answer) → is_by_name (state l f es) name e.1 ≡ true
    → answer l f (es ++ e ∷ []) (length es) ≡ Some reply
    → own l f name (es ++ e ∷ []) ≡ own l f name es ++ made_of e reply ∷ []
own_more l f name es e reply is said =
    let one = own_one l (state l f es) name e is in
    let same = same_answer (step_of l (state l f es) e.0 e.1).answer reply (sym (told l f es e []) ∙ said) in
    own_behind l f name es (e ∷ [])
    ∙ ap (λ (ms : List Made). own l f name es ++ ms) (ap (λ g. own l g name (e ∷ [])) (sym (state_is l f es)) ∙ one
    ∙ ap (λ r. made_of e r ∷ []) same)

own_quiet : (l : Limits) (f : Flat) (name : Name) (es : List Entry) (e : Entry) → is_by_name (state l f es) name e.1 ≡ false
    → own l f name (es ++ e ∷ []) ≡ own l f name es
own_quiet l f name es e is =
    own_behind l f name es (e ∷ [])
    ∙ ap (λ (ms : List Made). own l f name es ++ ms) (ap (λ g. own l g name (e ∷ [])) (sym (state_is l f es))
    ∙ own_other l (state l f es) name e [] is ∙ own_none l _ name)
    ∙ append-nil (own l f name es)

of_callers : (l : Limits) (f : Flat) (caller : ℕ) (es : List Entry) → map (λ (one : Made). one.entry)
    (own l f (names.Caller caller) es) ≡ of_caller l f caller es
unfolding own
of_callers l f caller [] = refl
of_callers l f caller (e ∷ es) =
    let step = step_of l f e.0 e.1 in
    let more = of_callers l step.flat caller es in
    elim (is_by_name f (names.Caller caller) e.1) as (λ b. map (λ (one : Made). one.entry)
    (cond b (made_of e step.answer ∷ own l step.flat (names.Caller caller) es) (own l step.flat (names.Caller caller) es))
    ≡ cond b (e ∷ of_caller l step.flat caller es) (of_caller l step.flat caller es)) [
      | true ↦ ap (λ (rest : List Entry). e ∷ rest) more
      | false ↦ more
    ]

pub law_of_own : (l : Limits) (f : Flat) → LawOfOwn l f
law_of_own l f = record {
  none = own_none l f;
  more = λ name es e reply is said. own_more l f name es e reply is said;
  quiet = own_quiet l f;
  callers = of_callers l f;
}

-- ## Who isn't there isn't named

not_it : (P : ℕ → Type 0) (number : ℕ) (of : Option ℕ) → IfSome of P → (P number → ⊥) → is_it number of ≡ false
not_it P number None all none = refl
not_it P number (Some of) all none = false_from_ne_true (number == of) (λ same. none (subst P (sym (eqb-true number of same)) all))

-- who is away, with a number that was given
record IsAway (g : Flat) (caller : ℕ) : Type 0 where
  low : caller < g.next.caller
  none : is_caller g caller ≡ false

not_made : (g : Flat) (step : Step) (caller : ℕ) → caller < g.next.caller → makes_caller g caller step ≡ false
not_made g (Joined principal) caller low = ne_eqb caller g.next.caller (λ same. absurd (omega (arith, same, low)))
not_made g step caller low = refl

away_not_of : (l : Limits) (g : Flat) (moment : ℕ) (step : Step) (caller : ℕ) → IsTrue (may l g moment step) → IsAway g caller
    → is_by_name g (names.Caller caller) step ≡ false
away_not_of l g moment step caller ok away =
    or_from (names_caller caller step) (makes_caller g caller step)
    (not_it (λ number. IsTrue (is_caller g number)) caller (caller_named step) (caller_there l g moment step ok)
    (λ there. let none = away.none in cc)) (not_made g step caller away.low)

away_still : (l : Limits) (g : Flat) (moment : ℕ) (step : Step) (caller : ℕ) → IsAway g caller
    → IsAway (step_of l g moment step).flat caller
away_still l g moment step caller away = record {
  low = (let low = away.low in let up = rising l g moment step in omega (arith, low, up));
  none = stays_out l g moment step caller away.low away.none;
}

none_of_away : (l : Limits) (g : Flat) (caller : ℕ) (es : List Entry) → IsLegal l g es → IsAway g caller
    → own l g (names.Caller caller) es ≡ []
none_of_away l g caller [] legal away = own_none l g (names.Caller caller)
none_of_away l g caller (e ∷ es) legal away =
    own_other l g (names.Caller caller) e es (away_not_of l g e.0 e.1 caller legal.0 away)
    ∙ none_of_away l (step_of l g e.0 e.1).flat caller es legal.1 (away_still l g e.0 e.1 caller away)

-- a process that isn't listed, with a number that was given
record IsOff (g : Flat) (process : ℕ) : Type 0 where
  low : process < g.next.process
  none : is_some (process_of g process) ≡ false

come_listed : (step : Step) (row : Option Process) → has_come_to step row ≡ true → is_some row ≡ true
come_listed (Launched process pid) row come = taken_listed row come
come_listed (LaunchFailed process code) row come = taken_listed row come
come_listed step row come = runs_listed row come

not_taken : (l : Limits) (g : Flat) (moment : ℕ) (step : Step) (process : ℕ) → Sound g → IsTrue (may l g moment step) → IsOff g process
    → takes_process g process step ≡ false
not_taken l g moment LaunchTaken process s ok off =
    false_from_ne_true (is_it process (first_wanted g.wanted)) (λ same.
    let there = first_listed g process s (it_is process (first_wanted g.wanted) same) in
    let none = off.none in cc)
not_taken l g moment step process s ok off = refl

off_not_of : (l : Limits) (g : Flat) (moment : ℕ) (step : Step) (process : ℕ) → Sound g → IsTrue (may l g moment step) → IsOff g process
    → is_by_name g (names.Process process) step ≡ false
off_not_of l g moment step process s ok off =
    or_from (names_process process step) (takes_process g process step)
    (not_it (λ number. IsTrue (has_come_to step (process_of g number))) process (process_named step) (process_there l g moment step ok)
    (λ come. let there = come_listed step (process_of g process) come in let none = off.none in cc))
    (not_taken l g moment step process s ok off)

off_still : (l : Limits) (g : Flat) (moment : ℕ) (step : Step) (process : ℕ) → IsOff g process
    → IsOff (step_of l g moment step).flat process
off_still l g moment step process off = record {
  low = (let low = off.low in let up = process_rises l g moment step in omega (arith, low, up));
  none = ap is_some (after_effect l g moment step process off.low) ∙ none_effect l g moment step process off.low off.none;
}

none_of_off : (l : Limits) (g : Flat) (process : ℕ) (es : List Entry) → Sound g → IsLegal l g es → IsOff g process
    → own l g (names.Process process) es ≡ []
none_of_off l g process [] s legal off = own_none l g (names.Process process)
none_of_off l g process (e ∷ es) s legal off =
    own_other l g (names.Process process) e es (off_not_of l g e.0 e.1 process s legal.0 off)
    ∙ none_of_off l (step_of l g e.0 e.1).flat process es (keeps l g e s legal.0) legal.1 (off_still l g e.0 e.1 process off)

-- ## Behind the last entry of a name

leaves_off : (l : Limits) (g : Flat) (moment : ℕ) (step : Step) (process : ℕ) → Sound g → IsTrue (may l g moment step)
    → is_last_of (names.Process process) step ≡ true → IsOff (step_of l g moment step).flat process
leaves_off l g moment (LaunchFailed number code) process s ok last =
    subst (IsOff (step_of l g moment (LaunchFailed number code)).flat) (sym (eqb-true process number last)) (record {
      low = (let low = listed_below g number s (taken_listed (process_of g number) (and_parts _ _ (and_parts _ _ ok).0).0) in
          let up = process_rises l g moment (LaunchFailed number code) in omega (arith, low, up));
      none = ap is_some (leaves_so l g (moment, LaunchFailed number code) s ok);
    })
leaves_off l g moment (Ended number) process s ok last =
    subst (IsOff (step_of l g moment (Ended number)).flat) (sym (eqb-true process number last)) (record {
      low = (let low = listed_below g number s (runs_listed (process_of g number) (and_parts _ _ ok).0) in
          let up = process_rises l g moment (Ended number) in omega (arith, low, up));
      none = ap is_some (leaves_so l g (moment, Ended number) s ok);
    })
leaves_off l g moment step process s ok last = absurd cc

none_behind : (l : Limits) (g : Flat) (name : Name) (e : Entry) (rest : List Entry) → Sound g → IsLegal l g (e ∷ rest)
    → is_last_of name e.1 ≡ true → own l (step_of l g e.0 e.1).flat name rest ≡ []
none_behind l g (names.Caller caller) e rest s legal last =
    none_of_away l (step_of l g e.0 e.1).flat caller rest legal.1 (record {
      low = (let low = left_below l g e.0 e.1 caller s legal.0 last in let up = rising l g e.0 e.1 in omega (arith, low, up));
      none = is_out l g e.0 e.1 caller last;
    })
none_behind l g (names.Process process) e rest s legal last =
    none_of_off l (step_of l g e.0 e.1).flat process rest (keeps l g e s legal.0) legal.1 (leaves_off l g e.0 e.1 process s legal.0 last)

own_last : (l : Limits) (g : Flat) (name : Name) (e : Entry) (rest : List Entry) → own l (step_of l g e.0 e.1).flat name rest ≡ []
    → own l g name (e ∷ rest) ≡ own l g name (e ∷ [])
unfolding own
own_last l g name e rest none =
    let step = step_of l g e.0 e.1 in
    ap (λ (ms : List Made). cond (is_by_name g name e.1) (made_of e step.answer ∷ ms) ms) none

legal_behind : (l : Limits) (f : Flat) (front rest : List Entry) → IsLegal l f (front ++ rest) → IsLegal l (run_state l f front) rest
legal_behind l f [] rest legal = legal
legal_behind l f (e ∷ front) rest legal = legal_behind l (step_of l f e.0 e.1).flat front rest legal.1

last_once : (l : Limits) (f : Flat) (name : Name) (front : List Entry) (e : Entry) (rest : List Entry) → Sound f
    → IsLegal l f (front ++ e ∷ rest) → is_last_of name e.1 ≡ true
    → own l f name (front ++ e ∷ rest) ≡ own l f name (front ++ e ∷ [])
last_once l f name front e rest s legal last =
    let g = run_state l f front in
    let sound = at_end Sound l (keeps l) f front s (made_front l f front (e ∷ rest) legal) in
    own_behind l f name front (e ∷ rest)
    ∙ ap (λ (ms : List Made). own l f name front ++ ms) (own_last l g name e rest
    (none_behind l g name e rest sound (legal_behind l f front (e ∷ rest) legal) last))
    ∙ sym (own_behind l f name front (e ∷ []))

pub lasts_once : (l : Limits) (f : Flat) (es : List Entry) → Sound f → IsLegal l f es → LastsOnce l f es
lasts_once l f es s legal name front e rest split last =
    ap (λ all. own l f name all) split ∙ last_once l f name front e rest s (subst (IsLegal l f) split legal) last
