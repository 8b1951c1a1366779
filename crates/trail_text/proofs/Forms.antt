-- The form of the steps that lines say: nothing is told of a change, and only a call's append can fail.
use Rattle.std.proofs.Common.{ℕ, ◌≡◌, ◌==◌, ◌^◌, Bool, true, false, cond, List, [], ◌∷◌, length, Option, Some, None, refl, subst}
use Rattle.std.specs.Prelude.{bytes_eq, codes, option_map}
use Rattle.std.specs.Result.{result_ok}
use Rattle.decimal_words.specs.Numbers.{decimal_number, number_below}
use Rattle.scm_model.specs.declared.flat.Principal.TheVariants.{Admin, User}
use Rattle.scm_model.specs.declared.flat.Status.{Status}
use Rattle.scm_model.specs.declared.steps.Kept.TheVariants as appended
use Rattle.scm_model.specs.declared.steps.Step.{Step}
use Rattle.scm_model.specs.declared.steps.Step.TheVariants.{Joined, Call, EndStart, LaunchTaken, Launched, LaunchFailed, Report, Ended}
use Rattle.scm_model.specs.declared.steps.Step.TheVariants.{ControlTaken, Tick, Raised, Gone, NoMemory}
use Rattle.scm_calls.specs.Raises.{raise_at}
use Rattle.scm_lines.specs.declared.line.Line.{Line}
use Rattle.scm_lines.specs.declared.verb.Verb.{Verb}
use Rattle.scm_lines.specs.declared.verb.Verb.TheVariants as verb
use Rattle.scm_lines.specs.Verbs.{fails_by, verb_at}
use Rattle.scm_lines.specs.Lines.{call_in_words, end_at, joined_at, launched_at, line_at, line_in, line_in_words, plain_at, raise_in_words}
use Rattle.scm_lines.specs.Lines.{naming_in_words, report_at, report_in_words, request_in, status_in_words, step_at, unlaunched_at}
use Rattle.scm_lines.specs.Words.{hex_at, line_words}
use Rattle.trail_text.proofs.Reading.{bind_some, same_some}

-- a call tells nothing of its change, and only a call can fail
abbrev pub HasForm : Bool → Step → Type 0
HasForm fails (Call caller asked append) = append ≡ appended.NotAsked
HasForm fails step = fails ≡ false

of_some : (fails : Bool) (x step : Step) → HasForm fails x → Some x ≡ Some step → HasForm fails step
of_some fails x step form e = subst (HasForm fails) (same_some x step e) form

of_map : (make : ℕ → Step) (o : Option ℕ) (step : Step) → ((n : ℕ) → HasForm false (make n)) → option_map make o ≡ Some step
    → HasForm false step
of_map make None step form e = absurd cc
of_map make (Some n) step form e = of_some false (make n) step (form n) e

call_form : (fails : Bool) (who opnum body : List ℕ) (step : Step) → call_in_words who opnum body ≡ Some step → HasForm fails step
unfolding call_in_words
call_form fails who opnum body step e =
    let a = bind_some (decimal_number who) _ step e in
    let b = bind_some (number_below (2 ^ 16) opnum) _ step a.2 in
    let c = bind_some (hex_at body) _ step b.2 in
    let d = bind_some (request_in b.0 c.0) _ step c.2 in
    of_some fails (Call a.0 d.0 appended.NotAsked) step refl d.2

joined_form : (name : List ℕ) (step : Step) → joined_at name ≡ Some step → HasForm false step
unfolding joined_at
joined_form name step e =
    elim (bytes_eq name (codes "admin")) as
    (λ b. cond b (Some (Joined Admin)) (cond (bytes_eq name (codes "user")) (Some (Joined User)) None)
    ≡ Some step → HasForm false step) [
      | true ↦ λ h. of_some false (Joined Admin) step refl h
      | false ↦ λ h. elim (bytes_eq name (codes "user")) as (λ b. cond b (Some (Joined User)) None ≡ Some step → HasForm false step) [
        | true ↦ λ k. of_some false (Joined User) step refl k
        | false ↦ λ k. absurd cc
      ] h
    ] e

end_form : (who plan : List ℕ) (step : Step) → end_at who plan ≡ Some step → HasForm false step
unfolding end_at
end_form who plan step e =
    let a = bind_some (decimal_number who) _ step e in
    let b = bind_some (decimal_number plan) _ step a.2 in
    of_some false (EndStart a.0 b.0) step refl b.2

launched_form : (process pid : List ℕ) (step : Step) → launched_at process pid ≡ Some step → HasForm false step
unfolding launched_at
launched_form process pid step e =
    let a = bind_some (decimal_number process) _ step e in
    let b = bind_some (number_below (2 ^ 32) pid) _ step a.2 in
    of_some false (Launched a.0 b.0) step refl b.2

unlaunched_form : (process code : List ℕ) (step : Step) → unlaunched_at process code ≡ Some step → HasForm false step
unfolding unlaunched_at
unlaunched_form process code step e =
    let a = bind_some (decimal_number process) _ step e in
    let b = bind_some (number_below (2 ^ 32) code) _ step a.2 in
    of_some false (LaunchFailed a.0 b.0) step refl b.2

report_form : (process : List ℕ) (service : Option ℕ) (status : Option Status) (step : Step) → report_at process service status ≡ Some step
    → HasForm false step
unfolding report_at
report_form process service status step e =
    let a = bind_some (decimal_number process) _ step e in
    let b = bind_some service _ step a.2 in
    let c = bind_some status _ step b.2 in
    of_some false (Report a.0 b.0 c.0) step refl c.2

naming_form : (process : List ℕ) (words : List (List ℕ)) (step : Step) → naming_in_words process words ≡ Some step → HasForm false step
naming_form process [] step e = absurd cc
naming_form process (service ∷ words) step e = report_form process (decimal_number service) (status_in_words words) step e

reports_form : (words : List (List ℕ)) (step : Step) → report_in_words words ≡ Some step → HasForm false step
reports_form [] step e = absurd cc
reports_form (process ∷ words) step e =
    elim (length words == 8) as
    (λ b. cond b (naming_in_words process words) (report_at process (Some 0) (status_in_words words)) ≡ Some step
    → HasForm false step) [
      | true ↦ λ h. naming_form process words step h
      | false ↦ λ h. report_form process (Some 0) (status_in_words words) step h
    ] e

raise_form : (who subtype : List ℕ) (step : Step) → raise_in_words who subtype ≡ Some step → HasForm false step
unfolding raise_in_words
raise_form who subtype step e =
    let a = bind_some (decimal_number who) _ step e in
    let b = bind_some (hex_at subtype) _ step a.2 in
    let c = bind_some (result_ok (raise_at b.0)) _ step b.2 in
    of_some false (Raised a.0 c.0) step refl c.2

plain_form : (v : Verb) (words : List (List ℕ)) (step : Step) → plain_at v words ≡ Some step → HasForm false step
plain_form verb.Join (name ∷ []) step e = joined_form name step e
plain_form verb.End (who ∷ plan ∷ []) step e = end_form who plan step e
plain_form verb.Take [] step e = of_some false LaunchTaken step refl e
plain_form verb.Launched (process ∷ pid ∷ []) step e = launched_form process pid step e
plain_form verb.Unlaunched (process ∷ code ∷ []) step e = unlaunched_form process code step e
plain_form verb.Ended (process ∷ []) step e = of_map Ended (decimal_number process) step (λ n. refl) e
plain_form verb.Control (process ∷ []) step e = of_map ControlTaken (decimal_number process) step (λ n. refl) e
plain_form verb.Tick [] step e = of_some false Tick step refl e
plain_form verb.Gone (who ∷ []) step e = of_map Gone (decimal_number who) step (λ n. refl) e
plain_form verb.NoMemory (who ∷ []) step e = of_map NoMemory (decimal_number who) step (λ n. refl) e
plain_form other words step e = absurd cc

step_form : (v : Verb) (words : List (List ℕ)) (step : Step) → step_at v words ≡ Some step → HasForm (fails_by v) step
step_form verb.Call (who ∷ opnum ∷ body ∷ []) step e = call_form false who opnum body step e
step_form verb.Call words step e = absurd cc
step_form verb.FailCall (who ∷ opnum ∷ body ∷ []) step e = call_form true who opnum body step e
step_form verb.FailCall words step e = absurd cc
step_form verb.Raise (who ∷ subtype ∷ []) step e = raise_form who subtype step e
step_form verb.Raise words step e = absurd cc
step_form verb.Report words step e = reports_form words step e
step_form verb.Join words step e = plain_form verb.Join words step e
step_form verb.End words step e = plain_form verb.End words step e
step_form verb.Take words step e = plain_form verb.Take words step e
step_form verb.Launched words step e = plain_form verb.Launched words step e
step_form verb.Unlaunched words step e = plain_form verb.Unlaunched words step e
step_form verb.Ended words step e = plain_form verb.Ended words step e
step_form verb.Control words step e = plain_form verb.Control words step e
step_form verb.Tick words step e = plain_form verb.Tick words step e
step_form verb.Gone words step e = plain_form verb.Gone words step e
step_form verb.NoMemory words step e = plain_form verb.NoMemory words step e

words_form : (moment name : List ℕ) (words : List (List ℕ)) (s : Line) → line_in_words moment name words ≡ Some s → HasForm s.fails s.step
unfolding line_in_words
words_form moment name words s e =
    let a = bind_some (decimal_number moment) _ s e in
    let b = bind_some (verb_at name) _ s a.2 in
    let c = bind_some (step_at b.0 words) _ s b.2 in
    subst (λ (line : Line). HasForm line.fails line.step) (same_some _ s c.2) (step_form b.0 words c.0 c.1)

of_words : (words : List (List ℕ)) (s : Line) → line_in words ≡ Some s → HasForm s.fails s.step
of_words [] s e = absurd cc
of_words (moment ∷ []) s e = absurd cc
of_words (moment ∷ name ∷ words) s e = words_form moment name words s e

-- the form of a line that was read
pub read_form : (text : List ℕ) (s : Line) → line_at text ≡ Some s → HasForm s.fails s.step
read_form text s e = of_words (line_words text) s e
