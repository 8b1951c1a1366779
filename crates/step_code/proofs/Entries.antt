-- An entry that was written is read again.
use Rattle.std.proofs.Common.{◌≡◌, ℕ, List, [], ◌∷◌, ◌++◌, Option, Some, All, length, refl, ap}
use Rattle.std.specs.List.{flat_map}
use Rattle.std.proofs.lemmas.List.Elements.{recursion_from_All}
use Rattle.scm_model.specs.Entries.{Entry}
use Rattle.scm_model.specs.declared.flat.Principal.{Principal}
use Rattle.scm_model.specs.declared.flat.Principal.TheVariants as principals
use Rattle.scm_model.specs.declared.flat.Status.{Status}
use Rattle.scm_model.specs.declared.calls.Request.{Request}
use Rattle.scm_model.specs.declared.steps.Kept.{Kept}
use Rattle.scm_model.specs.declared.steps.Kept.TheVariants as keeps
use Rattle.scm_model.specs.declared.steps.Step.{Step}
use Rattle.scm_model.specs.declared.steps.Step.TheVariants as steps
use Rattle.step_code.specs.Codes.{n4, n8, joined, status, subtype, request_code, principal, appended, step_code, code_of}
use Rattle.step_code.specs.Fits.{Is8, HasCode, IsEntry}
use Rattle.step_code.specs.Reading.{◌>>=◌, byte_at, items_at, joined_at, kept_at, call_at, end_start_at, launched_at, launch_failed_at}
use Rattle.step_code.specs.Reading.{report_at, raised_at, step_of, numbered_at, step_at, entry_at}
use Rattle.step_code.proofs.Fields.{IsAny, IsField, last, part, an_n4, an_n8, a_status, a_subtype, items_again}
use Rattle.step_code.proofs.Requests.{a_request}

joined_again : (by : Principal) (rest : List ℕ) → joined_at (principal by ∷ rest) ≡ Some (steps.Joined by, rest)
unfolding joined_at byte_at
joined_again principals.Admin rest = refl
joined_again principals.User rest = refl

abbrev pub kept_code : Kept → List ℕ
kept_code append = appended append ∷ []

kept_again : (append : Kept) (rest : List ℕ) → IsAny append → kept_at (kept_code append ++ rest) ≡ Some (append, rest)
unfolding kept_at byte_at
kept_again keeps.NotAsked rest any = refl
kept_again keeps.Kept rest any = refl
kept_again keeps.Failed rest any = refl

a_kept : IsField Kept kept_at kept_code IsAny
a_kept = record { again = kept_again }

call_again : (caller : ℕ) (asked : Request) (append : Kept) (rest : List ℕ) → HasCode (steps.Call caller asked append)
    → call_at (joined (n8 caller ∷ request_code asked ∷ kept_code append ∷ []) ++ rest) ≡ Some (steps.Call caller asked append, rest)
unfolding call_at
call_again caller asked append rest fits =
    let m2 = joined (kept_code append ∷ []) in
    part an_n8 _ caller (request_code asked ++ m2) rest _ fits.0
    (part a_request _ asked m2 rest _ fits.1
    (part a_kept _ append [] rest _ tt refl))

end_start_again : (caller plan : ℕ) (rest : List ℕ) → Is8 caller × Is8 plan
    → end_start_at (joined (n8 caller ∷ n8 plan ∷ []) ++ rest) ≡ Some (steps.EndStart caller plan, rest)
unfolding end_start_at
end_start_again caller plan rest fits =
    part an_n8 _ caller (joined (n8 plan ∷ [])) rest _ fits.0
    (part an_n8 _ plan [] rest _ fits.1 refl)

launched_again : (process pid : ℕ) (rest : List ℕ) → HasCode (steps.Launched process pid)
    → launched_at (joined (n8 process ∷ n4 pid ∷ []) ++ rest) ≡ Some (steps.Launched process pid, rest)
unfolding launched_at
launched_again process pid rest fits =
    part an_n8 _ process (joined (n4 pid ∷ [])) rest _ fits.0
    (part an_n4 _ pid [] rest _ fits.1 refl)

launch_failed_again : (process code : ℕ) (rest : List ℕ) → HasCode (steps.LaunchFailed process code)
    → launch_failed_at (joined (n8 process ∷ n4 code ∷ []) ++ rest) ≡ Some (steps.LaunchFailed process code, rest)
unfolding launch_failed_at
launch_failed_again process code rest fits =
    part an_n8 _ process (joined (n4 code ∷ [])) rest _ fits.0
    (part an_n4 _ code [] rest _ fits.1 refl)

report_again : (process service : ℕ) (reported : Status) (rest : List ℕ) → HasCode (steps.Report process service reported)
    → report_at (joined (n8 process ∷ n8 service ∷ status reported ∷ []) ++ rest) ≡ Some (steps.Report process service reported, rest)
unfolding report_at
report_again process service reported rest fits =
    let m2 = joined (status reported ∷ []) in
    part an_n8 _ process (n8 service ++ m2) rest _ fits.0
    (part an_n8 _ service m2 rest _ fits.1
    (part a_status _ reported [] rest _ fits.2 refl))

raised_again : (caller : ℕ) (id rest : List ℕ) → HasCode (steps.Raised caller id)
    → raised_at (joined (n8 caller ∷ subtype id ∷ []) ++ rest) ≡ Some (steps.Raised caller id, rest)
unfolding raised_at
raised_again caller id rest fits =
    part an_n8 _ caller (joined (subtype id ∷ [])) rest _ fits.0
    (part a_subtype _ id [] rest _ fits.1 refl)

numbered_again : (kind number : ℕ) (step : Step) (rest : List ℕ) → Is8 number → step_of kind number ≡ Some step
    → numbered_at kind (n8 number ++ rest) ≡ Some (step, rest)
unfolding numbered_at
numbered_again kind number step rest fits is =
    last an_n8 _ number rest _ fits (ap (λ (asked : Option Step). asked >>= λ s. Some (s, rest)) is)

step_again : (step : Step) (rest : List ℕ) → HasCode step → step_at (step_code step ++ rest) ≡ Some (step, rest)
unfolding step_at byte_at
step_again (steps.Joined by) rest fits = joined_again by rest
step_again (steps.Call caller asked append) rest fits = call_again caller asked append rest fits
step_again (steps.EndStart caller plan) rest fits = end_start_again caller plan rest fits
step_again steps.LaunchTaken rest fits = refl
step_again (steps.Launched process pid) rest fits = launched_again process pid rest fits
step_again (steps.LaunchFailed process code) rest fits = launch_failed_again process code rest fits
step_again (steps.Report process service reported) rest fits = report_again process service reported rest fits
step_again (steps.Ended process) rest fits = numbered_again 7 process (steps.Ended process) rest fits refl
step_again (steps.ControlTaken process) rest fits = numbered_again 8 process (steps.ControlTaken process) rest fits refl
step_again steps.Tick rest fits = refl
step_again (steps.Raised caller id) rest fits = raised_again caller id rest fits
step_again (steps.Gone caller) rest fits = numbered_again 11 caller (steps.Gone caller) rest fits refl
step_again (steps.NoMemory caller) rest fits = numbered_again 12 caller (steps.NoMemory caller) rest fits refl

a_step : IsField Step step_at step_code HasCode
a_step = record { again = step_again }

pub entry_again : (entry : Entry) (rest : List ℕ) → IsEntry entry → entry_at (code_of entry ++ rest) ≡ Some (entry, rest)
unfolding entry_at
entry_again entry rest fits =
    part an_n8 _ entry.0 (step_code entry.1) rest _ fits.0
    (last a_step _ entry.1 rest _ fits.1 refl)

an_entry : IsField Entry entry_at code_of IsEntry
an_entry = record { again = entry_again }

-- entries one after another
pub entries_again : (entries : List Entry) (rest : List ℕ) → All IsEntry entries
    → items_at entry_at (length entries) (flat_map code_of entries ++ rest) ≡ Some (entries, rest)
entries_again entries rest fits = items_again an_entry entries rest (recursion_from_All IsEntry entries fits)
