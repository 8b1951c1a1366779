-- What one run kept is read by the next.
use Rattle.std.proofs.Common.{ℕ, ◌≡◌, ◌≤◌, IsTrue, List, [], ◌∷◌, ◌++◌, Some, length, take, inl, inr, subst, arith}
use Rattle.std.specs.Prelude.{IfSome}
use Rattle.std.specs.List.{AllByRecursion}
use Rattle.std.proofs.lemmas.Bool.{cases_lt}
use Rattle.std.proofs.lemmas.List.{get_or_past}
use Rattle.scm_model.specs.declared.flat.Config.{Config}
use Rattle.scm_model.specs.declared.flat.Flat.{Flat}
use Rattle.scm_model.specs.declared.flat.Limits.{Limits}
use Rattle.scm_model.specs.declared.steps.Change.{Change}
use Rattle.scm_model.specs.declared.steps.Step.{Step}
use Rattle.scm_model.specs.Entries.{Entry}
use Rattle.service_record.proofs.Fields.{IsBytes}
use Rattle.record_journal.specs.Bearing.{Stood, and_changes, piece_after}
use Rattle.scm_rules.specs.Histories.{state}
use Rattle.scm_rules.specs.Opening.{IsOpening}
use Rattle.scm_rules.specs.Runs.{IsLegal, run_state}
use Rattle.scm_rules.specs.Steps.{may}
use Rattle.scm_rules.specs.Verdicts.{change_of}
use Rattle.scm_history.specs.Kept.{kept_changes}
use Rattle.scm_runs.proofs.Sound.{begun}
use Rattle.scm_kept.specs.Read.{IsJournalOf, Stays}
use Rattle.scm_kept.specs.Reopened.{IsReopened, IsReopenedCut, KeepsReplayable, kept_configs}
use Rattle.scm_kept.specs.Replayed.{unmarked}
use Rattle.scm_kept.specs.Fitting.{AreBytes, AllFit, FitsStep}
use Rattle.scm_kept.proofs.Accepted.{units_of}
use Rattle.scm_kept.proofs.Again.{IsReplayable, if_weaker, next_can, run_can, run_ends}
use Rattle.scm_kept.proofs.Given.{HasUnits}
use Rattle.scm_kept.proofs.ReadCut.{read_cut}
use Rattle.scm_kept.proofs.ReadFits.{AreConfigs, journal_fits}
use Rattle.scm_kept.proofs.ReadOn.{read_on}
use Rattle.scm_kept.proofs.Runs.{unmarked_kept}
use Rattle.scm_kept.proofs.UnitsKept.{HaveUnits}

are_bytes : (bytes : List ℕ) → AreBytes bytes → IsBytes bytes
are_bytes bytes each i =
    elim (cases_lt i (length bytes)) [
      | inl lt ↦ each i 0 lt
      | inr le ↦ rw (get_or_past bytes i 0 le) (omega arith)
    ]

all_units : (configs : List Config) → AreConfigs configs → AllByRecursion HasUnits configs
all_units [] each = tt
all_units (config ∷ configs) each = (units_of config each.0, all_units configs each.1)

-- a state was made of what these bytes are read as
pub record IsMadeOf (s : Stood) (f : Flat) : Type 0 where
  pub bytes : AreBytes s.bytes
  pub read : IsJournalOf s (unmarked f.services)

pub made_units : (s : Stood) (f : Flat) → IsMadeOf s f → HaveUnits f.services
made_units s f made = all_units (unmarked f.services)
    (journal_fits s.bytes (record { configs = unmarked f.services; kept = length s.bytes; form = s.form })
    (are_bytes s.bytes made.bytes) made.read)

pub kept_replayable : (l : Limits) (f : Flat) (es : List Entry) → l.services ≤ 1024 → IsOpening l f → IsLegal l f es → AllFit es
    → (s : Stood) → IsMadeOf s f → KeepsReplayable l f es
kept_replayable l f es few begins legal fits s made =
    run_can l f es few (begun l f begins) legal fits (made_units s f made)

pub reopened : (l : Limits) (f : Flat) (es : List Entry) → l.services ≤ 1024 → IsOpening l f → IsLegal l f es → AllFit es
    → (s : Stood) → IsMadeOf s f → IsReopened s l f es
reopened l f es few begins legal fits s made =
    read_on s (unmarked f.services) (kept_changes l f es) made.read (kept_replayable l f es few begins legal fits s made)

pub reopened_cut : (l : Limits) (f : Flat) (es : List Entry) → l.services ≤ 1024 → IsOpening l f → IsLegal l f es → AllFit es
    → (s : Stood) → IsMadeOf s f
    → (moment : ℕ) (step : Step) → IsTrue (may l (state l f es) moment step) → FitsStep step → (size : ℕ)
    → IsReopenedCut s l f es step size
unfolding state
reopened_cut l f es few begins legal fits s made moment step ok asked size =
    let g = run_state l f es in
    let first = begun l f begins in
    let ends = run_ends l f es first legal fits (made_units s f made) in
    let configs : unmarked g.services ≡ kept_configs l f es = unmarked_kept l f es first legal in
    if_weaker (IsReplayable (unmarked g.services)) (λ (change : Change). IfSome (and_changes (Some s) (kept_changes l f es))
    (λ (now : Stood). Stays now.bytes (kept_configs l f es) change (now.bytes ++ take size (piece_after now change)))) (change_of l g step)
    (λ change can. let here = subst (λ (cs : List Config). IsReplayable cs change) configs can in
    if_weaker (λ (now : Stood). IsJournalOf now (kept_configs l f es))
    (λ (now : Stood). Stays now.bytes (kept_configs l f es) change (now.bytes ++ take size (piece_after now change)))
    (and_changes (Some s) (kept_changes l f es)) (λ now is. read_cut now (kept_configs l f es) change size is here.0 here.1)
    (reopened l f es few begins legal fits s made))
    (next_can l g moment step few ends.sound ok asked ends.units)
