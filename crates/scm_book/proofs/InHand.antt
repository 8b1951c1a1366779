-- The steps of a process that a pass has in hand, and what they leave it.
use Rattle.std.proofs.Common.{◌≡◌, ◌≢◌, ◌∙◌, ℕ, ◌==◌, not, true, false, List, [], ◌∷◌, Option, None, Some, inl, inr, ⊎_elim, refl, sym, ap}
use Rattle.std.proofs.Common.{subst, ne_eqb}
use Rattle.std.specs.Prelude.{option_map}
use Rattle.std.proofs.lemmas.Bool.{cases_Bool}
use Rattle.scm_text.specs.TextWithRoom.{TextWithRoom}
use Rattle.scm_model.specs.declared.flat.Phase.{Phase}
use Rattle.scm_model.specs.declared.flat.Phase.TheVariants as phases
use Rattle.scm_model.specs.declared.flat.Process.{Process}
use Rattle.scm_model.specs.declared.flat.Status.{Status}
use Rattle.scm_model.specs.declared.steps.Answer.{Answer}
use Rattle.scm_model.specs.declared.steps.Answer.TheVariants as answers
use Rattle.scm_model.specs.declared.steps.Name.{Name}
use Rattle.scm_model.specs.declared.steps.Name.TheVariants as names
use Rattle.scm_model.specs.declared.steps.Step.{Step}
use Rattle.scm_model.specs.declared.steps.Step.TheVariants.{Ended, LaunchFailed, Launched, LaunchTaken, Report}
use Rattle.scm_model.specs.Entries.{Entry}
use Rattle.scm_rules.specs.Histories.{state}
use Rattle.scm_rules.specs.Launches.{first_wanted, is_launched, is_running_phase, is_taken, is_taken_phase, process_of}
use Rattle.scm_runs.proofs.Along.{along}
use Rattle.scm_runs.proofs.Calls.{keeps}
use Rattle.scm_runs.proofs.Histories.{at_entry, legal_made}
use Rattle.scm_runs.proofs.Sound.{Sound, begun}
use Rattle.scm_history.specs.Phases.{IsInHand, LawOfPhases, LeavesSo}
use Rattle.scm_history.proofs.Phases.{gives as leaves_so}
use Rattle.book_rule.specs.declared.view.Opening.{Opening}
use Rattle.book_rule.specs.Seats.{Identity}
use Rattle.book_rule.specs.Ways.{Has}
use Rattle.book_rule.proofs.Places.{has_left, has_one, has_right}
use Rattle.scm_book.specs.Holds.{Opens}
use Rattle.scm_book.specs.Naming.{all_names, names_made, process_names}
use Rattle.scm_book.specs.Passes.{HoldsProcess, KeepsAll, Known, Made, seen_state}
use Rattle.scm_book.specs.Processes.{EndedSo, IsEnd, KeepsAllBut, TakesInHand, is_current_behind, told_of_end}
use Rattle.scm_book.specs.declared.processes.EndedEnd.{EndedEnd}
use Rattle.scm_book.specs.declared.processes.EndedEnd.TheVariants as ends
use Rattle.scm_book.specs.Turns.{AlwaysMay}
use Rattle.scm_book.proofs.Coming.{shaped}
use Rattle.scm_book.proofs.Lasting.{plan_lasts, process_lasts, still}
use Rattle.scm_book.proofs.Room.{and_both}

-- ## Phases

taken_by_phase : (row : Option Process) → option_map (λ (row : Process). row.phase) row ≡ Some phases.Taken → is_taken row ≡ true
taken_by_phase None is = absurd cc
taken_by_phase (Some row) is = let same : row.phase ≡ phases.Taken = cc in ap is_taken_phase same

launched_by_phase : (row : Option Process) → option_map (λ (row : Process). row.phase) row ≡ Some phases.Launched → is_launched row ≡ true
launched_by_phase None is = absurd cc
launched_by_phase (Some row) is = let same : row.phase ≡ phases.Launched = cc in ap is_running_phase same

-- ## Steps that may always come

module _ (o : Opening) (k : Known) (process : ℕ) (phase : Phase) (holds : HoldsProcess o k process phase) where
  -- a step of this process is of the pass's own
  pub of_own : (n : Name) → Has n (names.Process process ∷ []) → Has n k.names
  of_own n has = subst (λ (m : Name). Has m k.names) (sym (has_one n (names.Process process) has)) holds.named

pub always_launched : (o : Opening) (k : Known) (moment process pid : ℕ) → HoldsProcess o k process phases.Taken
    → AlwaysMay o k moment (Launched process pid)
always_launched o k moment process pid holds log longer runs claims = record {
  may = taken_by_phase (process_of (state o.limits o.first log) process)
      (still o runs.opens k process phases.Taken holds log longer runs.legal claims);
  own = of_own o k process phases.Taken holds;
}

pub always_failed : (o : Opening) (k : Known) (moment process code : ℕ) → code ≢ 0 → HoldsProcess o k process phases.Taken
    → AlwaysMay o k moment (LaunchFailed process code)
always_failed o k moment process code some holds log longer runs claims = record {
  may = and_both (is_taken (process_of (state o.limits o.first log) process)) (not (code == 0))
      (taken_by_phase (process_of (state o.limits o.first log) process)
      (still o runs.opens k process phases.Taken holds log longer runs.legal claims)) (ap not (ne_eqb code 0 some));
  own = of_own o k process phases.Taken holds;
}

pub always_ended : (o : Opening) (k : Known) (moment process : ℕ) → HoldsProcess o k process phases.Launched
    → AlwaysMay o k moment (Ended process)
always_ended o k moment process holds log longer runs claims = record {
  may = launched_by_phase (process_of (state o.limits o.first log) process)
      (still o runs.opens k process phases.Launched holds log longer runs.legal claims);
  own = of_own o k process phases.Launched holds;
}

pub always_report : (o : Opening) (k : Known) (moment process service : ℕ) (status : Status) → HoldsProcess o k process phases.Launched
    → AlwaysMay o k moment (Report process service status)
always_report o k moment process service status holds log longer runs claims = record {
  may = launched_by_phase (process_of (state o.limits o.first log) process)
      (still o runs.opens k process phases.Launched holds log longer runs.legal claims);
  own = of_own o k process phases.Launched holds;
}

-- ## What a step leaves

module _ (o : Opening) (opens : Opens o) (k k' : Known) (moment : ℕ) where
  leaves : (step : Step) (told : Answer) (made : Made o k moment step told k')
      → LeavesSo (state o.limits o.first made.before) step (seen_state o k')
  leaves step told made =
      subst (λ (seen : List Entry). LeavesSo (state o.limits o.first made.before) step (state o.limits o.first seen)) (sym made.seen)
      (at_entry LawOfPhases o.limits o.first k'.seen (along Sound LawOfPhases o.limits (keeps o.limits) (leaves_so o.limits) o.first k'.seen
      (begun o.limits o.first opens.begins) (legal_made o.limits o.first k'.seen made.legal))
      made.before (moment, step) [] told made.seen made.answer)

  -- whom the pass had in hand is among those whom its places made
  named_still : (n : Name) (step : Step) (told : Answer) → Made o k moment step told k' → Has n k.names → Has n k'.names
  named_still n step told made has = subst (λ (ns : List Name). Has n ns) (sym made.names)
      (has_left n k.names (names_made (state o.limits o.first made.before) step) has)

  pub holds_launched : (process pid : ℕ) (told : Answer) → Made o k moment (Launched process pid) told k'
      → HoldsProcess o k process phases.Taken → HoldsProcess o k' process phases.Launched
  holds_launched process pid told made holds = record {
    named = named_still (names.Process process) (Launched process pid) told made holds.named;
    listed = (leaves (Launched process pid) told made).phase;
  }

  pub holds_reported : (process service : ℕ) (status : Status) (told : Answer) → Made o k moment (Report process service status) told k'
      → HoldsProcess o k process phases.Launched → HoldsProcess o k' process phases.Launched
  holds_reported process service status told made holds = record {
    named = named_still (names.Process process) (Report process service status) told made holds.named;
    listed = (leaves (Report process service status) told made).phase;
  }

  pub holds_taken : (process : ℕ) (made : Made o k moment LaunchTaken (answers.Launch process) k')
      → first_wanted (state o.limits o.first made.before).wanted ≡ Some process → HoldsProcess o k' process phases.Taken
  holds_taken process made first = record {
    named = subst (λ (ns : List Name). Has (names.Process process) ns) (sym made.names)
        (has_right (names.Process process) k.names (names_made (state o.limits o.first made.before) LaunchTaken)
        (subst (λ (found : Option ℕ). Has (names.Process process) (process_names found)) (sym first) (inl refl)));
    listed = subst (IsInHand (seen_state o k')) first (leaves LaunchTaken (answers.Launch process) made);
  }

-- ## What is told

pub told_launched : (o : Opening) → Opens o → (k k' : Known) (moment process pid : ℕ) (told : Answer)
    → Made o k moment (Launched process pid) told k' → Made o k moment (Launched process pid) answers.Done k'
told_launched o opens k k' moment process pid told made = subst (λ (t : Answer). Made o k moment (Launched process pid) t k')
    (shaped o opens k k' moment (Launched process pid) told made) made

pub told_failed : (o : Opening) → Opens o → (k k' : Known) (moment process code : ℕ) (told : Answer)
    → Made o k moment (LaunchFailed process code) told k' → Made o k moment (LaunchFailed process code) answers.Done k'
told_failed o opens k k' moment process code told made = subst (λ (t : Answer). Made o k moment (LaunchFailed process code) t k')
    (shaped o opens k k' moment (LaunchFailed process code) told made) made

not_both : answers.Done ≡ answers.Stale → ⊥
not_both is = cc

-- an end is told that it was taken, or that it is stale
pub told_ended : (o : Opening) → Opens o → (k k' : Known) (moment process : ℕ) (told : Answer) → Made o k moment (Ended process) told k'
    → IsEnd told
told_ended o opens k k' moment process told made =
    let so = shaped o opens k k' moment (Ended process) told made in
    ⊎_elim (λ (one : is_current_behind o made.before process ≡ true). inl (so.done one))
    (λ (none : is_current_behind o made.before process ≡ false). inr (so.stale none))
    (cases_Bool (is_current_behind o made.before process))

pub ended_so : (o : Opening) → Opens o → (k k' : Known) (moment process : ℕ) (end : EndedEnd)
    → Made o k moment (Ended process) (told_of_end end) k' → EndedSo o k moment process end k'
ended_so o opens k k' moment process ends.Taken made =
    let so = shaped o opens k k' moment (Ended process) answers.Done made in (
      made,
      ⊎_elim (λ (one : is_current_behind o made.before process ≡ true). one)
          (λ (none : is_current_behind o made.before process ≡ false). absurd (not_both (so.stale none)))
          (cases_Bool (is_current_behind o made.before process)),
    )
ended_so o opens k k' moment process ends.Stale made =
    let so = shaped o opens k k' moment (Ended process) answers.Stale made in (
      made,
      ⊎_elim (λ (one : is_current_behind o made.before process ≡ true). absurd (not_both (sym (so.done one))))
          (λ (none : is_current_behind o made.before process ≡ false). none) (cases_Bool (is_current_behind o made.before process)),
    )

-- ## What is in hand still

named_one : (process one : ℕ) → Has (names.Process process) (names.Process one ∷ []) → process ≡ one
named_one process one has = let same : names.Process process ≡ names.Process one =
    has_one (names.Process process) (names.Process one) has in cc

no_caller : (caller one : ℕ) → Has (names.Caller caller) (names.Process one ∷ []) → ⊥
no_caller caller one has = let same : names.Caller caller ≡ names.Process one = has_one (names.Caller caller) (names.Process one) has in
    absurd cc

-- a step of one process leaves all else in hand
pub keeps_but : (o : Opening) → Opens o → (k k' : Known) (moment : ℕ) (step : Step) (told : Answer) → Made o k moment step told k'
    → k'.caller ≡ k.caller → (one : ℕ) → all_names step ≡ names.Process one ∷ []
    → KeepsAllBut o one k k'
keeps_but o opens k k' moment step told made whose one is = record {
  processes = λ process phase other. process_lasts o opens k k' moment step told made process phase
      (λ has. other (named_one process one (subst (Has (names.Process process)) is has)));
  plans = plan_lasts o opens k k' moment step told made whose (λ has. no_caller k.caller one (subst (Has (names.Caller k.caller)) is has));
}

-- a step of nobody leaves all in hand
pub keeps_every : (o : Opening) → Opens o → (k k' : Known) (moment : ℕ) (step : Step) (told : Answer) → Made o k moment step told k'
    → k'.caller ≡ k.caller → all_names step ≡ [] → KeepsAll o k k'
keeps_every o opens k k' moment step told made whose is = record {
  processes = λ process phase. process_lasts o opens k k' moment step told made process phase
      (λ has. subst (Has (names.Process process)) is has);
  plans = plan_lasts o opens k k' moment step told made whose (λ has. subst (Has (names.Caller k.caller)) is has);
}

-- ## A process that was taken

launch_same : (a b : ℕ) → answers.Launch a ≡ answers.Launch b → a ≡ b
launch_same a b is = cc

pub hold_of_taking : (o : Opening) → Opens o → (k k' : Known) (moment process : ℕ) (path path' : TextWithRoom) (words : List (List ℕ))
    → TakesInHand o k moment process path path' words k' → HoldsProcess o k' process phases.Taken
hold_of_taking o opens k k' moment process path path' words taking =
    let so = shaped o opens k k' moment LaunchTaken (answers.Launch process) taking.made in
    holds_taken o opens k k' moment process taking.made (so.first ∙ ap (λ (n : ℕ). Some n) (sym (launch_same process so.process so.is)))

-- ## Within a call

-- what holds of the book and the pass as they lie within holds of them as contracts see them
pub seen_outside : (P : Identity → Known → Type 0) (b b' : Identity) (k k' : Known) → b ≡ b' → k ≡ k' → P b k → P b' k'
seen_outside P b b' k k' book pass holds = subst (λ (x : Identity). P x k') book (subst (λ (y : Known). P b y) pass holds)

pub held_inside : (b b' : Identity) (k k' : Known) (process : ℕ) (phase : Phase) → b ≡ b' → k ≡ k'
    → HoldsProcess b'.opening k' process phase → HoldsProcess b.opening k process phase
held_inside b b' k k' process phase book pass holds = seen_outside (λ (x : Identity) (y : Known). HoldsProcess x.opening y process phase) b'
    b k' k (sym book) (sym pass) holds
